-- The parts of a claim that can be read can be read.
use Rattle.std.proofs.Common.{◌≡◌, ℕ, zero, suc, true, List, [], ◌∷◌, slice_get, Some, refl, ap, subst}
use Rattle.slang_values.specs.Tree.{Tree, literal, truth_literal, name, bound, unary, binary, update, quantified, listed, Trees, no_trees, tree_then, parts, tree_list}
use Rattle.program_trees.specs.Claims.{ClaimName, ClaimTree}
use Rattle.leg_sequents.proofs.Reading.{none≢some}
use Rattle.claim_reading.specs.Readable.{name_in, IsWithin, top_has_sort, IsReadable, AreReadable}

same_some : {A : Type 0} {x y : A} → Some x ≡ Some y → x ≡ y
same_some e = cc

-- each of the list
abbrev AllReadable : ℕ → List (ClaimTree ℕ) → Type 0
AllReadable count [] = Unit {0}
AllReadable count (t ∷ ts) = IsReadable count t × AllReadable count ts

readable_list : (count : ℕ) (ts : Trees (ClaimName ℕ)) → AreReadable count ts → AllReadable count (tree_list ts)
readable_list count no_trees h = tt
readable_list count (tree_then t ts) h = (h.0, readable_list count ts h.1)

readable_parts : (count : ℕ) (t : ClaimTree ℕ) → IsReadable count t → AllReadable count (parts t)
readable_parts count (literal z) h = tt
readable_parts count (truth_literal b) h = tt
readable_parts count (name a) h = tt
readable_parts count (bound n) h = tt
readable_parts count (unary op a) h = (h, tt)
readable_parts count (binary op a b) h = (h.0, (h.1, tt))
readable_parts count (update a i x) h = (h.0, (h.1, (h.2, tt)))
readable_parts count (quantified q low high body) h = (h.0, (h.1, (h.2, tt)))
readable_parts count (listed l ts) h = readable_list count ts h.1

one_readable : (count : ℕ) (ts : List (ClaimTree ℕ)) (i : ℕ) (t : ClaimTree ℕ) → AllReadable count ts → slice_get ts i ≡ Some t → IsReadable count t
one_readable count [] i t h e = absurd (none≢some e)
one_readable count (u ∷ ts) zero t h e = subst (IsReadable count) (same_some e) h.0
one_readable count (u ∷ ts) (suc i) t h e = one_readable count ts i t h.1 e

pub readable_part : (count : ℕ) (t p : ClaimTree ℕ) (i : ℕ) → IsReadable count t → slice_get (parts t) i ≡ Some p → IsReadable count p
readable_part count t p i h e = one_readable count (parts t) i p (readable_parts count t h) e

-- the name itself
pub readable_name : (count : ℕ) (t : ClaimTree ℕ) (a : ClaimName ℕ) → IsReadable count t → name_in t ≡ Some a → IsWithin count a
readable_name count (literal z) a h e = absurd (none≢some e)
readable_name count (truth_literal b) a h e = absurd (none≢some e)
readable_name count (name x) a h e = subst (IsWithin count) (same_some e) h
readable_name count (bound n) a h e = absurd (none≢some e)
readable_name count (unary op x) a h e = absurd (none≢some e)
readable_name count (binary op x y) a h e = absurd (none≢some e)
readable_name count (update x i y) a h e = absurd (none≢some e)
readable_name count (quantified q low high body) a h e = absurd (none≢some e)
readable_name count (listed l ts) a h e = absurd (none≢some e)

pub name_is : {A : Type 0} (t : Tree A) (a : A) → name_in t ≡ Some a → t ≡ name a
name_is (literal z) a e = absurd (none≢some e)
name_is (truth_literal b) a e = absurd (none≢some e)
name_is (name x) a e = ap name (same_some e)
name_is (bound n) a e = absurd (none≢some e)
name_is (unary op x) a e = absurd (none≢some e)
name_is (binary op x y) a e = absurd (none≢some e)
name_is (update x i y) a e = absurd (none≢some e)
name_is (quantified q low high body) a e = absurd (none≢some e)
name_is (listed l ts) a e = absurd (none≢some e)

pub readable_top : (count : ℕ) (t : ClaimTree ℕ) → IsReadable count t → top_has_sort t ≡ true
readable_top count (literal z) h = refl
readable_top count (truth_literal b) h = refl
readable_top count (name a) h = refl
readable_top count (bound n) h = refl
readable_top count (unary op a) h = refl
readable_top count (binary op a b) h = refl
readable_top count (update a i x) h = refl
readable_top count (quantified q low high body) h = refl
readable_top count (listed l ts) h = h.0
