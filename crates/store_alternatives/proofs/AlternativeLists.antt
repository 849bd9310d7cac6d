-- Lists of numbers, as alternatives.
use Rattle.std.proofs.Common.{◌≡◌, ℕ, zero, suc, ◌+◌, ◌<◌, List, [], ◌∷◌, ◌++◌, map, take, length, get_or, slice_get, true, false, Bool, Option, Some, None, Result, Ok, Err, IfOk, IfSome, refl, sym, ap, ap₂, ◌∙◌, subst, arith}
use Rattle.std.specs.List.{AllByRecursion}
use Rattle.std.proofs.lemmas.Bool.{false≢true}
use Rattle.std.proofs.lemmas.List.{map_push, take_more, take-map}
use Rattle.slang_values.specs.Value.{Records}
use Rattle.slang_values.specs.Tree.{Tree, unary, binary}
use Rattle.slang_values.specs.declared.operators.Unary.{Unary}
use Rattle.slang_values.specs.declared.operators.Binary.{Binary}
use Rattle.read_rules.specs.Reads.{ReadSite, negation, are_equal}
use Rattle.case_rules.specs.Cases.{Alternatives, field, field_equalities, one_is_false, unless_top}
use Rattle.term_nodes.specs.declared.node.Node.{Node}
use Rattle.term_store.specs.Store.{tree_at, Holds, AreWithin, AreTreesOf, Grows}
use Rattle.term_store.proofs.Gains.{trees-grow}
use Rattle.term_store.proofs.Stores.{Grows-tree_at, Grows-length, Holds-within, tree_at-Holds}
use Rattle.store_formulas.specs.declared.top.Signed.{Signed}
use Rattle.store_formulas.specs.declared.top.Top.{Top}
use Rattle.store_formulas.specs.Top.{signed_tree, alternatives_of_top}
use Rattle.store_alternatives.specs.Numbers.{lists_at, AreAlternativesAt, AreSignedWithin, is_literal_top}
use Rattle.store_alternatives.proofs.Numbers.{all_push, all_weaker, within-grows, signed_kept, trees_push}

-- ---- growing stores

pub lists-grow : (old new : List Node) (ls : List (List ℕ)) → Grows old new → AllByRecursion (AreWithin old) ls → lists_at new ls ≡ lists_at old ls
lists-grow old new [] g h = refl
lists-grow old new (ks ∷ ls) g h = ap₂ (λ x xs. x ∷ xs) (trees-grow old new ks g h.0) (lists-grow old new ls g h.1)

pub lists_within-grows : (old new : List Node) (ls : List (List ℕ)) → Grows old new → AllByRecursion (AreWithin old) ls → AllByRecursion (AreWithin new) ls
lists_within-grows old new ls g h = all_weaker (AreWithin old) (AreWithin new) (λ ks. within-grows old new ks g) ls h

pub trees_grow : (old new : List Node) (ks : List ℕ) (ts : List (Tree ℕ)) → Grows old new → AreTreesOf old ks ts → AreTreesOf new ks ts
trees_grow old new ks ts g h = record { within = within-grows old new ks g h.within; trees = trees-grow old new ks g h.within ∙ h.trees }

-- ---- one or two lists

pub one_at : (store : List Node) (ks : List ℕ) (ts : List (Tree ℕ)) (ls : List (List ℕ)) → AreTreesOf store ks ts → ls ≡ ks ∷ [] → AreAlternativesAt store ls (Some (ts ∷ []))
one_at store ks ts ls h e = subst (λ xs. AreAlternativesAt store xs (Some (ts ∷ []))) (sym e) (record { within = (h.within, tt); trees = ap (λ t. Some (t ∷ [])) h.trees })

pub two_at : (store : List Node) (js ks : List ℕ) (ts us : List (Tree ℕ)) (ls : List (List ℕ)) → AreTreesOf store js ts → AreTreesOf store ks us → ls ≡ js ∷ ks ∷ [] → AreAlternativesAt store ls (Some (ts ∷ us ∷ []))
two_at store js ks ts us ls h g e =
    subst (λ xs. AreAlternativesAt store xs (Some (ts ∷ us ∷ []))) (sym e) (record { within = (h.within, (g.within, tt)); trees = ap₂ (λ t u. Some (t ∷ u ∷ [])) h.trees g.trees })

pub single_at : (store : List Node) (k : ℕ) (t : Tree ℕ) → Holds store k t → AreTreesOf store (k ∷ []) (t ∷ [])
single_at store k t h = record { within = (Holds-within store k t h, tt); trees = ap (λ u. u ∷ []) (tree_at-Holds store k t h) }

-- ---- formulas

signed_within-grows : (old new : List Node) (ss : List Signed) → Grows old new → AreSignedWithin old ss → AreSignedWithin new ss
signed_within-grows old new ss g h = all_weaker (λ (s : Signed). s.id < length old) (λ (s : Signed). s.id < length new) (λ s l. (let m = Grows-length old new g in omega arith)) ss h

pub signed_within : (old new : List Node) (ss : List Signed) → Grows old new → AreSignedWithin old ss → AreSignedWithin new ss
signed_within old new ss g h = signed_within-grows old new ss g h

pub signed_trees-grow : (old new : List Node) (ss : List Signed) → Grows old new → AreSignedWithin old ss → map (signed_tree new) ss ≡ map (signed_tree old) ss
signed_trees-grow old new [] g h = refl
signed_trees-grow old new (s ∷ ss) g h = ap₂ (λ x xs. x ∷ xs) (signed_kept old new s g h.0) (signed_trees-grow old new ss g h.1)

pub all_at : {X : Type 0} (P : X → Type 0) (xs : List X) (i : ℕ) (d : X) → AllByRecursion P xs → i < length xs → P (get_or xs i d)
all_at P [] i d h l = absurd (omega arith)
all_at P (x ∷ xs) zero d h l = h.0
all_at P (x ∷ xs) (suc i) d h l = all_at P xs i d h.1 (omega arith)

-- one term more of a list
pub formulas_more : (old mid new : List Node) (ks : List ℕ) (ss : List Signed) (i k : ℕ) (d : Signed) → AreTreesOf mid ks (map (signed_tree old) (take i ss)) → Grows old mid → Grows mid new → i < length ss → AreSignedWithin old ss →
    Holds new k (signed_tree mid (get_or ss i d)) → AreTreesOf new (ks ++ k ∷ []) (map (signed_tree old) (take (i + 1) ss))
formulas_more old mid new ks ss i k d h before after l within held =
    let same = signed_kept old mid (get_or ss i d) before (all_at (λ (s : Signed). s.id < length old) ss i d within l) in
    subst (AreTreesOf new (ks ++ k ∷ [])) (sym (map_push (signed_tree old) (take i ss) (get_or ss i d)) ∙ ap (map (signed_tree old)) (sym (take_more ss i d l)))
    (trees_push mid new ks (map (signed_tree old) (take i ss)) k (signed_tree old (get_or ss i d)) h after (subst (Holds new k) same held))

-- ---- fields

one_equality_more : (n k : ℕ) (a b : Tree ℕ) → field_equalities (suc n) k a b ≡ field_equalities n k a b ++ are_equal (field (k + n) a) (field (k + n) b) ∷ []
one_equality_more zero k a b = ap (λ i. are_equal (field i a) (field i b) ∷ []) (let e : k ≡ k + 0 = omega arith in e)
one_equality_more (suc n) k a b =
    ap (λ ts. are_equal (field k a) (field k b) ∷ ts)
    (one_equality_more n (suc k) a b ∙ ap (λ i. field_equalities n (suc k) a b ++ are_equal (field i a) (field i b) ∷ []) (let e : suc k + n ≡ k + suc n = omega arith in e))

pub equalities_more : (mid new : List Node) (ks : List ℕ) (i k : ℕ) (a b : Tree ℕ) → AreTreesOf mid ks (field_equalities i 0 a b) → Grows mid new → Holds new k (are_equal (field i a) (field i b)) → AreTreesOf new (ks ++ k ∷ []) (field_equalities (i + 1) 0 a b)
equalities_more mid new ks i k a b h g held = subst (AreTreesOf new (ks ++ k ∷ [])) (sym (ap (λ m. field_equalities m 0 a b) (let e : i + 1 ≡ suc i = omega arith in e) ∙ one_equality_more i 0 a b ∙ ap (λ m. field_equalities i 0 a b ++ are_equal (field m a) (field m b) ∷ []) (let e : 0 + i ≡ i = omega arith in e))) (trees_push mid new ks (field_equalities i 0 a b) k (are_equal (field i a) (field i b)) h g held)

-- one negation more
pub failures_more : (old mid new : List Node) (ls : List (List ℕ)) (ks : List ℕ) (i k d : ℕ) → AreAlternativesAt mid ls (Some (one_is_false (map (tree_at old) (take i ks)))) → Grows old mid → Grows mid new → AreWithin old ks → i < length ks →
    Holds new k (unary Unary.Not (tree_at mid (get_or ks i d))) → AreAlternativesAt new (ls ++ (k ∷ []) ∷ []) (Some (one_is_false (map (tree_at old) (take (i + 1) ks))))
failures_more old mid new ls ks i k d h before after within l held =
    let t = tree_at old (get_or ks i d) in
    let same : unary Unary.Not (tree_at mid (get_or ks i d)) ≡ negation t = ap negation (Grows-tree_at old mid (get_or ks i d) before (all_at (λ j. j < length old) ks i d within l)) in
    let here : tree_at new k ≡ negation t = tree_at-Holds new k (negation t) (subst (Holds new k) same held) in
    let one_more : one_is_false (map (tree_at old) (take (i + 1) ks)) ≡ one_is_false (map (tree_at old) (take i ks)) ++ (negation t ∷ []) ∷ [] =
    ap (λ js. one_is_false (map (tree_at old) js)) (take_more ks i d l) ∙ ap one_is_false (map_push (tree_at old) (take i ks) (get_or ks i d)) ∙ map_push (λ u. negation u ∷ []) (map (tree_at old) (take i ks)) t in
    let was : lists_at mid ls ≡ one_is_false (map (tree_at old) (take i ks)) = some_same _ _ h.trees in
    record {
      within = all_push (AreWithin new) ls (k ∷ []) (lists_within-grows mid new ls after h.within) (Holds-within new k _ held, tt);
      trees = ap Some (map_push (map (tree_at new)) ls (k ∷ []) ∙ ap₂ (λ xs x. xs ++ (x ∷ []) ∷ []) (lists-grow mid new ls after h.within ∙ was) here ∙ sym one_more);
    }
  where
    some_same : {X : Type 0} (x y : X) → Some x ≡ Some y → x ≡ y
    some_same x y e = cc

-- ---- what stands at the top

pub found_top : (records : Records) (old new : List Node) (top : Top) (ls : List (List ℕ)) (o : Option Alternatives) (site : Option ReadSite) → is_literal_top top ≡ false → alternatives_of_top records old top ≡ o →
    IfSome (alternatives_of_top records old top) (λ as'. AreAlternativesAt new ls (Some as')) → AreAlternativesAt new ls (unless_top o site)
found_top records old new Top.Literal ls o site n e h = absurd (false≢true (sym n))
found_top records old new (Top.Again x) ls o site n e h = subst (λ p. AreAlternativesAt new ls (unless_top p site)) e h
found_top records old new (Top.Both x y) ls o site n e h = subst (λ p. AreAlternativesAt new ls (unless_top p site)) e h
found_top records old new (Top.Either x y) ls o site n e h = subst (λ p. AreAlternativesAt new ls (unless_top p site)) e h
found_top records old new (Top.Truths a b holds) ls o site n e h = subst (λ p. AreAlternativesAt new ls (unless_top p site)) e h
found_top records old new (Top.Apart a b) ls o site n e h = subst (λ p. AreAlternativesAt new ls (unless_top p site)) e h
found_top records old new (Top.Records m a b holds) ls o site n e h = subst (λ p. AreAlternativesAt new ls (unless_top p site)) e h

pub literal_top : (records : Records) (store : List Node) (top : Top) (o : Option Alternatives) → is_literal_top top ≡ true → alternatives_of_top records store top ≡ o → None ≡ o
literal_top records store Top.Literal o n e = e
literal_top records store (Top.Again x) o n e = absurd (false≢true n)
literal_top records store (Top.Both x y) o n e = absurd (false≢true n)
literal_top records store (Top.Either x y) o n e = absurd (false≢true n)
literal_top records store (Top.Truths a b holds) o n e = absurd (false≢true n)
literal_top records store (Top.Apart a b) o n e = absurd (false≢true n)
literal_top records store (Top.Records m a b holds) o n e = absurd (false≢true n)
