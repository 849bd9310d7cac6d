-- The first read of a formula, and the alternatives by its cases.
use Rattle.std.proofs.Common.{◌≡◌, ℕ, zero, suc, ◌+◌, ◌<◌, List, [], ◌∷◌, ◌++◌, map, take, length, get_or, slice_get, cond, true, false, Bool, ◌&&◌, ◌||◌, Option, Some, None, IsSomeAnd, refl, sym, ap, ap₂, ◌∙◌, subst, arith}
use Rattle.std.specs.List.{AllByRecursion}
use Rattle.std.specs.Option.{option_map, is_some}
use Rattle.std.proofs.lemmas.Bool.{false≢true, or_parts}
use Rattle.std.proofs.lemmas.List.{map_push, take_more}
use Rattle.std.proofs.lemmas.Option.{none-some, same_Some}
use Rattle.slang_values.specs.Value.{ValueType, truth_type, Records, is_known}
use Rattle.slang_values.specs.Tree.{Tree, literal, truth_literal, name, bound, unary, binary, update, quantified, listed, Trees, no_trees, tree_then, sequence_of, record_of, parts, tree_list}
use Rattle.slang_values.specs.Typing.{NameTypes, IsTyped}
use Rattle.read_rules.specs.Reads.{ReadCase, ReadSite, read_tree, read_cases, first_site}
use Rattle.read_rules.proofs.Typing.{HasSomeType, EachHasSomeType, unary_part, left_part, right_part, listed_parts}
use Rattle.case_rules.specs.Cases.{Alternatives, site_alternatives}
use Rattle.term_nodes.specs.declared.node.Node.{Node}
use Rattle.term_store.specs.Store.{tree_at, Holds, AreWithin, Grows}
use Rattle.term_store.proofs.Stores.{Grows-tree_at, Grows-length, tree_at-Holds}
use Rattle.store_reads.specs.Written.{is_written_sequence, first_place, outer_parts, reads_written, has_read, place_of_read, IsFirstRead, here, inside, IsWithRead}
use Rattle.store_reads.specs.Marks.{HoldsWithRead}
use Rattle.store_reads.proofs.Places.{reads-parts}
use Rattle.store_reads.proofs.Sites.{IsFound, found_site}
use Rattle.store_alternatives.specs.declared.read_cases.IdReadCase.{IdReadCase}
use Rattle.store_alternatives.specs.declared.written.IdRead.{IdRead}
use Rattle.store_alternatives.specs.Numbers.{lists_at, AreAlternativesAt}
use Rattle.store_alternatives.specs.ReadCases.{case_at, IsCaseWithin, AreCasesWithin, AreCasesAt, IsReadAt, HasKnownElements, PutsInstead, AreListsOfCases}
use Rattle.store_alternatives.proofs.Numbers.{all_push, later_within}
use Rattle.store_alternatives.proofs.AlternativeLists.{all_at, lists-grow, lists_within-grows}

-- ---- the first read is one of what is written out

place_passes : {X : Type 0} (p : X → Bool) (xs : List X) (k : ℕ) (x : X) → first_place p xs ≡ Some k → slice_get xs k ≡ Some x → p x ≡ true
place_passes p [] k x e f = absurd (none-some k e)
place_passes p (y ∷ ys) k x e f = by_test (λ j g h. place_passes p ys j x g h) (p y) refl k e f
  where
    by_rest : ((j : ℕ) → first_place p ys ≡ Some j → slice_get ys j ≡ Some x → p x ≡ true) → (o : Option ℕ) (k : ℕ) → first_place p ys ≡ o → option_map suc o ≡ Some k → slice_get (y ∷ ys) k ≡ Some x → p x ≡ true
    by_rest rest None k g e f = absurd (none-some k e)
    by_rest rest (Some j) zero g e f = absurd (let is : suc j ≡ 0 = same_Some (suc j) 0 e in omega arith)
    by_rest rest (Some j) (suc k) g e f =
        let is : suc j ≡ suc k = same_Some (suc j) (suc k) e in
        let same : j ≡ k = omega arith in
        rest k (g ∙ ap Some same) f

    by_test : ((j : ℕ) → first_place p ys ≡ Some j → slice_get ys j ≡ Some x → p x ≡ true) → (b : Bool) → p y ≡ b → (k : ℕ) → first_place p (y ∷ ys) ≡ Some k → slice_get (y ∷ ys) k ≡ Some x → p x ≡ true
    by_test rest true g k e f =
        let first : Some 0 ≡ Some k = ap (λ b. cond b (Some 0) (option_map suc (first_place p ys))) (sym g) ∙ e in
        let is : 0 ≡ k = same_Some 0 k first in
        let same : y ≡ x = same_Some y x (subst (λ i. slice_get (y ∷ ys) i ≡ Some x) (sym is) f) in
        subst (λ z. p z ≡ true) same g
    by_test rest false g k e f = by_rest rest (first_place p ys) k refl (ap (λ b. cond b (Some 0) (option_map suc (first_place p ys))) (sym g) ∙ e) f

place_within : {X : Type 0} (p : X → Bool) (xs : List X) (k : ℕ) → first_place p xs ≡ Some k → k < length xs
place_within p [] k e = absurd (none-some k e)
place_within p (y ∷ ys) k e = by_test (λ j g. place_within p ys j g) (p y) (first_place p ys) refl e
  where
    by_test : ((j : ℕ) → first_place p ys ≡ Some j → j < length ys) → (b : Bool) (o : Option ℕ) → first_place p ys ≡ o → cond b (Some 0) (option_map suc o) ≡ Some k → k < length (y ∷ ys)
    by_test rest true o g e = let is : 0 ≡ k = same_Some 0 k e in omega arith
    by_test rest false None g e = absurd (none-some k e)
    by_test rest false (Some j) g e = let is : suc j ≡ k = same_Some (suc j) k e in let l = rest j g in omega arith

-- the parts of a range are its first parts
outer_part : (t p : Tree ℕ) (k : ℕ) → place_of_read t ≡ Some k → slice_get (parts t) k ≡ Some p → has_read p ≡ true
outer_part (literal z) p k e f = place_passes has_read [] k p e f
outer_part (truth_literal b) p k e f = place_passes has_read [] k p e f
outer_part (name n) p k e f = place_passes has_read [] k p e f
outer_part (bound n) p k e f = place_passes has_read [] k p e f
outer_part (unary op a) p k e f = place_passes has_read (a ∷ []) k p e f
outer_part (binary op a b) p k e f = place_passes has_read (a ∷ b ∷ []) k p e f
outer_part (update a i x) p k e f = place_passes has_read (a ∷ i ∷ x ∷ []) k p e f
outer_part (quantified q low high body) p k e f = place_passes has_read (low ∷ high ∷ []) k p e (in_range k (place_within has_read (low ∷ high ∷ []) k e) f)
  where
    in_range : (k : ℕ) → k < 2 → slice_get (low ∷ high ∷ body ∷ []) k ≡ Some p → slice_get (low ∷ high ∷ []) k ≡ Some p
    in_range zero l f = f
    in_range (suc zero) l f = f
    in_range (suc (suc k)) l f = absurd (omega arith)
outer_part (listed l ts) p k e f = place_passes has_read (tree_list ts) k p e f

no_place : (b : Bool) (o : Option ℕ) → o ≡ None → (b || is_some o) ≡ true → b ≡ true
no_place true o e h = refl
no_place false o e h = absurd (false≢true (sym (ap is_some e) ∙ h))

pub read_of_written : (t r : Tree ℕ) → has_read t ≡ true → IsFirstRead t r → reads_written r ≡ true
read_of_written t r h (here n) = no_place (reads_written t) (place_of_read t) n (sym (reads-parts t) ∙ h)
read_of_written t r h (inside {p = p} k e f m) = read_of_written p r (outer_part t p k e f) m

-- ---- and it is typed where the formula is

module _ (records : Records) (types : NameTypes ℕ) where
  in_list : (ts : Trees ℕ) (k : ℕ) (p : Tree ℕ) → EachHasSomeType records types ts → slice_get (tree_list ts) k ≡ Some p → HasSomeType records types p
  in_list no_trees k p h e = absurd (none-some p e)
  in_list (tree_then t ts) zero p h e = subst (HasSomeType records types) (same_Some t p e) h.0
  in_list (tree_then t ts) (suc k) p h e = in_list ts k p h.1 e

  typed_part : (t p : Tree ℕ) (k : ℕ) → HasSomeType records types t → slice_get (parts t) k ≡ Some p → HasSomeType records types p
  typed_part (literal z) p k h e = absurd (none-some p e)
  typed_part (truth_literal b) p k h e = absurd (none-some p e)
  typed_part (name n) p k h e = absurd (none-some p e)
  typed_part (bound n) p k h e = absurd (none-some p e)
  typed_part (unary op a) p k h e = in_list (tree_then a no_trees) k p (unary_part records types op a h.0 h.1, tt) e
  typed_part (binary op a b) p k h e = in_list (tree_then a (tree_then b no_trees)) k p (left_part records types op a b h.0 h.1, (right_part records types op a b h.0 h.1, tt)) e
  typed_part (update a i x) p k h e = in_list (tree_then a (tree_then i (tree_then x no_trees))) k p ((h.0, h.1.1), ((_, h.1.2), ((_, h.1.3), tt))) e
  typed_part (quantified q low high body) p k h e = in_list (tree_then low (tree_then high (tree_then body no_trees))) k p ((_, h.1.1), ((_, h.1.2), ((_, h.1.3), tt))) e
  typed_part (listed l ts) p k h e = in_list ts k p (listed_parts records types l ts h.0 h.1) e

  typed_read : (t r : Tree ℕ) → HasSomeType records types t → IsFirstRead t r → HasSomeType records types r
  typed_read t r h (here n) = h
  typed_read t r h (inside {p = p} k e f m) = typed_read p r (typed_part t p k h f) m

  known_elements : (a : Tree ℕ) (s : ValueType) → IsTyped records types a s → HasKnownElements records a
  known_elements (literal z) s h = tt
  known_elements (truth_literal b) s h = tt
  known_elements (name n) s h = tt
  known_elements (bound n) s h = tt
  known_elements (unary op a) s h = tt
  known_elements (binary op a b) s h = tt
  known_elements (update a i x) s h = tt
  known_elements (quantified q low high body) s h = tt
  known_elements (listed (sequence_of t) ts) s h = h.1
  known_elements (listed (record_of n) ts) s h = tt

  -- the elements of the sequence that is read first
  pub elements_known : (t r : Tree ℕ) (store : List Node) (d : IdRead) → IsTyped records types t truth_type → IsFirstRead t r → IsReadAt store r d → HasKnownElements records (tree_at store d.sequence)
  elements_known t r store d h f g =
      let typed = subst (HasSomeType records types) g.tree (typed_read t r (truth_type, h) f) in
      known_elements (tree_at store d.sequence) _ typed.1.0

pub read_written : (store : List Node) (r : Tree ℕ) (d : IdRead) → reads_written r ≡ true → IsReadAt store r d → is_written_sequence (tree_at store d.sequence) ≡ true
read_written store r d h g = ap reads_written (sym g.tree) ∙ h

-- ---- alternatives by the cases

pub no_lists : (store : List Node) (t : Tree ℕ) (cs : List ReadCase) → cs ≡ [] → AreListsOfCases store t [] cs
no_lists store t cs e = record { within = tt; trees = λ f h. ap (map (λ (c : ReadCase). c.conditions ++ f c.instead ∷ [])) (sym e) }

-- one case more
pub lists_more : (old mid new : List Node) (t : Tree ℕ) (ls : List (List ℕ)) (cs : List IdReadCase) (i k : ℕ) (d : IdReadCase) → AreListsOfCases mid t ls (map (case_at old) (take i cs)) → Grows old mid → Grows mid new → i < length cs → AreCasesWithin old cs →
    HoldsWithRead new k (tree_at mid (get_or cs i d).instead) t → AreListsOfCases new t (ls ++ ((get_or cs i d).condition ∷ k ∷ []) ∷ []) (map (case_at old) (take (i + 1) cs))
lists_more old mid new t ls cs i k d h before after l within held =
    let c = get_or cs i d in
    let w : IsCaseWithin old c = all_at (IsCaseWithin old) cs i d within l in
    let condition = Grows-tree_at mid new c.condition after (later_within old mid c.condition before w.condition) ∙ Grows-tree_at old mid c.condition before w.condition in
    let instead : tree_at mid c.instead ≡ tree_at old c.instead = Grows-tree_at old mid c.instead before w.instead in
    let reads : IsWithRead (tree_at old c.instead) t (tree_at new k) = subst (λ v. IsWithRead v t (tree_at new k)) instead held.tree in
    record {
      within = all_push (AreWithin new) ls (c.condition ∷ k ∷ []) (lists_within-grows mid new ls after h.within) (later_within mid new c.condition after (later_within old mid c.condition before w.condition), (held.within, tt));
      trees = λ f g. (
          let one : ReadCase → List (Tree ℕ) = λ e. e.conditions ++ f e.instead ∷ [] in
          map_push (map (tree_at new)) ls (c.condition ∷ k ∷ []) ∙
          ap₂ (λ xs x. xs ++ x ∷ []) (lists-grow mid new ls after h.within ∙ h.trees f g) (ap₂ (λ x y. x ∷ y ∷ []) condition (sym (g (tree_at old c.instead) (tree_at new k) reads))) ∙
          sym (map_push one (map (case_at old) (take i cs)) (case_at old c)) ∙ ap (map one) (sym (map_push (case_at old) (take i cs) c) ∙ ap (map (case_at old)) (sym (take_more cs i d l))));
    }

-- what is found by the cases of the first read
pub by_first_read : (records : Records) (mid new : List Node) (t r : Tree ℕ) (ls : List (List ℕ)) (d : IdRead) (cs : List IdReadCase) (o : Option (List ReadCase)) → has_read t ≡ true → IsFirstRead t r → r ≡ read_tree (tree_at mid d.sequence) (tree_at mid d.place) →
    read_cases records (tree_at mid d.sequence) (tree_at mid d.place) ≡ o → (new_mid : List Node) → IsSomeAnd o (AreCasesAt new_mid cs) → AreListsOfCases new t ls (map (case_at new_mid) cs) → AreAlternativesAt new ls (option_map site_alternatives (first_site records t))
by_first_read records mid new t r ls d cs None h f is e made c lists = absurd c
by_first_read records mid new t r ls d cs (Some ds) h f is e made c lists =
    let s = found_site records t (tree_at mid d.sequence) (tree_at mid d.place) ds h (subst (IsFirstRead t) is f) e in
    let one : ReadCase → List (Tree ℕ) = λ e. e.conditions ++ s.site.instead e.instead ∷ [] in
    record {
      within = lists.within;
      trees = ap Some (lists.trees s.site.instead s.instead ∙ ap (map one) (c.cases ∙ sym s.cases)) ∙ sym (ap (option_map site_alternatives) s.found);
    }
