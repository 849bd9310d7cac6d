-- How a change goes through a tree.
use Rattle.std.proofs.Common.{◌≡◌, ◌↔◌, ℕ, zero, suc, ◌+◌, List, [], ◌∷◌, ◌++◌, map, length, take, slice_get, Bool, true, false, ◌&&◌, cond, eqb, Option, Some, refl, sym, ap, ap₂, ◌∙◌, subst, arith, ne_eqb, Ordering, Less, Equal, Greater}
use Rattle.std.specs.Option.{option_map}
use Rattle.std.specs.Ordering.{is_eq, ordering_then, nat_cmp}
use Rattle.std.specs.Cmp.Lexicographic.{slice_cmp}
use Rattle.std.proofs.lemmas.Bool.{false≢true, true≢false}
use Rattle.std.proofs.lemmas.Cmp.{tied_itself, nat_cmp_total}
use Rattle.std.proofs.lemmas.List.{length-map, take_more, take_all}
use Rattle.std.proofs.lemmas.Option.{slice_get-map, slice_get_within, get_or_from_slice_get}
use Rattle.slang_values.specs.Tree.{Tree, literal, truth_literal, name, bound, unary, binary, update, quantified, listed, sequence_of, record_of, Trees, no_trees, tree_then, tree_list, parts}
use Rattle.tree_forms.specs.Order.{head, head_cmp, tree_cmp}
use Rattle.tree_forms.proofs.Ordered.{head_cmp_total}
use Rattle.tree_forms.proofs.TreesApart.{tree_cmp-parts, tree_cmp_same}
use Rattle.std.specs.Borrow.{Bor}
use Rattle.term_trees.specs.declared.term.Term.{Term}
use Rattle.term_trees.specs.Term.{tree}
use Rattle.substitution.specs.Substitution.{substituted, all_substituted}
use Rattle.deduction_rules.specs.Replacement.{same_tree, replaced, all_replaced}
use Rattle.deduction_rules.proofs.Forms.{same_tree-true}
use Rattle.rule_check.specs.declared.changed.Change.{Change}
use Rattle.rule_check.specs.Changed.{Makes, IsElsewhere, Descends, is_quantified, number_inside, IsPlaceInside}

some_inj : {X : Type 0} {x y : X} → Some x ≡ Some y → x ≡ y
some_inj e = cc

-- ---- a term in place of a bound variable

module _ (n : ℕ) (u : Tree ℕ) where
  substituted_list : (ts : Trees ℕ) → tree_list (all_substituted n u ts) ≡ map (substituted n u) (tree_list ts)
  substituted_list no_trees = refl
  substituted_list (tree_then t ts) = ap (λ us. substituted n u t ∷ us) (substituted_list ts)

  stays_bound : (m : ℕ) → (m ≡ n → ⊥) → substituted n u (bound m) ≡ bound m
  stays_bound m h = ap (λ b. cond b u (bound m)) (ne_eqb m n h)

  substituted_parts : (t : Tree ℕ) → is_quantified t ≡ false → (t ≡ bound n → ⊥) → parts (substituted n u t) ≡ map (substituted n u) (parts t)
  substituted_parts (literal z) q h = refl
  substituted_parts (truth_literal b) q h = refl
  substituted_parts (name a) q h = refl
  substituted_parts (bound m) q h = ap parts (stays_bound m (λ e. h (ap bound e)))
  substituted_parts (unary op a) q h = refl
  substituted_parts (binary op a b) q h = refl
  substituted_parts (update a i x) q h = refl
  substituted_parts (quantified q' low high body) q h = absurd (true≢false q)
  substituted_parts (listed l ts) q h = substituted_list ts

  substituted_head : (t : Tree ℕ) → (t ≡ bound n → ⊥) → head (substituted n u t) ≡ head t
  substituted_head (literal z) h = refl
  substituted_head (truth_literal b) h = refl
  substituted_head (name a) h = refl
  substituted_head (bound m) h = ap head (stays_bound m (λ e. h (ap bound e)))
  substituted_head (unary op a) h = refl
  substituted_head (binary op a b) h = refl
  substituted_head (update a i x) h = refl
  substituted_head (quantified q low high body) h = refl
  substituted_head (listed (sequence_of s) ts) h = refl
  substituted_head (listed (record_of m) ts) h = refl

  and_false : (b : Bool) → (b && false) ≡ false
  and_false true = refl
  and_false false = refl

  plain_number : (t : Tree ℕ) (k : ℕ) → is_quantified t ≡ false → number_inside t k n ≡ n
  plain_number t k h = ap (λ b. cond (eqb k 2 && b) (suc n) n) h ∙ ap (λ b. cond b (suc n) n) (and_false (eqb k 2))

  plain_part : (t : Tree ℕ) (k : ℕ) (p : Tree ℕ) → is_quantified t ≡ false → (t ≡ bound n → ⊥) → slice_get (parts t) k ≡ Some p →
      slice_get (parts (substituted n u t)) k ≡ Some (substituted (number_inside t k n) u p)
  plain_part t k p q h e =
      ap (λ ps. slice_get ps k) (substituted_parts t q h) ∙ slice_get-map (substituted n u) (parts t) k ∙ ap (option_map (substituted n u)) e ∙
      ap (λ m. Some (substituted m u p)) (sym (plain_number t k q))

  quantified_part : (low high body : Tree ℕ) (q : _) (k : ℕ) (p : Tree ℕ) → slice_get (low ∷ high ∷ body ∷ []) k ≡ Some p →
      slice_get (parts (substituted n u (quantified q low high body))) k ≡ Some (substituted (number_inside (quantified q low high body) k n) u p)
  quantified_part low high body q zero p e = ap (λ t. Some (substituted n u t)) (some_inj e)
  quantified_part low high body q (suc zero) p e = ap (λ t. Some (substituted n u t)) (some_inj e)
  quantified_part low high body q (suc (suc zero)) p e = ap (λ t. Some (substituted (suc n) u t)) (some_inj e)
  quantified_part low high body q (suc (suc (suc k))) p e = absurd (cc)

  pub substituted_part : (t : Tree ℕ) (k : ℕ) (p : Tree ℕ) → (t ≡ bound n → ⊥) → slice_get (parts t) k ≡ Some p →
      slice_get (parts (substituted n u t)) k ≡ Some (substituted (number_inside t k n) u p)
  substituted_part (literal z) k p h e = plain_part (literal z) k p refl h e
  substituted_part (truth_literal b) k p h e = plain_part (truth_literal b) k p refl h e
  substituted_part (name a) k p h e = plain_part (name a) k p refl h e
  substituted_part (bound m) k p h e = plain_part (bound m) k p refl h e
  substituted_part (unary op a) k p h e = plain_part (unary op a) k p refl h e
  substituted_part (binary op a b) k p h e = plain_part (binary op a b) k p refl h e
  substituted_part (update a i x) k p h e = plain_part (update a i x) k p refl h e
  substituted_part (quantified q low high body) k p h e = quantified_part low high body q k p e
  substituted_part (listed l ts) k p h e = plain_part (listed l ts) k p refl h e

  substituted_count : (t : Tree ℕ) → (t ≡ bound n → ⊥) → length (parts (substituted n u t)) ≡ length (parts t)
  substituted_count (literal z) h = refl
  substituted_count (truth_literal b) h = refl
  substituted_count (name a) h = refl
  substituted_count (bound m) h = ap (λ t. length (parts t)) (stays_bound m (λ e. h (ap bound e)))
  substituted_count (unary op a) h = refl
  substituted_count (binary op a b) h = refl
  substituted_count (update a i x) h = refl
  substituted_count (quantified q low high body) h = refl
  substituted_count (listed l ts) h = ap length (substituted_list ts) ∙ length-map (tree_list ts) (substituted n u)

-- ---- a term in place of each that is another

module _ (old by : Tree ℕ) where
  replaced_list : (ts : Trees ℕ) → tree_list (all_replaced old by ts) ≡ map (replaced old by) (tree_list ts)
  replaced_list no_trees = refl
  replaced_list (tree_then t ts) = ap (λ us. replaced old by t ∷ us) (replaced_list ts)

  replaced_parts : (t : Tree ℕ) → same_tree old t ≡ false → parts (replaced old by t) ≡ map (replaced old by) (parts t)
  replaced_parts (literal z) h = ap (λ b. parts (cond b by (literal z))) h
  replaced_parts (truth_literal x) h = ap (λ b. parts (cond b by (truth_literal x))) h
  replaced_parts (name n) h = ap (λ b. parts (cond b by (name n))) h
  replaced_parts (bound n) h = ap (λ b. parts (cond b by (bound n))) h
  replaced_parts (unary op a) h = ap (λ b. parts (cond b by (unary op (replaced old by a)))) h
  replaced_parts (binary op a c) h = ap (λ b. parts (cond b by (binary op (replaced old by a) (replaced old by c)))) h
  replaced_parts (update a i x) h = ap (λ b. parts (cond b by (update (replaced old by a) (replaced old by i) (replaced old by x)))) h
  replaced_parts (quantified q low high body) h =
      ap (λ b. parts (cond b by (quantified q (replaced old by low) (replaced old by high) (replaced old by body)))) h
  replaced_parts (listed l ts) h = ap (λ b. parts (cond b by (listed l (all_replaced old by ts)))) h ∙ replaced_list ts

  replaced_head : (t : Tree ℕ) → same_tree old t ≡ false → head (replaced old by t) ≡ head t
  replaced_head (literal z) h = ap (λ b. head (cond b by (literal z))) h
  replaced_head (truth_literal x) h = ap (λ b. head (cond b by (truth_literal x))) h
  replaced_head (name n) h = ap (λ b. head (cond b by (name n))) h
  replaced_head (bound n) h = ap (λ b. head (cond b by (bound n))) h
  replaced_head (unary op a) h = ap (λ b. head (cond b by (unary op (replaced old by a)))) h
  replaced_head (binary op a c) h = ap (λ b. head (cond b by (binary op (replaced old by a) (replaced old by c)))) h
  replaced_head (update a i x) h = ap (λ b. head (cond b by (update (replaced old by a) (replaced old by i) (replaced old by x)))) h
  replaced_head (quantified q low high body) h =
      ap (λ b. head (cond b by (quantified q (replaced old by low) (replaced old by high) (replaced old by body)))) h
  replaced_head (listed (sequence_of s) ts) h = ap (λ b. head (cond b by (listed (sequence_of s) (all_replaced old by ts)))) h
  replaced_head (listed (record_of n) ts) h = ap (λ b. head (cond b by (listed (record_of n) (all_replaced old by ts)))) h

  pub replaced_part : (t : Tree ℕ) (k : ℕ) (p : Tree ℕ) → same_tree old t ≡ false → slice_get (parts t) k ≡ Some p →
      slice_get (parts (replaced old by t)) k ≡ Some (replaced old by p)
  replaced_part t k p h e =
      ap (λ ps. slice_get ps k) (replaced_parts t h) ∙ slice_get-map (replaced old by) (parts t) k ∙ ap (option_map (replaced old by)) e

-- ---- a change that is not at the tree itself

pub changed_head : (change : Change) (f : Tree ℕ → Tree ℕ) (t : Tree ℕ) → Makes change f → IsElsewhere change t → head (f t) ≡ head t
changed_head (Change.Bound place by) f t makes elsewhere =
    ap head (makes.2 t) ∙ substituted_head makes.0 (tree by.now) t (elsewhere makes.0 makes.1)
changed_head (Change.Each old by) f t makes elsewhere = ap head (makes t) ∙ replaced_head (tree old.now) (tree by.now) t elsewhere

pub changed_count : (change : Change) (f : Tree ℕ → Tree ℕ) (t : Tree ℕ) → Makes change f → IsElsewhere change t → length (parts (f t)) ≡ length (parts t)
changed_count (Change.Bound place by) f t makes elsewhere =
    ap (λ u. length (parts u)) (makes.2 t) ∙ substituted_count makes.0 (tree by.now) t (elsewhere makes.0 makes.1)
changed_count (Change.Each old by) f t makes elsewhere =
    ap (λ u. length (parts u)) (makes t) ∙ ap length (replaced_parts (tree old.now) (tree by.now) t elsewhere) ∙ length-map (parts t) (replaced (tree old.now) (tree by.now))

pub descends_bound : (place inner : Option ℕ) (by : _) (f : Tree ℕ → Tree ℕ) (t : Tree ℕ) (k : ℕ) → IsElsewhere (Change.Bound place by) t → Makes (Change.Bound place by) f →
    IsPlaceInside place t k inner → Descends f t k (Change.Bound inner by)
descends_bound place inner by f t k elsewhere makes at = λ p e. (
  substituted (number_inside t k makes.0) (tree by.now),
  (number_inside t k makes.0, at makes.0 makes.1, λ s. refl),
  ap (λ u. slice_get (parts u) k) (makes.2 t) ∙ substituted_part makes.0 (tree by.now) t k p (elsewhere makes.0 makes.1) e,
)

pub descends_each : (old by : _) (f : Tree ℕ → Tree ℕ) (t : Tree ℕ) (k : ℕ) → IsElsewhere (Change.Each old by) t → Makes (Change.Each old by) f →
    Descends f t k (Change.Each old by)
descends_each old by f t k elsewhere makes = λ p e. (
  replaced (tree old.now) (tree by.now),
  (λ s. refl),
  ap (λ u. slice_get (parts u) k) (makes t) ∙ replaced_part (tree old.now) (tree by.now) t k p elsewhere e,
)

pub descends_bound_as : (change : Change) (place inner : Option ℕ) (by : Bor Term) (f : Tree ℕ → Tree ℕ) (t : Tree ℕ) (k : ℕ) → change ≡ Change.Bound place by →
    IsElsewhere change t → Makes change f → IsPlaceInside place t k inner → Descends f t k (Change.Bound inner by)
descends_bound_as change place inner by f t k is =
    subst (λ ch. IsElsewhere ch t → Makes ch f → IsPlaceInside place t k inner → Descends f t k (Change.Bound inner by)) (sym is)
    (λ elsewhere makes at. descends_bound place inner by f t k elsewhere makes at)

pub descends_each_as : (change : Change) (old by : Bor Term) (f : Tree ℕ → Tree ℕ) (t : Tree ℕ) (k : ℕ) → change ≡ Change.Each old by →
    IsElsewhere change t → Makes change f → Descends f t k (Change.Each old by)
descends_each_as change old by f t k is =
    subst (λ ch. IsElsewhere ch t → Makes ch f → Descends f t k (Change.Each old by)) (sym is)
    (λ elsewhere makes. descends_each old by f t k elsewhere makes)

-- ---- comparing

pub same_tree_same : (s t : Tree ℕ) → s ≡ t → same_tree s t ≡ true
same_tree_same s t e = ap is_eq (tree_cmp_same s t e)

same_list : (ps qs : List (Tree ℕ)) → ps ≡ qs → slice_cmp tree_cmp ps qs ≡ Equal
same_list ps qs e = subst (λ xs. slice_cmp tree_cmp ps xs ≡ Equal) e (itself ps)
  where
    itself : (xs : List (Tree ℕ)) → slice_cmp tree_cmp xs xs ≡ Equal
    itself [] = refl
    itself (x ∷ xs) = ap (λ o. ordering_then o (slice_cmp tree_cmp xs xs)) (tree_cmp_same x x refl) ∙ itself xs

equal_order : (o : Ordering) → is_eq o ≡ true → o ≡ Equal
equal_order Less h = absurd (false≢true h)
equal_order Equal h = refl
equal_order Greater h = absurd (false≢true h)

decide : (b c : Bool) (P : Type 0) → ((b ≡ true) ↔ P) → ((c ≡ true) ↔ P) → b ≡ c
decide true true P h k = refl
decide true false P h k = absurd (false≢true (k.1 (h.0 refl)))
decide false true P h k = absurd (false≢true (h.1 (k.0 refl)))
decide false false P h k = refl

-- with one head, the parts decide
pub by_parts : (change : Change) (f : Tree ℕ → Tree ℕ) (t c : Tree ℕ) (result : Bool) → Makes change f → IsElsewhere change t → is_eq (head_cmp (head t) (head c)) ≡ true →
    ((result ≡ true) ↔ (parts (f t) ≡ parts c)) → result ≡ same_tree (f t) c
by_parts change f t c result makes elsewhere heads h = decide result (same_tree (f t) c) (parts (f t) ≡ parts c) h
    ((λ same. ap parts (same_tree-true (f t) c same)), together)
  where
    together : parts (f t) ≡ parts c → same_tree (f t) c ≡ true
    together e =
        let first : head_cmp (head (f t)) (head c) ≡ Equal = ap (λ x. head_cmp x (head c)) (changed_head change f t makes elsewhere) ∙ equal_order (head_cmp (head t) (head c)) heads in
        let second : nat_cmp (length (parts (f t))) (length (parts c)) ≡ Equal = ap (λ ps. nat_cmp (length ps) (length (parts c))) e ∙ tied_itself nat_cmp_total (length (parts c)) in
        ap is_eq (tree_cmp-parts (f t) c ∙
        ap (λ o. ordering_then o (ordering_then (nat_cmp (length (parts (f t))) (length (parts c))) (slice_cmp tree_cmp (parts (f t)) (parts c)))) first ∙
        ap (λ o. ordering_then o (slice_cmp tree_cmp (parts (f t)) (parts c))) second ∙ same_list (parts (f t)) (parts c) e)

pub by_heads : (change : Change) (f : Tree ℕ → Tree ℕ) (t c : Tree ℕ) → Makes change f → IsElsewhere change t → is_eq (head_cmp (head t) (head c)) ≡ false → false ≡ same_tree (f t) c
by_heads change f t c makes elsewhere heads = either (same_tree (f t) c) refl
  where
    either : (b : Bool) → same_tree (f t) c ≡ b → false ≡ b
    either false e = refl
    either true e =
        let same : head t ≡ head c = sym (changed_head change f t makes elsewhere) ∙ ap head (same_tree-true (f t) c e) in
        absurd (true≢false (sym (ap is_eq (subst (λ x. head_cmp (head t) x ≡ Equal) same (tied_itself head_cmp_total (head t)))) ∙ heads))

-- ---- the loop over the parts

pub counts_differ : (change : Change) (f : Tree ℕ → Tree ℕ) (t c : Tree ℕ) → Makes change f → IsElsewhere change t → (length (parts t) ≡ length (parts c) → ⊥) →
    (false ≡ true) ↔ (parts (f t) ≡ parts c)
counts_differ change f t c makes elsewhere differ =
    ((λ h. absurd (false≢true h)), λ e. absurd (differ (sym (changed_count change f t makes elsewhere) ∙ ap length e)))

pub part_differs : (change : Change) (f : Tree ℕ → Tree ℕ) (t c p q : Tree ℕ) (k : ℕ) (inner : Change) (result : Bool) → Descends f t k inner →
    slice_get (parts t) k ≡ Some p → slice_get (parts c) k ≡ Some q → ((g : Tree ℕ → Tree ℕ) → Makes inner g → result ≡ same_tree (g p) q) → result ≡ false →
    (false ≡ true) ↔ (parts (f t) ≡ parts c)
part_differs change f t c p q k inner result descends at other tells refuses =
    let d = descends p at in (
      (λ h. absurd (false≢true h)),
      λ e. let same : d.0 p ≡ q = some_inj (sym d.2 ∙ ap (λ ps. slice_get ps k) e ∙ other) in
          absurd (true≢false (sym (tells d.0 d.1 ∙ same_tree_same (d.0 p) q same) ∙ refuses)),
    )

pub part_agrees : (change : Change) (f : Tree ℕ → Tree ℕ) (t c p q : Tree ℕ) (k : ℕ) (inner : Change) (result : Bool) → Descends f t k inner →
    slice_get (parts t) k ≡ Some p → slice_get (parts c) k ≡ Some q → ((g : Tree ℕ → Tree ℕ) → Makes inner g → result ≡ same_tree (g p) q) → result ≡ true →
    take k (parts (f t)) ≡ take k (parts c) → take (k + 1) (parts (f t)) ≡ take (k + 1) (parts c)
part_agrees change f t c p q k inner result descends at other tells accepts h =
    let d = descends p at in
    let same : d.0 p ≡ q = same_tree-true (d.0 p) q (sym (tells d.0 d.1) ∙ accepts) in
    take_more (parts (f t)) k p (slice_get_within (parts (f t)) k (d.0 p) d.2) ∙
    ap₂ (λ xs x. xs ++ x ∷ []) h (get_or_from_slice_get (parts (f t)) k (d.0 p) p d.2 ∙ same ∙ sym (get_or_from_slice_get (parts c) k q p other)) ∙
    sym (take_more (parts c) k p (slice_get_within (parts c) k q other))

take_whole : (ps : List (Tree ℕ)) (k : ℕ) → length ps ≡ k → take k ps ≡ ps
take_whole ps k e = take_all k ps (omega (arith, e))

pub all_parts : (change : Change) (f : Tree ℕ → Tree ℕ) (t c : Tree ℕ) (k : ℕ) → Makes change f → IsElsewhere change t → k ≡ length (parts t) → length (parts t) ≡ length (parts c) →
    take k (parts (f t)) ≡ take k (parts c) → (true ≡ true) ↔ (parts (f t) ≡ parts c)
all_parts change f t c k makes elsewhere all count h =
    ((λ e. whole), λ e. refl)
  where
    whole : parts (f t) ≡ parts c
    whole =
        let first : length (parts (f t)) ≡ k = changed_count change f t makes elsewhere ∙ sym all in
        let second : length (parts c) ≡ k = sym count ∙ sym all in
        sym (take_whole (parts (f t)) k first) ∙ h ∙ take_whole (parts c) k second
