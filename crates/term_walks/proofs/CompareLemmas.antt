-- How the comparison of terms goes.
use Rattle.std.proofs.Common.{◌≡◌, ℕ, ◌+◌, ◌<◌, List, [], length, drop, slice_get, Some, refl, sym, ap, ◌∙◌, subst, arith, add-one, Ordering, Less, Equal, Greater, drop-cons}
use Rattle.std.specs.Ordering.{ordering_then, nat_cmp}
use Rattle.std.specs.Cmp.Lexicographic.{slice_cmp}
use Rattle.std.proofs.lemmas.Cmp.{tied_itself, nat_cmp_total}
use Rattle.std.proofs.lemmas.Option.{get_or_from_slice_get}
use Rattle.slang_values.specs.Value.{ValueType, unit_type, number_type, truth_type, sequence_type, record_type}
use Rattle.slang_values.specs.Tree.{Tree, parts}
use Rattle.tree_forms.specs.Order.{type_numbers, head, head_cmp, tree_cmp}
use Rattle.tree_forms.proofs.TreesApart.{tree_cmp-parts}

pub type_after_none : (t : ValueType) → slice_cmp nat_cmp (type_numbers t) [] ≡ Greater
type_after_none unit_type = refl
type_after_none number_type = refl
type_after_none truth_type = refl
type_after_none (sequence_type t) = refl
type_after_none (record_type n) = refl

pub none_before_type : (t : ValueType) → slice_cmp nat_cmp [] (type_numbers t) ≡ Less
none_before_type unit_type = refl
none_before_type number_type = refl
none_before_type truth_type = refl
none_before_type (sequence_type t) = refl
none_before_type (record_type n) = refl

pub ruleset none_lines = (type_after_none, none_before_type)

-- equal heads leave the parts to decide
pub tree_cmp-equal_heads : (s t : Tree ℕ) (o : Ordering) → Equal ≡ head_cmp (head s) (head t) → o ≡ ordering_then (nat_cmp (length (parts s)) (length (parts t))) (slice_cmp tree_cmp (parts s) (parts t)) → o ≡ tree_cmp s t
tree_cmp-equal_heads s t o e f = f ∙ sym (tree_cmp-parts s t ∙ ap (λ u. ordering_then u (ordering_then (nat_cmp (length (parts s)) (length (parts t))) (slice_cmp tree_cmp (parts s) (parts t)))) (sym e))

-- the answer at one place, and then at those behind it
slice_cmp-drop : (ps qs : List (Tree ℕ)) (k : ℕ) (p q : Tree ℕ) → k < length ps → k < length qs → slice_get ps k ≡ Some p → slice_get qs k ≡ Some q →
    slice_cmp tree_cmp (drop k ps) (drop k qs) ≡ ordering_then (tree_cmp p q) (slice_cmp tree_cmp (drop (k + 1) ps) (drop (k + 1) qs))
slice_cmp-drop ps qs k p q l m e f =
    rw (add-one, drop-cons ps k p l, drop-cons qs k q m, get_or_from_slice_get ps k p p e, get_or_from_slice_get qs k q q f) refl

pub slice_cmp-more : (ps qs : List (Tree ℕ)) (k : ℕ) (p q : Tree ℕ) → k < length ps → length qs ≡ length ps → slice_get ps k ≡ Some p → slice_get qs k ≡ Some q → Equal ≡ tree_cmp p q →
    slice_cmp tree_cmp ps qs ≡ slice_cmp tree_cmp (drop k ps) (drop k qs) → slice_cmp tree_cmp ps qs ≡ slice_cmp tree_cmp (drop (k + 1) ps) (drop (k + 1) qs)
slice_cmp-more ps qs k p q l m e f tie h =
    h ∙ slice_cmp-drop ps qs k p q l (omega arith) e f ∙ ap (λ o. ordering_then o (slice_cmp tree_cmp (drop (k + 1) ps) (drop (k + 1) qs))) (sym tie)

same_length : (m n : ℕ) → m ≡ n → nat_cmp m n ≡ Equal
same_length m n e = subst (λ k. nat_cmp m k ≡ Equal) e (tied_itself nat_cmp_total m)

-- an answer that is not Equal decides
pub slice_cmp-unequal : (ps qs : List (Tree ℕ)) (k : ℕ) (p q : Tree ℕ) (o : Ordering) → k < length ps → length qs ≡ length ps → slice_get ps k ≡ Some p → slice_get qs k ≡ Some q → o ≡ tree_cmp p q → (o ≡ Equal → ⊥) →
    slice_cmp tree_cmp ps qs ≡ slice_cmp tree_cmp (drop k ps) (drop k qs) → o ≡ ordering_then (nat_cmp (length ps) (length qs)) (slice_cmp tree_cmp ps qs)
slice_cmp-unequal ps qs k p q o l m e f is unequal h =
    sym (ap (λ u. ordering_then u (slice_cmp tree_cmp ps qs)) (same_length (length ps) (length qs) (sym m)) ∙ h ∙ slice_cmp-drop ps qs k p q l (omega arith) e f ∙ ap (λ u. ordering_then u (slice_cmp tree_cmp (drop (k + 1) ps) (drop (k + 1) qs))) (sym is) ∙ decides o (slice_cmp tree_cmp (drop (k + 1) ps) (drop (k + 1) qs)) unequal)
  where
    decides : (o r : Ordering) → (o ≡ Equal → ⊥) → ordering_then o r ≡ o
    decides Less r n = refl
    decides Equal r n = absurd (n refl)
    decides Greater r n = refl
