-- Sequents that are well sorted, by their parts.
use Rattle.std.proofs.Common.{◌≡◌, ◌↔◌, ℕ, zero, suc, ◌<◌, ◌≤◌, Bool, true, false, ◌&&◌, true≢false, List, [], ◌∷◌, map, length, Option, Some, None, Result}
use Rattle.std.proofs.Common.{Ok, Err, refl, sym, ap, ◌∙◌, subst, arith}
use Rattle.std.specs.Prelude.{nat_lt, nat_eq, IfOk}
use Rattle.std.specs.List.{list_all, All, AllByRecursion}
use Rattle.std.proofs.lemmas.Bool.{ltb-true, lt-ltb, eqb-true, eq-eqb}
use Rattle.std.proofs.lemmas.List.Elements.{All-from_recursion, recursion_from_All}
use Rattle.slang_values.specs.Value.{ValueType, truth_type, Records, is_known, same_type, AreWellFormed}
use Rattle.slang_values.specs.Tree.{Tree}
use Rattle.slang_values.specs.Typing.{NameTypes, type_of, IsTyped, IsClosed}
use Rattle.slang_values.proofs.Equality.{same_type-true, same_type_refl}
use Rattle.validity.proofs.TypeOf.{type_of_typed}
use Rattle.validity.specs.Validity.{SequentTree, symbol_types, IsClaim, IsWellSorted}
use Rattle.term_nodes.specs.declared.node.Node.{Node}
use Rattle.term_store.specs.Store.{AreWithin}
use Rattle.term_store.specs.declared.sequent.IdSequent.{IdSequent}
use Rattle.term_store.specs.Sequent.{IsSequentWithin}
use Rattle.store_substitution.specs.Loose.{depth_needed}
use Rattle.sorted_sequents.specs.Fitting.{is_fit, has_type}
use Rattle.sorted_sequents.specs.Claims.{is_claim}
use Rattle.sorted_sequents.proofs.Typed.{both_true, true_both, typed, fit, closed_within, needed_within}

-- ---- lists

by_recursion : {X : Type 0} (p : X → Bool) (P : X → Type 0) → ((x : X) → p x ≡ true → P x) → (xs : List X) → list_all p xs ≡ true → AllByRecursion P xs
by_recursion p P f [] h = tt
by_recursion p P f (x ∷ xs) h = let q = both_true (p x) (list_all p xs) h in (f x q.0, by_recursion p P f xs q.1)

from_recursion : {X : Type 0} (p : X → Bool) (P : X → Type 0) → ((x : X) → P x → p x ≡ true) → (xs : List X) → AllByRecursion P xs → list_all p xs ≡ true
from_recursion p P f [] h = refl
from_recursion p P f (x ∷ xs) h = true_both (p x) (list_all p xs) (f x h.0) (from_recursion p P f xs h.1)

-- ---- numbers of a store

pub within_from : (store : List Node) (s : IdSequent) (count : ℕ) → count ≡ length store → list_all (λ k. nat_lt k count) s.facts ≡ true
    → nat_lt s.goal count ≡ true → IsSequentWithin store s
within_from store s count e h g = record {
  facts = by_recursion (λ k. nat_lt k count) (λ k. k < length store) (λ k l. subst (λ n. k < n) e (ltb-true k count l)) s.facts h;
  goal = subst (λ n. s.goal < n) e (ltb-true s.goal count g);
}

pub facts_within : (store : List Node) (s : IdSequent) (count : ℕ) → count ≡ length store → IsSequentWithin store s
    → list_all (λ k. nat_lt k count) s.facts ≡ true
facts_within store s count e h =
    from_recursion (λ k. nat_lt k count) (λ k. k < length store) (λ k l. lt-ltb k count (subst (λ n. k < n) (sym e) l)) s.facts h.facts

pub goal_within : (store : List Node) (s : IdSequent) (count : ℕ) → count ≡ length store → IsSequentWithin store s → nat_lt s.goal count ≡ true
goal_within store s count e h = lt-ltb s.goal count (subst (λ n. s.goal < n) (sym e) h.goal)

-- ---- claims

module _ (records : Records) (types : NameTypes ℕ) where
  claim_from : (t : Tree ℕ) → is_claim records types t ≡ true → IsClaim records types t
  claim_from t h =
      let p = both_true (is_fit records types t) (has_type records types truth_type t && nat_eq (depth_needed t) 0) h in
      let q = both_true (has_type records types truth_type t) (nat_eq (depth_needed t) 0) p.1 in
      let none : depth_needed t ≡ 0 = eqb-true (depth_needed t) 0 q.1 in
      record {
        typed = subst (IsTyped records types t) (same_type-true (type_of records types t) truth_type q.0) (typed records types t p.0);
        closed = closed_within 0 t (omega (arith, none));
      }

  from_claim : (t : Tree ℕ) → IsClaim records types t → is_claim records types t ≡ true
  from_claim t h =
      let needed : depth_needed t ≤ 0 = needed_within 0 t h.closed in
      true_both (is_fit records types t) (has_type records types truth_type t && nat_eq (depth_needed t) 0) (fit records types t truth_type h.typed)
      (true_both (has_type records types truth_type t) (nat_eq (depth_needed t) 0)
      (ap (λ u. same_type u truth_type) (type_of_typed records types t truth_type h.typed) ∙ same_type_refl truth_type)
      (eq-eqb (depth_needed t) 0 (omega (arith, needed))))

-- ---- sequents

pub sorted_from : (s : SequentTree) → AreWellFormed s.records → list_all (is_known s.records) s.types ≡ true →
    list_all (is_claim s.records (symbol_types s)) (s.goal ∷ s.facts) ≡ true → IsWellSorted s
sorted_from s fine known claims =
    let q = both_true (is_claim s.records (symbol_types s) s.goal) (list_all (is_claim s.records (symbol_types s)) s.facts) claims in
    record {
      records = fine;
      symbols =
          All-from_recursion (λ t. is_known s.records t ≡ true) s.types (by_recursion (is_known s.records) (λ t. is_known s.records t ≡ true)
          (λ t h. h) s.types known);
      facts =
          All-from_recursion (IsClaim s.records (symbol_types s)) s.facts
          (by_recursion (is_claim s.records (symbol_types s)) (IsClaim s.records (symbol_types s)) (claim_from s.records (symbol_types s)) s.facts q.1);
      goal = claim_from s.records (symbol_types s) s.goal q.0;
    }

pub sorted_known : (s : SequentTree) → IsWellSorted s → list_all (is_known s.records) s.types ≡ true
sorted_known s h =
    from_recursion (is_known s.records) (λ t. is_known s.records t ≡ true) (λ t k. k) s.types (recursion_from_All (λ t. is_known s.records t
    ≡ true) s.types h.symbols)

pub sorted_claims : (s : SequentTree) → IsWellSorted s → list_all (is_claim s.records (symbol_types s)) (s.goal ∷ s.facts) ≡ true
sorted_claims s h =
    true_both (is_claim s.records (symbol_types s) s.goal) (list_all (is_claim s.records (symbol_types s)) s.facts)
    (from_claim s.records (symbol_types s) s.goal h.goal)
    (from_recursion (is_claim s.records (symbol_types s)) (IsClaim s.records (symbol_types s)) (from_claim s.records (symbol_types s)) s.facts
    (recursion_from_All (IsClaim s.records (symbol_types s)) s.facts h.facts))

-- what a result says of a truth value that is worked out
pub told_sorted : {E : Type 0} (r : Result Bool E) (s : SequentTree) → AreWellFormed s.records → list_all (is_known s.records) s.types ≡ true →
    IfOk r (λ b. b ≡ list_all (is_claim s.records (symbol_types s)) (s.goal ∷ s.facts)) → IfOk r (λ b. (b ≡ true) ↔ IsWellSorted s)
told_sorted (Ok b) s fine known e = ((λ h. sorted_from s fine known (sym e ∙ h)), (λ h. e ∙ sorted_claims s h))
told_sorted (Err x) s fine known e = tt
