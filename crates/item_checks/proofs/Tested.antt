-- Items pass exactly where they are well typed and well formed.
use Rattle.std.proofs.Common.{◌≡◌, ℕ, ◌<◌, true, true≢false, List, [], ◌∷◌, length, Option, Some, None, refl, sym, ap, ◌∙◌}
use Rattle.std.specs.Prelude.{nat_lt, slice_get}
use Rattle.std.specs.List.{AllByRecursion, list_all}
use Rattle.std.proofs.lemmas.Bool.{and_parts, and_from, ltb-true, lt-ltb}
use Rattle.slang_values.specs.Value.{ValueType, truth_type, Records}
use Rattle.program_trees.specs.Claims.{ClaimTree, labels}
use Rattle.program_trees.specs.Legs.{ItemTree, assume, check, set, fresh, proof}
use Rattle.leg_rules.specs.Typed.{item_names, no_labels, IsLegClaim, IsTypedItem, AreTypedItems}
use Rattle.leg_forms.specs.WellFormed.{IsLow, is_checked, IsWellFormedItem}
use Rattle.step_checks.specs.Tests.{steps_pass}
use Rattle.step_checks.proofs.Tested.{claim_told, claim_tested, steps_told, steps_tested}
use Rattle.item_checks.specs.Tests.{are_new, assumed_passes, set_passes, are_there, item_passes}
use Rattle.item_checks.proofs.StepLabels.{new_told, new_tested, none_before}

module _ (records : Records) (variables : List ValueType) where
  set_told : (o : Option ValueType) (claim : ClaimTree ℕ) → set_passes records variables o claim ≡ true
      → ((t : ValueType) × (o ≡ Some t) × IsLegClaim records (item_names variables) t claim) × IsLow claim
  set_told None claim h = absurd (true≢false (sym h))
  set_told (Some t) claim h =
      let p = claim_told records (item_names variables) t claim h in ((t, refl, p.0), p.1)

  there_told : (xs : List ℕ) → are_there variables xs ≡ true → AllByRecursion (λ x. x < length variables) xs
  there_told [] h = tt
  there_told (x ∷ xs) h =
      let p = and_parts (nat_lt x (length variables)) (are_there variables xs) h in (ltb-true x (length variables) p.0, there_told xs p.1)

  there_tested : (xs : List ℕ) → AllByRecursion (λ x. x < length variables) xs → are_there variables xs ≡ true
  there_tested [] h = refl
  there_tested (x ∷ xs) h =
      and_from (nat_lt x (length variables)) (are_there variables xs) (lt-ltb x (length variables) h.0) (there_tested xs h.1)

  item_told : (item : ItemTree ℕ) → item_passes records variables item ≡ true → IsTypedItem records variables item × IsWellFormedItem item
  item_told (assume claim) h = claim_told records (item_names variables) truth_type claim h
  item_told (check kind claim) h =
      let p = and_parts (is_checked kind) (assumed_passes records variables claim) h in
      let q = claim_told records (item_names variables) truth_type claim p.1 in
      (q.0, (p.0, q.1))
  item_told (set x claim) h = set_told (slice_get variables x) claim h
  item_told (fresh xs) h = (there_told xs h, tt)
  item_told (proof steps) h =
      let p = and_parts (steps_pass records variables [] 200 steps) (are_new [] (labels steps)) h in
      let q = steps_told records variables [] no_labels (λ n. refl) 200 steps p.0 in
      (q.0, (q.1, (new_told [] (labels steps) p.1).0))

  item_tested : (item : ItemTree ℕ) → IsTypedItem records variables item → IsWellFormedItem item → item_passes records variables item ≡ true
  item_tested (assume claim) h w = claim_tested records (item_names variables) truth_type claim h w
  item_tested (check kind claim) h w =
      and_from (is_checked kind) (assumed_passes records variables claim) w.0 (claim_tested records (item_names variables) truth_type claim h w.1)
  item_tested (set x claim) h w =
      ap (λ o. set_passes records variables o claim) h.1 ∙ claim_tested records (item_names variables) h.0 claim h.2 w
  item_tested (fresh xs) h w = there_tested xs h
  item_tested (proof steps) h w =
      and_from (steps_pass records variables [] 200 steps) (are_new [] (labels steps))
      (steps_tested records variables [] no_labels (λ n. refl) 200 steps h w.0) (new_tested [] (labels steps) w.1 (none_before (labels steps)))

  pub items_told : (items : List (ItemTree ℕ)) → list_all (item_passes records variables) items ≡ true
      → AreTypedItems records variables items × AllByRecursion IsWellFormedItem items
  items_told [] h = (tt, tt)
  items_told (item ∷ items) h =
      let p = and_parts (item_passes records variables item) (list_all (item_passes records variables) items) h in
      let q = item_told item p.0 in
      let r = items_told items p.1 in
      ((q.0, r.0), (q.1, r.1))

  pub items_tested : (items : List (ItemTree ℕ)) → AreTypedItems records variables items → AllByRecursion IsWellFormedItem items
      → list_all (item_passes records variables) items ≡ true
  items_tested [] h w = refl
  items_tested (item ∷ items) h w =
      and_from (item_passes records variables item) (list_all (item_passes records variables) items) (item_tested item h.0 w.0) (items_tested items h.1 w.1)
