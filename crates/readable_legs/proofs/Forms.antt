-- What the form of a leg says of its types and its claims.
use Rattle.std.proofs.Common.{◌≡◌, ℕ, ◌<◌, Bool, true, false, List, [], ◌∷◌, ◌++◌, map, length, Some, refl, sym, ◌∙◌, subst}
use Rattle.std.specs.List.{All, AllByRecursion, list_all, flat_map}
use Rattle.std.proofs.lemmas.Bool.{and_parts}
use Rattle.std.proofs.lemmas.List.{length-map}
use Rattle.std.proofs.lemmas.List.Elements.{All-from_recursion}
use Rattle.std.proofs.lemmas.List.Folds.{list_all-append}
use Rattle.std.proofs.lemmas.Option.{none-some, slice_get_within}
use Rattle.slang_values.specs.Value.{ValueType, unit_type, number_type, truth_type, sequence_type, record_type, Records, is_element_type, is_value_type}
use Rattle.slang_values.specs.Tree.{literal, truth_literal, name, bound, unary, binary, update}
use Rattle.slang_values.specs.Tree.{quantified, listed, Trees, no_trees, tree_then, Listed, sequence_of, record_of}
use Rattle.validity.specs.Bind.{EachName, EachNameOfAll, bind_all}
use Rattle.validity.proofs.Binds.{EachName-typed}
use Rattle.program_trees.specs.Claims.{ClaimName, variable, old_variable, let_symbol, ClaimTree, ProofStepTree, line}
use Rattle.program_trees.specs.Claims.{block, ProofStepTrees, no_steps, step_then, renamed_name, renamed_claim, renamed_step, renamed_steps}
use Rattle.program_trees.specs.Legs.{ItemTree, assume, check, set, fresh, proof, renamed_item}
use Rattle.lk_claims.specs.declared.ty.Ty.{Ty}
use Rattle.lk_claims.specs.Claim.{value_type}
use Rattle.lk_programs.specs.LegData.{item_tree, leg_tree}
use Rattle.leg_sorts.specs.Sorts.{has_sort, HaveSorts}
use Rattle.leg_rules.specs.Numbering.{Appearance, claim_appears, parts_appear, front_appears, step_appears, steps_appear, item_appears}
use Rattle.leg_rules.specs.Typed.{item_names, step_names, with_label, no_labels, IsLegClaim, IsTypedStep, AreTypedSteps, IsTypedItem}
use Rattle.leg_forms.specs.WellFormed.{leg_name, is_front}
use Rattle.claim_reading.specs.Readable.{IsWithin, front_has_sort, IsReadable, AreReadable}
use Rattle.item_terms.specs.Items.{IsReadableItem}
use Rattle.step_terms.specs.Steps.{IsReadableStep, AreReadableSteps}
use Rattle.readable_legs.specs.Laws.{WellFormedLegsAreReadable}

not_true : {P : Type 0} → false ≡ true → P
not_true e = absurd (cc)

-- ---- types

element_has_sort : (t : ValueType) → is_element_type t ≡ true → has_sort t ≡ true
element_has_sort unit_type e = not_true e
element_has_sort number_type e = refl
element_has_sort truth_type e = refl
element_has_sort (sequence_type t) e = not_true e
element_has_sort (record_type n) e = refl

value_has_sort : (t : ValueType) → is_value_type t ≡ true → has_sort t ≡ true
value_has_sort unit_type e = not_true e
value_has_sort number_type e = refl
value_has_sort truth_type e = refl
value_has_sort (sequence_type t) e = element_has_sort t e
value_has_sort (record_type n) e = refl

sorts_by_recursion : (types : List Ty) → list_all is_value_type (map value_type types) ≡ true → AllByRecursion (λ ty. has_sort (value_type ty) ≡ true) types
sorts_by_recursion [] e = tt
sorts_by_recursion (ty ∷ types) e =
    let p = and_parts (is_value_type (value_type ty)) (list_all is_value_type (map value_type types)) e in
    (value_has_sort (value_type ty) p.0, sorts_by_recursion types p.1)

sorts : (types : List Ty) → list_all is_value_type (map value_type types) ≡ true → HaveSorts types
sorts types e = All-from_recursion (λ ty. has_sort (value_type ty) ≡ true) types (sorts_by_recursion types e)

field_sorts : (records : List (List Ty)) → AllByRecursion (λ types. list_all is_value_type types ≡ true) (map (map value_type) records)
    → AllByRecursion HaveSorts records
field_sorts [] h = tt
field_sorts (fields ∷ records) h = (sorts fields h.0, field_sorts records h.1)

-- ---- claims

left_fronts : (xs ys : List Appearance) → list_all is_front (xs ++ ys) ≡ true → list_all is_front xs ≡ true
left_fronts xs ys e = (and_parts (list_all is_front xs) (list_all is_front ys) (sym (list_all-append is_front xs ys) ∙ e)).0

right_fronts : (xs ys : List Appearance) → list_all is_front (xs ++ ys) ≡ true → list_all is_front ys ≡ true
right_fronts xs ys e = (and_parts (list_all is_front xs) (list_all is_front ys) (sym (list_all-append is_front xs ys) ∙ e)).1

front_sort : (l : Listed) → list_all is_front (front_appears l) ≡ true → front_has_sort l ≡ true
front_sort (sequence_of t) e = element_has_sort t (and_parts (is_element_type t) true e).0
front_sort (record_of n) e = refl

module _ (count : ℕ) where
  mutual
    readable : (claim : ClaimTree ℕ) → EachName (IsWithin count) claim → list_all is_front (claim_appears (renamed_claim leg_name claim)) ≡ true
        → IsReadable count claim
    readable (literal z) h e = tt
    readable (truth_literal b) h e = tt
    readable (name a) h e = h
    readable (bound n) h e = tt
    readable (unary op a) h e = readable a h e
    readable (binary op a b) h e =
        let p = claim_appears (renamed_claim leg_name a) in
        let q = claim_appears (renamed_claim leg_name b) in
        (readable a h.0 (left_fronts p q e), readable b h.1 (right_fronts p q e))
    readable (update a i x) h e =
        let p = claim_appears (renamed_claim leg_name a) in
        let q = claim_appears (renamed_claim leg_name i) in
        let r = claim_appears (renamed_claim leg_name x) in
        let rest = right_fronts p (q ++ r) e in
        (readable a h.0 (left_fronts p (q ++ r) e), readable i h.1 (left_fronts q r rest), readable x h.2 (right_fronts q r rest))
    readable (quantified o low high body) h e =
        let p = claim_appears (renamed_claim leg_name low) in
        let q = claim_appears (renamed_claim leg_name high) in
        let r = claim_appears (renamed_claim leg_name body) in
        let rest = right_fronts p (q ++ r) e in
        (readable low h.0 (left_fronts p (q ++ r) e), readable high h.1 (left_fronts q r rest), readable body h.2 (right_fronts q r rest))
    readable (listed l ts) h e =
        let q = parts_appear (bind_all (λ a. name (renamed_name leg_name a)) ts) in
        (front_sort l (left_fronts (front_appears l) q e), all_readable ts h (right_fronts (front_appears l) q e))

    all_readable : (ts : Trees (ClaimName ℕ)) → EachNameOfAll (IsWithin count) ts
        → list_all is_front (parts_appear (bind_all (λ a. name (renamed_name leg_name a)) ts)) ≡ true → AreReadable count ts
    all_readable no_trees h e = tt
    all_readable (tree_then t ts) h e =
        let p = claim_appears (renamed_claim leg_name t) in
        let q = parts_appear (bind_all (λ a. name (renamed_name leg_name a)) ts) in
        (readable t h.0 (left_fronts p q e), all_readable ts h.1 (right_fronts p q e))

-- ---- items

module _ (records : Records) (variables : List ValueType) where
  names_within : (a : ClaimName ℕ) (t : ValueType) → item_names variables a ≡ Some t → IsWithin (length variables) a
  names_within (variable x) t e = slice_get_within variables x t e
  names_within (old_variable x) t e = absurd (none-some t e)
  names_within (let_symbol label) t e = absurd (none-some t e)

  -- also in proofs
  names_within_proof : (lets : ℕ → Bool) (a : ClaimName ℕ) (t : ValueType) → step_names variables lets a ≡ Some t → IsWithin (length variables) a
  names_within_proof lets (variable x) t e = slice_get_within variables x t e
  names_within_proof lets (old_variable x) t e = slice_get_within variables x t e
  names_within_proof lets (let_symbol label) t e = tt

  claim_readable : (t : ValueType) (claim : ClaimTree ℕ) → IsLegClaim records (item_names variables) t claim
      → list_all is_front (claim_appears (renamed_claim leg_name claim)) ≡ true → IsReadable (length variables) claim
  claim_readable t claim h e =
      readable (length variables) claim (EachName-typed records (item_names variables) (IsWithin (length variables)) names_within claim t h.typed) e

  step_claim_readable : (lets : ℕ → Bool) (claim : ClaimTree ℕ) → IsLegClaim records (step_names variables lets) truth_type claim
      → list_all is_front (claim_appears (renamed_claim leg_name claim)) ≡ true → IsReadable (length variables) claim
  step_claim_readable lets claim h e =
      readable (length variables) claim
      (EachName-typed records (step_names variables lets) (IsWithin (length variables)) (names_within_proof lets) claim truth_type h.typed) e

  mutual
    step_readable : (lets : ℕ → Bool) (step : ProofStepTree ℕ) → IsTypedStep records variables lets step
        → list_all is_front (step_appears (renamed_step leg_name step)) ≡ true → IsReadableStep (length variables) step
    step_readable lets (line label claim rule cites) h e = step_claim_readable lets claim h e
    step_readable lets (block label has_symbol assumed given steps) h e =
        let p = claim_appears (renamed_claim leg_name given) in
        let q = steps_appear (renamed_steps leg_name steps) in
        let inside = with_label has_symbol label lets in
        (step_claim_readable inside given h.0 (left_fronts p q e), steps_readable inside steps h.1 (right_fronts p q e))

    steps_readable : (lets : ℕ → Bool) (steps : ProofStepTrees ℕ) → AreTypedSteps records variables lets steps
        → list_all is_front (steps_appear (renamed_steps leg_name steps)) ≡ true → AreReadableSteps (length variables) steps
    steps_readable lets no_steps h e = tt
    steps_readable lets (step_then step steps) h e =
        let p = step_appears (renamed_step leg_name step) in
        let q = steps_appear (renamed_steps leg_name steps) in
        (step_readable lets step h.0 (left_fronts p q e), steps_readable lets steps h.1 (right_fronts p q e))

  item_readable : (item : ItemTree ℕ) → IsTypedItem records variables item → list_all is_front (item_appears (renamed_item leg_name item)) ≡ true
      → IsReadableItem (length variables) item
  item_readable (assume claim) h e = claim_readable truth_type claim h e
  item_readable (check kind claim) h e = claim_readable truth_type claim h e
  item_readable (set x claim) h e = (slice_get_within variables x h.0 h.1, claim_readable h.0 claim h.2 e)
  item_readable (fresh xs) h e = All-from_recursion (λ x. x < length variables) xs h
  item_readable (proof steps) h e = steps_readable no_labels steps h e

  items_readable : (items : List (ItemTree ℕ)) → AllByRecursion (IsTypedItem records variables) items
      → list_all is_front (flat_map (λ item. item_appears (renamed_item leg_name item)) items) ≡ true
      → AllByRecursion (IsReadableItem (length variables)) items
  items_readable [] h e = tt
  items_readable (item ∷ items) h e =
      let p = item_appears (renamed_item leg_name item) in
      let q = flat_map (λ i. item_appears (renamed_item leg_name i)) items in
      (item_readable item h.0 (left_fronts p q e), items_readable items h.1 (right_fronts p q e))

pub legs_readable : WellFormedLegsAreReadable
legs_readable leg h = record {
  variables = sorts leg.vars h.variable_types;
  records = All-from_recursion HaveSorts leg.records (field_sorts leg.records h.field_types);
  items = subst (λ n. All (IsReadableItem n) (map item_tree leg.items)) (length-map leg.vars value_type)
      (All-from_recursion (IsReadableItem (length (map value_type leg.vars))) (map item_tree leg.items)
      (items_readable (leg_tree leg).records (leg_tree leg).variables (map item_tree leg.items) h.typed.items h.fronts));
}
