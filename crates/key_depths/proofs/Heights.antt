-- No well-formed leg is deeper than the limit.
use Rattle.std.proofs.Common.{◌≡◌, ℕ, zero, suc, ◌+◌, ◌≤◌, Bool, true, false, List, [], ◌∷◌, ◌++◌, refl, sym, ap, ◌∙◌, arith}
use Rattle.std.specs.Prelude.{◌&&◌}
use Rattle.std.specs.List.{AllByRecursion, flat_map, list_all}
use Rattle.std.proofs.lemmas.List.Concat.{flat_map-cons}
use Rattle.slang_values.specs.Value.{ValueType, unit_type, number_type, truth_type, sequence_type, record_type, is_element_type, is_value_type}
use Rattle.slang_values.specs.Tree.{literal, truth_literal, name, bound, unary, binary, update, quantified, listed, Listed, sequence_of, record_of, Trees, no_trees, tree_then}
use Rattle.slang_values.specs.Measure.{height, greatest_height}
use Rattle.program_trees.specs.Claims.{ClaimName, ClaimTree, ProofStepTree, line, block, ProofStepTrees, no_steps, step_then, renamed_claim, renamed_name, renamed_step, renamed_steps}
use Rattle.program_trees.specs.Legs.{ItemTree, assume, check, set, fresh, proof, renamed_item}
use Rattle.validity.specs.Bind.{bind_all}
use Rattle.leg_rules.specs.Numbering.{Appearance, front_appears, claim_appears, parts_appear, step_appears, steps_appear, item_appears}
use Rattle.leg_forms.specs.WellFormed.{leg_name, is_front, IsLow, IsWellFormedStep, AreWellFormedSteps, IsWellFormedItem}
use Rattle.key_rules.specs.Depths.{type_depth, front_depth, claim_depth, parts_depth, step_depth, steps_depth, item_depth}
use Rattle.key_depths.specs.Depths.{depth_limit}
use Rattle.key_depths.specs.Laws.{WellFormedLegsAreWithin}

false_true : false ≡ true → ⊥
false_true h = cc (h)

both_true : (a b : Bool) → (a && b) ≡ true → (a ≡ true) × (b ≡ true)
both_true true b h = (refl, h)
both_true false b h = absurd (false_true h)

all_append : {A : Type 0} (test : A → Bool) (xs ys : List A) → list_all test (xs ++ ys) ≡ true → (list_all test xs ≡ true) × (list_all test ys ≡ true)
all_append test [] ys h = (refl, h)
all_append test (x ∷ xs) ys h =
    let p = both_true (test x) (list_all test (xs ++ ys)) h in
    let q = all_append test xs ys p.1 in
    (ap (λ b. b && list_all test xs) p.0 ∙ q.0, q.1)

-- ---- types

element_low : (t : ValueType) → is_element_type t ≡ true → type_depth t ≤ 1
element_low unit_type h = omega arith
element_low number_type h = omega arith
element_low truth_type h = omega arith
element_low (sequence_type t) h = absurd (false_true h)
element_low (record_type n) h = omega arith

value_low : (t : ValueType) → is_value_type t ≡ true → type_depth t ≤ 2
value_low unit_type h = omega arith
value_low number_type h = omega arith
value_low truth_type h = omega arith
value_low (sequence_type t) h = let low = element_low t h in omega (arith, low)
value_low (record_type n) h = omega arith

limit_is : (n : ℕ) → n ≤ 2203 → n ≤ depth_limit
unfolding depth_limit
limit_is n h = h

types_low : (types : List ValueType) → list_all is_value_type types ≡ true → AllByRecursion (λ t. type_depth t ≤ depth_limit) types
types_low [] h = tt
types_low (t ∷ types) h =
    let p = both_true (is_value_type t) (list_all is_value_type types) h in
    let low = value_low t p.0 in
    (limit_is (type_depth t) (omega (arith, low)), types_low types p.1)

records_low : (records : List (List ValueType)) → AllByRecursion (λ types. list_all is_value_type types ≡ true) records
    → AllByRecursion (AllByRecursion (λ t. type_depth t ≤ depth_limit)) records
records_low [] h = tt
records_low (types ∷ records) h = (types_low types h.0, records_low records h.1)

-- ---- claims

abbrev AreFronts : List Appearance → Type 0
AreFronts xs = list_all is_front xs ≡ true

front_low : (front : Listed) → AreFronts (front_appears front) → front_depth front ≤ 1
front_low (sequence_of t) h = element_low t (both_true (is_element_type t) true h).0
front_low (record_of n) h = omega arith

mutual
  claim_low : (c : ClaimTree ℕ) → AreFronts (claim_appears (renamed_claim leg_name c)) → claim_depth c ≤ suc (height c)
  claim_low (literal z) h = omega arith
  claim_low (truth_literal b) h = omega arith
  claim_low (name a) h = omega arith
  claim_low (bound n) h = omega arith
  claim_low (unary op a) h = let low = claim_low a h in omega (arith, low)
  claim_low (binary op a b) h =
      let p = all_append is_front (claim_appears (renamed_claim leg_name a)) (claim_appears (renamed_claim leg_name b)) h in
      let low_a = claim_low a p.0 in
      let low_b = claim_low b p.1 in
      omega (arith, low_a, low_b)
  claim_low (update a i x) h =
      let p = all_append is_front (claim_appears (renamed_claim leg_name a))
      (claim_appears (renamed_claim leg_name i) ++ claim_appears (renamed_claim leg_name x)) h in
      let q = all_append is_front (claim_appears (renamed_claim leg_name i)) (claim_appears (renamed_claim leg_name x)) p.1 in
      let low_a = claim_low a p.0 in
      let low_i = claim_low i q.0 in
      let low_x = claim_low x q.1 in
      omega (arith, low_a, low_i, low_x)
  claim_low (quantified quantifier low high body) h =
      let p = all_append is_front (claim_appears (renamed_claim leg_name low))
      (claim_appears (renamed_claim leg_name high) ++ claim_appears (renamed_claim leg_name body)) h in
      let q = all_append is_front (claim_appears (renamed_claim leg_name high)) (claim_appears (renamed_claim leg_name body)) p.1 in
      let first = claim_low low p.0 in
      let second = claim_low high q.0 in
      let third = claim_low body q.1 in
      omega (arith, first, second, third)
  claim_low (listed front parts) h =
      let p = all_append is_front (front_appears front) (parts_appear (bind_all (λ a. name (renamed_name leg_name a)) parts)) h in
      let first = front_low front p.0 in
      let rest = parts_low parts p.1 in
      omega (arith, first, rest)

  parts_low : (parts : Trees (ClaimName ℕ)) → AreFronts (parts_appear (bind_all (λ a. name (renamed_name leg_name a)) parts))
      → parts_depth parts ≤ suc (greatest_height parts)
  parts_low no_trees h = omega arith
  parts_low (tree_then t ts) h =
      let p = all_append is_front (claim_appears (renamed_claim leg_name t)) (parts_appear (bind_all (λ a. name (renamed_name leg_name a)) ts)) h in
      let first = claim_low t p.0 in
      let rest = parts_low ts p.1 in
      omega (arith, first, rest)

-- a claim that is not higher than 2,000
low_claim : (c : ClaimTree ℕ) → IsLow c → AreFronts (claim_appears (renamed_claim leg_name c)) → claim_depth c ≤ 2001
low_claim c low h = let deep = claim_low c h in omega (arith, low, deep)

-- ---- steps

mutual
  step_low : (depth : ℕ) (step : ProofStepTree ℕ) → IsWellFormedStep depth step → AreFronts (step_appears (renamed_step leg_name step))
      → step_depth step ≤ depth + 2002
  step_low zero (line label claim rule cites) formed h = let low = low_claim claim formed.0 h in omega (arith, low)
  step_low (suc depth) (line label claim rule cites) formed h = let low = low_claim claim formed.0 h in omega (arith, low)
  step_low zero (block label has_symbol assumed claim no_steps) formed h =
      let p = all_append is_front (claim_appears (renamed_claim leg_name claim)) (steps_appear (renamed_steps leg_name no_steps)) h in
      let low = low_claim claim formed.0 p.0 in
      omega (arith, low)
  step_low zero (block label has_symbol assumed claim (step_then step steps)) formed h = absurd (false_true formed.1)
  step_low (suc depth) (block label has_symbol assumed claim steps) formed h =
      let p = all_append is_front (claim_appears (renamed_claim leg_name claim)) (steps_appear (renamed_steps leg_name steps)) h in
      let low = low_claim claim formed.0 p.0 in
      let rest = steps_low depth steps formed.1 p.1 in
      omega (arith, low, rest)

  steps_low : (depth : ℕ) (steps : ProofStepTrees ℕ) → AreWellFormedSteps depth steps → AreFronts (steps_appear (renamed_steps leg_name steps))
      → steps_depth steps ≤ depth + 2002
  steps_low depth no_steps formed h = omega arith
  steps_low depth (step_then step steps) formed h =
      let p = all_append is_front (step_appears (renamed_step leg_name step)) (steps_appear (renamed_steps leg_name steps)) h in
      let first = step_low depth step formed.0 p.0 in
      let rest = steps_low depth steps formed.1 p.1 in
      omega (arith, first, rest)

-- ---- items and legs

item_low : (item : ItemTree ℕ) → IsWellFormedItem item → AreFronts (item_appears (renamed_item leg_name item)) → item_depth item ≤ 2203
item_low (assume claim) formed h = let low = low_claim claim formed h in omega (arith, low)
item_low (check kind claim) formed h = let low = low_claim claim formed.1 h in omega (arith, low)
item_low (set x claim) formed h = let low = low_claim claim formed h in omega (arith, low)
item_low (fresh xs) formed h = omega arith
item_low (proof steps) formed h = let low = steps_low 200 steps formed.0 h in omega (arith, low)

items_low : (items : List (ItemTree ℕ)) → AllByRecursion IsWellFormedItem items
    → AreFronts (flat_map (λ item. item_appears (renamed_item leg_name item)) items) → AllByRecursion (λ item. item_depth item ≤ depth_limit) items
items_low [] formed h = tt
items_low (item ∷ items) formed h =
    let appearing = λ (item : ItemTree ℕ). item_appears (renamed_item leg_name item) in
    let p = all_append is_front (appearing item) (flat_map appearing items) (sym (ap (list_all is_front) (flat_map-cons appearing item items)) ∙ h) in
    (limit_is (item_depth item) (item_low item formed.0 p.0), items_low items formed.1 p.1)

pub well_formed_legs_are_within : WellFormedLegsAreWithin
well_formed_legs_are_within leg formed = record {
  records = records_low leg.records formed.field_types;
  variables = types_low leg.variables formed.variable_types;
  items = items_low leg.items formed.items formed.fronts;
}
