-- How many variables and records of a leg have appeared, where each is the next one when it first does.
use Rattle.std.specs.Prelude.{ℕ, List, [], ◌∷◌, length, get_or, Option, Some, None, if◌then◌else◌}
use Rattle.std.specs.Option.{option_and_then}
use Rattle.std.specs.List.{flat_map}
use Rattle.slang_values.specs.Value.{ValueType, unit_type, is_element_type}
use Rattle.slang_values.specs.Tree.{Trees}
use Rattle.program_trees.specs.Claims.{ClaimName, ClaimTree, ProofStepTree, ProofStepTrees, renamed_claim, renamed_name, renamed_step, renamed_steps}
use Rattle.program_trees.specs.Variables.{local}
use Rattle.program_trees.specs.Legs.{ItemTree, renamed_item}
use Rattle.slang_values.specs.Tree.{name}
use Rattle.validity.specs.Bind.{bind_all}
use Rattle.leg_rules.specs.LegNames.{own}
use Rattle.leg_rules.specs.Numbering.{Appearance, of_variable, of_type, claim_appears, parts_appear, step_appears, steps_appear, item_appears}
use Rattle.leg_forms.specs.WellFormed.{leg_name}
use Rattle.record_checks.specs.declared.summary.Summary.{Summary}
use Rattle.record_checks.specs.Numbers.{with_number}
use Rattle.record_checks.specs.Summaries.{number_with, numbers_with}
use Rattle.leg_appearances.specs.declared.variables.Seen.{Seen}

-- ---- what appears

abbrev pub appearing : ClaimTree ℕ → List Appearance
appearing claim = claim_appears (renamed_claim leg_name claim)

abbrev pub parts_appearing : Trees (ClaimName ℕ) → List Appearance
parts_appearing parts = parts_appear (bind_all (λ a. name (renamed_name leg_name a)) parts)

abbrev pub step_appearing : ProofStepTree ℕ → List Appearance
step_appearing step = step_appears (renamed_step leg_name step)

abbrev pub steps_appearing : ProofStepTrees ℕ → List Appearance
steps_appearing steps = steps_appear (renamed_steps leg_name steps)

abbrev pub item_appearing : ItemTree ℕ → List Appearance
item_appearing item = item_appears (renamed_item leg_name item)

abbrev pub items_appearing : List (ItemTree ℕ) → List Appearance
items_appearing items = flat_map item_appearing items

-- ---- what has appeared

abbrev pub with_records : ℕ → Option ℕ → Option Seen
with_records variables None = None
with_records variables (Some records) = Some (record { variables = variables; records = records })

-- A type stands in front of parts: it is one of elements.
abbrev pub after_front : List Summary → Seen → ValueType → Option Seen
after_front table seen t = if is_element_type t then with_records seen.variables (numbers_with table seen.records t) else None

abbrev pub after_record : List Summary → Seen → ℕ → Option Seen
after_record table seen n = with_records seen.variables (number_with table seen.records n)

module _ (table : List Summary) (variables : List ValueType) where
  -- the records that the type of the variable brings
  abbrev pub type_brings : ℕ → ℕ → Option ℕ
  type_brings records x = numbers_with table records (get_or variables x unit_type)

  -- A variable that appears is the next one, or has appeared before. It brings the records of its type.
  abbrev pub after_variable : Seen → ℕ → Option Seen
  after_variable seen x = option_and_then (λ v. with_records v (type_brings seen.records x)) (with_number (length variables) seen.variables x)

  abbrev pub after_variables : Seen → List ℕ → Option Seen
  after_variables seen [] = Some seen
  after_variables seen (x ∷ xs) = option_and_then (λ next. after_variables next xs) (after_variable seen x)

  abbrev pub after : Seen → Appearance → Option Seen
  after seen (of_variable (own (local x))) = after_variable seen x
  after seen (of_variable other) = None
  after seen (of_type t) = after_front table seen t

  abbrev pub all_seen : Seen → List Appearance → Option Seen
  all_seen seen [] = Some seen
  all_seen seen (a ∷ as') = option_and_then (λ next. all_seen next as') (after seen a)
