-- The definition of well-formed legs, tried on small legs.
use Rattle.std.specs.Prelude.{ℕ, pos, List, [], ◌∷◌}
use Rattle.slang_values.specs.Value.{ValueType, number_type, truth_type, sequence_type, record_type, Records}
use Rattle.slang_values.specs.Tree.{literal, binary}
use Rattle.slang_values.specs.declared.operators.Binary.{Binary}
use Rattle.program_trees.specs.declared.answer.Kind.TheVariants as kinds
use Rattle.program_trees.specs.Claims.{ClaimTree, variable_claim}
use Rattle.program_trees.specs.Legs.{ItemTree, assume, check, fresh, LegTree}
use Rattle.leg_forms.specs.WellFormed.{IsWellFormedLeg}

abbrev pub leg_of : Records → List ValueType → List (ItemTree ℕ) → LegTree
leg_of records variables items = record { records = records; variables = variables; items = items }

abbrev pub number_claim : ℕ → ClaimTree ℕ
number_claim x = binary Binary.Le (literal (pos 0)) (variable_claim x)

-- a leg of a method that checks what it assumes of its one variable
abbrev pub plain : LegTree
plain = leg_of [] (number_type ∷ []) (assume (number_claim 0) ∷ check kinds.Ensures (number_claim 0) ∷ [])

-- The record of the second variable has the record of its field before it.
abbrev pub nested : LegTree
nested = leg_of ((truth_type ∷ []) ∷ (record_type 0 ∷ []) ∷ []) (record_type 1 ∷ number_type ∷ []) (fresh (0 ∷ 1 ∷ []) ∷ [])

-- the same with its records exchanged
abbrev pub exchanged : LegTree
exchanged = leg_of ((record_type 1 ∷ []) ∷ (truth_type ∷ []) ∷ []) (record_type 0 ∷ number_type ∷ []) (fresh (0 ∷ 1 ∷ []) ∷ [])

pub record FormExamples : Type 0 where
  pub empty : IsWellFormedLeg (leg_of [] [] [])
  pub plain_is : IsWellFormedLeg plain
  pub nested_is : IsWellFormedLeg nested
  -- records that are not numbered by first appearance
  pub exchanged_is_none : IsWellFormedLeg exchanged → ⊥
  -- a variable that does not appear
  pub spare_variable : IsWellFormedLeg (leg_of [] (number_type ∷ []) []) → ⊥
  -- the second variable first
  pub second_first : IsWellFormedLeg (leg_of [] (number_type ∷ number_type ∷ []) (fresh (1 ∷ 0 ∷ []) ∷ [])) → ⊥
  -- sequences of sequences
  pub nested_sequence : IsWellFormedLeg (leg_of [] (sequence_type (sequence_type number_type) ∷ []) (fresh (0 ∷ []) ∷ [])) → ⊥
  -- a check of a kind that is none of a check
  pub check_of_a_proof : IsWellFormedLeg (leg_of [] (number_type ∷ []) (check kinds.Deduce (number_claim 0) ∷ [])) → ⊥
