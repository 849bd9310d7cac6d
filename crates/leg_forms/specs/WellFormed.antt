-- Which legs are well formed: those that a key may hold.
use Rattle.std.specs.Prelude.{◌≡◌, ℕ, zero, suc, ◌≤◌, nat_eq, Bool, true, false, List, [], ◌∷◌, ◌++◌, map, length, get_or, ⊤}
use Rattle.std.specs.Option.{option_map_or}
use Rattle.std.specs.List.{AllByRecursion, IsDistinct, flat_map, list_all, range_with_len}
use Rattle.slang_values.specs.Value.{ValueType, unit_type, number_type, truth_type, sequence_type, record_type, Records, fields, named_record, is_element_type, is_value_type}
use Rattle.slang_values.specs.Measure.{height}
use Rattle.program_trees.specs.declared.answer.Kind.{Kind}
use Rattle.program_trees.specs.declared.answer.Kind.TheVariants as kinds
use Rattle.program_trees.specs.Claims.{ClaimTree, ProofStepTree, line, block, ProofStepTrees, no_steps, step_then, labels, is_rule, is_empty}
use Rattle.program_trees.specs.Variables.{local}
use Rattle.program_trees.specs.Legs.{ItemTree, assume, check, set, fresh, proof, LegTree, renamed_item}
use Rattle.leg_rules.specs.LegNames.{LegName, own, same_name}
use Rattle.leg_rules.specs.Numbering.{Appearance, of_variable, of_type, item_appears, firsts}
use Rattle.leg_rules.specs.Typed.{IsTypedLeg}

-- ---- numbers by first appearance

-- a variable of the leg, as a name that may appear
abbrev pub leg_name : ℕ → LegName
leg_name n = own (local n)

abbrev pub appears : LegTree → List Appearance
appears leg = flat_map (λ item. item_appears (renamed_item leg_name item)) leg.items

abbrev pub appearing_name : Appearance → List LegName
appearing_name (of_variable x) = x ∷ []
appearing_name (of_type t) = []

-- the type of the variable that appears, or the type that appears itself
abbrev pub appearing_type : List ValueType → Appearance → ValueType
appearing_type variables (of_variable (own (local n))) = get_or variables n unit_type
appearing_type variables (of_type t) = t
appearing_type variables _ = unit_type

-- the type stands in front of a list of parts: that of the elements of a sequence, or of a record
abbrev pub is_front : Appearance → Bool
is_front (of_variable x) = true
is_front (of_type t) = is_element_type t

-- The record that a type names comes after those that its fields name, down to a depth of that many records.
abbrev pub records_within : Records → ℕ → ValueType → List ℕ
records_within records zero type = []
records_within records (suc depth) type =
    option_map_or (λ n. flat_map (records_within records depth) (fields records n) ++ n ∷ []) (named_record type) []

-- the variables in the order in which they first appear
abbrev pub variable_order : LegTree → List LegName
variable_order leg = firsts same_name (flat_map appearing_name (appears leg))

-- the records in that order: a variable brings those of its type
abbrev pub record_order : LegTree → List ℕ
record_order leg =
    firsts nat_eq (flat_map (λ appearance. records_within leg.records (length leg.records) (appearing_type leg.variables appearance)) (appears leg))

-- ---- steps

-- a claim that is not higher than 2,000
abbrev pub IsLow : ClaimTree ℕ → Type 0
IsLow claim = height claim ≤ 2000

abbrev mutual
  -- The claims are low, each rule is one of the table, and each block has steps only where that many blocks may stand one inside another.
  pub IsWellFormedStep : ℕ → ProofStepTree ℕ → Type 0
  IsWellFormedStep depth (line label claim rule cites) = IsLow claim × (is_rule rule ≡ true)
  IsWellFormedStep zero (block label has_symbol assumed given steps) = IsLow given × (is_empty steps ≡ true)
  IsWellFormedStep (suc depth) (block label has_symbol assumed given steps) = IsLow given × AreWellFormedSteps depth steps

  pub AreWellFormedSteps : ℕ → ProofStepTrees ℕ → Type 0
  AreWellFormedSteps depth no_steps = ⊤
  AreWellFormedSteps depth (step_then step steps) = IsWellFormedStep depth step × AreWellFormedSteps depth steps

-- ---- legs

-- what a check may be made for
abbrev pub is_checked : Kind → Bool
is_checked kinds.Deduce = false
is_checked kinds.Term = false
is_checked kind = true

abbrev pub IsWellFormedItem : ItemTree ℕ → Type 0
IsWellFormedItem (assume claim) = IsLow claim
IsWellFormedItem (check kind claim) = (is_checked kind ≡ true) × IsLow claim
IsWellFormedItem (set x claim) = IsLow claim
IsWellFormedItem (fresh xs) = ⊤
-- No step stands in more than 200 blocks, and the labels are distinct.
IsWellFormedItem (proof steps) = AreWellFormedSteps 200 steps × IsDistinct nat_eq (labels steps)

-- The leg is well typed: old values stand only in proofs, a Let's symbol only inside its block, and every number is in range.
-- Its variables and records are those that appear on it, numbered in the order in which they first do.
pub record IsWellFormedLeg (leg : LegTree) : Type 0 where
  pub typed : IsTypedLeg leg
  pub field_types : AllByRecursion (λ types. list_all is_value_type types ≡ true) leg.records
  pub variable_types : list_all is_value_type leg.variables ≡ true
  pub fronts : list_all is_front (appears leg) ≡ true
  pub items : AllByRecursion IsWellFormedItem leg.items
  pub variables : variable_order leg ≡ map leg_name (range_with_len 0 (length leg.variables))
  pub records : record_order leg ≡ range_with_len 0 (length leg.records)
