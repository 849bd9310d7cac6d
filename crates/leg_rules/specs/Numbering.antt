-- The variables and the records of a leg, numbered by first appearance.
use Rattle.std.specs.Prelude.{ℕ, zero, suc, nat_eq, Bool, List, [], ◌∷◌, ◌++◌, map, length, unwrap_or, if◌then◌else◌}
use Rattle.std.specs.Option.{option_map_or}
use Rattle.std.specs.List.{flat_map, fold, position}
use Rattle.std.specs.Set.{is_member}
use Rattle.slang_values.specs.Value.{ValueType, unit_type, number_type, truth_type, sequence_type, record_type, fields, named_record}
use Rattle.slang_values.specs.Tree.{Tree, literal, truth_literal, name, bound, unary, binary, update, quantified, listed, Listed, sequence_of, record_of, Trees, no_trees, tree_then}
use Rattle.program_trees.specs.Claims.{ClaimName, variable, old_variable, let_symbol, ClaimTree, ProofStepTree, line, block, ProofStepTrees, no_steps, step_then}
use Rattle.program_trees.specs.Programs.{MethodTree, ProgramTree}
use Rattle.program_trees.specs.Variables.{Variable, variable_types}
use Rattle.program_trees.specs.Legs.{ItemTree, assume, check, set, fresh, proof, LegTree, renamed_item}
use Rattle.run_rules.specs.Runs.{method_at}
use Rattle.leg_rules.specs.LegNames.{LegName, own, of_call, same_name}
use Rattle.leg_rules.specs.Legs.{Items}

-- ---- what appears on a leg, in order

pub data Appearance : Type 0 where
  of_variable : LegName → Appearance
  -- a type that stands in front of a list of parts
  of_type : ValueType → Appearance

abbrev pub name_appears : ClaimName LegName → List Appearance
name_appears (variable x) = of_variable x ∷ []
name_appears (old_variable x) = of_variable x ∷ []
name_appears (let_symbol label) = []

abbrev pub front_appears : Listed → List Appearance
front_appears (sequence_of t) = of_type t ∷ []
front_appears (record_of n) = of_type (record_type n) ∷ []

abbrev mutual
  -- from the left, and what stands in front of parts before them
  pub claim_appears : ClaimTree LegName → List Appearance
  claim_appears (literal z) = []
  claim_appears (truth_literal b) = []
  claim_appears (name a) = name_appears a
  claim_appears (bound n) = []
  claim_appears (unary op a) = claim_appears a
  claim_appears (binary op a b) = claim_appears a ++ claim_appears b
  claim_appears (update a i x) = claim_appears a ++ (claim_appears i ++ claim_appears x)
  claim_appears (quantified q low high body) = claim_appears low ++ (claim_appears high ++ claim_appears body)
  claim_appears (listed front parts) = front_appears front ++ parts_appear parts

  pub parts_appear : Trees (ClaimName LegName) → List Appearance
  parts_appear no_trees = []
  parts_appear (tree_then t ts) = claim_appears t ++ parts_appear ts

abbrev mutual
  pub step_appears : ProofStepTree LegName → List Appearance
  step_appears (line label claim rule cites) = claim_appears claim
  step_appears (block label has_symbol assumed given steps) = claim_appears given ++ steps_appear steps

  pub steps_appear : ProofStepTrees LegName → List Appearance
  steps_appear no_steps = []
  steps_appear (step_then step steps) = step_appears step ++ steps_appear steps

-- A variable that is set appears before the claim that it is set to.
abbrev pub item_appears : ItemTree LegName → List Appearance
item_appears (assume claim) = claim_appears claim
item_appears (check kind claim) = claim_appears claim
item_appears (set x claim) = of_variable x ∷ claim_appears claim
item_appears (fresh xs) = map of_variable xs
item_appears (proof steps) = steps_appear steps

abbrev pub leg_appears : Items → List Appearance
leg_appears items = flat_map (λ noted. item_appears noted.item) items

-- ---- the order

-- each member once, where it first stands
abbrev pub with_new : {A : Type 0} → (A → A → Bool) → List A → A → List A
with_new same order x = if is_member same order x then order else order ++ x ∷ []

abbrev pub firsts : {A : Type 0} → (A → A → Bool) → List A → List A
firsts same xs = fold (with_new same) [] xs

abbrev pub number_in : {A : Type 0} → (A → A → Bool) → List A → A → ℕ
number_in same order x = unwrap_or (position (same x) order) 0

module _ (program : ProgramTree Variable) (method : MethodTree Variable) where
  abbrev pub leg_name_type : LegName → ValueType
  leg_name_type (own x) = unwrap_or (variable_types program method x) unit_type
  leg_name_type (of_call node number x) = unwrap_or (variable_types program (method_at program number) x) unit_type

  -- The record that a type names comes after those that its fields name, down to a depth of that many records.
  abbrev pub records_within : ℕ → ValueType → List ℕ
  records_within zero type = []
  records_within (suc depth) type =
      option_map_or (λ n. flat_map (records_within depth) (fields program.records n) ++ n ∷ []) (named_record type) []

  abbrev pub appearing_variables : Appearance → List LegName
  appearing_variables (of_variable x) = x ∷ []
  appearing_variables (of_type t) = []

  -- A variable brings the records of its type.
  abbrev pub appearing_records : Appearance → List ℕ
  appearing_records (of_variable x) = records_within (length program.records) (leg_name_type x)
  appearing_records (of_type t) = records_within (length program.records) t

  abbrev pub variable_order : Items → List LegName
  variable_order items = firsts same_name (flat_map appearing_variables (leg_appears items))

  abbrev pub record_order : Items → List ℕ
  record_order items = firsts nat_eq (flat_map appearing_records (leg_appears items))

-- ---- over the numbers of records

abbrev pub renumbered_type : (ℕ → ℕ) → ValueType → ValueType
renumbered_type f unit_type = unit_type
renumbered_type f number_type = number_type
renumbered_type f truth_type = truth_type
renumbered_type f (sequence_type t) = sequence_type (renumbered_type f t)
renumbered_type f (record_type n) = record_type (f n)

abbrev pub renumbered_front : (ℕ → ℕ) → Listed → Listed
renumbered_front f (sequence_of t) = sequence_of (renumbered_type f t)
renumbered_front f (record_of n) = record_of (f n)

abbrev mutual
  pub renumbered : {A : Type 0} → (ℕ → ℕ) → Tree A → Tree A
  renumbered f (literal z) = literal z
  renumbered f (truth_literal b) = truth_literal b
  renumbered f (name a) = name a
  renumbered f (bound n) = bound n
  renumbered f (unary op a) = unary op (renumbered f a)
  renumbered f (binary op a b) = binary op (renumbered f a) (renumbered f b)
  renumbered f (update a i x) = update (renumbered f a) (renumbered f i) (renumbered f x)
  renumbered f (quantified q low high body) = quantified q (renumbered f low) (renumbered f high) (renumbered f body)
  renumbered f (listed front parts) = listed (renumbered_front f front) (all_renumbered f parts)

  pub all_renumbered : {A : Type 0} → (ℕ → ℕ) → Trees A → Trees A
  all_renumbered f no_trees = no_trees
  all_renumbered f (tree_then t ts) = tree_then (renumbered f t) (all_renumbered f ts)

abbrev mutual
  pub renumbered_step : {A : Type 0} → (ℕ → ℕ) → ProofStepTree A → ProofStepTree A
  renumbered_step f (line label claim rule cites) = line label (renumbered f claim) rule cites
  renumbered_step f (block label has_symbol assumed given steps) =
      block label has_symbol assumed (renumbered f given) (renumbered_steps f steps)

  pub renumbered_steps : {A : Type 0} → (ℕ → ℕ) → ProofStepTrees A → ProofStepTrees A
  renumbered_steps f no_steps = no_steps
  renumbered_steps f (step_then step steps) = step_then (renumbered_step f step) (renumbered_steps f steps)

abbrev pub renumbered_item : {A : Type 0} → (ℕ → ℕ) → ItemTree A → ItemTree A
renumbered_item f (assume claim) = assume (renumbered f claim)
renumbered_item f (check kind claim) = check kind (renumbered f claim)
renumbered_item f (set x claim) = set x (renumbered f claim)
renumbered_item f (fresh xs) = fresh xs
renumbered_item f (proof steps) = proof (renumbered_steps f steps)

-- ---- the leg

-- a leg over numbers, from the orders of its variables and records
abbrev pub numbered : ProgramTree Variable → MethodTree Variable → Items → List LegName → List ℕ → LegTree
numbered program method items variables records = record {
  records = map (λ n. map (renumbered_type (number_in nat_eq records)) (fields program.records n)) records;
  variables = map (λ x. renumbered_type (number_in nat_eq records) (leg_name_type program method x)) variables;
  items = map (λ noted. renumbered_item (number_in nat_eq records) (renamed_item (number_in same_name variables) noted.item)) items;
}

abbrev pub leg_tree : ProgramTree Variable → MethodTree Variable → Items → LegTree
leg_tree program method items = numbered program method items (variable_order program method items) (record_order program method items)
