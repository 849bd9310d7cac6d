-- The claims and the proofs of a text, in a scope in which they have no fault.
use Rattle.std.specs.Prelude.{ℕ, ◌+◌, ◌-◌, pos, true, false, List, [], ◌∷◌, map, Option, Some}
use Rattle.std.specs.Option.{option_map_or}
use Rattle.std.specs.List.{position_or_len}
use Rattle.std.specs.Str.{bytes_eq}
use Rattle.slang_values.specs.Value.{ValueType, unit_type, record_type}
use Rattle.slang_values.specs.Tree.{literal, truth_literal, name, bound, unary, binary, update, quantified, listed, Trees, no_trees, tree_then, sequence_of, record_of}
use Rattle.slang_values.specs.declared.operators.Unary.{Unary}
use Rattle.slang_values.specs.declared.operators.Binary.{Binary}
use Rattle.slang_tree.specs.declared.expression.Name.{Name}
use Rattle.slang_tree.specs.declared.statement.Label.{Label}
use Rattle.slang_tree.specs.Rules.{rule_named}
use Rattle.slang_tree.specs.ExprTree.{ExprTree, ExprTrees, no_exprs, expr_then}
use Rattle.slang_tree.specs.ExprTree as e
use Rattle.slang_tree.specs.StmtTree.{StepTree, StepTrees}
use Rattle.slang_tree.specs.StmtTree as s
use Rattle.program_trees.specs.Operators.{connected}
use Rattle.program_trees.specs.Variables.{Variable, global, entry, result}
use Rattle.program_trees.specs.Claims.{ClaimName, old_variable, let_symbol, ClaimTree, variable_claim, ProofStepTree, line, block, ProofStepTrees, no_steps, step_then}
use Rattle.type_rules.specs.Meanings.{Meaning, variable, bound_variable, block_variable, Scope, meaning_of, fields_of, with_name, with_bound}
use Rattle.type_rules.specs.Judged.{Judged, known_type}
use Rattle.type_rules.specs.Expressions.{Context, in_proof, Callee, a_value, a_record, a_method, callee, judged, judged_each, written_elements}

-- what stands for a part that has a fault
abbrev pub no_claim : ClaimTree Variable
no_claim = literal (pos 0)

abbrev pub claim_meant : ℕ → Option Meaning → ClaimTree Variable
claim_meant depth (Some (variable x is_var type)) = variable_claim x
claim_meant depth (Some (bound_variable level)) = bound (depth - (level + 1))
claim_meant depth (Some (block_variable label)) = name (let_symbol label)
claim_meant depth other = no_claim

abbrev pub entry_meant : Option Meaning → ClaimTree Variable
entry_meant (Some (variable (global n) is_var type)) = variable_claim (entry n)
entry_meant other = no_claim

abbrev pub old_meant : Option Meaning → ClaimTree Variable
old_meant (Some (variable x is_var type)) = name (old_variable x)
old_meant other = no_claim

-- the place of a field among those of a record
abbrev pub field_place : Scope → ℕ → List ℕ → ℕ
field_place scope number text = position_or_len (λ f. bytes_eq f.text text) (fields_of scope number)

abbrev pub selector : Scope → ValueType → List ℕ → Unary
selector scope (record_type number) text = Unary.Field (field_place scope number text)
selector scope other text = Unary.Size

-- the type of the elements: it is written, or that of the first
abbrev pub type_of_elements : List Judged → List Judged → ValueType
type_of_elements (front ∷ others) elements = known_type front
type_of_elements [] (first ∷ others) = known_type first
type_of_elements [] [] = unit_type

abbrev pub first_claim : Trees (ClaimName Variable) → ClaimTree Variable
first_claim no_trees = no_claim
first_claim (tree_then tree trees) = tree

abbrev pub claim_applied : Callee → ClaimTree Variable → Trees (ClaimName Variable) → ClaimTree Variable
claim_applied a_value head arguments = binary Binary.Read head (first_claim arguments)
claim_applied (a_record number) head arguments = listed (record_of number) arguments
claim_applied (a_method signature modifies) head arguments = no_claim

abbrev mutual
  pub claim_of_tree : Scope → Context → ExprTree → ClaimTree Variable
  claim_of_tree scope context (e.number place z) = literal z
  claim_of_tree scope context (e.truth place) = truth_literal true
  claim_of_tree scope context (e.falsity place) = truth_literal false
  claim_of_tree scope context (e.name text place) = claim_meant scope.depth (meaning_of scope text)
  claim_of_tree scope context (e.result place ty) = variable_claim result
  claim_of_tree scope context (e.entry_value place written) = entry_meant (meaning_of scope written.text)
  claim_of_tree scope context (e.old_value place written) = old_meant (meaning_of scope written.text)
  claim_of_tree scope context (e.minus place operand) = unary Unary.Neg (claim_of_tree scope context operand)
  claim_of_tree scope context (e.negation place operand) = unary Unary.Not (claim_of_tree scope context operand)
  claim_of_tree scope context (e.binary place operator left right) =
      connected operator (claim_of_tree scope context left) (claim_of_tree scope context right)
  claim_of_tree scope context (e.application place head arguments) =
      claim_applied (callee scope head) (claim_of_tree scope context head) (claims_of_trees scope context arguments)
  claim_of_tree scope context (e.update place head index element) =
      update (claim_of_tree scope context head) (claim_of_tree scope context index) (claim_of_tree scope context element)
  claim_of_tree scope context (e.field place head written) =
      unary (selector scope (known_type (judged scope context head)) written.text) (claim_of_tree scope context head)
  claim_of_tree scope context (e.sequence place ty elements) =
      listed (sequence_of (type_of_elements (written_elements scope ty) (judged_each scope context elements)))
      (claims_of_trees scope context elements)
  claim_of_tree scope context (e.quantified place quantifier low high named body) =
      quantified quantifier (claim_of_tree scope context low) (claim_of_tree scope context high)
      (claim_of_tree (with_bound scope named.text) context body)
  -- the indices are those from 0 on that are below the size
  claim_of_tree scope context (e.quantified_indices place quantifier head named body) =
      quantified quantifier (literal (pos 0)) (unary Unary.Size (claim_of_tree scope context head))
      (claim_of_tree (with_bound scope named.text) context body)

  pub claims_of_trees : Scope → Context → ExprTrees → Trees (ClaimName Variable)
  claims_of_trees scope context no_exprs = no_trees
  claims_of_trees scope context (expr_then tree trees) = tree_then (claim_of_tree scope context tree) (claims_of_trees scope context trees)

-- ---- proofs

abbrev pub rule_number : Name → ℕ
rule_number rule = option_map_or (λ r. r.number) (rule_named rule.text) 0

abbrev pub label_numbers : List Label → List ℕ
label_numbers labels = map (λ label. label.number) labels

abbrev mutual
  pub step_of_tree : Scope → StepTree → ProofStepTree Variable
  step_of_tree scope (s.line label claim rule cites) =
      line label.number (claim_of_tree scope in_proof claim) (rule_number rule) (label_numbers cites)
  step_of_tree scope (s.block label assumed given steps) =
      block label.number false assumed.number (claim_of_tree scope in_proof given) (steps_of_trees scope steps)
  step_of_tree scope (s.let_block label named assumed given steps) =
      block label.number true assumed.number
      (claim_of_tree (with_name scope named.text (block_variable label.number)) in_proof given)
      (steps_of_trees (with_name scope named.text (block_variable label.number)) steps)

  pub steps_of_trees : Scope → StepTrees → ProofStepTrees Variable
  steps_of_trees scope s.no_steps = no_steps
  steps_of_trees scope (s.step_then step steps) = step_then (step_of_tree scope step) (steps_of_trees scope steps)
