-- The definitions of sequents, numbers and verdicts, tried on small legs: each statement is computed.
use Rattle.std.specs.Prelude.{◌≡◌, ℕ, pos, true, List, [], ◌∷◌, Option, Some, None}
use Rattle.slang_values.specs.Value.{ValueType, unit_type, number_type, truth_type, record_type}
use Rattle.slang_values.specs.Tree.{Tree, name, truth_literal, unary as unary_tree, binary as binary_tree}
use Rattle.slang_values.specs.declared.operators.Unary.{Unary}
use Rattle.slang_values.specs.declared.operators.Binary.{Binary}
use Rattle.validity.specs.Validity.{SequentTree}
use Rattle.deduction_rules.specs.Step as steps
use Rattle.program_trees.specs.declared.answer.Kind.TheVariants as kinds
use Rattle.program_trees.specs.declared.answer.Reason.{Reason}
use Rattle.program_trees.specs.declared.answer.Reason.TheVariants as reasons
use Rattle.program_trees.specs.Claims.{ClaimTree, variable_claim, old_variable, let_symbol, line, block, no_steps, step_then}
use Rattle.program_trees.specs.Programs.{MethodTree, ProgramTree}
use Rattle.program_trees.specs.Variables.{Variable, local}
use Rattle.program_trees.specs.Legs.{ItemTree, assume, check, set, fresh, proof, LegTree}
use Rattle.leg_rules.specs.LegNames.{own}
use Rattle.leg_rules.specs.Legs.{Items, at_node}
use Rattle.leg_rules.specs.Numbering.{leg_tree}
use Rattle.leg_rules.specs.Sequents.{Obligation, to_show, to_accept, obligations}
use Rattle.leg_rules.specs.Answers.{unproved, many_legs, verdict}
use Rattle.leg_rules.specs.LegExamples.{le, eq, num, looping, nine, program_of, method_of, l}

-- ---- legs over two numbers

abbrev pub leg_of : List (ItemTree ℕ) → LegTree
leg_of items = record { records = []; variables = number_type ∷ number_type ∷ []; items = items }

abbrev pub x : ClaimTree ℕ
x = variable_claim 0

abbrev pub y : ClaimTree ℕ
y = variable_claim 1

abbrev pub old_x : ClaimTree ℕ
old_x = name (old_variable 0)

abbrev pub plus : {A : Type 0} → Tree A → Tree A → Tree A
plus a b = binary_tree Binary.Add a b

-- a proof of one step
abbrev pub step_of : ClaimTree ℕ → ItemTree ℕ
step_of claim = proof (step_then (line 1 claim 18 []) no_steps)

-- what it asks for, over so many symbols, from the facts
abbrev pub accepting_of : ℕ → List ValueType → List (Tree ℕ) → Tree ℕ → Obligation
accepting_of item types facts claim =
    to_accept item (record { types = types; records = []; facts = facts; goal = truth_literal true }) (steps.step_then
    (steps.line 1 claim 18 []) steps.no_steps)

abbrev pub showing : ℕ → List ValueType → List (Tree ℕ) → Tree ℕ → Obligation
showing item types facts goal = to_show item kinds.Assert (record { types = types; records = []; facts = facts; goal = goal })

-- ---- records

-- record 0 has a number and the record 1, which has a truth value
abbrev pub nested : ProgramTree Variable
nested = record { records = (number_type ∷ record_type 1 ∷ []) ∷ (truth_type ∷ []) ∷ []; globals = []; methods = [] }

-- a number and a record 0 as locals
abbrev pub with_record : MethodTree Variable
with_record = method_of unit_type (number_type ∷ record_type 0 ∷ []) [] [] [] []

-- the second local is read first, and then the first
abbrev pub reading_record : Items
reading_record = at_node 1 (assume (eq (unary_tree (Unary.Field 0) (l (own (local 1)))) (l (own (local 0))))) ∷ []

abbrev pub never_closed : SequentTree → Option Reason
never_closed sequent = Some reasons.Open

abbrev pub never_refused : SequentTree → steps.StepTrees → Option ℕ
never_refused base steps = None

pub record SequentExamples : Type 0 where
  -- Without a change the old value is the present one.
  pub old_without_change : obligations (leg_of (step_of (eq old_x x) ∷ [])) ≡
      accepting_of 0 (number_type ∷ []) [] (eq (name 0) (name 0)) ∷ []
  pub old_after_set : obligations (leg_of (set 0 (plus x (num (pos 1))) ∷ step_of (eq x (plus old_x (num (pos 1)))) ∷ [])) ≡
      accepting_of 1 (number_type ∷ []) [] (eq (plus (name 0) (num (pos 1))) (plus (name 0) (num (pos 1)))) ∷ []
  -- A variable that was set unread takes its symbol where its old value is read, behind that of y.
  pub old_of_unread : obligations (leg_of (set 0 (num (pos 5)) ∷ check kinds.Assert (le y x) ∷ step_of (le old_x x) ∷ [])) ≡
      showing 1 (number_type ∷ []) [] (le (name 0) (num (pos 5)))
      ∷ accepting_of 2 (number_type ∷ number_type ∷ []) (le (name 0) (num (pos 5)) ∷ []) (le (name 1) (num (pos 5))) ∷ []
  -- Fresh takes a symbol for each variable, in order, whether it is read or not.
  pub old_after_fresh : obligations (leg_of (assume (le x (num (pos 3))) ∷ fresh (1 ∷ 0 ∷ []) ∷ step_of (le old_x x) ∷ [])) ≡
      accepting_of 2 (number_type ∷ number_type ∷ number_type ∷ []) (le (name 0) (num (pos 3)) ∷ []) (le (name 0) (name 2)) ∷ []
  -- A Let takes its symbol where its block begins. The outermost claims are facts behind the proof, and what stands in a block is none.
  pub let_and_facts :
      obligations (leg_of (proof (step_then (block 1 true 2 (le y (name (let_symbol 1))) (step_then (line 3 (le x y) 18 []) no_steps)) (step_then (line 4
      (le y y) 18 []) no_steps))
      ∷ check kinds.Assert (le x x) ∷ [])) ≡
      to_accept 0 (record { types = number_type ∷ number_type ∷ number_type ∷ []; records = []; facts = []; goal = truth_literal true })
      (steps.step_then (steps.block 1 (Some 0) 2 (le (name 1) (name 0)) (steps.step_then (steps.line 3 (le (name 2) (name 1)) 18 []) steps.no_steps))
      (steps.step_then (steps.line 4 (le (name 1) (name 1)) 18 []) steps.no_steps))
      ∷ showing 1 (number_type ∷ number_type ∷ number_type ∷ []) (le (name 1) (name 1) ∷ []) (le (name 2) (name 2)) ∷ []
  -- Variables count by first appearance, and so do records, each behind those that its fields name.
  pub numbers : leg_tree nested with_record reading_record ≡ record {
    records = (truth_type ∷ []) ∷ (number_type ∷ record_type 0 ∷ []) ∷ [];
    variables = record_type 1 ∷ number_type ∷ [];
    items = assume (eq (unary_tree (Unary.Field 0) x) y) ∷ [];
  }
  pub first_obligation_tells : verdict never_closed never_refused (program_of []) looping ≡ unproved 4 kinds.InvStart reasons.Open
  pub nine_branches_are_many : verdict never_closed never_refused (program_of []) nine ≡ many_legs
