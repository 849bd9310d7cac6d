use Rattle.std.proofs.Common.{◌+◌, ◌*◌, ◌≡◌, ◌≤◌, List, map, length}
use Rattle.slang_tree.specs.StmtTree.{step_tree}
use Rattle.slang_machine.specs.Open.{Steps}
use Rattle.slang_machine.specs.States.{State}
use Rattle.token_cursor.specs.Outcome.{outcome}
use Rattle.token_cursor.specs.Gives.{ahead}
use Rattle.statement_parser.specs.Expects.{StepsGoOn}
use Rattle.statement_parser.proofs.steps.+steps.Given as goal

abbrev pub decreases-step : goal.decreases-step
decreases-step l = 2 * length (ahead l.tokens.now)

abbrev pub decreases-let_step : goal.decreases-let_step
decreases-let_step l = 2 * length (ahead l.tokens.now)

abbrev pub decreases-sub_proof : goal.decreases-sub_proof
decreases-sub_proof l = 2 * length (ahead l.tokens.now)

abbrev pub decreases-steps_behind : goal.decreases-steps_behind
decreases-steps_behind l = 2 * length (ahead l.tokens.now)

abbrev pub decreases-let_proof : goal.decreases-let_proof
decreases-let_proof l = 2 * length (ahead l.tokens.now) + 1

abbrev pub decreases-add_steps : goal.decreases-add_steps
decreases-add_steps l = 2 * length (ahead l.tokens.now) + 1

-- the steps so far are read, and from the state behind them another is due, or they are over
abbrev pub invariant-add_steps-members : goal.invariant-add_steps-members
invariant-add_steps-members l = record {
  reads : (from : State) (around : Steps) → StepsGoOn l.fn.another (ahead l.fn.tokens) from (map step_tree l.fn.list) around
      → (now : State) × (outcome from (ahead l.fn.tokens) ≡ outcome now (ahead l.tokens)) × StepsGoOn l.more (ahead l.tokens) now (map step_tree l.list) around;
  no_longer : length (ahead l.tokens) ≤ length (ahead l.fn.tokens);
}

abbrev pub decreases-add_steps-members : goal.decreases-add_steps-members
decreases-add_steps-members l = length (ahead l.tokens)
