use Rattle.std.proofs.Common.{◌≡◌, ◌+◌, ◌-◌, ◌*◌, map}
use Rattle.key_rules.specs.Readers.{read_members}
use Rattle.key_rules.specs.Reading.{read_step}
use Rattle.key_cursor.specs.Reads.{joined, left}
use Rattle.lk_claims.specs.Step.{step_tree}
use Rattle.key_reader.proofs.steps.+steps.Given as goal

abbrev pub decreases-read_step : goal.decreases-read_step
decreases-read_step l = 5 * l.depth

abbrev pub decreases-read_behind : goal.decreases-read_behind
decreases-read_behind l = 5 * l.depth + 4

abbrev pub decreases-read_block : goal.decreases-read_block
decreases-read_block l = 5 * l.depth + 3

abbrev pub decreases-read_steps : goal.decreases-read_steps
decreases-read_steps l = 5 * l.depth + 2

abbrev pub decreases-add_steps : goal.decreases-add_steps
decreases-add_steps l = 5 * l.depth + 1

abbrev pub invariant-add_steps-loop : goal.invariant-add_steps-loop
invariant-add_steps-loop l =
    joined (map step_tree l.fn.steps) (read_members (read_step l.depth) l.count) (left l.fn.cursor)
    ≡ joined (map step_tree l.steps) (read_members (read_step l.depth) (l.count - l.counter)) (left l.cursor)
