use Rattle.std.proofs.Common.{map, Some, sym, ap, ◌∙◌}
use Rattle.program_trees.specs.Legs.{proof}
use Rattle.key_rules.specs.Readers.{and_then, given}
use Rattle.key_rules.specs.Reading.{steps_of}
use Rattle.key_cursor.specs.Reads.{left}
use Rattle.lk_claims.specs.Step.{step_tree}
use Rattle.key_reader.proofs.StepHeads.{same_steps}
use Rattle.key_reader.proofs.items.read_proof.Goals as goal

pub returns : goal.returns
returns c =
    ap (and_then (λ ss. given (proof (steps_of ss)))) c.in_ok-steps.ensures
    ∙ ap (λ ss. Some (proof ss, left c.read_steps.new.cursor)) (sym (same_steps (map step_tree c.in_ok-steps.steps)))
