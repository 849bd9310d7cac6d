use Rattle.std.proofs.Common.{ap, ◌∙◌}
use Rattle.program_trees.specs.Programs.{assert}
use Rattle.lk_programs.proofs.Codes.{code_tree-Assert}
use Rattle.code_making.proofs.parts.asserted.Goals as goal

pub returns-clause-made : goal.returns-clause-made
returns-clause-made c = λ at place fits has.
    let made = c.in_ok-claim.ensures.noted.is at fits has in
    record { added = made.added; is = code_tree-Assert c.in_ok-claim.claim ∙ ap assert made.is }
