use Rattle.std.proofs.Common.{ap, ◌∙◌}
use Rattle.program_trees.specs.Variables.{local}
use Rattle.typed_names.specs.Variables.{number_in}
use Rattle.target_making.proofs.declaring.next_local.Goals as goal

pub returns : goal.returns
returns c = λ at fits. c.in_ok-number.ensures.1 ∙ ap (λ n. number_in c.args.numbers (local n)) fits.locals
