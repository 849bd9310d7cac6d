use Rattle.typed_programs.proofs.Examples.{program_examples}
use Rattle.typed_programs.proofs.laws.programs_on_examples.Goals as goal

pub returns : goal.returns
returns c = program_examples
