use Rattle.program_numbers.proofs.Programs.{numbers_stand}
use Rattle.program_numbers.proofs.laws.numbers_stand_for_programs.Goals as goal

pub returns : goal.returns
returns c = numbers_stand
