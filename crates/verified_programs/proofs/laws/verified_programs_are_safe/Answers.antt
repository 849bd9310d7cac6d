use Rattle.verified_programs.proofs.Verified.{verified_safe}
use Rattle.verified_programs.proofs.laws.verified_programs_are_safe.Goals as goal

pub returns : goal.returns
returns c = λ program node_files files from typed reached. verified_safe program node_files files from typed reached
