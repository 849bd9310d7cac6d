use Rattle.height_rules.proofs.Low.{low_decls_have_no_fault}
use Rattle.height_rules.proofs.laws.low_decls_have_no_fault.Goals as goal

pub returns : goal.returns
returns c = low_decls_have_no_fault
