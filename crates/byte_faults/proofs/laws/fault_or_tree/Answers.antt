use Rattle.byte_faults.proofs.Bytes.{fault_or_tree as law}
use Rattle.byte_faults.proofs.laws.fault_or_tree.Goals as goal

pub returns : goal.returns
returns c = law
