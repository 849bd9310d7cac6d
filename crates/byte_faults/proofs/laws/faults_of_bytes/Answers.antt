use Rattle.byte_faults.proofs.Bytes.{faults_of_bytes as law}
use Rattle.byte_faults.proofs.laws.faults_of_bytes.Goals as goal

pub returns : goal.returns
returns c = law
