use Rattle.typed_soundness.proofs.Methods.{typed_safe}
use Rattle.typed_soundness.proofs.laws.typed_programs_are_safe.Goals as goal

pub returns : goal.returns
returns c = λ program node_files files from typed pass. typed_safe program node_files files from typed pass
