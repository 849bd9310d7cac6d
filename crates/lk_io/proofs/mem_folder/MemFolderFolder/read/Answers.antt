use Rattle.std.proofs.Common.{refl, sym}
use Rattle.lk_io.proofs.mem_folder.MemFolderFolder.read.Goals as goal

-- src/mem_folder.rt:73:13
pub returns-then-is_err-clause-listed : goal.returns-then-is_err-clause-listed
returns-then-is_err-clause-listed c = rw (← c.self.view_is) (λ _. c.begin.ensures.listed.0 (sym c.if-is_err.ensures.value), λ _. refl)
