use Rattle.std.proofs.Common.{arith, sym}
use Rattle.std.proofs.lemmas.List.{drop-drop, take_rest}
use Rattle.std.proofs.lemmas.Grind.{common_steps}
use Rattle.lk_io.proofs.MemoryLaws.{Takes-moved}
use Rattle.lk_io.proofs.mem_source.MemSourceSource.take.Goals as goal

pub returns-clause-takes : goal.returns-clause-takes
returns-clause-takes c =
    rw (← c.self.view_is)
    (Takes-moved c.self.inside.most (grind (arith, common_steps)) (omega arith) (omega arith) (grind (arith, take_rest))
    (sym (drop-drop c.copy_front-n.result c.self.inside.at c.self.inside.bytes.items)) c.in_ok-begin.ensures.failed)
