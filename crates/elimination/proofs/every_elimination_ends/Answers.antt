use Rattle.elimination.proofs.Turns.{elimination-ends, elimination-is}
use Rattle.elimination.proofs.every_elimination_ends.Goals as goal

pub returns-clause-ends : goal.returns-clause-ends
returns-clause-ends c = elimination-ends

pub returns-clause-once : goal.returns-clause-once
returns-clause-once c = elimination-is
