use Rattle.store_reads.specs.Written.{here, inside}
use Rattle.store_reads.proofs.reads.+first_read.Goals as goal

pub returns-in-Some-clause-read : goal.returns-in-Some-clause-read
returns-in-Some-clause-read t c = inside c.in-Some.part.place c.in-Some.ensures.0 c.in-Some.ensures.1 c.first_read.ensures.read

pub returns-in-None-clause-read : goal.returns-in-None-clause-read
returns-in-None-clause-read t c = here c.in-None.ensures
