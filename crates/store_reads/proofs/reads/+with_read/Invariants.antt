use Rattle.store_reads.proofs.reads.+with_read.Given as goal

abbrev pub decreases-with_read : goal.decreases-with_read
decreases-with_read l = l.id
