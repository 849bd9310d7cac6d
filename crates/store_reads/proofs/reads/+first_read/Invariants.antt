use Rattle.store_reads.proofs.reads.+first_read.Given as goal

abbrev pub decreases-first_read : goal.decreases-first_read
decreases-first_read l = l.id
