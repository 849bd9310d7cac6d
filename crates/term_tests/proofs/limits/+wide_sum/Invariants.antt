use Rattle.term_tests.proofs.limits.+wide_sum.Given as goal

abbrev pub decreases-wide_sum : goal.decreases-wide_sum
decreases-wide_sum l = l.height
