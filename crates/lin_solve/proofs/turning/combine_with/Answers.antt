use Rattle.std.proofs.lemmas.Result.{err_from_is_err_and}
use Rattle.lin_solve.proofs.TurnLemmas.{upper_taken, upper_ended}
use Rattle.lin_solve.proofs.turning.combine_with.Goals as goal

pub returns-in_err-combine_pair-clause-end : goal.returns-in_err-combine_pair-clause-end
returns-in_err-combine_pair-clause-end c =
    let p = err_from_is_err_and c.from_residual.result c.from_residual.ensures.1 in
    rw (p.1, p.2)
    (upper_ended c.args.lines.now.items c.loop-upper.lines.items c.loop-upper.kept c.args.lower c.args.uppers.now c.loop-upper.upper-index _ _ _ c.requires.lower c.requires.uppers c.loop-upper-test.true c.loop-upper.invariant c.in_err-combine_pair.ensures.end)

pub loop-upper-preserved : goal.loop-upper-preserved
loop-upper-preserved c =
    upper_taken c.args.lines.now.items c.loop-upper.lines.items c.combine_pair.new.lines.items c.loop-upper.kept c.combine_pair.new.kept c.args.lower c.args.uppers.now c.loop-upper.upper-index _ _ c.requires.lower c.requires.uppers c.loop-upper-test.true c.loop-upper.invariant c.in_ok-combine_pair.ensures.goes
