use Rattle.std.proofs.lemmas.Result.{err_from_is_err_and}
use Rattle.lin_solve.proofs.TurnLemmas.{lower_taken, lower_ended}
use Rattle.lin_solve.proofs.turning.combine_all.Goals as goal

pub returns-in_err-combine_with-clause-end : goal.returns-in_err-combine_with-clause-end
returns-in_err-combine_with-clause-end c =
    let p = err_from_is_err_and c.from_residual.result c.from_residual.ensures.1 in
    rw (p.1, p.2)
    (lower_ended c.args.lines.now.items c.loop-lower.lines.items c.loop-lower.kept c.args.lowers.now c.args.uppers.now c.loop-lower.lower-index _ _ _ c.requires.lowers c.requires.uppers c.loop-lower-test.true c.loop-lower.invariant c.in_err-combine_with.ensures.end)

pub loop-lower-preserved : goal.loop-lower-preserved
loop-lower-preserved c =
    lower_taken c.args.lines.now.items c.loop-lower.lines.items c.combine_with.new.lines.items c.loop-lower.kept c.combine_with.new.kept c.args.lowers.now c.args.uppers.now c.loop-lower.lower-index _ _ c.requires.lowers c.requires.uppers c.loop-lower-test.true c.loop-lower.invariant c.in_ok-combine_with.ensures.goes
