use Rattle.std.proofs.Common.{inl, inr}
use Rattle.lin_solve.proofs.TurnLemmas.{nothing_combined, is_nothing}
use Rattle.lin_solve.proofs.turning.combined.Goals as goal
use Rattle.lin_solve.proofs.turning.combined.Goals.{then-is_empty-via-then-is_empty, then-is_empty-via-else-is_empty+then-is_empty-2}

pub returns-then-is_empty-clause-leaves : goal.returns-then-is_empty-clause-leaves
returns-then-is_empty-clause-leaves c =
    nothing_combined c.args.lines.now.items c.args.without.items c.args.lowers.now c.args.uppers.now
    (elim c.then-is_empty.branch [ then-is_empty-via-then-is_empty w ↦ inl (is_nothing c.args.lowers.now w.if-is_empty.ensures) | then-is_empty-via-else-is_empty+then-is_empty-2 w ↦ inr (is_nothing c.args.uppers.now w.if-is_empty-2.ensures) ])
    c.requires.stands
