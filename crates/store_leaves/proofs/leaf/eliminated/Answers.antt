use Rattle.std.proofs.Common.{Err, sym, subst}
use Rattle.elimination.specs.Elimination.{elimination}
use Rattle.whole_closing.specs.Closing.{by_ending}
use Rattle.store_leaves.specs.declared.end.LeafEnd.{LeafEnd}
use Rattle.store_leaves.specs.Ends.{IsLeafEnd}
use Rattle.store_leaves.proofs.Closings.{all_within, solve-end}
use Rattle.store_leaves.proofs.leaf.eliminated.Goals as goal

pub solve-requires : goal.solve-requires
solve-requires c = all_within c.args.rows.now c.requires

pub returns-in-Ok-clause-end : goal.returns-in-Ok-clause-end
returns-in-Ok-clause-end c = c.believed.ensures.end c.in-Ok.ensures.answer

pub returns-in-Err-clause-end : goal.returns-in-Err-clause-end
returns-in-Err-clause-end c =
    subst (λ (e : LeafEnd). IsLeafEnd (by_ending (elimination c.args.rows.now)) (Err e)) (sym c.from.ensures)
    (solve-end c.args.rows.now c.in-Err.end c.in-Err.ensures.end)
