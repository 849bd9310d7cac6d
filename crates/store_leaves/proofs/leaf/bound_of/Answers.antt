use Rattle.std.proofs.Common.{ℕ, List, ◌<◌, length, subst, arith}
use Rattle.std.specs.List.{All}
use Rattle.std.proofs.lemmas.List.{take_all}
use Rattle.store_leaves.proofs.Closings.{number_within, one_above}
use Rattle.store_leaves.proofs.leaf.bound_of.Goals as goal

pub above-next-requires-clause-number : goal.above-next-requires-clause-number
above-next-requires-clause-number c =
    let l : c.loop-at.at < length c.args.literals.now = omega arith in
    let there = number_within c.args.store.now c.args.literals.now c.loop-at.at c.id_there-literal.result c.requires l c.id_there-literal.ensures in
    omega (arith, there, c.len-count.ensures.count)

pub loop-at-preserved : goal.loop-at-preserved
loop-at-preserved c =
    let l : c.loop-at.at < length c.args.literals.now = omega arith in
    record {
      above = one_above c.loop-at.bound c.above-next.result c.args.literals.now c.loop-at.at c.id_there-literal.result l c.id_there-literal.ensures
          c.loop-at.invariant.above c.above-next.ensures.kept c.above-next.ensures.above;
      within = omega (arith, c.above-next.ensures.within, c.len-count.ensures.count);
    }

pub returns-clause-above : goal.returns-clause-above
returns-clause-above c =
    subst (λ (ks : List ℕ). All (λ (k : ℕ). k < c.loop-at.bound) ks) (take_all c.loop-at.at c.args.literals.now (omega arith)) c.loop-at.invariant.above
