use Rattle.std.proofs.Common.{subst}
use Rattle.std.proofs.lemmas.Result.{IfOk-weaker, IfErr-weaker}
use Rattle.elimination.specs.Elimination.{Progress}
use Rattle.lin_solve.specs.Answers.{EndsAs}
use Rattle.lin_solve.proofs.TurnLemmas.{combined-next_rows, Leaves-same}
use Rattle.lin_solve.proofs.turning.next.Goals as goal

pub returns-clause-leaves : goal.returns-clause-leaves
returns-clause-leaves c =
    let all = combined-next_rows c.args.lines.now.items c.deref.result.now c.args.kept.now c.args.variable c.in_ok-parted.parted _ _ c.deref.ensures.value c.deref-2.ensures.value c.deref-3.ensures.value c.in_ok-parted.ensures in
    IfOk-weaker c.combined.result _ _ (λ ks l. Leaves-same c.args.lines.now.items c.combined.new.lines.items ks.items _ _ all l) c.combined.ensures.leaves

pub returns-clause-end : goal.returns-clause-end
returns-clause-end c =
    let all = combined-next_rows c.args.lines.now.items c.deref.result.now c.args.kept.now c.args.variable c.in_ok-parted.parted _ _ c.deref.ensures.value c.deref-2.ensures.value c.deref-3.ensures.value c.in_ok-parted.ensures in
    IfErr-weaker c.combined.result _ _ (λ e h. subst (λ (p : Progress). EndsAs e p) all h) c.combined.ensures.end
