use Rattle.std.proofs.Common.{◌≡◌, pos, true, subst, sym}
use Rattle.lin_rows.specs.Cut.{divides}
use Rattle.lin_rows.specs.Inequality.{Inequality}
use Rattle.lin_rows.proofs.CutLaws.{RisesFrom-cut}
use Rattle.lin_rows.proofs.cutting.cut.Goals as goal

pub new-requires : goal.new-requires
new-requires c =
    let d = subst (λ (r : Inequality). divides (pos c.args.by) r.parts ≡ true) (sym c.row.view_is) c.requires.divides in
    rw (c.in_ok-parts.ensures, c.deref.ensures.value) (RisesFrom-cut 0 _ _ d c.row.invariant)
