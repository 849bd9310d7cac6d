use Rattle.std.proofs.Common.{◌∙◌, ap, sym}
use Rattle.name_scopes.specs.Fits.{may_change}
use Rattle.name_scopes.proofs.Fitting.{covers_next, covers_stop}
use Rattle.name_scopes.proofs.scope.NameScope.covers_all.Goals as goal

pub loop-name-preserved : goal.loop-name-preserved
loop-name-preserved c = λ scope fits.
    covers_next scope c.args.modifies.now c.loop-name.name-index c.name-item.result c.loop-name-test.true c.name-item.is
    (ap (may_change scope) (sym c.as_str.ensures) ∙ sym (c.if-not-may_change.ensures scope fits)) (c.loop-name.invariant scope fits)

pub returns-then-not-may_change : goal.returns-then-not-may_change
returns-then-not-may_change c = λ scope fits.
    covers_stop scope c.args.modifies.now c.loop-name.name-index c.name-item.result c.loop-name-test.true c.name-item.is
    (ap (may_change scope) (sym c.as_str.ensures) ∙ sym (c.if-not-may_change.ensures scope fits)) (c.loop-name.invariant scope fits)
