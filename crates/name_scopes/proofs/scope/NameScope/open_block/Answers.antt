use Rattle.std.proofs.Common.{refl}
use Rattle.std.proofs.lemmas.Result.{on_ok_weaker}
use Rattle.name_scopes.proofs.Fitting.{fits_block}
use Rattle.name_scopes.proofs.scope.NameScope.open_block.Goals as goal

pub returns-clause-fits : goal.returns-clause-fits
returns-clause-fits c =
    on_ok_weaker c.add.result (λ h scope fits. fits_block c.args.self.now _ scope c.args.name.now c.args.label h refl refl refl refl fits) c.add.ensures
