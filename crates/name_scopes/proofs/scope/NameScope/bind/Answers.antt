use Rattle.std.proofs.Common.{refl}
use Rattle.name_scopes.proofs.Fitting.{fits_bound}
use Rattle.name_scopes.proofs.scope.NameScope.bind.Goals as goal

pub returns-clause-fits : goal.returns-clause-fits
returns-clause-fits c = λ scope fits.
    fits_bound c.args.self.now _ scope c.args.name.now c.in_ok-add.ensures refl refl refl c.in_ok-depth.ensures.1 fits
