use Rattle.std.proofs.Common.{refl}
use Rattle.name_scopes.proofs.Fitting.{fits_local}
use Rattle.name_scopes.proofs.scope.NameScope.declare.Goals as goal

pub returns-clause-fits : goal.returns-clause-fits
returns-clause-fits c = λ scope fits.
    fits_local c.args.self.now _ scope c.args.name.now c.args.changes c.args.ty c.in_ok-add.ensures refl c.in_ok-add-2.ensures c.in_ok-locals.ensures.1 refl fits
