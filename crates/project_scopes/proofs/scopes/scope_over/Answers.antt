use Rattle.std.proofs.Common.{refl}
use Rattle.project_scopes.proofs.Over.{fits_over}
use Rattle.project_scopes.proofs.scopes.scope_over.Goals as goal

pub returns-clause-fits : goal.returns-clause-fits
returns-clause-fits c = λ declared fields knows are.
    fits_over (record { names = c.args.names; records = c.args.records; covered = c.new.result; outside = c.new-2.result; locals = 0; depth = 0 }) declared fields knows are c.new.ensures refl refl
