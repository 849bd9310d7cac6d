use Rattle.std.proofs.Common.{◌∙◌, ap}
use Rattle.std.specs.Option.{option_map}
use Rattle.name_scopes.specs.Meanings.{meant}
use Rattle.name_scopes.proofs.Named.{declared-named}
use Rattle.name_scopes.proofs.scope.NameScope.meaning.Goals as goal

pub returns-clause-names : goal.returns-clause-names
returns-clause-names c = ap (option_map meant) c.find.ensures ∙ declared-named c.args.self.now.names c.args.name.now

pub returns-clause-fits : goal.returns-clause-fits
returns-clause-fits c = λ scope fits. ap (option_map meant) c.find.ensures ∙ fits.names c.args.name.now
