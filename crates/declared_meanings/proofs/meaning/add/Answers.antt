use Rattle.std.proofs.Common.{◌∙◌, ap}
use Rattle.std.specs.Option.{option_map}
use Rattle.std.proofs.lemmas.Result.{on_ok_weaker}
use Rattle.name_maps.specs.Names.{named}
use Rattle.name_scopes.specs.Meanings.{meant}
use Rattle.name_scopes.proofs.Named.{names_with}
use Rattle.declared_meanings.proofs.meaning.add.Goals as goal

pub returns : goal.returns
returns c =
    on_ok_weaker c.add.result (λ h done knows text. ap (λ es. option_map meant (named es text)) h ∙ names_with c.args.names.now done c.args.name.now c.args.meaning knows text) c.add.ensures
