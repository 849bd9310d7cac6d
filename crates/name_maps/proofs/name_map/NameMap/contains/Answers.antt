use Rattle.std.proofs.Common.{◌∙◌, ap}
use Rattle.std.specs.Option.{is_some}
use Rattle.name_maps.specs.Names.{named}
use Rattle.name_maps.proofs.Tables.{found}
use Rattle.name_maps.proofs.name_map.NameMap.contains.Goals as goal

pub returns : goal.returns
returns g c =
    c.contains_key.ensures
    ∙ ap is_some (found c.args.name.now c.self.inside.table.entries ∙ ap (λ entries. named entries c.args.name.now) c.self.view_is)
