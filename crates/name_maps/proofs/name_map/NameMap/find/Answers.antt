use Rattle.std.proofs.Common.{◌∙◌, ap}
use Rattle.name_maps.specs.Names.{named}
use Rattle.name_maps.proofs.Tables.{found}
use Rattle.name_maps.proofs.name_map.NameMap.find.Goals as goal

pub returns : goal.returns
returns g c = c.get.ensures.value ∙ found c.args.name.now c.self.inside.table.entries ∙ ap (λ entries. named entries c.args.name.now) c.self.view_is
