use Rattle.std.proofs.Common.{◌∙◌, ap, map, take}
use Rattle.name_maps.specs.Names.{entry_of}
use Rattle.name_maps.proofs.Tables.{left}
use Rattle.name_maps.proofs.name_map.NameMap.leave.Goals as goal

pub returns : goal.returns
returns g c =
    ap (map entry_of) c.truncate.ensures.entries ∙ left c.args.count c.self.inside.table.entries ∙ ap (take c.args.count) c.self.view_is
