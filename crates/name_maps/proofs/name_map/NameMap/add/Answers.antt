use Rattle.std.proofs.Common.{◌∙◌, ◌++◌, ◌∷◌, [], ap, map, sym, cond}
use Rattle.name_maps.specs.Names.{entry_of, is_named}
use Rattle.name_maps.proofs.Tables.{added}
use Rattle.name_maps.proofs.name_map.NameMap.add.Goals as goal

pub returns : goal.returns
returns g c =
    let text = c.args.name.now in
    let value = c.args.value in
    let before = c.self.inside.table.entries in
    let new = sym c.if-contains.ensures in
    ap (map entry_of) c.in_ok-insert.ensures.entries
    ∙ added text c.in_ok-name.name value before c.in_ok-name.ensures.ok (ap (λ es. is_named es text) c.self.view_is ∙ new)
    ∙ ap (λ es. es ++ (text, value) ∷ []) c.self.view_is
    ∙ ap (λ b. cond b c.args.self.now (c.args.self.now ++ (text, value) ∷ [])) (sym new)
