use Rattle.std.proofs.Common.{◌≡◌, [], ◌∷◌, ◌++◌, ◌+◌, ◌∙◌, ap, sym, take}
use Rattle.std.specs.Set.{is_member}
use Rattle.std.specs.Str.{bytes_eq}
use Rattle.std.proofs.lemmas.List.{map_more}
use Rattle.slang_tree.specs.declared.expression.Name.{Name}
use Rattle.name_maps.specs.Names.{is_named, with_name}
use Rattle.type_rules.specs.Statements.{texts}
use Rattle.method_judging.proofs.Covered.{covered_next}
use Rattle.method_judging.proofs.scopes.covered_by.Goals as goal

pub loop-name-preserved : goal.loop-name-preserved
loop-name-preserved c =
    let i = c.loop-name.name-index in
    let before = texts (take i c.args.modifies.now) in
    let name = c.name-item.result.text in
    let more : texts (take (i + 1) c.args.modifies.now) ≡ before ++ name ∷ [] =
    map_more (λ (w : Name). w.text) c.args.modifies.now i c.name-item.result c.loop-name-test.true ∙ ap (λ (w : Name). before ++ w.text ∷ []) (sym c.name-item.is) in
    λ text.
    ap (λ es. is_named es text) (c.in_ok-add.ensures ∙ ap (λ t. with_name c.loop-name.covered t tt) c.as_str.ensures)
    ∙ covered_next c.loop-name.covered before name tt c.loop-name.invariant text
    ∙ ap (λ ns. is_member bytes_eq ns text) (sym more)
