use Rattle.std.proofs.Common.{◌≡◌, [], ◌∷◌, ◌++◌, ◌+◌, ◌&&◌, ◌∙◌, ap, sym, take, map}
use Rattle.std.specs.Set.{is_member}
use Rattle.std.specs.Str.{bytes_eq}
use Rattle.std.proofs.lemmas.List.{map_more}
use Rattle.slang_tree.specs.declared.expression.Name.{Name}
use Rattle.name_maps.specs.Names.{is_named, with_name}
use Rattle.type_rules.specs.Statements.{texts}
use Rattle.name_scopes.proofs.Fitting.{none_covered, one_covered}
use Rattle.name_scopes.proofs.covering.covered_within.Goals as goal
use Rattle.name_scopes.proofs.covering.covered_within.Goals.{then-contains+in_ok-add, else-contains}

pub loop-name-preserved : goal.loop-name-preserved
loop-name-preserved c =
    let i = c.loop-name.name-index in
    let before = texts (take i c.args.modifies.now) in
    let covered = c.args.covered.now in
    let name = c.name-item.result.text in
    let more : texts (take (i + 1) c.args.modifies.now) ≡ before ++ name ∷ [] =
    map_more (λ (w : Name). w.text) c.args.modifies.now i c.name-item.result c.loop-name-test.true ∙ ap (λ (w : Name). before ++ w.text ∷ []) (sym c.name-item.is) in
    elim c.if-contains.branch [
      | then-contains+in_ok-add w ↦ λ text.
          ap (λ es. is_named es text) (w.inner-is ∙ w.in_ok-add.ensures ∙ ap (λ t. with_name c.loop-name.inner t tt) w.as_str-then-contains.ensures)
          ∙ one_covered c.loop-name.inner covered before name tt c.loop-name.invariant (ap (is_named covered) (sym c.as_str.ensures) ∙ sym w.if-contains.ensures) text
          ∙ ap (λ ns. is_named covered text && is_member bytes_eq ns text) (sym more)
      | else-contains w ↦ λ text.
          ap (λ es. is_named es text) w.inner-is
          ∙ none_covered c.loop-name.inner covered before name c.loop-name.invariant (ap (is_named covered) (sym c.as_str.ensures) ∙ sym w.if-contains.ensures) text
          ∙ ap (λ ns. is_named covered text && is_member bytes_eq ns text) (sym more)
    ]
