use Rattle.std.proofs.Common.{◌≡◌, ◌∙◌, ◌++◌, ◌∷◌, ◌+◌, [], ap, false, None, length, map, subst, sym, take}
use Rattle.std.proofs.lemmas.List.{map_more}
use Rattle.slang_tree.specs.DeclTree.{param_tree}
use Rattle.type_rules.specs.Projects.{names_with, param_types}
use Rattle.text_types.specs.Found.{AreJudged}
use Rattle.name_scopes.specs.declared.meaning.Meaning.TheVariants as m
use Rattle.name_scopes.specs.declared.scope.NameScope.{NameScope}
use Rattle.name_maps.specs.Names.{with_name}
use Rattle.signature_judging.specs.Knows.{Knows}
use Rattle.signature_judging.proofs.Parameters.{front_kept, known_more, types_more}
use Rattle.signature_judging.proofs.header.param_types.Goals as goal

pub loop-param-preserved : goal.loop-param-preserved
loop-param-preserved c =
    let i = c.loop-param.param-index in
    let params = c.args.params.now in
    let before = map param_tree (take i params) in
    let param = param_tree c.param-item.result in
    let more : map param_tree (take (i + 1) params) ≡ before ++ param ∷ [] =
    map_more param_tree params i c.param-item.result c.loop-param-test.true ∙ ap (λ p. before ++ param_tree p ∷ []) (sym c.param-item.is) in
    let table = with_name c.loop-param.outline.names param.written.text (m.Global 0 false None) in
    let names-are : c.param_type.new.outline.names ≡ table = ap (λ (o : NameScope). o.names) c.in_ok-found.ensures.known in (
      λ names knows.
          subst (λ fs. AreJudged c.args.told.now.found c.param_type.new.told.found fs (param_types names (map param_tree (take (i + 1) params)))) (sym c.in_ok-push.ensures.ok)
          (types_more names before (map param_tree (take (i + 1) params)) param more (c.loop-param.invariant.0 names knows) (c.in_ok-found.ensures.judged (names_with names before) (c.loop-param.invariant.1 names knows))),
      λ names knows.
          subst (Knows c.param_type.new.outline.names) (ap (names_with names) (sym more))
          (subst (λ t. Knows t (names_with names (before ++ param ∷ []))) (sym names-are) (known_more c.loop-param.outline.names names before param (c.loop-param.invariant.1 names knows))),
      ap (take (length c.args.outline.now.names)) names-are ∙ front_kept c.args.outline.now.names c.loop-param.outline.names param.written.text (m.Global 0 false None) c.loop-param.invariant.2,
      ap (λ (o : NameScope). record o { names = c.args.outline.now.names }) c.in_ok-found.ensures.known ∙ c.loop-param.invariant.3,
    )
