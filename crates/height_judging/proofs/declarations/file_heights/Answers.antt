use Rattle.std.proofs.Common.{◌≡◌, ◌+◌, ◌++◌, ◌∙◌, [], ◌∷◌, map, take, sym, ap, append-nil}
use Rattle.std.proofs.lemmas.List.{map_more}
use Rattle.slang_tree.specs.DeclTree.{decl_tree}
use Rattle.type_faults.specs.FirstFault.{with_first}
use Rattle.height_rules.specs.Faults.{decl_too_high, decls_too_high}
use Rattle.height_judging.proofs.Told.{part_more, mapped-join}
use Rattle.height_judging.proofs.declarations.file_heights.Goals as goal

pub loop-decl-preserved : goal.loop-decl-preserved
loop-decl-preserved c =
    let i = c.loop-decl.decl-index in
    let xs = c.args.decls.now in
    let before = map decl_tree (take i xs) in
    let more : map decl_tree (take (i + 1) xs) ≡ before ++ decl_tree c.decl-item.result ∷ [] =
    map_more decl_tree xs i c.decl-item.result c.loop-decl-test.true ∙ ap (λ x. before ++ decl_tree x ∷ []) (sym c.decl-item.is) in
    part_more c.args.told.now.found c.loop-decl.told.found c.declaration_heights.new.told.found (decls_too_high) (mapped-join decl_too_high) before (map decl_tree (take (i + 1) xs)) (decl_tree c.decl-item.result) more
    c.loop-decl.invariant
    (c.declaration_heights.ensures ∙ ap (with_first c.loop-decl.told.found) (sym (append-nil (decl_too_high (decl_tree c.decl-item.result)))))
