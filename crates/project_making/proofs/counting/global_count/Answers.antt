use Rattle.std.proofs.Common.{◌≡◌, ◌+◌, ◌++◌, ◌∷◌, ◌∙◌, [], ap, map, sym, take}
use Rattle.std.proofs.lemmas.List.{map_more}
use Rattle.project_files.specs.Files.{decl_of}
use Rattle.project_making.proofs.Single.{counted_more}
use Rattle.project_making.proofs.counting.global_count.Goals as goal

pub loop-decl-preserved : goal.loop-decl-preserved
loop-decl-preserved c =
    let i = c.loop-decl.decl-index in
    let decls = c.args.decls.now in
    let before = map decl_of (take i decls) in
    let more : map decl_of (take (i + 1) decls) ≡ before ++ decl_of c.decl-item.result ∷ [] =
    map_more decl_of decls i c.decl-item.result c.loop-decl-test.true ∙ ap (λ x. before ++ decl_of x ∷ []) (sym c.decl-item.is) in
    counted_more before (map decl_of (take (i + 1) decls)) (decl_of c.decl-item.result) c.loop-decl.count c.global_in.result c.in_ok-next.next more
    c.loop-decl.invariant c.global_in.ensures c.in_ok-next.ensures
