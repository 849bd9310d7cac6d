use Rattle.std.proofs.Common.{◌≡◌, ◌+◌, ◌++◌, ◌∷◌, ◌∙◌, [], None, ap, append-nil, map, refl, sym, take}
use Rattle.std.proofs.lemmas.List.{map_more}
use Rattle.slang_tree.specs.DeclTree.{field_tree}
use Rattle.project_files.specs.Files.{decl_of}
use Rattle.record_parts.specs.Chains.{types_seen}
use Rattle.record_judging.specs.Written.{types_written, written_with}
use Rattle.record_judging.proofs.Table.{written_next}
use Rattle.record_judging.proofs.written.add_written.Goals as goal
use Rattle.record_judging.proofs.written.add_written.Goals.{in-None, in-Some+in_ok-own-in-Some+in_ok-push-in-Some}

pub loop-decl-preserved : goal.loop-decl-preserved
loop-decl-preserved c = λ names knows none.
    let i = c.loop-decl.decl-index in
    let decls = c.args.decls.now in
    let decl = decl_of c.decl-item.result in
    let types = c.loop-decl.types in
    let before = map decl_of (take i decls) in
    let all = map decl_of (take (i + 1) decls) in
    let split : all ≡ before ++ decl ∷ [] =
    map_more decl_of decls i c.decl-item.result c.loop-decl-test.true ∙ ap (λ d. before ++ decl_of d ∷ []) (sym c.decl-item.is) in
    let known : types_seen types ≡ written_with names before = c.loop-decl.invariant names knows none in
    elim c.match-record_of.branch [
      | in-None w ↦
          ap types_seen w.types-is ∙ written_next names types types [] before all decl None split w.in-None.ensures (sym (append-nil types)) refl known
      | in-Some+in_ok-own-in-Some+in_ok-push-in-Some w ↦
          ap types_seen w.types-is
          ∙ written_next names types w.push.new.self (w.in_ok-own-in-Some.own ∷ []) before all decl _ split w.in-Some.ensures w.in_ok-push-in-Some.ensures.ok
          (ap (λ t. t ∷ []) (w.in_ok-own-in-Some.ensures names knows ∙ ap (λ fs. types_written names (map field_tree fs)) w.as_slice.ensures)) known
    ]
