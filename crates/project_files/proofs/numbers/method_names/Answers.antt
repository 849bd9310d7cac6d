use Rattle.std.proofs.Common.{◌≡◌, ◌++◌, ◌∷◌, ◌+◌, ◌∙◌, [], ℕ, List, Option, append-nil, map, take, ap, refl, sym}
use Rattle.std.specs.Borrow.{Bor}
use Rattle.std.specs.List.{cons_option}
use Rattle.std.proofs.lemmas.List.{map-append, map_more}
use Rattle.slang_tree.specs.DeclTree.{MethodDeclTree}
use Rattle.project_files.specs.Files.{decl_of, method_names}
use Rattle.project_files.proofs.Numbering.{names_in, names_more, one_more, text_of}
use Rattle.project_files.proofs.numbers.method_names.Goals as goal
use Rattle.project_files.proofs.numbers.method_names.Goals.{in-Some+in_ok-push-in-Some, in-None}

pub loop-decl-preserved : goal.loop-decl-preserved
loop-decl-preserved c =
    let i = c.loop-decl.decl-index in
    let before = map decl_of (take i c.args.decls.now) in
    let decl = decl_of c.decl-item.result in
    let more : map decl_of (take (i + 1) c.args.decls.now) ≡ before ++ decl ∷ [] =
    map_more decl_of c.args.decls.now i c.decl-item.result c.loop-decl-test.true ∙ ap (λ x. before ++ decl_of x ∷ []) (sym c.decl-item.is) in
    let all : method_names before ++ method_names (decl ∷ []) ≡ method_names (map decl_of (take (i + 1) c.args.decls.now)) =
    sym (names_more before decl) ∙ ap method_names (sym more) in
    elim c.match-method_of.branch [
      | in-Some+in_ok-push-in-Some w ↦
          ap (λ v. map text_of v.items) w.names-is
          ∙ one_more _ c.loop-decl.names.items _ before decl _ _ w.in_ok-push-in-Some.ensures.items c.loop-decl.invariant w.as_str.ensures w.in-Some.ensures refl
          ∙ all
      | in-None w ↦
          ap (λ v. map text_of v.items) w.names-is
          ∙ c.loop-decl.invariant
          ∙ sym (append-nil (method_names before))
          ∙ ap (λ found. method_names before ++ names_in found) w.in-None.ensures
          ∙ all
    ]
