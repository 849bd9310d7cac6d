use Rattle.std.proofs.Common.{◌≡◌, [], ◌∷◌, ◌++◌, ◌+◌, ◌∙◌, ap, append_assoc, append-nil, drop, map, subst, sym, take}
use Rattle.std.proofs.lemmas.List.{map_more}
use Rattle.slang_tree.specs.DeclTree.{decl_tree}
use Rattle.text_types.proofs.Parts.{with_none}
use Rattle.declarations_before.specs.IsBefore.{IsBefore}
use Rattle.declaration_judging.proofs.Behind.{decls_more}
use Rattle.declaration_judging.proofs.Standing.{stands_among}
use Rattle.declaration_judging.proofs.declarations.judged_decls.Goals as goal

pub loop-decl-init : goal.loop-decl-init
loop-decl-init c = record {
  told = λ all front rest project before stands. sym (with_none c.args.told.now.found);
  before = λ front before. subst (IsBefore c.args.before.now) (sym (append-nil front)) before;
  known = λ all project. project;
}

pub loop-decl-preserved : goal.loop-decl-preserved
loop-decl-preserved c =
    let i = c.loop-decl.decl-index in
    let decls = c.args.decls.now in
    let decl = c.decl-item.result in
    let trees = map decl_tree (take i decls) in
    let more : map decl_tree (take (i + 1) decls) ≡ trees ++ decl_tree decl ∷ [] =
    map_more decl_tree decls i decl c.loop-decl-test.true ∙ ap (λ d. trees ++ decl_tree d ∷ []) (sym c.decl-item.is) in
    record {
      told = λ all front rest project before stands.
          decls_more c.args.told.now.found c.loop-decl.told.found c.judged_decl.new.told.found all front trees (map decl_tree (take (i + 1) decls)) (decl_tree decl) more
          (c.loop-decl.invariant.told all front rest project before stands)
          (c.in_ok-judged_decl.ensures.told all (front ++ trees) (map decl_tree (drop (i + 1) decls) ++ rest)
          (c.loop-decl.invariant.known all project) (c.loop-decl.invariant.before front before)
          (stands_among all front rest decls i decl c.loop-decl-test.true c.decl-item.is stands));
      before = λ front before.
          subst (IsBefore c.judged_decl.new.before) (append_assoc front trees (decl_tree decl ∷ []) ∙ ap (λ ds. front ++ ds) (sym more))
          (c.in_ok-judged_decl.ensures.before (front ++ trees) (c.loop-decl.invariant.before front before));
      known = λ all project. c.in_ok-judged_decl.ensures.known all (c.loop-decl.invariant.known all project);
    }
