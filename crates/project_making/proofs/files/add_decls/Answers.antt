use Rattle.std.proofs.Common.{◌≡◌, ◌+◌, ◌++◌, ◌∷◌, ◌∙◌, [], ap, map, sym, take}
use Rattle.std.proofs.lemmas.List.{map_more}
use Rattle.slang_tree.specs.DeclTree.{decl_tree}
use Rattle.project_making.proofs.Adding.{added_more, added_none}
use Rattle.project_making.proofs.files.add_decls.Goals as goal

pub loop-decl-init : goal.loop-decl-init
loop-decl-init c = record {
  added = λ all project fields. added_none c.args.globals all c.args.nodes.now c.args.members.now;
  known = λ all project fields. project;
}

pub loop-decl-preserved : goal.loop-decl-preserved
loop-decl-preserved c =
    let i = c.loop-decl.decl-index in
    let decls = c.args.decls.now in
    let before = map decl_tree (take i decls) in
    let more : map decl_tree (take (i + 1) decls) ≡ before ++ decl_tree c.decl-item.result ∷ [] =
    map_more decl_tree decls i c.decl-item.result c.loop-decl-test.true ∙ ap (λ x. before ++ decl_tree x ∷ []) (sym c.decl-item.is) in record {
      added = λ all project fields.
          added_more c.args.globals all c.args.nodes.now c.loop-decl.nodes c.add_decl.new.nodes c.args.members.now c.loop-decl.members c.add_decl.new.members
          before (map decl_tree (take (i + 1) decls)) (decl_tree c.decl-item.result) more (c.loop-decl.invariant.added all project fields)
          (c.in_ok-add_decl.ensures.added all (c.loop-decl.invariant.known all project fields) fields);
      known = λ all project fields. c.in_ok-add_decl.ensures.known all (c.loop-decl.invariant.known all project fields) fields;
    }
