use Rattle.std.proofs.Common.{◌≡◌, ◌+◌, ◌++◌, ◌∷◌, ◌∙◌, [], ap, arith, length, map, subst, sym, take}
use Rattle.std.proofs.lemmas.List.{length-map, length-take-le, map_more, take_all}
use Rattle.slang_tree.specs.DeclTree.{decl_tree}
use Rattle.project_files.specs.Files.{file_of}
use Rattle.typed_names.specs.declared.nodes.Nodes.{Nodes}
use Rattle.project_making.specs.Members.{AreAdded, AreFilesAdded}
use Rattle.project_making.proofs.Adding.{files_added, files_none}
use Rattle.project_making.proofs.files.add_files.Goals as goal

pub loop-number-init : goal.loop-number-init
loop-number-init c = record {
  added = λ all project fields. files_none c.args.globals all c.args.nodes.now.places c.args.members.now;
  known = λ all project fields. project;
}

pub loop-number-preserved : goal.loop-number-preserved
loop-number-preserved c =
    let i = c.loop-number.number in
    let files = c.args.files.now in
    let file = c.index-files-number.result in
    let before = map file_of (take i files) in
    let more : map file_of (take (i + 1) files) ≡ before ++ file_of file ∷ [] =
    map_more file_of files i file c.loop-number-test.true ∙ ap (λ f. before ++ file_of f ∷ []) (sym c.index-files-number.is) in
    let between : Nodes = record { file = c.in_ok-at.at; places = c.loop-number.nodes.places } in
    let here : c.in_ok-at.at ≡ length before =
    omega (arith, c.in_ok-at.ensures, length-map (take i files) file_of, length-take-le i files (omega (arith, c.loop-number-test.true))) in record {
      added = λ all project fields.
          files_added c.args.globals all c.args.nodes.now.places between c.add_decls.new.nodes c.args.members.now c.loop-number.members c.add_decls.new.members
          before (map file_of (take (i + 1) files)) (file_of file) more here (c.loop-number.invariant.added all project fields)
          (subst (λ ds. AreAdded c.args.globals between c.add_decls.new.nodes c.loop-number.members c.add_decls.new.members all (map decl_tree ds))
          c.as_slice-decls.ensures
          (c.in_ok-add_decls.ensures.added all (c.loop-number.invariant.known all project fields) fields));
      known = λ all project fields. c.in_ok-add_decls.ensures.known all (c.loop-number.invariant.known all project fields) fields;
    }

pub returns : goal.returns
returns c = λ all project fields.
    subst (λ fs. AreFilesAdded c.args.globals c.args.nodes.now.places c.loop-number.nodes.places c.args.members.now c.loop-number.members all (map file_of fs))
    (take_all c.loop-number.number c.args.files.now c.loop-number-test.false) (c.loop-number.invariant.added all project fields)
