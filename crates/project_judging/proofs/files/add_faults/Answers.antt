use Rattle.std.proofs.Common.{◌≡◌, [], ◌∷◌, ◌++◌, ◌+◌, ◌∙◌, ap, append_assoc, append-nil, drop, map, subst, sym, take}
use Rattle.std.proofs.lemmas.List.{map_more}
use Rattle.type_rules.specs.Faults.{first_fault}
use Rattle.slang_tree.specs.DeclTree.{file_tree}
use Rattle.project_files.specs.Files.{file_of}
use Rattle.declarations_before.specs.IsBefore.{IsBefore}
use Rattle.project_judging.specs.Ordered.{decls_of, fault_in, faults_behind, file_faults}
use Rattle.project_judging.proofs.Behind.{decls_more, faults_more, stands_among}
use Rattle.project_judging.proofs.files.add_faults.Goals as goal

pub loop-file-init : goal.loop-file-init
loop-file-init c = record {
  faults = λ all front rest project before stands. sym (append-nil c.args.faults.now);
  before = λ front before. subst (IsBefore c.args.before.now) (sym (append-nil front)) before;
  known = λ all project. project;
}

pub loop-file-preserved : goal.loop-file-preserved
loop-file-preserved c =
    let i = c.loop-file.file-index in
    let files = c.args.files.now in
    let file = c.file-item.result in
    let own = file_tree file.now.tree in
    let name = file.now.name in
    let seen = map file_of (take i files) in
    let more : map file_of (take (i + 1) files) ≡ seen ++ file_of file ∷ [] =
    map_more file_of files i file c.loop-file-test.true ∙ ap (λ f. seen ++ file_of f ∷ []) (sym c.file-item.is) in
    record {
      faults = λ all front rest project before stands.
          let found = c.in_ok-told.ensures.told all (front ++ decls_of seen) (decls_of (map file_of (drop (i + 1) files)) ++ rest)
          (c.loop-file.invariant.known all project) (c.loop-file.invariant.before front before)
          (stands_among all front rest files i file c.loop-file-test.true c.file-item.is stands) in
          c.in_ok-add_fault.ensures
          ∙ ap (λ f. c.loop-file.faults ++ fault_in name f) found
          ∙ ap (λ fs. fs ++ fault_in name (first_fault (file_faults all (front ++ decls_of seen) own))) (c.loop-file.invariant.faults all front rest project before stands)
          ∙ append_assoc c.args.faults.now (faults_behind all front seen) (fault_in name (first_fault (file_faults all (front ++ decls_of seen) own)))
          ∙ ap (λ fs. c.args.faults.now ++ fs) (sym (faults_more all front seen (file_of file)) ∙ ap (faults_behind all front) (sym more));
      before = λ front before.
          subst (IsBefore c.judged_file.new.before)
          (append_assoc front (decls_of seen) own ∙ ap (λ ds. front ++ ds) (sym (decls_more seen (file_of file)) ∙ ap decls_of (sym more)))
          (c.in_ok-told.ensures.before (front ++ decls_of seen) (c.loop-file.invariant.before front before));
      known = λ all project. c.in_ok-told.ensures.known all (c.loop-file.invariant.known all project);
    }
