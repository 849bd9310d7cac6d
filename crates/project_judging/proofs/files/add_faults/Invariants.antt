use Rattle.std.proofs.Common.{◌≡◌, ◌++◌, List, map, take}
use Rattle.slang_tree.specs.DeclTree.{DeclTree}
use Rattle.project_files.specs.Files.{file_of}
use Rattle.project_scopes.specs.IsProject.{IsProject}
use Rattle.declarations_before.specs.IsBefore.{IsBefore}
use Rattle.project_judging.specs.Ordered.{decls_of, faults_behind}
use Rattle.project_judging.proofs.files.add_faults.Given as goal

-- The first faults of the files so far are there, and their declarations stand before those behind them.
abbrev pub invariant-loop-file : goal.invariant-loop-file
invariant-loop-file l = record {
  faults : (all front rest : List DeclTree) → IsProject l.fn.known all → IsBefore l.fn.before front → all ≡ front ++ decls_of (map file_of l.files) ++ rest
      → l.faults ≡ l.fn.faults ++ faults_behind all front (map file_of (take l.file-index l.files));
  before : (front : List DeclTree) → IsBefore l.fn.before front → IsBefore l.before (front ++ decls_of (map file_of (take l.file-index l.files)));
  known : (all : List DeclTree) → IsProject l.fn.known all → IsProject l.known all;
}
