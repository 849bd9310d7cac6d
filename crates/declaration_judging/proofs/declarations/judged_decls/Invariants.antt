use Rattle.std.proofs.Common.{◌≡◌, ◌++◌, List, map, take}
use Rattle.slang_tree.specs.DeclTree.{DeclTree, decl_tree}
use Rattle.type_rules.specs.Projects.{decls_faults}
use Rattle.type_faults.specs.FirstFault.{with_first}
use Rattle.project_scopes.specs.IsProject.{IsProject}
use Rattle.declarations_before.specs.IsBefore.{IsBefore}
use Rattle.declaration_judging.proofs.declarations.judged_decls.Given as goal

-- What is wrong with the declarations so far was told of, and they stand before those behind them.
abbrev pub invariant-loop-decl : goal.invariant-loop-decl
invariant-loop-decl l = record {
  told : (all front rest : List DeclTree) → IsProject l.fn.known all → IsBefore l.fn.before front → all ≡ front ++ map decl_tree l.decls ++ rest
      → l.told.found ≡ with_first l.fn.told.found (decls_faults all front (map decl_tree (take l.decl-index l.decls)));
  before : (front : List DeclTree) → IsBefore l.fn.before front → IsBefore l.before (front ++ map decl_tree (take l.decl-index l.decls));
  known : (all : List DeclTree) → IsProject l.fn.known all → IsProject l.known all;
}
