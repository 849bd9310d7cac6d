use Rattle.std.proofs.Common.{List, map, take}
use Rattle.slang_tree.specs.DeclTree.{DeclTree, decl_tree}
use Rattle.type_rules.specs.Projects.{scope_of}
use Rattle.typed_names.specs.Fields.{HasFields}
use Rattle.project_scopes.specs.IsProject.{IsProject}
use Rattle.project_making.specs.Members.{AreAdded}
use Rattle.project_making.proofs.files.add_decls.Given as goal

-- What the declarations so far stand for is made, and the scopes are still those of the project.
abbrev pub invariant-loop-decl : goal.invariant-loop-decl
invariant-loop-decl l = record {
  added : (all : List DeclTree) → IsProject l.fn.known all → HasFields l.records (scope_of all)
      → AreAdded l.globals l.fn.nodes l.nodes l.fn.members l.members all (map decl_tree (take l.decl-index l.decls));
  known : (all : List DeclTree) → IsProject l.fn.known all → HasFields l.records (scope_of all) → IsProject l.known all;
}
