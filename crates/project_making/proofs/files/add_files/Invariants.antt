use Rattle.std.proofs.Common.{List, map, take}
use Rattle.slang_tree.specs.DeclTree.{DeclTree}
use Rattle.type_rules.specs.Projects.{scope_of}
use Rattle.typed_names.specs.Fields.{HasFields}
use Rattle.project_files.specs.Files.{file_of}
use Rattle.project_scopes.specs.IsProject.{IsProject}
use Rattle.project_making.specs.Members.{AreFilesAdded}
use Rattle.project_making.proofs.files.add_files.Given as goal

-- What the files so far stand for is made, and the scopes are still those of the project.
abbrev pub invariant-loop-number : goal.invariant-loop-number
invariant-loop-number l = record {
  added : (all : List DeclTree) → IsProject l.fn.known all → HasFields l.records (scope_of all)
      → AreFilesAdded l.globals l.fn.nodes.places l.nodes.places l.fn.members l.members all (map file_of (take l.number l.files));
  known : (all : List DeclTree) → IsProject l.fn.known all → HasFields l.records (scope_of all) → IsProject l.known all;
}
