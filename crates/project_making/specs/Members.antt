-- Globals and methods that were made behind others, with their nodes.
use Rattle.std.specs.Prelude.{◌≡◌, ℕ, List, [], ◌∷◌, ◌++◌, length, map, filter_map, flat_map}
use Rattle.program_trees.specs.Variables.{no_number, numbered_method}
use Rattle.slang_tree.specs.DeclTree.{GlobalDeclTree, DeclTree, import_decl, global_decl, record_decl, method_decl}
use Rattle.program_trees.specs.Programs.{renamed_global}
use Rattle.lk_programs.specs.declared.program.Global.{Global}
use Rattle.lk_programs.specs.declared.program.NodePlace.{NodePlace}
use Rattle.lk_programs.specs.Program.{global_tree, method_tree}
use Rattle.type_rules.specs.Projects.{FileTree, global_of}
use Rattle.typed_texts.specs.Numbered.{Numbered, placed}
use Rattle.typed_texts.specs.TypedProjects.{Members as MembersTree, NodeAt, in_file, members_from, members_of}
use Rattle.typed_names.specs.declared.nodes.Nodes.{Nodes}
use Rattle.project_making.specs.declared.members.Members.{Members}

abbrev pub file_name : FileTree → List ℕ
file_name file = file.name

-- how many globals a declaration is
abbrev pub globals_in : DeclTree → ℕ
globals_in (import_decl place path) = 0
globals_in (global_decl decl) = 1
globals_in (record_decl decl) = 0
globals_in (method_decl decl) = 0

abbrev pub node_seen : NodePlace → NodeAt
node_seen node = in_file node.file node.place

abbrev pub global_name : Global → List ℕ
global_name global = global.name

-- the names of the globals among declarations
abbrev pub names_declared : List DeclTree → List (List ℕ)
names_declared decls = map (λ (decl : GlobalDeclTree). decl.written.text) (filter_map global_of decls)

-- Members were made in a program of so many globals: their nodes, their globals and their methods stand behind the others.
pub record AreMade (globals : ℕ) (before after : List NodePlace) (old new : Members) (part : Numbered NodeAt MembersTree) : Type 0 where
  pub added : map node_seen after ≡ map node_seen before ++ part.places
  pub globals_are : map global_tree new.globals ≡ map global_tree old.globals ++ map (renamed_global no_number) (part.from (length before)).globals
  pub methods_are : map method_tree new.methods.items ≡ map method_tree old.methods.items ++ map (numbered_method globals) (part.from (length before)).methods

-- What these declarations stand for was made, in the file of the nodes.
pub record AreAdded (globals : ℕ) (before after : Nodes) (old new : Members) (decls own : List DeclTree) : Type 0 where
  pub file : after.file ≡ before.file
  pub made : AreMade globals before.places after.places old new (placed (in_file before.file) (members_of decls own))
  pub names : map global_name new.globals ≡ map global_name old.globals ++ names_declared own

-- the same of one declaration
abbrev pub IsAdded : ℕ → Nodes → Nodes → Members → Members → List DeclTree → DeclTree → Type 0
IsAdded globals before after old new decls decl = AreAdded globals before after old new decls (decl ∷ [])

-- the declarations of files in this order
abbrev pub decls_in : List FileTree → List DeclTree
decls_in files = flat_map (λ file. file.decls) files

-- What the declarations of these files stand for was made.
pub record AreFilesAdded (globals : ℕ) (before after : List NodePlace) (old new : Members) (decls : List DeclTree) (files : List FileTree) : Type 0 where
  pub made : AreMade globals before after old new (members_from decls 0 files)
  pub names : map global_name new.globals ≡ map global_name old.globals ++ names_declared (decls_in files)
