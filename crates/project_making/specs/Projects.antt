-- The typed program of a project, as it was made.
use Rattle.std.specs.Prelude.{◌≡◌, ℕ, List, length, map, filter_map}
use Rattle.program_trees.specs.Variables.{no_number, numbered_method, numbered_program}
use Rattle.slang_tree.specs.DeclTree.{DeclTree}
use Rattle.program_trees.specs.Programs.{renamed_global}
use Rattle.lk_programs.specs.declared.program.RecordTy.{RecordTy}
use Rattle.lk_programs.specs.declared.typed.Typed.{Typed}
use Rattle.lk_programs.specs.Program.{global_tree, method_tree}
use Rattle.lk_programs.specs.Typed.{program_tree}
use Rattle.type_rules.specs.Projects.{FileTree, global_of}
use Rattle.typed_texts.specs.TypedProjects.{NamedFields, TypedProject, members_from, sorted}
use Rattle.typed_names.specs.Fields.{names_of}
use Rattle.record_making.specs.Records.{AreRecordsOf}
use Rattle.project_making.specs.declared.project.ProjectParts.{ProjectParts}
use Rattle.project_making.specs.declared.project.Sorted.{Sorted}
use Rattle.project_making.specs.Members.{decls_in, file_name, global_name, names_declared, node_seen}

-- They are the globals, the methods in order and the nodes of files in this order, in a program of these declarations and so many globals.
pub record AreMembersOf (globals : ℕ) (made : Sorted) (decls : List DeclTree) (files : List FileTree) : Type 0 where
  pub nodes : map node_seen made.nodes ≡ (members_from decls 0 files).places
  pub globals_are : map global_tree made.globals ≡ map (renamed_global no_number) ((members_from decls 0 files).from 0).globals
  pub methods_are : map method_tree made.methods ≡ map (numbered_method globals) (sorted ((members_from decls 0 files).from 0).methods)
  pub names : map global_name made.globals ≡ names_declared (decls_in files)

-- They are the parts of the program of files in this order.
pub record ArePartsOf (parts : ProjectParts) (files : List FileTree) : Type 0 where
  pub files_are : parts.files ≡ map file_name files
  pub records : AreRecordsOf parts.records (decls_in files)
  pub members : AreMembersOf (length (filter_map global_of (decls_in files))) parts.sorted (decls_in files) files

abbrev pub record_named : RecordTy → NamedFields
record_named made = record { name = made.name; fields = names_of made.fields }

-- It is this typed program over numbers, with its names and its nodes.
pub record IsTypedOf (made : Typed) (project : TypedProject) : Type 0 where
  pub files : made.files ≡ project.files
  pub record_names : map record_named made.records ≡ project.record_names
  pub global_names : map global_name made.globals ≡ project.global_names
  pub program : program_tree made ≡ numbered_program project.program
  pub nodes : map node_seen made.nodes ≡ project.nodes
