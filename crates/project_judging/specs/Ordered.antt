-- The first faults of files that are in order.
use Rattle.std.specs.Prelude.{ℕ, List, [], ◌∷◌, ◌++◌, filter_map, flat_map, Option, Some, None}
use Rattle.slang_tree.specs.declared.place.Fault.{Fault}
use Rattle.slang_tree.specs.declared.place.FileFault.{FileFault}
use Rattle.slang_tree.specs.DeclTree.{DeclTree}
use Rattle.type_rules.specs.Projects.{FileTree, decls_faults, first_of_file}
use Rattle.height_rules.specs.Faults.{decls_too_high, whole_files_faults}

-- the declarations of files
abbrev pub decls_of : List FileTree → List DeclTree
decls_of files = flat_map (λ file. file.decls) files

-- what is wrong with the declarations of a file, behind these others
abbrev pub file_faults : List DeclTree → (before : List DeclTree) → List DeclTree → List Fault
file_faults all before decls = decls_faults all before decls ++ decls_too_high decls

-- the fault of a file of this name, if it has one
abbrev pub fault_in : List ℕ → Option Fault → List FileFault
fault_in name None = []
fault_in name (Some fault) = record { file = name; fault = fault } ∷ []

-- the first faults of files that stand behind others, in a project of these declarations
abbrev pub faults_behind : List DeclTree → (before : List DeclTree) → List FileTree → List FileFault
faults_behind all before files = filter_map first_of_file (whole_files_faults all before files)

-- the first faults of files in this order
abbrev pub faults_in_order : List FileTree → List FileFault
faults_in_order files = faults_behind (decls_of files) [] files
