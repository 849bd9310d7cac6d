-- Files and declarations of the code, as the rules see them.
use Rattle.std.specs.Prelude.{ℕ, zero, suc, ◌+◌, if◌then◌else◌, List, [], ◌∷◌, map, filter_map}
use Rattle.std.specs.Borrow.{Bor}
use Rattle.name_maps.specs.Names.{with_name}
use Rattle.slang_tree.specs.declared.declaration.NamedFile.{NamedFile}
use Rattle.slang_tree.specs.declared.declaration.Decl.{Decl}
use Rattle.slang_tree.specs.DeclTree.{DeclTree, decl_tree, file_tree}
use Rattle.type_rules.specs.Faults.{precedes}
use Rattle.type_rules.specs.Projects.{FileTree, method_of}

abbrev pub file_seen : NamedFile → FileTree
file_seen file = record { name = file.name; decls = file_tree file.tree }

abbrev pub file_of : Bor NamedFile → FileTree
file_of file = file_seen file.now

abbrev pub decl_of : Bor Decl → DeclTree
decl_of decl = decl_tree decl.now

-- the place of a file behind those whose names do not come after its own
abbrev pub place_behind : FileTree → List FileTree → ℕ
place_behind file [] = 0
place_behind file (next ∷ files) = if precedes file.name next.name then 0 else place_behind file files + 1

-- the names of the methods among declarations
abbrev pub method_names : List DeclTree → List (List ℕ)
method_names decls = map (λ decl. decl.written.text) (filter_map method_of decls)

-- names with their numbers, from this number on, behind others
abbrev pub numbers_with : List (List ℕ × ℕ) → ℕ → List (List ℕ) → List (List ℕ × ℕ)
numbers_with entries n [] = entries
numbers_with entries n (text ∷ texts) = numbers_with (with_name entries text n) (n + 1) texts
