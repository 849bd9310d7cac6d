use Rattle.std.proofs.Common.{◌≡◌, ◌++◌, flat_map, map, take}
use Rattle.slang_tree.specs.DeclTree.{decl_tree}
use Rattle.type_rules.specs.Projects.{FileTree}
use Rattle.project_files.specs.Files.{decl_of, file_of}
use Rattle.project_files.proofs.files.declarations.Given as goal

abbrev pub invariant-loop-file : goal.invariant-loop-file
invariant-loop-file l = map decl_of l.decls.items ≡ flat_map (λ (file : FileTree). file.decls) (map file_of (take l.file-index l.files))

abbrev pub invariant-loop-decl : goal.invariant-loop-decl
invariant-loop-decl l = map decl_of l.decls.items ≡ map decl_of l.initial.decls.items ++ map decl_tree (take l.decl-index l.decl-items)
