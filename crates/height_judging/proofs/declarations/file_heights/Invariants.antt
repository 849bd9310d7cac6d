use Rattle.std.proofs.Common.{◌≡◌, map, take}
use Rattle.slang_tree.specs.DeclTree.{decl_tree}
use Rattle.type_faults.specs.FirstFault.{with_first}
use Rattle.height_rules.specs.Faults.{decls_too_high}
use Rattle.height_judging.proofs.declarations.file_heights.Given as goal

-- the declarations so far were told of
abbrev pub invariant-loop-decl : goal.invariant-loop-decl
invariant-loop-decl l = l.told.found ≡ with_first l.fn.told.found (decls_too_high (map decl_tree (take l.decl-index l.decls)))
