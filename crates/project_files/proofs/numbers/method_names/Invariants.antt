use Rattle.std.proofs.Common.{◌≡◌, ℕ, List, map, take}
use Rattle.std.specs.Borrow.{Bor}
use Rattle.project_files.specs.Files.{decl_of, method_names}
use Rattle.project_files.proofs.numbers.method_names.Given as goal

abbrev pub invariant-loop-decl : goal.invariant-loop-decl
invariant-loop-decl l = map (λ (name : Bor (List ℕ)). name.now) l.names.items ≡ method_names (map decl_of (take l.decl-index l.decls))
