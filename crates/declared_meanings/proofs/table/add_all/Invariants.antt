use Rattle.std.proofs.Common.{◌≡◌, [], drop, map}
use Rattle.type_rules.specs.Meanings.{Scope}
use Rattle.name_scopes.specs.Fits.{Fits}
use Rattle.project_files.specs.Files.{decl_of}
use Rattle.declared_meanings.specs.Declares.{DeclaresSoFar, NumbersMethods}
use Rattle.declared_meanings.proofs.table.add_all.Given as goal

-- The names so far mean what their declarations say, and the outline is the one before.
abbrev pub invariant-loop-decl : goal.invariant-loop-decl
invariant-loop-decl l =
    ((at : Scope) → Fits l.fn.outline at → NumbersMethods l.numbers (map decl_of l.decls) → l.fn.names ≡ []
    → DeclaresSoFar l.names at (map decl_of l.decls) l.globals l.records (map decl_of (drop l.decl-index l.decls)))
    × (l.outline ≡ l.fn.outline)
