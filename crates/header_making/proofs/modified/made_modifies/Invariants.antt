use Rattle.std.proofs.Common.{◌≡◌, map, take}
use Rattle.slang_tree.specs.declared.expression.Name.{Name}
use Rattle.type_rules.specs.Meanings.{Scope, meaning_of}
use Rattle.typed_texts.specs.TypedProjects.{global_meant}
use Rattle.name_scopes.specs.Fits.{Fits}
use Rattle.header_making.proofs.modified.made_modifies.Given as goal

-- The numbers so far are those of the globals that the names so far mean.
abbrev pub invariant-loop-name : goal.invariant-loop-name
invariant-loop-name l =
    (at : Scope) → Fits l.scope at → l.made ≡ map (λ (written : Name). global_meant (meaning_of at written.text)) (take l.name-index l.modifies)
