use Rattle.std.proofs.Common.{◌≡◌, drop}
use Rattle.type_rules.specs.Meanings.{Scope, covers_all}
use Rattle.name_scopes.specs.Fits.{Fits}
use Rattle.name_scopes.proofs.scope.NameScope.covers_all.Given as goal

abbrev pub invariant-loop-name : goal.invariant-loop-name
invariant-loop-name l = (scope : Scope) → Fits l.self scope → covers_all scope l.modifies ≡ covers_all scope (drop l.name-index l.modifies)
