use Rattle.std.proofs.Common.{◌≡◌, map, take}
use Rattle.type_rules.specs.Meanings.{Scope}
use Rattle.typed_texts.specs.Code as typed
use Rattle.name_scopes.specs.Fits.{Fits}
use Rattle.typed_names.specs.Variables.{number_in}
use Rattle.target_making.proofs.targets.variables_meant.Given as goal

-- the numbers so far
abbrev pub invariant-loop-name : goal.invariant-loop-name
invariant-loop-name l =
    (at : Scope) → Fits l.scope at → l.found ≡ map (number_in l.numbers) (typed.variables_meant at (take l.name-index l.names))
