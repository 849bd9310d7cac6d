use Rattle.std.proofs.Common.{◌≡◌, [], take}
use Rattle.type_rules.specs.Meanings.{Scope}
use Rattle.type_rules.specs.Statements.{modifies_faults}
use Rattle.type_faults.specs.FirstFault.{with_first}
use Rattle.name_scopes.specs.Fits.{Fits}
use Rattle.target_judging.specs.MayBeNamed.{may_be_named}
use Rattle.target_judging.proofs.Modified.{HasTexts, texts_behind}
use Rattle.target_judging.proofs.modifying.modifies.Given as goal

-- The names so far were told of, and are in the table.
abbrev pub invariant-loop-name : goal.invariant-loop-name
invariant-loop-name l = record {
  told : (at : Scope) → Fits l.scope at → l.told.found ≡ with_first l.fn.told.found (modifies_faults (may_be_named l.may) at [] (take l.name-index l.names));
  has : HasTexts l.before (texts_behind [] (take l.name-index l.names));
}
