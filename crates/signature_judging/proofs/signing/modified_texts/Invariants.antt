use Rattle.std.proofs.Common.{◌≡◌, take}
use Rattle.type_rules.specs.Statements.{texts}
use Rattle.signature_judging.proofs.signing.modified_texts.Given as goal

abbrev pub invariant-loop-name : goal.invariant-loop-name
invariant-loop-name l = l.names ≡ texts (take l.name-index l.modifies)
