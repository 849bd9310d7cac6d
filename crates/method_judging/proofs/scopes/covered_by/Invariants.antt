use Rattle.std.proofs.Common.{◌≡◌, ℕ, List, take}
use Rattle.std.specs.Set.{is_member}
use Rattle.std.specs.Str.{bytes_eq}
use Rattle.name_maps.specs.Names.{is_named}
use Rattle.type_rules.specs.Statements.{texts}
use Rattle.method_judging.proofs.scopes.covered_by.Given as goal

abbrev pub invariant-loop-name : goal.invariant-loop-name
invariant-loop-name l = (text : List ℕ) → is_named l.covered text ≡ is_member bytes_eq (texts (take l.name-index l.modifies)) text
