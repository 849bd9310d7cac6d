use Rattle.std.proofs.Common.{◌≡◌, ◌++◌, drop, map}
use Rattle.std.specs.Option.{option_map}
use Rattle.type_rules.specs.Meanings.{all_typed}
use Rattle.signature_judging.specs.Knows.{type_seen, types_seen}
use Rattle.signature_judging.proofs.signing.all_typed.Given as goal

abbrev pub invariant-loop-found : goal.invariant-loop-found
invariant-loop-found l =
    all_typed (map type_seen l.founds) ≡ option_map (λ rest. types_seen l.types ++ rest) (all_typed (map type_seen (drop l.found-index l.founds)))
