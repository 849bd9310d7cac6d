use Rattle.std.proofs.Common.{◌≡◌, map, drop}
use Rattle.type_rules.specs.Judged.{are_typed}
use Rattle.text_types.specs.Found.{seen}
use Rattle.text_types.proofs.expected.are_typed.Given as goal

abbrev pub invariant-loop-part : goal.invariant-loop-part
invariant-loop-part l = are_typed (map seen l.parts) ≡ are_typed (map seen (drop l.part-index l.parts))
