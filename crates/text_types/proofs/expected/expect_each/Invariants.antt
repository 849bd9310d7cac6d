use Rattle.std.proofs.Common.{◌≡◌, map, drop}
use Rattle.type_rules.specs.Judged.{expect_each}
use Rattle.type_faults.specs.FirstFault.{with_first}
use Rattle.text_types.specs.TextType.{text_value}
use Rattle.text_types.specs.Found.{seen}
use Rattle.text_types.proofs.expected.expect_each.Given as goal

abbrev pub invariant-loop-at : goal.invariant-loop-at
invariant-loop-at l =
    with_first l.told.found (expect_each (map text_value (drop l.at l.types)) (map seen (drop l.at l.parts)))
    ≡ with_first l.fn.told.found (expect_each (map text_value l.types) (map seen l.parts))
