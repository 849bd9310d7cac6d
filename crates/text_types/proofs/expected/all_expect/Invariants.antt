use Rattle.std.proofs.Common.{◌≡◌, map, drop}
use Rattle.type_rules.specs.Judged.{all_expect}
use Rattle.type_faults.specs.FirstFault.{with_first}
use Rattle.text_types.specs.TextType.{text_value}
use Rattle.text_types.specs.Found.{seen}
use Rattle.text_types.proofs.expected.all_expect.Given as goal

abbrev pub invariant-loop-part : goal.invariant-loop-part
invariant-loop-part l =
    with_first l.told.found (all_expect (text_value l.ty) (map seen (drop l.part-index l.parts)))
    ≡ with_first l.fn.told.found (all_expect (text_value l.ty) (map seen l.parts))
