use Rattle.std.proofs.Common.{◌≡◌, List, map, take}
use Rattle.slang_tree.specs.DeclTree.{field_tree}
use Rattle.type_rules.specs.Meanings.{Declared}
use Rattle.record_parts.specs.Chains.{fields_seen}
use Rattle.signature_judging.specs.Knows.{Knows}
use Rattle.record_judging.specs.Written.{types_written}
use Rattle.record_judging.proofs.written.types_written.Given as goal

abbrev pub invariant-loop-field : goal.invariant-loop-field
invariant-loop-field l = (names : List Declared) → Knows l.outline.names names → fields_seen l.types ≡ types_written names (map field_tree (take l.field-index l.fields))
