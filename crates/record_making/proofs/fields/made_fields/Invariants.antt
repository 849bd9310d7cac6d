use Rattle.std.proofs.Common.{ℕ, List, map, take}
use Rattle.slang_tree.specs.DeclTree.{field_tree}
use Rattle.type_rules.specs.Meanings.{Declared}
use Rattle.type_rules.specs.Records.{FieldTypes}
use Rattle.type_rules.specs.Projects.{fields_from}
use Rattle.signature_judging.specs.Knows.{Knows}
use Rattle.record_judging.specs.Fields.{AreAllowed}
use Rattle.record_making.specs.Records.{HasFieldTypes}
use Rattle.record_making.proofs.fields.made_fields.Given as goal

-- The fields so far are made.
abbrev pub invariant-loop-at : goal.invariant-loop-at
invariant-loop-at l =
    (names : List Declared) (written : FieldTypes) (n : ℕ) → Knows l.outline.names names → AreAllowed l.own names written n (map field_tree l.fields)
    → HasFieldTypes l.made (fields_from names written n 0 (map field_tree (take l.at l.fields)))
