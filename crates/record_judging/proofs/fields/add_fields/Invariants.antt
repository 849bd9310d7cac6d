use Rattle.std.proofs.Common.{◌≡◌, ℕ, [], List, drop, map}
use Rattle.slang_tree.specs.DeclTree.{field_tree}
use Rattle.type_rules.specs.Meanings.{Declared}
use Rattle.type_rules.specs.Records.{FieldTypes}
use Rattle.signature_judging.specs.Knows.{Knows}
use Rattle.record_judging.specs.Fields.{AreAllowed, FieldsSoFar}
use Rattle.record_judging.proofs.fields.add_fields.Given as goal

-- The fields so far were judged.
abbrev pub invariant-loop-at : goal.invariant-loop-at
invariant-loop-at l =
    (names : List Declared) (written : FieldTypes) (n : ℕ) → Knows l.outline.names names → AreAllowed l.own names written n (map field_tree l.fields)
    → l.fn.types ≡ [] → l.fn.by_name ≡ []
    → FieldsSoFar l.fn.told.found l.told.found l.typed l.types l.by_name l.own names written n (map field_tree l.fields) l.at (map field_tree (drop l.at l.fields))
