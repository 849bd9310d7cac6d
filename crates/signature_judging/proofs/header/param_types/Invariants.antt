use Rattle.std.proofs.Common.{◌≡◌, List, length, map, take}
use Rattle.slang_tree.specs.DeclTree.{param_tree}
use Rattle.type_rules.specs.Meanings.{Declared}
use Rattle.type_rules.specs.Projects.{names_with, param_types}
use Rattle.text_types.specs.Found.{AreJudged}
use Rattle.signature_judging.specs.Knows.{Knows}
use Rattle.signature_judging.proofs.header.param_types.Given as goal

-- The parameters so far were judged and are known, behind the names before.
abbrev pub invariant-loop-param : goal.invariant-loop-param
invariant-loop-param l =
    ((names : List Declared) → Knows l.fn.outline.names names
    → AreJudged l.fn.told.found l.told.found l.founds (param_types names (map param_tree (take l.param-index l.params))))
    × ((names : List Declared) → Knows l.fn.outline.names names → Knows l.outline.names (names_with names (map param_tree (take l.param-index l.params))))
    × (take (length l.fn.outline.names) l.outline.names ≡ l.fn.outline.names)
    × (record l.outline { names = l.fn.outline.names } ≡ l.fn.outline)
