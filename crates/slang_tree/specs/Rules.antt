-- The rules of deduction: the name and the number of each, and how many labels a step by it cites.
use Rattle.std.specs.Prelude.{ℕ, ◌==◌, List, [], ◌∷◌, Option, Some, None, if◌then◌else◌, codes}
use Rattle.std.specs.Str.{bytes_eq}
use Rattle.std.specs.Borrow.{Bor}
use Rattle.slang_tree.specs.declared.rules.Cited.{Cited}
use Rattle.slang_tree.specs.declared.rules.Cited.TheVariants.{Exactly, Any}
use Rattle.slang_tree.specs.declared.rules.Rule.{Rule}

pub record NamedRule : Type 0 where
  pub name : List ℕ
  pub rule : Rule

abbrev pub row : List ℕ → ℕ → Cited → NamedRule
row name number cited = record { name = name; rule = record { number = number; cited = cited } }

unfoldable pub rules : List NamedRule
rules =
    row (codes "Premise") 0 (Exactly 0) ∷
    row (codes "AndI") 1 (Exactly 2) ∷
    row (codes "AndE1") 2 (Exactly 1) ∷
    row (codes "AndE2") 3 (Exactly 1) ∷
    row (codes "OrI1") 4 (Exactly 1) ∷
    row (codes "OrI2") 5 (Exactly 1) ∷
    row (codes "OrE") 6 (Exactly 3) ∷
    row (codes "ImplyI") 7 (Exactly 1) ∷
    row (codes "ImplyE") 8 (Exactly 2) ∷
    row (codes "NegI") 9 (Exactly 1) ∷
    row (codes "NegE") 10 (Exactly 2) ∷
    row (codes "BottomE") 11 (Exactly 1) ∷
    row (codes "PbC") 12 (Exactly 1) ∷
    row (codes "AllI") 13 (Exactly 1) ∷
    row (codes "AllE") 14 (Exactly 2) ∷
    row (codes "ExistsI") 15 (Exactly 2) ∷
    row (codes "ExistsE") 16 (Exactly 2) ∷
    row (codes "Algebra") 17 Any ∷
    row (codes "Auto") 18 (Exactly 0) ∷
    row (codes "Subst_<") 19 (Exactly 2) ∷
    row (codes "Subst_>") 20 (Exactly 2) ∷
    []

-- a row as the code keeps it
abbrev pub row_of : Bor (List ℕ) × ℕ × Cited → NamedRule
row_of written = row written.0.now written.1 written.2

abbrev pub named_in : List NamedRule → List ℕ → Option Rule
named_in [] name = None
named_in (first ∷ rows) name = if bytes_eq first.name name then Some first.rule else named_in rows name

abbrev pub numbered_in : List NamedRule → ℕ → Option Rule
numbered_in [] number = None
numbered_in (first ∷ rows) number = if first.rule.number == number then Some first.rule else numbered_in rows number

-- the rule of that name
abbrev pub rule_named : List ℕ → Option Rule
rule_named name = named_in rules name

-- the rule of that number
abbrev pub rule_numbered : ℕ → Option Rule
rule_numbered number = numbered_in rules number
