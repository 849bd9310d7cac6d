-- Where no name has a fault in what is written for its types, an expression has a type exactly where it has no fault.
use Rattle.std.specs.Prelude.{◌≡◌, ◌↔◌, ℕ, true, List, [], is_some, Some, None}
use Rattle.std.specs.List.{AllByRecursion}
use Rattle.slang_tree.specs.ExprTree.{ExprTree}
use Rattle.type_rules.specs.Meanings.{Meaning, Scope, meaning_of, fields_of, is_well_declared}
use Rattle.type_rules.specs.Expressions.{Context, in_ensures, judged}

-- the type of the result has no fault
abbrev pub HasResultType : Context → Type 0
HasResultType (in_ensures None) = ⊥
HasResultType other = Unit {0}

-- Each name has the types that are written for it, and so has each field of each record.
pub record IsWellDeclared (context : Context) (scope : Scope) : Type 0 where
  pub names : (text : List ℕ) (meaning : Meaning) → meaning_of scope text ≡ Some meaning → is_well_declared scope meaning ≡ true
  pub fields : (n : ℕ) → AllByRecursion (λ f. is_some f.type ≡ true) (fields_of scope n)
  pub result : HasResultType context

abbrev pub TypedWhereFaultless : Type 0
TypedWhereFaultless =
    (context : Context) (scope : Scope) → IsWellDeclared context scope → (tree : ExprTree) →
    ((judged scope context tree).faults ≡ []) ↔ (is_some (judged scope context tree).type ≡ true)
