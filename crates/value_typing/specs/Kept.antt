-- What the values of a program and the claims of a text have in common, and that a claim has no loose variable.
use Rattle.std.specs.Prelude.{◌≡◌, ℕ, ◌<◌, List, Option, Some}
use Rattle.slang_values.specs.Value.{ValueType}
use Rattle.slang_values.specs.Typing.{IsClosed}
use Rattle.slang_tree.specs.ExprTree.{ExprTree}
use Rattle.program_trees.specs.Programs.{claim_of}
use Rattle.type_rules.specs.Meanings.{Meaning, bound_variable, block_variable, Scope, meaning_of}
use Rattle.type_rules.specs.Expressions.{Context, in_program, judged}
use Rattle.typed_texts.specs.Claims.{claim_of_tree}
use Rattle.typed_texts.specs.Values.{value_of_tree}

-- The name is no variable of a quantifier or of a block of a proof, which no expression of the program speaks of.
abbrev pub IsOfProgram : Option Meaning → Type 0
IsOfProgram (Some (bound_variable depth)) = ⊥
IsOfProgram (Some (block_variable label)) = ⊥
IsOfProgram other = Unit {0}

abbrev pub ValuesKeepClaims : Type 0
ValuesKeepClaims =
    (scope : Scope) → ((text : List ℕ) → IsOfProgram (meaning_of scope text)) → (tree : ExprTree) (t : ValueType) →
    (judged scope in_program tree).type ≡ Some t → (node : ℕ) → claim_of ((value_of_tree scope tree).from node) ≡ claim_of_tree scope in_program tree

-- the variable of a quantifier stands inside of that
abbrev pub IsInside : ℕ → Option Meaning → Type 0
IsInside depth (Some (bound_variable level)) = level < depth
IsInside depth other = Unit {0}

abbrev pub ClaimsAreClosed : Type 0
ClaimsAreClosed =
    (context : Context) (scope : Scope) → ((text : List ℕ) → IsInside scope.depth (meaning_of scope text)) → (tree : ExprTree) →
    IsClosed scope.depth (claim_of_tree scope context tree)
