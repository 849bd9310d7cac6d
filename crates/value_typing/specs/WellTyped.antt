-- The claims and the values of a text are well typed in the program, where its scope fits.
use Rattle.std.specs.Prelude.{◌≡◌, ℕ, ◌+◌, ◌≤◌, List, length, Some}
use Rattle.slang_values.specs.Value.{ValueType, truth_type}
use Rattle.slang_values.specs.Measure.{height}
use Rattle.slang_values.specs.Typing.{NameTypes}
use Rattle.slang_tree.specs.ExprTree.{ExprTree}
use Rattle.program_trees.specs.Claims.{ClaimName}
use Rattle.program_trees.specs.Variables.{Variable}
use Rattle.typed_programs.specs.Parts.{expr_height}
use Rattle.typed_programs.specs.Scopes.{claim_names, IsClaimOver, IsValueIn}
use Rattle.typed_programs.specs.Scopes as programs
use Rattle.type_rules.specs.Meanings.{Scope, meaning_of}
use Rattle.type_rules.specs.Expressions.{Context, in_program, judged}
use Rattle.typed_texts.specs.Claims.{claim_of_tree}
use Rattle.typed_texts.specs.Values.{value_of_tree}
use Rattle.claim_typing.specs.Fits.{FitsScope}
use Rattle.value_typing.specs.Kept.{IsOfProgram, IsInside}

-- A claim of the text that is found to be a truth value is a claim of the program, if it is not too high.
abbrev pub ClaimsAreWellTyped : Type 0
ClaimsAreWellTyped =
    (place : programs.Scope) (names : NameTypes (ClaimName Variable)) (context : Context) (scope : Scope) →
    FitsScope place.program.records names context scope → ((text : List ℕ) → IsInside 0 (meaning_of scope text)) → scope.depth ≡ 0 →
    (tree : ExprTree) → (judged scope context tree).type ≡ Some truth_type → height (claim_of_tree scope context tree) ≤ 2000 →
    IsClaimOver place names (claim_of_tree scope context tree)

-- An expression of the text that is found to be of a type is a value of that type in the program, if it is not too high, and if there are
-- as many nodes as it needs.
abbrev pub ValuesAreWellTyped : Type 0
ValuesAreWellTyped =
    (place : programs.Scope) (scope : Scope) → FitsScope place.program.records (claim_names place) in_program scope →
    ((text : List ℕ) → IsOfProgram (meaning_of scope text)) → (tree : ExprTree) (t : ValueType) (node : ℕ) →
    (judged scope in_program tree).type ≡ Some t → node + length (value_of_tree scope tree).places ≤ place.nodes →
    expr_height ((value_of_tree scope tree).from node) ≤ 1000 → IsValueIn place t ((value_of_tree scope tree).from node)
