-- A declaration that is made of its parts.
use Rattle.std.proofs.Common.{◌≡◌, ℕ, ◌+◌, Bool, true, false, Option, List, [], ◌∷◌, ◌++◌, map, ap, ◌∙◌, subst}
use Rattle.std.proofs.lemmas.List.{map-append}
use Rattle.slang_values.specs.Value.{ValueType}
use Rattle.slang_tree.specs.declared.place.Place.{Place}
use Rattle.slang_tree.specs.declared.expression.Name.{Name}
use Rattle.slang_tree.specs.TypeTree.{TypeTree}
use Rattle.slang_tree.specs.ExprTree.{ExprTree}
use Rattle.program_trees.specs.Programs.{CodeTree}
use Rattle.program_trees.specs.Variables.{local}
use Rattle.lk_claims.specs.declared.ty.Ty.{Ty}
use Rattle.lk_claims.specs.Claim.{value_type}
use Rattle.type_rules.specs.Meanings.{Scope, with_local}
use Rattle.type_rules.specs.Expressions.{judged_right}
use Rattle.type_rules.specs.Statements.{declared_type}
use Rattle.typed_texts.specs.Code.{assigned, type_declared}
use Rattle.name_scopes.specs.declared.scope.NameScope.{NameScope}
use Rattle.name_scopes.specs.Fits.{Fits}
use Rattle.typed_names.specs.declared.nodes.Nodes.{Nodes}
use Rattle.typed_names.specs.declared.variables.Numbering.{Numbering}
use Rattle.typed_names.specs.Nodes.{IsMade}
use Rattle.call_making.specs.Codes.{numbered_code}
use Rattle.statement_judging.specs.Declaration.{declaration}
use Rattle.target_making.specs.Made.{IsCode}

pub declaration_made : (changes : Bool) (numbers : Numbering) (known : NameScope) (before after : Nodes) (types_before types_after : List Ty) (code : CodeTree ℕ)
    (at : Scope) (place : Place) (written : Name) (ty : Option TypeTree) (value : ExprTree) (found : Option ValueType) →
    found ≡ declared_type at ty (judged_right at value) →
    IsMade before after code (numbered_code numbers (assigned at place (local at.locals) value)) →
    map value_type types_after ≡ map value_type types_before ++ type_declared found ∷ [] →
    Fits known (with_local at written.text changes found) →
    IsCode numbers known before after types_before types_after code at (declaration changes place written ty value)
declaration_made true numbers known before after types_before types_after code at place written ty value found is made types fits = record {
  is = made;
  types = types ∙ ap (λ t. map value_type types_before ++ type_declared t ∷ []) is;
  fits = subst (λ t. Fits known (with_local at written.text true t)) is fits;
}
declaration_made false numbers known before after types_before types_after code at place written ty value found is made types fits = record {
  is = made;
  types = types ∙ ap (λ t. map value_type types_before ++ type_declared t ∷ []) is;
  fits = subst (λ t. Fits known (with_local at written.text false t)) is fits;
}

-- one type more
pub types_more : (before after : List Ty) (ty : Ty) (type : ValueType) → after ≡ before ++ ty ∷ [] → value_type ty ≡ type →
    map value_type after ≡ map value_type before ++ type ∷ []
types_more before after ty type is same =
    ap (map value_type) is ∙ map-append value_type before (ty ∷ []) ∙ ap (λ t. map value_type before ++ t ∷ []) same
