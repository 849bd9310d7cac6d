-- A global that is made from the results of its parts.
use Rattle.std.proofs.Common.{◌≡◌, ℕ, Bool, Result, List, ap, ap₂, ◌∙◌}
use Rattle.std.specs.Prelude.{IfOk}
use Rattle.std.proofs.lemmas.Result.{IfOk-at_ok, IfOk-weaker}
use Rattle.std.specs.Option.{option_map}
use Rattle.slang_values.specs.Value.{ValueType}
use Rattle.slang_tree.specs.declared.declaration.GlobalDecl.{GlobalDecl}
use Rattle.slang_tree.specs.TypeTree.{type_tree}
use Rattle.slang_tree.specs.DeclTree.{const_tree, global_decl_tree}
use Rattle.program_trees.specs.Programs.{GlobalTree, TypedExpr}
use Rattle.lk_claims.specs.declared.ty.Ty.{Ty}
use Rattle.lk_claims.specs.Claim.{value_type}
use Rattle.lk_programs.specs.declared.expression.Expr.{Expr}
use Rattle.lk_programs.specs.declared.program.Global.{Global}
use Rattle.lk_programs.specs.Expr.{typed_expr}
use Rattle.lk_programs.specs.Program.{global_tree}
use Rattle.type_rules.specs.Meanings.{Scope}
use Rattle.type_rules.specs.Constants.{judged_const}
use Rattle.type_rules.specs.Statements.{declared_type}
use Rattle.typed_texts.specs.Code.{type_declared}
use Rattle.name_scopes.specs.declared.scope.NameScope.{NameScope}
use Rattle.name_scopes.specs.Fits.{Fits}
use Rattle.typed_names.specs.declared.nodes.Nodes.{Nodes}
use Rattle.typed_names.specs.Nodes.{IsMade}
use Rattle.constant_making.specs.Constants.{constant_in}
use Rattle.claim_making.specs.Parts.{FromThree}
use Rattle.global_making.specs.Globals.{IsGlobalOf, global_in}

-- the type that is declared for it
abbrev pub type_in : Scope → GlobalDecl → ValueType
type_in at decl = type_declared (declared_type at (option_map type_tree decl.ty) (judged_const at (const_tree decl.init)))

abbrev global_by : Bool → ValueType → TypedExpr ℕ → GlobalTree ℕ
global_by fixed type initial = record { fixed = fixed; type = type; initial = initial }

pub global_made : {E : Type 0} (known : NameScope) (before after : Nodes) (decl : GlobalDecl) (name : Result (List ℕ) E) (ty : Result Ty E) (init : Result
    Expr E) (made : Result Global E) →
    IfOk ty (λ t. (at : Scope) → Fits known at → value_type t ≡ type_in at decl) →
    IfOk init (λ v. (at : Scope) → Fits known at → IsMade before after (typed_expr v) (constant_in at (const_tree decl.init))) →
    IfOk made (FromThree name ty init (IsGlobalOf decl.fixed)) →
    IfOk made (λ g. (at : Scope) → Fits known at → IsMade before after (global_tree g) (global_in at (global_decl_tree decl)))
global_made known before after decl name ty init made typed valued from =
    IfOk-weaker made (FromThree name ty init (IsGlobalOf decl.fixed))
    (λ g. (at : Scope) → Fits known at → IsMade before after (global_tree g) (global_in at (global_decl_tree decl)))
    (λ g parts at fits.
    let value = IfOk-at_ok (λ v. (at : Scope) → Fits known at → IsMade before after (typed_expr v) (constant_in at (const_tree decl.init)))
    parts.was_third valued at fits in
    let type = IfOk-at_ok (λ t. (at : Scope) → Fits known at → value_type t ≡ type_in at decl) parts.was_second typed at fits in record {
      added = value.added;
      is = ap global_tree parts.is ∙ ap₂ (global_by decl.fixed) type value.is;
    }) from

pub global_named : {E : Type 0} (fixed : Bool) (text : List ℕ) (name : Result (List ℕ) E) (ty : Result Ty E) (init : Result Expr E) (made : Result Global E) →
    IfOk name (λ t. t ≡ text) → IfOk made (FromThree name ty init (IsGlobalOf fixed)) → IfOk made (λ g. g.name ≡ text)
global_named fixed text name ty init made named from =
    IfOk-weaker made (FromThree name ty init (IsGlobalOf fixed)) (λ g. g.name ≡ text)
    (λ g parts. ap (λ (h : Global). h.name) parts.is ∙ IfOk-at_ok (λ t. t ≡ text) parts.was_first named) from
