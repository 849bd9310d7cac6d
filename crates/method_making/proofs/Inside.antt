-- The code of a method with its return.
use Rattle.std.proofs.Common.{◌≡◌, ℕ, Result, Ok, Option, Some, None, false, List, [], ◌∷◌, ◌++◌, map, refl, sym, ap, ◌∙◌}
use Rattle.std.specs.Prelude.{IfOk}
use Rattle.std.specs.Option.{option_map}
use Rattle.std.proofs.lemmas.Result.{IfOk-at_ok, IfOk-weaker}
use Rattle.slang_values.specs.Value.{ValueType}
use Rattle.slang_tree.specs.StmtTree.{stmts_of}
use Rattle.slang_tree.specs.DeclTree.{MethodDeclTree, TypedName}
use Rattle.program_trees.specs.Programs.{CodeTree, CodeTrees, no_code, code_then, renamed_code, renamed_codes}
use Rattle.program_trees.specs.Variables.{Variable}
use Rattle.lk_claims.specs.declared.ty.Ty.{Ty}
use Rattle.lk_claims.specs.Claim.{value_type}
use Rattle.lk_programs.specs.declared.program.Code.{Code}
use Rattle.lk_programs.specs.declared.program.RecordTy.{RecordTy}
use Rattle.lk_programs.specs.Program.{code_tree, code_trees}
use Rattle.type_rules.specs.Meanings.{Field, Scope, with_local}
use Rattle.type_rules.specs.Judged.{Judged}
use Rattle.type_rules.specs.Projects.{with_params}
use Rattle.typed_texts.specs.Code.{code_of_trees, locals_of_trees}
use Rattle.typed_texts.specs.TypedProjects.{with_return}
use Rattle.name_scopes.specs.declared.scope.NameScope.{NameScope}
use Rattle.typed_names.specs.declared.nodes.Nodes.{Nodes}
use Rattle.typed_names.specs.declared.variables.Numbering.{Numbering}
use Rattle.typed_names.specs.Fields.{HasFields}
use Rattle.typed_names.specs.Nodes.{IsMade}
use Rattle.typed_names.specs.Variables.{number_in}
use Rattle.typed_names.proofs.Made.{made_joined}
use Rattle.claim_making.specs.Parts.{FromTwo}
use Rattle.statement_judging.proofs.Behind.{behind_all-fields}
use Rattle.method_judging.specs.Bodies.{behind_body, within_body}
use Rattle.call_making.specs.Codes.{numbered_codes}
use Rattle.code_making.specs.Made.{AreCode}
use Rattle.method_making.specs.declared.bodies.Body.{Body}
use Rattle.method_making.specs.Methods.{Numbers, return_in, with_code}
use Rattle.method_making.specs.Made.{IsBody}

-- ---- a return behind code

pub with_renamed : (f : Numbers) (codes : CodeTrees Variable) (returned : Option (CodeTree Variable)) →
    renamed_codes f (with_return codes returned) ≡ with_code (renamed_codes f codes) (option_map (renamed_code f) returned)
with_renamed f no_code None = refl
with_renamed f no_code (Some code) = refl
with_renamed f (code_then first codes) returned = ap (code_then (renamed_code f first)) (with_renamed f codes returned)

pub none_behind : (codes : List Code) → code_trees codes ≡ with_code (code_trees codes) None
none_behind [] = refl
none_behind (first ∷ codes) = ap (code_then (code_tree first)) (none_behind codes)

pub one_behind : (codes : List Code) (code : Code) → code_trees (codes ++ code ∷ []) ≡ with_code (code_trees codes) (Some (code_tree code))
one_behind [] code = refl
one_behind (first ∷ codes) code = ap (code_then (code_tree first)) (one_behind codes code)

-- ---- the records' fields in the scopes of a method

params-fields : (scope : Scope) (params : List TypedName) (types : List Judged) → (with_params scope params types).fields ≡ scope.fields
params-fields scope [] types = refl
params-fields scope (param ∷ params) [] = refl
params-fields scope (param ∷ params) (type ∷ types) = params-fields (with_local scope param.written.text false type.type) params types

abbrev texts_in : List (List Field) → List (List (List ℕ))
texts_in fields = map (λ (fs : List Field). map (λ (f : Field). f.text) fs) fields

pub fields_within : (records : List RecordTy) (scope : Scope) (params : List TypedName) (types : List Judged) → HasFields records scope →
    HasFields records (with_params scope params types)
fields_within records scope params types has = has ∙ ap texts_in (sym (params-fields scope params types))

pub fields_behind : (records : List RecordTy) (scope : Scope) (decl : MethodDeclTree) → HasFields records scope → HasFields records (behind_body scope decl)
fields_behind records scope decl has = has ∙ ap texts_in (sym (behind_all-fields (within_body scope decl.modifies) (stmts_of decl.body)))

-- ---- a body

abbrev pub Whole : List Code → Option Code → List Code → Type 0
Whole codes returned all = code_trees all ≡ with_code (code_trees codes) (option_map code_tree returned)

pub body_is : (numbers : Numbering) (behind : NameScope) (before between after : Nodes) (types : List ValueType) (start locals : List Ty) (at : Scope)
    (decl : MethodDeclTree) (codes : List Code) (returned : Option Code) (body : Body) →
    map value_type start ≡ types →
    AreCode numbers behind before between start locals (code_trees codes) (within_body at decl.modifies) (stmts_of decl.body) →
    IsMade between after (option_map code_tree returned) (return_in (number_in numbers) (behind_body at decl) decl.returned) →
    body.locals ≡ locals → Whole codes returned body.code → IsBody numbers before after types body at decl
body_is numbers behind before between after types start locals at decl codes returned body typed code given is_locals is =
    let own = locals_of_trees (within_body at decl.modifies) (stmts_of decl.body) in
    let made = made_joined before between after with_code (code_trees codes) (option_map code_tree returned)
    (numbered_codes numbers (code_of_trees (within_body at decl.modifies) (stmts_of decl.body)))
    (return_in (number_in numbers) (behind_body at decl) decl.returned) code.is given in record {
      code = record { added = made.added; is = is ∙ made.is };
      locals = ap (map value_type) is_locals ∙ code.types ∙ ap (λ ts. ts ++ own) typed;
    }

-- what follows from the parts of a body that was made
pub on_made : {E : Type 0} (codes : Result (List Code) E) (returned : Result (Option Code) E) (whole : Result (List Code) E) (made : Result Body E)
    (locals : List Ty) (P : Body → Type 0) → IfOk whole (FromTwo codes returned Whole) → IfOk made (λ b. (b.locals ≡ locals) × (whole ≡ Ok b.code)) →
    ((b : Body) → b.locals ≡ locals → FromTwo codes returned Whole b.code → P b) → IfOk made P
on_made codes returned whole made locals P from is h =
    IfOk-weaker made (λ b. (b.locals ≡ locals) × (whole ≡ Ok b.code)) P
    (λ b parts. h b parts.0 (IfOk-at_ok (FromTwo codes returned Whole) parts.1 from)) is
