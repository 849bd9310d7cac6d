-- Parameters, one after another.
use Rattle.std.proofs.Common.{◌≡◌, ℕ, zero, suc, ◌+◌, ◌<◌, ◌≤◌, Option, Result, List, [], ◌∷◌, ◌++◌, length, take, get_or, map, refl, sym, ap, ap₂, ◌∙◌, arith}
use Rattle.std.specs.Prelude.{IfOk}
use Rattle.std.proofs.lemmas.Result.{IfOk-weaker}
use Rattle.std.proofs.lemmas.List.{length-map, map-append, map_more, take_all, take_more}
use Rattle.slang_values.specs.Value.{ValueType, unit_type}
use Rattle.slang_tree.specs.declared.declaration.Param.{Param}
use Rattle.slang_tree.specs.declared.place.Fault.{Fault}
use Rattle.slang_tree.specs.declared.declaration.MethodDecl.{MethodDecl}
use Rattle.slang_tree.specs.DeclTree.{TypedName, method_decl_tree, param_tree}
use Rattle.lk_claims.specs.Claim.{value_type}
use Rattle.lk_programs.specs.declared.program.FieldTy.{FieldTy}
use Rattle.lk_programs.specs.Program.{field_types}
use Rattle.type_rules.specs.Judged.{Judged, known_type}
use Rattle.type_rules.specs.Meanings.{Declared}
use Rattle.type_rules.specs.Projects.{param_types}
use Rattle.typed_texts.specs.TypedProjects.{typed_names, types_declared}
use Rattle.text_types.specs.declared.found.Found.{Found}
use Rattle.text_types.specs.Found.{bare, seen}
use Rattle.typed_names.specs.Fields.{names_of}
use Rattle.name_scopes.specs.declared.meaning.Meaning.{Meaning as CodeMeaning}
use Rattle.signature_judging.specs.Knows.{AreHeaderTypes, Knows}
use Rattle.header_making.specs.declared.headers.Header.{Header}
use Rattle.header_making.specs.Headers.{HasParams, IsHeader, IsHeaderOf, known_at}

known_get : (founds : List Found) (k : ℕ) → known_at founds k ≡ get_or (types_declared (map seen founds)) k unit_type
known_get [] k = refl
known_get (f ∷ founds) zero = refl
known_get (f ∷ founds) (suc k) = known_get founds k

types_bare : (parts : List Judged) → types_declared (map bare parts) ≡ types_declared parts
types_bare [] = refl
types_bare (part ∷ parts) = ap (λ ts. known_type part ∷ ts) (types_bare parts)

-- there are as many types as parameters
pub as_many : (names : List Declared) (params : List TypedName) → length (param_types names params) ≡ length params
as_many names [] = refl
as_many names (param ∷ params) = ap suc (as_many _ params)

-- so many parameters are made
pub record ParamsSoFar (made : List FieldTy) (params : List Param) (parts : List Judged) (at : ℕ) : Type 0 where
  pub names : names_of made ≡ typed_names (map param_tree (take at params))
  pub types : field_types made ≡ take at (types_declared parts)

pub no_params : (made : List FieldTy) (params : List Param) (parts : List Judged) → made ≡ [] → ParamsSoFar made params parts 0
no_params made params parts none = record { names = ap names_of none; types = ap field_types none }

-- one parameter more
pub param_next : (params : List Param) (founds : List Found) (parts : List Judged) (at : ℕ) (param : Param) (made new : List FieldTy) (one : FieldTy) →
    at < length params → param ≡ get_or params at param → map seen founds ≡ map bare parts → length parts ≡ length params →
    new ≡ made ++ one ∷ [] → one.name ≡ param.name.text → value_type one.ty ≡ known_at founds at →
    ParamsSoFar made params parts at → ParamsSoFar new params parts (at + 1)
param_next params founds parts at param made new one within is same count added name type before =
    let types = types_declared parts in
    let there : at < length types = omega (arith, length-map parts known_type) in
    let more : typed_names (map param_tree (take (at + 1) params)) ≡ typed_names (map param_tree (take at params)) ++ param.name.text ∷ [] =
    ap typed_names (map_more param_tree params at param within ∙ ap (λ p. map param_tree (take at params) ++ param_tree p ∷ []) (sym is))
    ∙ map-append (λ (name : TypedName). name.written.text) (map param_tree (take at params)) (param_tree param ∷ []) in
    let its : value_type one.ty ≡ get_or types at unit_type =
    type ∙ known_get founds at ∙ ap (λ ps. get_or (types_declared ps) at unit_type) same ∙ ap (λ ts. get_or ts at unit_type) (types_bare parts) in record {
      names = ap names_of added ∙ map-append (λ (f : FieldTy). f.name) made (one ∷ [])
          ∙ ap₂ (λ (xs : List (List ℕ)) x. xs ++ x ∷ []) before.names name ∙ sym more;
      types = ap field_types added ∙ map-append (λ (f : FieldTy). value_type f.ty) made (one ∷ [])
          ∙ ap₂ (λ (xs : List ValueType) x. xs ++ x ∷ []) before.types its ∙ sym (take_more types at unit_type there);
    }

-- all are made
pub params_end : (params : List Param) (parts : List Judged) (at : ℕ) (made : List FieldTy) → length params ≤ at → length parts ≡ length params →
    ParamsSoFar made params parts at → HasParams made (map param_tree params) parts
params_end params parts at made end count before =
    let enough : length (types_declared parts) ≤ at = omega (arith, length-map parts known_type) in record {
      names = before.names ∙ ap (λ ps. typed_names (map param_tree ps)) (take_all at params end);
      types = before.types ∙ take_all at (types_declared parts) enough;
    }

-- the header, where the types of its parts were found
pub header_is : {a b : Option Fault} {E : Type 0} (table : List (List ℕ × CodeMeaning)) (decl : MethodDecl) (founds : List Found) (found : Found) (made :
    Result Header E) →
    ((names : List Declared) → Knows table names → AreHeaderTypes a b founds found names (method_decl_tree decl)) →
    IfOk made (λ header. IsHeaderOf header (map param_tree decl.params) founds found) →
    IfOk made (λ header. (names : List Declared) → Knows table names → IsHeader header names (method_decl_tree decl))
header_is table decl founds found made types h =
    IfOk-weaker made (λ header. IsHeaderOf header (map param_tree decl.params) founds found)
    (λ header. (names : List Declared) → Knows table names → IsHeader header names (method_decl_tree decl))
    (λ header is names knows. record {
      params = is.params (param_types names (map param_tree decl.params)) (types names knows).params_are
          (as_many names (map param_tree decl.params));
      ty = is.ty ∙ ap known_type (types names knows).found_is;
    }) h
