-- A method has no fault exactly where it is well typed.
use Rattle.std.proofs.Common.{◌≡◌, ℕ, Bool, true, false, cond, not, bytes_eq, List, [], ◌∷◌, ◌++◌, map, Option, Some, None, is_some, option_map, refl, sym, ap, ◌∙◌, subst}
use Rattle.std.specs.List.{AllByRecursion}
use Rattle.std.specs.Set.{is_member}
use Rattle.std.proofs.lemmas.Bool.{false≢true}
use Rattle.slang_values.specs.Value.{ValueType, unit_type, number_type, truth_type, sequence_type, record_type}
use Rattle.slang_tree.specs.declared.expression.Name.{Name}
use Rattle.slang_tree.specs.TypeTree.{TypeTree, z_name, b_name, unit_name, sequence_name, record_name}
use Rattle.slang_tree.specs.StmtTree.{stmts_of}
use Rattle.slang_tree.specs.DeclTree.{TypedName, ReturnTree, MethodDeclTree}
use Rattle.program_trees.specs.Variables.{local, global, entry, result}
use Rattle.type_rules.specs.Faults.{unless, duplicate_name, type_differs}
use Rattle.type_rules.specs.Meanings.{Meaning, variable, bound_variable, block_variable, record_class, method, Declared, declared, Field, Scope, meaning_of, is_well_declared, all_typed, fields_of, is_global_var, with_local}
use Rattle.type_rules.specs.Judged.{Judged, known_type}
use Rattle.type_rules.specs.TypeNames.{judged_type, judged_result}
use Rattle.type_rules.specs.Expressions.{in_program, in_claim, in_ensures, judged}
use Rattle.type_rules.specs.Steps.{new_name_faults}
use Rattle.type_rules.specs.Statements.{modified_faults, modifies_faults, texts, claims_faults, stmts_faults, behind_all}
use Rattle.type_rules.specs.Projects.{param_types, names_with, result_type, signature_with, signature_of, with_params, params_faults, contract_scope, body_scope, return_faults, method_faults}
use Rattle.claim_typing.proofs.Parts.{inside, one_is_none, both_nil}
use Rattle.value_typing.specs.Faultless.{IsWellDeclared}
use Rattle.value_typing.proofs.Faultless.{type-fair}
use Rattle.statement_typing.proofs.Lists.{AreNew, new_distinct, bytes_flip}
use Rattle.statement_typing.proofs.Typed.{has_known, judged_typed}
use Rattle.statement_typing.proofs.Modified.{IsNamedThere, are_named}
use Rattle.typing_rules.proofs.Parts.{nil_both, type_to, type_from}
use Rattle.statement_rules.proofs.Sides.{new_to, new_from, expr_to, expr_from, claims_to, claims_from, distinct_new, none_before}
use Rattle.statement_rules.proofs.Statements.{fine_all, faultless_where_typed}
use Rattle.project_typing.proofs.Meanings.{fine_params}
use Rattle.project_typing.proofs.Methods.{clean_method, params_typed, result_has, signature_there}
use Rattle.project_rules.specs.Projects.{AreTypedParams, IsResult, ReturnHas, IsGlobalVar, AreGlobalVars, IsTypedMethod}

-- ---- parameters and results

params_to : (names : List Declared) (scope : Scope) (params : List TypedName) → params_faults scope params (param_types names params) ≡ [] →
    AreTypedParams names scope params
params_to names scope [] h = tt
params_to names scope (param ∷ params) h =
    let part = judged_type names param.ty in
    let more = names ++ declared param.written.text (variable (global 0) false None) ∷ [] in
    let next = with_local scope param.written.text false part.type in
    let p = both_nil (new_name_faults scope param.written ++ part.faults) (params_faults next params (param_types more params)) h in
    let q = both_nil (new_name_faults scope param.written) part.faults p.0 in
    let typed = has_known part ((type-fair names param.ty).0 q.1) in (
      new_to scope param.written q.0,
      (
        known_type part,
        type_to names param.ty (known_type part) typed,
        subst (λ o. AreTypedParams more (with_local scope param.written.text false o) params) typed (params_to more next params p.1),
      ),
    )

params_from : (names : List Declared) (scope : Scope) (params : List TypedName) → AreTypedParams names scope params →
    params_faults scope params (param_types names params) ≡ []
params_from names scope [] h = refl
params_from names scope (param ∷ params) h =
    let part = judged_type names param.ty in
    let more = names ++ declared param.written.text (variable (global 0) false None) ∷ [] in
    let next = with_local scope param.written.text false part.type in
    let typed = type_from names param.ty h.1.0 h.1.1 in
    nil_both (new_name_faults scope param.written ++ part.faults) (params_faults next params (param_types more params))
    (nil_both (new_name_faults scope param.written) part.faults (new_from scope param.written h.0) ((type-fair names param.ty).1 (ap is_some typed)))
    (params_from more next params (subst (λ o. AreTypedParams more (with_local scope param.written.text false o) params) (sym typed) h.1.2))

result_to : (names : List Declared) (ty : TypeTree) (t : ValueType) → (judged_result names ty).type ≡ Some t → IsResult names ty t
result_to names (unit_name place) t h = sym (inside h)
result_to names (z_name place) t h = type_to names (z_name place) t h
result_to names (b_name place) t h = type_to names (b_name place) t h
result_to names (sequence_name place element) t h = type_to names (sequence_name place element) t h
result_to names (record_name written) t h = type_to names (record_name written) t h

result_from : (names : List Declared) (ty : TypeTree) (t : ValueType) → IsResult names ty t → (judged_result names ty).type ≡ Some t
result_from names (unit_name place) t h = ap Some (sym h)
result_from names (z_name place) t h = type_from names (z_name place) t h
result_from names (b_name place) t h = type_from names (b_name place) t h
result_from names (sequence_name place element) t h = type_from names (sequence_name place element) t h
result_from names (record_name written) t h = type_from names (record_name written) t h

result_none : (names : List Declared) (ty : TypeTree) → is_some (judged_result names ty).type ≡ true → (judged_result names ty).faults ≡ []
result_none names (unit_name place) h = refl
result_none names (z_name place) h = refl
result_none names (b_name place) h = refl
result_none names (sequence_name place element) h = (type-fair names (sequence_name place element)).1 h
result_none names (record_name written) h = (type-fair names (record_name written)).1 h

some_mapped : {A B : Type 0} (f : A → B) (o : Option A) → is_some o ≡ true → is_some (option_map f o) ≡ true
some_mapped f None h = h
some_mapped f (Some a) h = refl

all_some : (parts : List Judged) → AllByRecursion (λ part. is_some part.type ≡ true) parts → is_some (all_typed (map (λ part. part.type) parts)) ≡ true
all_some [] h = refl
all_some (part ∷ parts) h =
    ap (λ o. is_some (all_typed (o ∷ map (λ (other : Judged). other.type) parts))) (has_known part h.0)
    ∙ some_mapped (λ ts. known_type part ∷ ts) (all_typed (map (λ other. other.type) parts)) (all_some parts h.1)

signature_some : (params : Option (List ValueType)) (r : Option ValueType) → is_some params ≡ true → is_some r ≡ true → is_some (signature_with params r) ≡ true
signature_some None r h k = absurd (false≢true h)
signature_some (Some params) None h k = absurd (false≢true k)
signature_some (Some params) (Some r) h k = refl

pub typed_signature : (names : List Declared) (scope : Scope) (decl : MethodDeclTree) → IsTypedMethod names scope decl → is_some (signature_of names decl) ≡ true
typed_signature names scope decl h =
    signature_some (all_typed (map (λ part. part.type) (param_types names decl.params))) (result_type names decl).type
    (all_some (param_types names decl.params) (params_typed names scope decl.params (params_from names scope decl.params h.params)))
    (ap is_some (result_from (names_with names decl.params) decl.result h.result_type h.result))

-- ---- scopes

fields_params : (params : List TypedName) (types : List Judged) (scope : Scope) → ((n : ℕ) → AllByRecursion (λ (f : Field). is_some f.type ≡ true) (fields_of scope n)) →
    (n : ℕ) → AllByRecursion (λ (f : Field). is_some f.type ≡ true) (fields_of (with_params scope params types) n)
fields_params [] types scope h n = h n
fields_params (param ∷ params) [] scope h n = h n
fields_params (param ∷ params) (type ∷ types) scope h n = fields_params params types (with_local scope param.written.text false type.type) h n

abbrev Fine : Scope → Type 0
Fine scope = IsWellDeclared in_program scope

fine_contract : (names : List Declared) (scope : Scope) (decl : MethodDeclTree) → Fine scope →
    AllByRecursion (λ part. is_some part.type ≡ true) (param_types names decl.params) → Fine (contract_scope names scope decl)
fine_contract names scope decl fine typed = record {
  names = fine_params decl.params (param_types names decl.params) scope typed fine.names;
  fields = fields_params decl.params (param_types names decl.params) scope fine.fields;
  result = tt;
}

covered_declared : (scope : Scope) (covers : List ℕ → Bool) (m : Meaning) → is_well_declared scope m ≡ true →
    is_well_declared (record scope { covers = covers }) m ≡ true
covered_declared scope covers (variable x c type) h = h
covered_declared scope covers (bound_variable depth) h = h
covered_declared scope covers (block_variable label) h = h
covered_declared scope covers (record_class n) h = h
covered_declared scope covers (method n signature modifies) h = h

fine_covered : (scope : Scope) (covers : List ℕ → Bool) → Fine scope → Fine (record scope { covers = covers })
fine_covered scope covers fine = record {
  names = λ text m h. covered_declared scope covers m (fine.names text m h);
  fields = fine.fields;
  result = tt;
}

in_claims : (scope : Scope) → Fine scope → IsWellDeclared in_claim scope
in_claims scope fine = record { names = fine.names; fields = fine.fields; result = tt }

in_ensured : (scope : Scope) (r : ValueType) → Fine scope → IsWellDeclared (in_ensures (Some r)) scope
in_ensured scope r fine = record { names = fine.names; fields = fine.fields; result = tt }

-- ---- what a method modifies

global_var_at : (scope : Scope) → Fine scope → (written : Name) (m : Meaning) → meaning_of scope written.text ≡ Some m → is_global_var m ≡ true →
    IsGlobalVar scope written
global_var_at scope fine written (variable (global n) true (Some t)) h k = (n, t, h)
global_var_at scope fine written (variable (global n) true None) h k = absurd (false≢true (fine.names written.text (variable (global n) true None) h))
global_var_at scope fine written (variable (global n) false type) h k = absurd (false≢true k)
global_var_at scope fine written (variable (local n) c type) h k = absurd (false≢true k)
global_var_at scope fine written (variable (entry n) c type) h k = absurd (false≢true k)
global_var_at scope fine written (variable result c type) h k = absurd (false≢true k)
global_var_at scope fine written (bound_variable depth) h k = absurd (false≢true k)
global_var_at scope fine written (block_variable label) h k = absurd (false≢true k)
global_var_at scope fine written (record_class n) h k = absurd (false≢true k)
global_var_at scope fine written (method n signature modifies) h k = absurd (false≢true k)

each_global_var : (scope : Scope) → Fine scope → (names : List Name) → AllByRecursion (IsNamedThere is_global_var scope) names →
    AllByRecursion (IsGlobalVar scope) names
each_global_var scope fine [] h = tt
each_global_var scope fine (written ∷ names) h =
    (global_var_at scope fine written h.0.meaning h.0.meant h.0.may, each_global_var scope fine names h.1)

global_vars_to : (scope : Scope) → Fine scope → (names : List Name) → modifies_faults is_global_var scope [] names ≡ [] → AreGlobalVars scope names
global_vars_to scope fine names h =
    let a = are_named scope fine.names is_global_var [] names h in
    (each_global_var scope fine names a.each, new_distinct bytes_eq bytes_flip [] (texts names) a.new)

global_vars_at : (scope : Scope) (before : List (List ℕ)) (names : List Name) → AllByRecursion (IsGlobalVar scope) names →
    AreNew bytes_eq before (texts names) → modifies_faults is_global_var scope before names ≡ []
global_vars_at scope before [] h new = refl
global_vars_at scope before (written ∷ names) h new =
    let twice = unless (not (is_member bytes_eq before written.text)) (duplicate_name written.place) in
    nil_both (modified_faults is_global_var scope written.place (meaning_of scope written.text) ++ twice)
    (modifies_faults is_global_var scope (written.text ∷ before) names)
    (nil_both (modified_faults is_global_var scope written.place (meaning_of scope written.text)) twice
    (ap (modified_faults is_global_var scope written.place) h.0.2) (ap (λ b. unless (not b) (duplicate_name written.place)) new.0))
    (global_vars_at scope (written.text ∷ before) names h.1 new.1)

global_vars_from : (scope : Scope) (names : List Name) → AreGlobalVars scope names → modifies_faults is_global_var scope [] names ≡ []
global_vars_from scope names h =
    global_vars_at scope [] names h.0 (distinct_new bytes_eq bytes_flip [] (texts names) (none_before bytes_eq (texts names)) h.1)

-- ---- returns

return_to : (scope : Scope) → Fine scope → (written : Name) (r : ValueType) (returned : Option ReturnTree) → return_faults scope written true (Some r) returned ≡ [] →
    ReturnHas scope r returned
return_to scope fine written unit_type None h = tt
return_to scope fine written number_type None h = one_is_none h
return_to scope fine written truth_type None h = one_is_none h
return_to scope fine written (sequence_type t) None h = one_is_none h
return_to scope fine written (record_type n) None h = one_is_none h
return_to scope fine written unit_type (Some returned) h =
    let value = judged scope in_program returned.value in
    let p = both_nil value.faults (cond (is_some value.type) (type_differs value.place ∷ []) []) h in
    one_is_none (subst (λ b. cond b (type_differs value.place ∷ []) [] ≡ []) (judged_typed in_program scope fine returned.value p.0) p.1)
return_to scope fine written number_type (Some returned) h = (tt, expr_to in_program scope fine number_type returned.value h)
return_to scope fine written truth_type (Some returned) h = (tt, expr_to in_program scope fine truth_type returned.value h)
return_to scope fine written (sequence_type t) (Some returned) h = (tt, expr_to in_program scope fine (sequence_type t) returned.value h)
return_to scope fine written (record_type n) (Some returned) h = (tt, expr_to in_program scope fine (record_type n) returned.value h)

return_from : (scope : Scope) → Fine scope → (written : Name) (r : ValueType) (returned : Option ReturnTree) → ReturnHas scope r returned →
    return_faults scope written true (Some r) returned ≡ []
return_from scope fine written unit_type None h = refl
return_from scope fine written number_type None h = absurd h
return_from scope fine written truth_type None h = absurd h
return_from scope fine written (sequence_type t) None h = absurd h
return_from scope fine written (record_type n) None h = absurd h
return_from scope fine written unit_type (Some returned) h = absurd h.0
return_from scope fine written number_type (Some returned) h = expr_from in_program scope fine number_type returned.value h.1
return_from scope fine written truth_type (Some returned) h = expr_from in_program scope fine truth_type returned.value h.1
return_from scope fine written (sequence_type t) (Some returned) h = expr_from in_program scope fine (sequence_type t) returned.value h.1
return_from scope fine written (record_type n) (Some returned) h = expr_from in_program scope fine (record_type n) returned.value h.1

-- ---- methods

pub method_to : (names : List Declared) (scope : Scope) (decl : MethodDeclTree) → IsWellDeclared in_program scope → method_faults names scope decl ≡ [] →
    IsTypedMethod names scope decl
method_to names scope decl fine h =
    let clean = clean_method names scope decl h in
    let r = known_type (result_type names decl) in
    let same = result_has names scope decl clean in
    let contract = contract_scope names scope decl in
    let inner = body_scope names scope decl in
    let stmts = stmts_of decl.body in
    let fine_outer = fine_contract names scope decl fine (params_typed names scope decl.params clean.params) in
    let fine_inner = fine_covered contract (is_member bytes_eq (texts decl.modifies)) fine_outer in
    let body = (faultless_where_typed inner fine_inner stmts).0 clean.body in
    let last = behind_all inner stmts in
    let returned = subst (λ b. return_faults last decl.written b (Some r) decl.returned ≡ []) (ap is_some (signature_there names scope decl clean))
    (subst (λ o. return_faults last decl.written (is_some (signature_of names decl)) o decl.returned ≡ []) same clean.returned) in
    record {
      result_type = r;
      params = params_to names scope decl.params clean.params;
      result = result_to (names_with names decl.params) decl.result r same;
      requires_ = claims_to in_claim contract (in_claims contract fine_outer) decl.requires_ clean.requires_;
      modifies = global_vars_to contract fine_outer decl.modifies clean.modifies;
      ensures_ = claims_to (in_ensures (Some r)) contract (in_ensured contract r fine_outer) decl.ensures_
          (subst (λ o. claims_faults contract (in_ensures o) decl.ensures_ ≡ []) same clean.ensures_);
      body = body;
      returned = return_to last (fine_all inner fine_inner stmts body) decl.written r decl.returned returned;
    }

pub method_from : (names : List Declared) (scope : Scope) (decl : MethodDeclTree) → IsWellDeclared in_program scope → IsTypedMethod names scope decl →
    method_faults names scope decl ≡ []
method_from names scope decl fine h =
    let r = h.result_type in
    let same = result_from (names_with names decl.params) decl.result r h.result in
    let contract = contract_scope names scope decl in
    let inner = body_scope names scope decl in
    let stmts = stmts_of decl.body in
    let on_params = params_from names scope decl.params h.params in
    let fine_outer = fine_contract names scope decl fine (params_typed names scope decl.params on_params) in
    let fine_inner = fine_covered contract (is_member bytes_eq (texts decl.modifies)) fine_outer in
    let last = behind_all inner stmts in
    let returned = subst (λ o. return_faults last decl.written (is_some (signature_of names decl)) o decl.returned ≡ []) (sym same)
    (subst (λ b. return_faults last decl.written b (Some r) decl.returned ≡ []) (sym (typed_signature names scope decl h))
    (return_from last (fine_all inner fine_inner stmts h.body) decl.written r decl.returned h.returned)) in
    let ensured = subst (λ o. claims_faults contract (in_ensures o) decl.ensures_ ≡ []) (sym same)
    (claims_from (in_ensures (Some r)) contract (in_ensured contract r fine_outer) decl.ensures_ h.ensures_) in
    let a = params_faults scope decl.params (param_types names decl.params) in
    let b = (result_type names decl).faults in
    let c = claims_faults contract in_claim decl.requires_ in
    let d = modifies_faults is_global_var contract [] decl.modifies in
    let e = claims_faults contract (in_ensures (result_type names decl).type) decl.ensures_ in
    let f = stmts_faults inner stmts in
    let g = return_faults last decl.written (is_some (signature_of names decl)) (result_type names decl).type decl.returned in
    nil_both (a ++ b ++ c ++ d ++ e ++ f) g
    (nil_both (a ++ b ++ c ++ d ++ e) f
    (nil_both (a ++ b ++ c ++ d) e
    (nil_both (a ++ b ++ c) d
    (nil_both (a ++ b) c
    (nil_both a b on_params (result_none (names_with names decl.params) decl.result (ap is_some same)))
    (claims_from in_claim contract (in_claims contract fine_outer) decl.requires_ h.requires_))
    (global_vars_from contract decl.modifies h.modifies))
    ensured)
    ((faultless_where_typed inner fine_inner stmts).1 h.body))
    returned
