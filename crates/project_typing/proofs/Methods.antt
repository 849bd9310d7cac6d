-- The methods of a project without faults, by their signatures and by what they modify.
use Rattle.std.proofs.Common.{◌≡◌, ◌⊎◌, inl, inr, ⊎_elim, ℕ, ◌+◌, ◌<◌, Bool, true, false, cond, count_by, bytes_eq, find, List, [], ◌∷◌, ◌++◌, map, length, get_or, filter_map, Option, Some, None, is_some, option_map, refl, sym, ap, ap₂, ◌∙◌, subst}
use Rattle.std.specs.List.{AllByRecursion}
use Rattle.std.proofs.lemmas.Bool.{false≢true}
use Rattle.std.proofs.lemmas.List.Sums.{sum_by-cons}
use Rattle.slang_values.specs.Value.{ValueType}
use Rattle.slang_tree.specs.declared.expression.Name.{Name}
use Rattle.slang_tree.specs.TypeTree.{TypeTree, z_name, b_name, unit_name, sequence_name, record_name}
use Rattle.slang_tree.specs.StmtTree.{stmts_of}
use Rattle.slang_tree.specs.DeclTree.{TypedName, MethodDeclTree, DeclTree}
use Rattle.program_trees.specs.Programs.{MethodTree, GlobalTree, ProgramTree}
use Rattle.program_trees.specs.Variables.{Variable, local, global, entry, result}
use Rattle.run_rules.specs.Runs.{no_method, method_at}
use Rattle.typed_programs.specs.WellTyped.{is_result_type}
use Rattle.type_rules.specs.Faults.{precedes}
use Rattle.type_rules.specs.Meanings.{Signature, Meaning, variable, bound_variable, block_variable, record_class, method, Declared, declared, Scope, meaning_among, meaning_of, all_typed, with_local, is_global_var}
use Rattle.type_rules.specs.Judged.{Judged, known_type}
use Rattle.type_rules.specs.TypeNames.{judged_type, judged_result}
use Rattle.type_rules.specs.Expressions.{in_claim, in_ensures}
use Rattle.type_rules.specs.Steps.{new_name_faults}
use Rattle.type_rules.specs.Statements.{modifies_faults, texts, claims_faults, stmts_faults, behind_all}
use Rattle.type_rules.specs.Projects.{method_of, param_types, names_with, result_type, signature_with, signature_of, method_number, outline_names, scope_of, with_params, params_faults, contract_scope, body_scope, return_faults, method_faults}
use Rattle.typed_texts.specs.TypedProjects.{types_declared, global_meant, method_of_tree, records_of, sorted}
use Rattle.claim_typing.proofs.Parts.{both_nil, none_is_some}
use Rattle.value_typing.proofs.Faultless.{type-fair}
use Rattle.statement_typing.specs.Around.{Among, IsNamedGlobal, IsMethod}
use Rattle.statement_typing.proofs.Names.{meant_found}
use Rattle.statement_typing.proofs.Types.{result_known}
use Rattle.statement_typing.proofs.Typed.{has_known}
use Rattle.statement_typing.proofs.Modified.{IsNamedThere, are_named}
use Rattle.declaration_typing.specs.Records.{RecordsFit}
use Rattle.declaration_typing.specs.Sorted.{place_of, AreSorted}
use Rattle.project_typing.proofs.Members.{AllTwo, two_found, IsMethodOf}
use Rattle.project_typing.proofs.Meanings.{AreFine, fine_params, global_behind}

-- ---- the parts of a method

pub record IsCleanMethod (names : List Declared) (scope : Scope) (decl : MethodDeclTree) : Type 0 where
  pub params : params_faults scope decl.params (param_types names decl.params) ≡ []
  pub result : (result_type names decl).faults ≡ []
  pub requires_ : claims_faults (contract_scope names scope decl) in_claim decl.requires_ ≡ []
  pub modifies : modifies_faults is_global_var (contract_scope names scope decl) [] decl.modifies ≡ []
  pub ensures_ : claims_faults (contract_scope names scope decl) (in_ensures (result_type names decl).type) decl.ensures_ ≡ []
  pub body : stmts_faults (body_scope names scope decl) (stmts_of decl.body) ≡ []
  pub returned : return_faults (behind_all (body_scope names scope decl) (stmts_of decl.body)) decl.written (is_some (signature_of names decl))
      (result_type names decl).type decl.returned ≡ []

pub clean_method : (names : List Declared) (scope : Scope) (decl : MethodDeclTree) → method_faults names scope decl ≡ [] → IsCleanMethod names scope decl
clean_method names scope decl h =
    let a = params_faults scope decl.params (param_types names decl.params) in
    let b = (result_type names decl).faults in
    let c = claims_faults (contract_scope names scope decl) in_claim decl.requires_ in
    let d = modifies_faults is_global_var (contract_scope names scope decl) [] decl.modifies in
    let e = claims_faults (contract_scope names scope decl) (in_ensures (result_type names decl).type) decl.ensures_ in
    let f = stmts_faults (body_scope names scope decl) (stmts_of decl.body) in
    let g = return_faults (behind_all (body_scope names scope decl) (stmts_of decl.body)) decl.written (is_some (signature_of names decl))
    (result_type names decl).type decl.returned in
    let to_body = both_nil (a ++ b ++ c ++ d ++ e ++ f) g h in
    let to_ensures = both_nil (a ++ b ++ c ++ d ++ e) f to_body.0 in
    let to_modifies = both_nil (a ++ b ++ c ++ d) e to_ensures.0 in
    let to_requires = both_nil (a ++ b ++ c) d to_modifies.0 in
    let to_result = both_nil (a ++ b) c to_requires.0 in
    let to_params = both_nil a b to_result.0 in
    record {
      params = to_params.0;
      result = to_params.1;
      requires_ = to_result.1;
      modifies = to_requires.1;
      ensures_ = to_modifies.1;
      body = to_ensures.1;
      returned = to_body.1;
    }

-- ---- signatures

pub params_typed : (names : List Declared) (scope : Scope) (params : List TypedName) → params_faults scope params (param_types names params) ≡ [] →
    AllByRecursion (λ part. is_some part.type ≡ true) (param_types names params)
params_typed names scope [] h = tt
params_typed names scope (param ∷ params) h =
    let part = judged_type names param.ty in
    let more = names ++ declared param.written.text (variable (global 0) false None) ∷ [] in
    let next = with_local scope param.written.text false part.type in
    let p = both_nil (new_name_faults scope param.written ++ part.faults) (params_faults next params (param_types more params)) h in
    ((type-fair names param.ty).0 (both_nil (new_name_faults scope param.written) part.faults p.0).1, params_typed more next params p.1)

result_typed : (names : List Declared) (ty : TypeTree) → (judged_result names ty).faults ≡ [] → is_some (judged_result names ty).type ≡ true
result_typed names (unit_name place) h = refl
result_typed names (z_name place) h = refl
result_typed names (b_name place) h = refl
result_typed names (sequence_name place element) h = (type-fair names (sequence_name place element)).0 h
result_typed names (record_name written) h = (type-fair names (record_name written)).0 h

all_known : (parts : List Judged) → AllByRecursion (λ part. is_some part.type ≡ true) parts → all_typed (map (λ part. part.type) parts) ≡ Some (types_declared parts)
all_known [] h = refl
all_known (part ∷ parts) h =
    ap (λ o. all_typed (o ∷ map (λ (other : Judged). other.type) parts)) (has_known part h.0)
    ∙ ap (option_map (λ ts. known_type part ∷ ts)) (all_known parts h.1)

abbrev pub signature_is : List Declared → MethodDeclTree → Signature
signature_is names decl = record { params = types_declared (param_types names decl.params); result = known_type (result_type names decl) }

pub result_has : (names : List Declared) (scope : Scope) (decl : MethodDeclTree) → IsCleanMethod names scope decl →
    (result_type names decl).type ≡ Some (known_type (result_type names decl))
result_has names scope decl clean = has_known (result_type names decl) (result_typed (names_with names decl.params) decl.result clean.result)

pub signature_there : (names : List Declared) (scope : Scope) (decl : MethodDeclTree) → IsCleanMethod names scope decl →
    signature_of names decl ≡ Some (signature_is names decl)
signature_there names scope decl clean =
    ap₂ signature_with (all_known (param_types names decl.params) (params_typed names scope decl.params clean.params)) (result_has names scope decl clean)

-- ---- what stands as a type behind parameters

either_part : (xs ys : List Declared) (text : List ℕ) (m : Meaning) → meaning_among (xs ++ ys) text ≡ Some m →
    (meaning_among xs text ≡ Some m) ⊎ (meaning_among ys text ≡ Some m)
either_part [] ys text m h = inr h
either_part (x ∷ xs) ys text m h = at (bytes_eq x.text text) h (either_part xs ys text m)
  where
    at : (b : Bool) → option_map (λ n. n.meaning) (cond b (Some x) (find (λ n. bytes_eq n.text text) (xs ++ ys))) ≡ Some m →
        (meaning_among (xs ++ ys) text ≡ Some m → (meaning_among xs text ≡ Some m) ⊎ (meaning_among ys text ≡ Some m)) →
        (option_map (λ n. n.meaning) (cond b (Some x) (find (λ n. bytes_eq n.text text) xs)) ≡ Some m) ⊎ (meaning_among ys text ≡ Some m)
    at true k next = inl k
    at false k next = next k

no_class : {A : Type 0} → (params : List TypedName) (text : List ℕ) (n : ℕ) →
    meaning_among (map (λ param. declared param.written.text (variable (global 0) false None)) params) text ≡ Some (record_class n) → A
no_class [] text n h = none_is_some h
no_class (param ∷ params) text n h = at (bytes_eq param.written.text text) h (no_class params text n)
  where
    at : {A : Type 0} → (b : Bool) → option_map (λ n. n.meaning) (cond b (Some (declared param.written.text (variable (global 0) false None)))
        (find (λ n. bytes_eq n.text text) (map (λ other. declared other.written.text (variable (global 0) false None)) params))) ≡ Some (record_class n) →
        (meaning_among (map (λ other. declared other.written.text (variable (global 0) false None)) params) text ≡ Some (record_class n) → A) → A
    at true k next = absurd (let e : Some (variable (global 0) false None) ≡ Some (record_class n) = k in cc)
    at false k next = next k

pub class_with : (names : List Declared) (d : Declared) (x : Variable) (limit : ℕ) → d.meaning ≡ variable x false None →
    ((text : List ℕ) (n : ℕ) → meaning_among names text ≡ Some (record_class n) → n < limit) → (text : List ℕ) (n : ℕ) →
    meaning_among (names ++ d ∷ []) text ≡ Some (record_class n) → n < limit
class_with names d x limit is classes text n h = ⊎_elim
    (λ k. classes text n k)
    (λ k. absurd (let e : variable x false None ≡ record_class n = sym is ∙ k.1 in cc))
    (meant_found names d text (record_class n) h)

pub result_type_known : (decls : List DeclTree) → RecordsFit decls → (scope : Scope) (decl : MethodDeclTree) → IsCleanMethod (outline_names decls) scope decl →
    is_result_type (records_of decls) (known_type (result_type (outline_names decls) decl)) ≡ true
result_type_known decls fit scope decl clean =
    let names = outline_names decls in
    let others = map (λ (param : TypedName). declared param.written.text (variable (global 0) false None)) decl.params in
    result_known (records_of decls) (names_with names decl.params)
    (λ text n h. ⊎_elim (λ k. fit.classes text n k) (λ k. no_class decl.params text n k) (either_part names others text (record_class n) h))
    decl.result (known_type (result_type names decl)) (result_has names scope decl clean)

-- ---- what a method modifies

-- the name is that of a global `var`
pub record IsGlobalVar (scope : Scope) (written : Name) : Type 0 where
  pub number : ℕ
  pub type : Option ValueType
  pub meant : meaning_of scope written.text ≡ Some (variable (global number) true type)

global_var_at : (scope : Scope) (written : Name) (m : Meaning) → meaning_of scope written.text ≡ Some m → is_global_var m ≡ true → IsGlobalVar scope written
global_var_at scope written (variable (global n) true type) h k = record { number = n; type = type; meant = h }
global_var_at scope written (variable (global n) false type) h k = absurd (false≢true k)
global_var_at scope written (variable (local n) c type) h k = absurd (false≢true k)
global_var_at scope written (variable (entry n) c type) h k = absurd (false≢true k)
global_var_at scope written (variable result c type) h k = absurd (false≢true k)
global_var_at scope written (bound_variable depth) h k = absurd (false≢true k)
global_var_at scope written (block_variable label) h k = absurd (false≢true k)
global_var_at scope written (record_class n) h k = absurd (false≢true k)
global_var_at scope written (method n signature modifies) h k = absurd (false≢true k)

pub global_var : (scope : Scope) (written : Name) → IsNamedThere is_global_var scope written → IsGlobalVar scope written
global_var scope written h = global_var_at scope written h.meaning h.meant h.may

-- a name of a global is one before the parameters
pub var_before : (params : List TypedName) (types : List Judged) (scope : Scope) (written : Name) → IsGlobalVar (with_params scope params types) written →
    IsGlobalVar scope written
var_before params types scope written h = record {
  number = h.number;
  type = h.type;
  meant = global_behind params types scope written.text h.number true h.type h.meant;
}

among_texts : (names : List Name) (written : Name) → Among written names → Among written.text (texts names)
among_texts [] written h = absurd h
among_texts (name ∷ names) written (inl e) = inl (ap (λ (n : Name). n.text) e)
among_texts (name ∷ names) written (inr h) = inr (among_texts names written h)

modified_named : (scope : Scope) (all ws : List Name) → ((w : Name) → Among w ws → Among w all) → AllByRecursion (IsGlobalVar scope) ws →
    AllByRecursion (IsNamedGlobal scope.names (texts all)) (map (λ written. global_meant (meaning_of scope written.text)) ws)
modified_named scope all [] inside each = tt
modified_named scope all (w ∷ ws) inside each = (
  subst (λ o. IsNamedGlobal scope.names (texts all) (global_meant o)) (sym each.0.meant)
      (record { text = w.text; among = among_texts all w (inside w (inl refl)); type = each.0.type; meant = each.0.meant }),
  modified_named scope all ws (λ v h. inside v (inr h)) each.1,
)

pub named_globals : (scope : Scope) (params : List TypedName) (types : List Judged) (names : List Name) →
    AllByRecursion (IsNamedThere is_global_var (with_params scope params types)) names → AllByRecursion (IsGlobalVar scope) names
named_globals scope params types [] h = tt
named_globals scope params types (written ∷ names) h =
    (var_before params types scope written (global_var (with_params scope params types) written h.0), named_globals scope params types names h.1)

-- ---- methods in the program

module _ (decls : List DeclTree) (fit : RecordsFit decls) (nodes : ℕ) (gs : List (GlobalTree Variable)) (ms : List (MethodTree Variable)) where
  abbrev pub program_is : ProgramTree Variable
  program_is = record { records = records_of decls; globals = gs; methods = sorted ms }

  same_counts : (text : List ℕ) (ds : List MethodDeclTree) (os : List (MethodTree Variable)) → AllTwo (IsMethodOf decls nodes) ds os →
      count_by (λ d. precedes d.written.text text) ds ≡ count_by (λ o. precedes o.name text) os
  same_counts text [] [] h = refl
  same_counts text [] (o ∷ os) h = absurd h
  same_counts text (d ∷ ds) [] h = absurd h
  same_counts text (d ∷ ds) (o ∷ os) h =
      sum_by-cons (λ (e : MethodDeclTree). cond (precedes e.written.text text) 1 0) d ds
      ∙ ap₂ (λ m n. m + n) (ap (λ (p : MethodTree Variable). cond (precedes p.name text) 1 0) (sym h.0.same)) (same_counts text ds os h.1)
      ∙ sym (sum_by-cons (λ (p : MethodTree Variable). cond (precedes p.name text) 1 0) o os)

  -- the method of a declaration stands at its number
  pub record StandsAt (decl : MethodDeclTree) : Type 0 where
    pub there : method_number decls decl.written.text < length (sorted ms)
    pub start : ℕ
    pub is : method_at program_is (method_number decls decl.written.text)
        ≡ (method_of_tree (outline_names decls) (scope_of decls) decl).from start

  pub stands_at : AreSorted ms → AllTwo (IsMethodOf decls nodes) (filter_map method_of decls) ms → (decl : MethodDeclTree) →
      Among decl (filter_map method_of decls) → StandsAt decl
  stands_at are two decl among =
      let f = two_found (IsMethodOf decls nodes) (filter_map method_of decls) ms decl two among in
      let m = f.0 in
      let name : m.name ≡ decl.written.text = ap (λ (o : MethodTree Variable). o.name) f.2.same in
      let number : place_of ms m.name ≡ method_number decls decl.written.text =
      ap (place_of ms) name ∙ sym (same_counts decl.written.text (filter_map method_of decls) ms two) in
      record {
        there = subst (λ n. n < length (sorted ms)) number (are.there m f.1);
        start = f.2.start;
        is = ap (λ n. get_or (sorted ms) n no_method) (sym number) ∙ are.at_place m f.1 ∙ f.2.same;
      }

  abbrev pub IsMethodThere : MethodTree Variable → MethodDeclTree → Type 0
  IsMethodThere own decl =
      IsMethod program_is own nodes (scope_of decls).names (method_number decls decl.written.text) (signature_is (outline_names decls) decl) (texts decl.modifies)

  pub method_there : (own : MethodTree Variable) (decl : MethodDeclTree) → IsCleanMethod (outline_names decls) (scope_of decls) decl → AreFine (scope_of decls) →
      StandsAt decl → IsMethodThere own decl
  method_there own decl clean fine at =
      let names = outline_names decls in
      let types = param_types names decl.params in
      let scope = scope_of decls in
      let typed = params_typed names scope decl.params clean.params in
      let named = are_named (contract_scope names scope decl) (fine_params decl.params types scope typed fine) is_global_var [] decl.modifies clean.modifies in
      record {
        there = at.there;
        params = ap (λ (o : MethodTree Variable). o.params) at.is;
        result = ap (λ (o : MethodTree Variable). o.result) at.is;
        known = result_type_known decls fit scope decl clean;
        modified = subst (λ (o : MethodTree Variable). AllByRecursion (IsNamedGlobal scope.names (texts decl.modifies)) o.modifies) (sym at.is)
            (modified_named scope decl.modifies decl.modifies (λ w h. h) (named_globals scope decl.params types decl.modifies named.each));
      }
