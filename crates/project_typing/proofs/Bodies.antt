-- A method without faults is well typed in the program.
use Rattle.std.proofs.Common.{◌≡◌, ℕ, ◌+◌, ◌<◌, ◌≤◌, Bool, true, false, cond, bytes_eq, List, [], ◌∷◌, ◌++◌, take, length, slice_get, Option, Some, None, is_some, refl, ap, ◌∙◌, subst, arith, length-append}
use Rattle.std.specs.List.{AllByRecursion, list_all}
use Rattle.std.proofs.lemmas.Bool.{and_from}
use Rattle.std.proofs.lemmas.List.Folds.{list_all-append}
use Rattle.slang_values.specs.Value.{ValueType, unit_type, number_type, truth_type, sequence_type, record_type}
use Rattle.slang_tree.specs.declared.place.Place.{Place}
use Rattle.slang_tree.specs.declared.expression.Name.{Name}
use Rattle.slang_tree.specs.StmtTree.{StmtTrees, stmts_of}
use Rattle.slang_tree.specs.DeclTree.{TypedName, ReturnTree, MethodDeclTree, DeclTree}
use Rattle.program_trees.specs.Claims.{NotedTree}
use Rattle.program_trees.specs.Programs.{CodeTree, CodeTrees, no_code, MethodTree, ProgramTree}
use Rattle.program_trees.specs.Variables.{Variable, global}
use Rattle.typed_programs.specs.WellTyped.{is_named_before, around_body, body_end, returns, AreTypedCodes, is_program_type, is_result_type, IsTypedMethod}
use Rattle.type_rules.specs.Faults.{type_differs}
use Rattle.type_rules.specs.Meanings.{Meaning, record_class, Declared, declared, variable, Scope, meaning_among, meaning_of, is_well_declared, is_global_var}
use Rattle.type_rules.specs.Judged.{known_type}
use Rattle.type_rules.specs.TypeNames.{judged_type}
use Rattle.type_rules.specs.Expressions.{in_program, in_claim, in_ensures, judged}
use Rattle.type_rules.specs.Statements.{texts, behind_all}
use Rattle.type_rules.specs.Projects.{param_types, result_type, signature_of, outline_names, scope_of, contract_scope, body_scope, return_faults}
use Rattle.typed_texts.specs.Numbered.{Numbered}
use Rattle.typed_texts.specs.Code.{all_noted, code_of_trees, locals_of_trees}
use Rattle.typed_texts.specs.TypedProjects.{with_return, return_of, types_declared, global_meant, method_of_tree}
use Rattle.claim_typing.proofs.Parts.{both_nil, one_is_none}
use Rattle.statement_typing.specs.Around.{around_at, FitsAround, HasLocals}
use Rattle.statement_typing.specs.Laws.{IsOpen}
use Rattle.statement_typing.proofs.Lists.{new_distinct, bytes_flip}
use Rattle.statement_typing.proofs.Types.{type_known}
use Rattle.statement_typing.proofs.Typed.{has_known, judged_typed, judged_against}
use Rattle.statement_typing.proofs.Fits.{well_declared, declared_in_program}
use Rattle.statement_typing.proofs.Sides.{value_here}
use Rattle.statement_typing.proofs.Modified.{IsNamedThere, are_named}
use Rattle.statement_typing.proofs.Statements.{behind_locals, claims_noted, stmts_typed}
use Rattle.statement_typing.proofs.Locals.{locals_known}
use Rattle.project_typing.specs.Projects.{IsLowReturn, IsLowMethod}
use Rattle.project_typing.proofs.Methods.{IsCleanMethod, class_with, result_has, global_var}
use Rattle.project_typing.proofs.Meanings.{global_behind}
use Rattle.project_typing.proofs.Scopes.{everything, param_count}
use Rattle.project_typing.proofs.Contracts.{ensures_noted, all_vars, modifies_once, changed, fits_body, AreOuter}

front_taken : (xs ys : List ValueType) → take (length xs) (xs ++ ys) ≡ xs
front_taken [] ys = refl
front_taken (x ∷ xs) ys = ap (λ zs. x ∷ zs) (front_taken xs ys)

pub params_known : (names : List Declared) (program : ProgramTree Variable) (params : List TypedName) →
    ((text : List ℕ) (n : ℕ) → meaning_among names text ≡ Some (record_class n) → n < length program.records) →
    AllByRecursion (λ part. is_some part.type ≡ true) (param_types names params) →
    list_all (is_program_type program.records) (types_declared (param_types names params)) ≡ true
params_known names program [] classes typed = refl
params_known names program (param ∷ params) classes typed =
    let part = judged_type names param.ty in
    let d = declared param.written.text (variable (global 0) false None) in
    and_from (is_program_type program.records (known_type part)) (list_all (is_program_type program.records) (types_declared (param_types (names ++ d ∷ []) params)))
    (type_known program.records names classes param.ty (known_type part) (has_known part typed.0))
    (params_known (names ++ d ∷ []) program params (class_with names d (global 0) (length program.records) refl classes) typed.1)

-- ---- the return

module _ (program : ProgramTree Variable) (own : MethodTree Variable) (nodes : ℕ) (written : Name) where
  give_typed : (named assigned : Variable → Bool) (scope : Scope) → FitsAround program own nodes named assigned scope → (returned : ReturnTree) (t : ValueType) →
      (judged scope in_program returned.value).type ≡ Some t → IsLowReturn (Some returned) → (node : ℕ) →
      node + length (return_of scope (Some returned)).places ≤ nodes →
      AreTypedCodes (returns t) (around_at program own nodes named assigned) (with_return no_code ((return_of scope (Some returned)).from node))
  give_typed named assigned scope fits returned t h low node room = (
    (omega (arith, room), value_here program own nodes named assigned scope fits returned.value t (node + 1) h low (omega (arith, room))),
    tt,
  )

  return_typed : (named assigned : Variable → Bool) (scope : Scope) → FitsAround program own nodes named assigned scope → (returned : Option ReturnTree) (r : ValueType) →
      return_faults scope written true (Some r) returned ≡ [] → IsLowReturn returned → (node : ℕ) → node + length (return_of scope returned).places ≤ nodes →
      AreTypedCodes (body_end program nodes own r) (around_at program own nodes named assigned) (with_return no_code ((return_of scope returned).from node))
  return_typed named assigned scope fits None unit_type h low node room = tt
  return_typed named assigned scope fits None number_type h low node room = one_is_none h
  return_typed named assigned scope fits None truth_type h low node room = one_is_none h
  return_typed named assigned scope fits None (sequence_type t) h low node room = one_is_none h
  return_typed named assigned scope fits None (record_type n) h low node room = one_is_none h
  return_typed named assigned scope fits (Some returned) unit_type h low node room =
      let value = judged scope in_program returned.value in
      let p = both_nil value.faults (cond (is_some value.type) (type_differs value.place ∷ []) []) h in
      one_is_none (subst (λ b. cond b (type_differs value.place ∷ []) [] ≡ [])
      (judged_typed in_program scope (declared_in_program program own nodes named assigned scope fits) returned.value p.0) p.1)
  return_typed named assigned scope fits (Some returned) number_type h low node room =
      give_typed named assigned scope fits returned number_type
      (judged_against in_program scope (declared_in_program program own nodes named assigned scope fits) number_type returned.value h) low node room
  return_typed named assigned scope fits (Some returned) truth_type h low node room =
      give_typed named assigned scope fits returned truth_type
      (judged_against in_program scope (declared_in_program program own nodes named assigned scope fits) truth_type returned.value h) low node room
  return_typed named assigned scope fits (Some returned) (sequence_type t) h low node room =
      give_typed named assigned scope fits returned (sequence_type t)
      (judged_against in_program scope (declared_in_program program own nodes named assigned scope fits) (sequence_type t) returned.value h) low node room
  return_typed named assigned scope fits (Some returned) (record_type n) h low node room =
      give_typed named assigned scope fits returned (record_type n)
      (judged_against in_program scope (declared_in_program program own nodes named assigned scope fits) (record_type n) returned.value h) low node room

  open_end : (r : ValueType) → IsOpen (body_end program nodes own r)
  open_end unit_type = tt
  open_end number_type = tt
  open_end truth_type = tt
  open_end (sequence_type t) = tt
  open_end (record_type n) = tt

-- ---- the method

abbrev pub method_is : List DeclTree → MethodDeclTree → ℕ → MethodTree Variable
method_is decls decl start = (method_of_tree (outline_names decls) (scope_of decls) decl).from start

abbrev pub contract_of : List DeclTree → MethodDeclTree → Scope
contract_of decls decl = contract_scope (outline_names decls) (scope_of decls) decl

module _ (program : ProgramTree Variable) (nodes : ℕ) (decls : List DeclTree) (decl : MethodDeclTree) (start : ℕ)
    (room : start + length (method_of_tree (outline_names decls) (scope_of decls) decl).places ≤ nodes)
    (clean : IsCleanMethod (outline_names decls) (scope_of decls) decl) (low : IsLowMethod decl)
    (fits : FitsAround program (method_is decls decl start) nodes (is_named_before program nodes (method_is decls decl start)) everything (contract_of decls decl))
    (result_known : is_result_type program.records (known_type (result_type (outline_names decls) decl)) ≡ true)
    (all_known : list_all (is_program_type program.records) (types_declared (param_types (outline_names decls) decl.params)) ≡ true)
    (signed : is_some (signature_of (outline_names decls) decl) ≡ true) where
  abbrev own : MethodTree Variable
  own = method_is decls decl start

  abbrev contract : Scope
  contract = contract_of decls decl

  abbrev inner : Scope
  inner = body_scope (outline_names decls) (scope_of decls) decl

  abbrev params : List ValueType
  params = types_declared (param_types (outline_names decls) decl.params)

  abbrev named : Variable → Bool
  named = is_named_before program nodes own

  abbrev stmts : StmtTrees
  stmts = stmts_of decl.body

  count : contract.locals ≡ 0 + length params
  count = param_count (outline_names decls) (scope_of decls) decl.params

  -- ---- what it modifies

  outer_each : (ws : List Name) → AllByRecursion (IsNamedThere is_global_var contract) ws →
      AreOuter program nodes own contract fits (scope_of decls) ws
  outer_each [] h = tt
  outer_each (w ∷ ws) h =
      let v = global_var contract w h.0 in
      let b = global_behind decl.params (param_types (outline_names decls) decl.params) (scope_of decls) w.text v.number true v.type v.meant in
      ((v, ap global_meant b), outer_each ws h.1)

  fine : (text : List ℕ) (m : Meaning) → meaning_of contract text ≡ Some m → is_well_declared contract m ≡ true
  fine = well_declared program own nodes named everything contract fits

  outer : AreOuter program nodes own contract fits (scope_of decls) decl.modifies
  outer = outer_each decl.modifies (are_named contract fine is_global_var [] decl.modifies clean.modifies).each

  -- ---- the body

  fits_inner : FitsAround program own nodes named (changed program nodes own contract fits (scope_of decls) decl.modifies) inner
  fits_inner = fits_body program nodes own contract fits (scope_of decls) decl.modifies outer

  has_locals : HasLocals own inner.locals (locals_of_trees inner stmts)
  has_locals =
      behind_locals own 0 inner.locals params (locals_of_trees inner stmts) count
      (λ k t h. subst (λ n. slice_get own.locals n ≡ Some t) (let e : k ≡ 0 + k = omega arith in e) h)

  enough : length own.params ≤ inner.locals
  enough = let e : inner.locals ≡ 0 + length params = count in omega (arith, e)

  abbrev requires_part : Numbered Place (List (NotedTree Variable))
  requires_part = all_noted contract in_claim decl.requires_

  abbrev ensures_part : Numbered Place (List (NotedTree Variable))
  ensures_part = all_noted contract (in_ensures (result_type (outline_names decls) decl).type) decl.ensures_

  abbrev body_part : Numbered Place (CodeTrees Variable)
  body_part = code_of_trees inner stmts

  abbrev return_part : Numbered Place (Option (CodeTree Variable))
  return_part = return_of (behind_all inner stmts) decl.returned

  abbrev from_ensures : ℕ
  from_ensures = start + 1 + length requires_part.places

  abbrev from_body : ℕ
  from_body = from_ensures + length ensures_part.places

  abbrev from_return : ℕ
  from_return = from_body + length body_part.places

  all_room : from_return + length return_part.places ≤ nodes
  all_room =
      let a = length-append requires_part.places (ensures_part.places ++ (body_part.places ++ return_part.places)) in
      let b = length-append ensures_part.places (body_part.places ++ return_part.places) in
      let c = length-append body_part.places return_part.places in
      omega (arith, room, a, b, c)

  same_result : (result_type (outline_names decls) decl).type ≡ Some own.result
  same_result = result_has (outline_names decls) (scope_of decls) decl clean

  faultless_return : return_faults (behind_all inner stmts) decl.written true (Some own.result) decl.returned ≡ []
  faultless_return =
      subst (λ b. return_faults (behind_all inner stmts) decl.written b (Some own.result) decl.returned ≡ []) signed
      (subst (λ o. return_faults (behind_all inner stmts) decl.written (is_some (signature_of (outline_names decls) decl)) o decl.returned ≡ []) same_result
      clean.returned)

  body_typed : AreTypedCodes (body_end program nodes own own.result) (around_body program nodes own) own.body
  body_typed =
      stmts_typed program own nodes named (changed program nodes own contract fits (scope_of decls) decl.modifies) inner fits_inner enough stmts clean.body low.body
      has_locals from_body (omega (arith, all_room)) (body_end program nodes own own.result) (open_end program own nodes decl.written own.result)
      (return_part.from from_return)
      (λ now may after. return_typed program own nodes decl.written now may (behind_all inner stmts) after decl.returned own.result faultless_return low.returned
      from_return all_room)

  pub method_typed : IsTypedMethod program nodes (method_is decls decl start)
  method_typed = record {
    node = omega (arith, room);
    params = front_taken params (locals_of_trees inner stmts);
    locals = list_all-append (is_program_type program.records) params (locals_of_trees inner stmts)
        ∙ and_from (list_all (is_program_type program.records) params) (list_all (is_program_type program.records) (locals_of_trees inner stmts)) all_known
        (locals_known program own nodes named (changed program nodes own contract fits (scope_of decls) decl.modifies) inner fits_inner enough stmts clean.body
        low.body has_locals from_body (omega (arith, all_room)));
    result_type = result_known;
    modifies = all_vars program nodes own contract fits (scope_of decls) decl.modifies outer;
    once = modifies_once program nodes own contract fits (scope_of decls) decl.modifies outer
        (new_distinct bytes_eq bytes_flip [] (texts decl.modifies) (are_named contract fine is_global_var [] decl.modifies clean.modifies).new);
    requires_ = claims_noted program own nodes named everything contract fits decl.requires_ clean.requires_ low.requires_ (start + 1) (omega (arith, all_room));
    ensures_ = ensures_noted program nodes own contract fits (result_type (outline_names decls) decl).type same_result result_known decl.ensures_ clean.ensures_
        low.ensures_ from_ensures (omega (arith, all_room));
    body = body_typed;
  }
