-- The scopes of a project and of its methods agree with the program.
use Rattle.std.proofs.Common.{◌≡◌, ℕ, zero, suc, ◌+◌, ◌<◌, Bool, true, false, not, ◌||◌, nat_lt, nat_eq, List, [], ◌∷◌, ◌++◌, length, slice_get, filter_map, Some, None, is_some, unwrap_or, option_map, refl, sym, ap, subst, arith}
use Rattle.std.specs.List.{AllByRecursion}
use Rattle.std.proofs.lemmas.Bool.{false≢true, or_right, ltb-true, lt-ltb}
use Rattle.std.proofs.lemmas.Bool.Decides.{nat_tests}
use Rattle.slang_values.specs.Value.{ValueType}
use Rattle.slang_tree.specs.DeclTree.{TypedName, GlobalDeclTree, DeclTree, import_decl, global_decl, record_decl, method_decl}
use Rattle.program_trees.specs.Programs.{MethodTree, GlobalTree, ProgramTree}
use Rattle.program_trees.specs.Variables.{Variable, local, global, entry, result, same_variable, variable_types}
use Rattle.typed_programs.specs.WellTyped.{is_program_type}
use Rattle.type_rules.specs.Meanings.{Meaning, variable, record_class, method, Declared, declared, Scope, meaning_among, is_known, is_well_declared, with_local}
use Rattle.type_rules.specs.Judged.{known_type}
use Rattle.type_rules.specs.TypeNames.{judged_type}
use Rattle.type_rules.specs.Constants.{judged_const}
use Rattle.type_rules.specs.Steps.{new_name_faults}
use Rattle.type_rules.specs.Faults.{duplicate_name}
use Rattle.type_rules.specs.Statements.{declared_type, texts}
use Rattle.type_rules.specs.Projects.{global_of, record_of, method_of, param_types, signature_of, method_number, outline_names, outline_of, scope_of, with_params, params_faults}
use Rattle.typed_texts.specs.TypedProjects.{types_declared, records_of}
use Rattle.claim_typing.proofs.Parts.{both_nil, none_is_some}
use Rattle.value_typing.proofs.Faultless.{type-fair}
use Rattle.statement_typing.specs.Around.{IsMeant, FitsAround, HasLocals}
use Rattle.statement_typing.proofs.Lists.{unless_not}
use Rattle.statement_typing.proofs.Types.{type_known}
use Rattle.statement_typing.proofs.Typed.{has_known}
use Rattle.statement_typing.proofs.Fits.{or_this, fits_local}
use Rattle.statement_typing.proofs.Statements.{behind_locals}
use Rattle.declaration_typing.specs.Records.{RecordsFit}
use Rattle.declaration_typing.proofs.Each.{found_among}
use Rattle.project_typing.proofs.Meanings.{AllMeant, found_all, found_apart, AreFine}
use Rattle.project_typing.proofs.Globals.{IsGlobalThere, AreGlobalsThere}
use Rattle.project_typing.proofs.Methods.{class_with, signature_is, program_is, IsMethodThere}

-- so many locals, and so many globals, may be named
abbrev pub named_with : (globals locals : ℕ) → Variable → Bool
named_with globals locals (local n) = nat_lt n locals
named_with globals locals (global n) = nat_lt n globals
named_with globals locals (entry n) = false
named_with globals locals result = false

abbrev pub everything : Variable → Bool
everything x = true

one_more : (k n : ℕ) → (nat_eq k n || nat_lt n k) ≡ nat_lt n (k + 1)
one_more k n = grind (arith, nat_tests)

or_named : (globals k : ℕ) (x : Variable) → or_this (local k) (named_with globals k) x ≡ named_with globals (k + 1) x
or_named globals k (local n) = one_more k n
or_named globals k (global n) = refl
or_named globals k (entry n) = refl
or_named globals k result = refl

or_every : (x y : Variable) → or_this x everything y ≡ everything y
or_every x y = or_right (same_variable x y) true refl

module _ (decls : List DeclTree) (fit : RecordsFit decls) (nodes : ℕ) (gs : List (GlobalTree Variable)) (ms : List (MethodTree Variable))
    (globals : AreGlobalsThere decls fit nodes gs 0 (filter_map global_of decls))
    (signatures : AllByRecursion (λ decl. signature_of (outline_names decls) decl ≡ Some (signature_is (outline_names decls) decl)) (filter_map method_of decls)) where
  -- ---- what is written for the types of names has no fault

  abbrev Fine : List ℕ → Meaning → Type 0
  Fine text m = is_well_declared (scope_of decls) m ≡ true

  all_fine : (g r : ℕ) (rest : List DeclTree) → AreGlobalsThere decls fit nodes gs g (filter_map global_of rest) →
      AllByRecursion (λ decl. signature_of (outline_names decls) decl ≡ Some (signature_is (outline_names decls) decl)) (filter_map method_of rest) →
      AllMeant (outline_of decls) decls Fine g r rest
  all_fine g r [] there signed = tt
  all_fine g r (import_decl place path ∷ others) there signed =
      all_fine (g + 0) (r + 0) others (subst (λ n. AreGlobalsThere decls fit nodes gs n (filter_map global_of others)) (let e : g ≡ g + 0 = omega arith in e) there) signed
  all_fine g r (global_decl decl ∷ others) there signed = (ap is_some there.0.declared, all_fine (g + 1) (r + 0) others there.1 signed)
  all_fine g r (record_decl decl ∷ others) there signed = (
    ap is_some (fit.same_fields r),
    all_fine (g + 0) (r + 1) others (subst (λ n. AreGlobalsThere decls fit nodes gs n (filter_map global_of others)) (let e : g ≡ g + 0 = omega arith in e) there) signed,
  )
  all_fine g r (method_decl decl ∷ others) there signed = (
    ap is_some signed.0,
    all_fine (g + 0) (r + 0) others (subst (λ n. AreGlobalsThere decls fit nodes gs n (filter_map global_of others)) (let e : g ≡ g + 0 = omega arith in e) there) signed.1,
  )

  pub scope_fine : AreFine (scope_of decls)
  scope_fine text m h =
      found_all (outline_of decls) decls Fine 0 0 decls (all_fine 0 0 decls globals signatures) text m (found_among (outline_of decls) decls 0 0 decls text m h)

  -- ---- the scope of a project

  module _ (own : MethodTree Variable) (methods : AllByRecursion (IsMethodThere decls fit nodes gs ms own) (filter_map method_of decls))
      (known : AllByRecursion (λ g. is_program_type (records_of decls) g.type ≡ true) gs) where
    abbrev program : ProgramTree Variable
    program = program_is decls fit nodes gs ms

    abbrev Meant : List ℕ → Meaning → Type 0
    Meant text m = IsMeant program own nodes (named_with (length gs) 0) everything (scope_of decls) text m

    global_meant_there : (g : ℕ) (decl : GlobalDeclTree) → IsGlobalThere decls fit nodes gs g decl →
        Meant decl.written.text (variable (global g) (not decl.fixed) (declared_type (outline_of decls) decl.ty (judged_const (outline_of decls) decl.init)))
    global_meant_there g decl there =
        subst (λ o. Meant decl.written.text (variable (global g) (not decl.fixed) o)) (sym there.declared) (record {
          is_named = lt-ltb g (length gs) there.below;
          typed = there.type_there;
          known = there.known;
          var = there.var_there;
          may_be_assigned = λ c d. refl;
          before = tt;
        })

    all_meant : (g r : ℕ) (rest : List DeclTree) → AreGlobalsThere decls fit nodes gs g (filter_map global_of rest) →
        AllByRecursion (λ decl. signature_of (outline_names decls) decl ≡ Some (signature_is (outline_names decls) decl)) (filter_map method_of rest) →
        AllByRecursion (IsMethodThere decls fit nodes gs ms own) (filter_map method_of rest) →
        r + length (filter_map record_of rest) ≡ length (records_of decls) → AllMeant (outline_of decls) decls Meant g r rest
    all_meant g r [] there signed are count = tt
    all_meant g r (import_decl place path ∷ others) there signed are count =
        all_meant (g + 0) (r + 0) others (subst (λ n. AreGlobalsThere decls fit nodes gs n (filter_map global_of others)) (let e : g ≡ g + 0 = omega arith in e) there) signed
        are (omega (arith, count))
    all_meant g r (global_decl decl ∷ others) there signed are count =
        (global_meant_there g decl there.0, all_meant (g + 1) (r + 0) others there.1 signed are (omega (arith, count)))
    all_meant g r (record_decl decl ∷ others) there signed are count = (
      omega (arith, count),
      all_meant (g + 0) (r + 1) others (subst (λ n. AreGlobalsThere decls fit nodes gs n (filter_map global_of others)) (let e : g ≡ g + 0 = omega arith in e) there) signed
          are (omega (arith, count)),
    )
    all_meant g r (method_decl decl ∷ others) there signed are count = (
      subst (λ o. Meant decl.written.text (method (method_number decls decl.written.text) o (texts decl.modifies))) (sym signed.0) are.0,
      all_meant (g + 0) (r + 0) others (subst (λ n. AreGlobalsThere decls fit nodes gs n (filter_map global_of others)) (let e : g ≡ g + 0 = omega arith in e) there) signed.1
          are.1 (omega (arith, count)),
    )

    known_at : (xs : List (GlobalTree Variable)) (n : ℕ) (t : ValueType) → AllByRecursion (λ g. is_program_type (records_of decls) g.type ≡ true) xs →
        option_map (λ g. g.type) (slice_get xs n) ≡ Some t → is_program_type (records_of decls) t ≡ true
    known_at [] n t all h = none_is_some h
    known_at (x ∷ xs) zero t all h = subst (λ u. is_program_type (records_of decls) u ≡ true) (ap (λ o. unwrap_or o t) h) all.0
    known_at (x ∷ xs) (suc n) t all h = known_at xs n t all.1 h

    named_known : (x : Variable) (t : ValueType) → named_with (length gs) 0 x ≡ true → variable_types program own x ≡ Some t →
        is_program_type (records_of decls) t ≡ true
    named_known (local n) t h k = absurd (let e = ltb-true n 0 h in omega (arith, e))
    named_known (global n) t h k = known_at gs n t known k
    named_known (entry n) t h k = absurd (false≢true h)
    named_known result t h k = absurd (false≢true h)

    pub fits_project : 0 + length (filter_map record_of decls) ≡ length (records_of decls) →
        FitsAround program own nodes (named_with (length gs) 0) everything (scope_of decls)
    fits_project count = record {
      meanings = λ text m h. found_all (outline_of decls) decls Meant 0 0 decls (all_meant 0 0 decls globals signatures methods count) text m
          (found_among (outline_of decls) decls 0 0 decls text m h);
      apart = λ s t x c d u v h k. found_apart (outline_of decls) decls 0 0 decls s t x c d u v
          (found_among (outline_of decls) decls 0 0 decls s (variable x c u) h) (found_among (outline_of decls) decls 0 0 decls t (variable x d v) k);
      outside = refl;
      fresh = λ n h. ltb-true n 0 h;
      named_types = named_known;
      same_fields = fit.same_fields;
      typed_fields = fit.typed_fields;
      known_fields = fit.known_fields;
      value_fields = fit.value_fields;
    }

    -- ---- with parameters

    param_step : (scope : Scope) (text : List ℕ) (t : ValueType) → FitsAround program own nodes (named_with (length gs) scope.locals) everything scope →
        is_known scope text ≡ false → slice_get own.locals scope.locals ≡ Some t → is_program_type (records_of decls) t ≡ true →
        FitsAround program own nodes (named_with (length gs) (scope.locals + 1)) everything (with_local scope text false (Some t))
    param_step scope text t fits new there good =
        subst (λ f. FitsAround program own nodes f everything (with_local scope text false (Some t))) (λ i x. or_named (length gs) scope.locals x i)
        (subst (λ f. FitsAround program own nodes (or_this (local scope.locals) (named_with (length gs) scope.locals)) f (with_local scope text false (Some t)))
        (λ i x. or_every (local scope.locals) x i)
        (fits_local program own nodes (named_with (length gs) scope.locals) everything scope text false t fits new there good (λ e. absurd (false≢true e))))

    pub fits_params : (names : List Declared) (scope : Scope) (params : List TypedName) →
        ((text : List ℕ) (n : ℕ) → meaning_among names text ≡ Some (record_class n) → n < length (records_of decls)) →
        params_faults scope params (param_types names params) ≡ [] → HasLocals own scope.locals (types_declared (param_types names params)) →
        FitsAround program own nodes (named_with (length gs) scope.locals) everything scope →
        FitsAround program own nodes (named_with (length gs) (with_params scope params (param_types names params)).locals) everything
        (with_params scope params (param_types names params))
    fits_params names scope [] classes h has fits = fits
    fits_params names scope (param ∷ params) classes h has fits =
        let part = judged_type names param.ty in
        let more = names ++ declared param.written.text (variable (global 0) false None) ∷ [] in
        let rest = types_declared (param_types more params) in
        let next = with_local scope param.written.text false part.type in
        let p = both_nil (new_name_faults scope param.written ++ part.faults) (params_faults next params (param_types more params)) h in
        let q = both_nil (new_name_faults scope param.written) part.faults p.0 in
        let typed = has_known part ((type-fair names param.ty).0 q.1) in
        let there : slice_get own.locals scope.locals ≡ Some (known_type part) =
        subst (λ n. slice_get own.locals n ≡ Some (known_type part)) (let e : scope.locals + 0 ≡ scope.locals = omega arith in e) (has 0 (known_type part) refl) in
        let step = param_step scope param.written.text (known_type part) fits (unless_not (is_known scope param.written.text) (duplicate_name param.written.place) q.0)
        there (type_known (records_of decls) names classes param.ty (known_type part) typed) in
        fits_params more next params (class_with names (declared param.written.text (variable (global 0) false None)) (global 0) (length (records_of decls)) refl classes) p.1
        (behind_locals own scope.locals (scope.locals + 1) (known_type part ∷ []) rest (omega arith) has)
        (subst (λ o. FitsAround program own nodes (named_with (length gs) (scope.locals + 1)) everything (with_local scope param.written.text false o)) (sym typed) step)

-- how many locals there are with the parameters
pub param_count : (names : List Declared) (scope : Scope) (params : List TypedName) →
    (with_params scope params (param_types names params)).locals ≡ scope.locals + length (types_declared (param_types names params))
param_count names scope [] = omega arith
param_count names scope (param ∷ params) =
    let more = names ++ declared param.written.text (variable (global 0) false None) ∷ [] in
    let next = with_local scope param.written.text false (judged_type names param.ty).type in
    omega (arith, param_count more next params)
