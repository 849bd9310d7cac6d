-- A project without faults gives a well-typed program.
use Rattle.std.proofs.Common.{◌≡◌, inl, inr, ℕ, suc, ◌+◌, ◌≤◌, true, nat_lt, bytes_eq, List, [], ◌∷◌, ◌++◌, map, length, get_or, slice_get, filter_map, Some, is_some, refl, sym, ap, ◌∙◌, subst, arith}
use Rattle.std.specs.List.{AllByRecursion, IsDistinct, list_all}
use Rattle.std.proofs.lemmas.List.{length-map}
use Rattle.slang_values.specs.Value.{is_value_type}
use Rattle.slang_tree.specs.StmtTree.{stmts_of}
use Rattle.slang_tree.specs.DeclTree.{RecordDeclTree, MethodDeclTree, DeclTree}
use Rattle.program_trees.specs.Programs.{MethodTree, GlobalTree, ProgramTree}
use Rattle.program_trees.specs.Variables.{Variable, local, global, entry, result}
use Rattle.typed_programs.specs.WellTyped.{is_program_type, is_named_before, IsTypedMethod, IsTypedGlobal}
use Rattle.type_rules.specs.Meanings.{Declared}
use Rattle.type_rules.specs.Records.{FieldTypes}
use Rattle.type_rules.specs.Projects.{in_order, declarations, global_of, record_of, method_of, param_types, signature_of, records_from, record_fields, outline_names, outline_of, scope_of, body_scope, global_faults, written_fields}
use Rattle.typed_texts.specs.Code.{locals_of_trees, type_declared}
use Rattle.typed_texts.specs.TypedProjects.{types_declared, members_from, records_of, sorted, typed_project}
use Rattle.text_heights.specs.Heights.{const_height}
use Rattle.statement_typing.specs.Around.{Among, FitsAround, HasLocals}
use Rattle.statement_typing.proofs.Lists.{each_weaker}
use Rattle.statement_typing.proofs.Statements.{front_locals}
use Rattle.declaration_typing.specs.Records.{RecordsFit}
use Rattle.declaration_typing.proofs.Each.{faultless_each}
use Rattle.declaration_typing.proofs.Records.{records_fit}
use Rattle.declaration_typing.proofs.Sorted.{each_sorted, are_sorted}
use Rattle.project_typing.specs.Projects.{IsLowMethod, IsLowDecl, ProjectsAreTyped}
use Rattle.project_typing.proofs.Members.{AllTwo, two_each, IsGlobalOf, IsMethodOf, members_in_files, files_there}
use Rattle.project_typing.proofs.Meanings.{IsClean, clean_each, each_global, each_method}
use Rattle.project_typing.proofs.Globals.{AreGlobalsThere, whole_tail, globals_there, global_typed}
use Rattle.project_typing.proofs.Methods.{IsCleanMethod, clean_method, params_typed, signature_is, signature_there, result_type_known, program_is, stands_at, IsMethodThere, method_there}
use Rattle.project_typing.proofs.Scopes.{named_with, everything, scope_fine, fits_project, fits_params, param_count}
use Rattle.project_typing.proofs.Bodies.{params_known, method_is, contract_of, method_typed}
use Rattle.project_typing.proofs.Faultless.{project_faultless, names_distinct}

each_among : {A : Type 0} (P : A → Type 0) (all xs : List A) → ((a : A) → Among a xs → Among a all) → ((a : A) → Among a all → P a) → AllByRecursion P xs
each_among P all [] inside f = tt
each_among P all (x ∷ xs) inside f = (f x (inside x (inl refl)), each_among P all xs (λ a h. inside a (inr h)) f)

of_each : {A : Type 0} (P : A → Type 0) (xs : List A) (a : A) → Among a xs → AllByRecursion P xs → P a
of_each P [] a h all = absurd h
of_each P (x ∷ xs) a (inl e) all = subst P e all.0
of_each P (x ∷ xs) a (inr h) all = of_each P xs a h all.1

each_both : {A : Type 0} (P Q : A → Type 0) (xs : List A) → AllByRecursion P xs → AllByRecursion Q xs → AllByRecursion (λ a. P a × Q a) xs
each_both P Q [] h k = tt
each_both P Q (x ∷ xs) h k = ((h.0, k.0), each_both P Q xs h.1 k.1)

each_place : {A : Type 0} (P : A → Type 0) (d : A) (xs : List A) → ((n : ℕ) → P (get_or xs n d)) → AllByRecursion P xs
each_place P d [] h = tt
each_place P d (x ∷ xs) h = (h 0, each_place P d xs (λ n. h (suc n)))

count_from : (names : List Declared) (written : FieldTypes) (n : ℕ) (decls : List RecordDeclTree) → length (records_from names written n decls) ≡ length decls
count_from names written n [] = refl
count_from names written n (decl ∷ decls) = omega (arith, count_from names written (n + 1) decls)

count_records : (decls : List DeclTree) → 0 + length (filter_map record_of decls) ≡ length (records_of decls)
count_records decls =
    let a = length-map (record_fields decls) (map (λ f. type_declared f.type)) in
    let b = count_from (outline_names decls) (written_fields decls) 0 (filter_map record_of decls) in
    omega (arith, a, b)

same_named : (program : ProgramTree Variable) (nodes : ℕ) (own : MethodTree Variable) (k : ℕ) → k ≡ length own.params → (x : Variable) →
    named_with (length program.globals) k x ≡ is_named_before program nodes own x
same_named program nodes own k e (local n) = ap (nat_lt n) e
same_named program nodes own k e (global n) = refl
same_named program nodes own k e (entry n) = refl
same_named program nodes own k e result = refl

-- ---- a project of these declarations, whose members are these

module _ (decls : List DeclTree) (fit : RecordsFit decls) (nodes : ℕ) (gs : List (GlobalTree Variable)) (ms : List (MethodTree Variable))
    (clean : AllByRecursion (IsClean decls) decls) (low : AllByRecursion IsLowDecl decls)
    (are_globals : AllTwo (IsGlobalOf decls nodes) (filter_map global_of decls) gs)
    (are_methods : AllTwo (IsMethodOf decls nodes) (filter_map method_of decls) ms)
    (distinct : IsDistinct bytes_eq (map (λ method. method.name) ms)) where
  abbrev names : List Declared
  names = outline_names decls

  abbrev program : ProgramTree Variable
  program = program_is decls fit nodes gs ms

  clean_globals : AllByRecursion (λ decl. global_faults (outline_of decls) decl ≡ []) (filter_map global_of decls)
  clean_globals = each_global (IsClean decls) (λ decl. global_faults (outline_of decls) decl ≡ []) (λ decl h. h) decls clean

  low_globals : AllByRecursion (λ decl. const_height decl.init ≤ 1000) (filter_map global_of decls)
  low_globals = each_global IsLowDecl (λ decl. const_height decl.init ≤ 1000) (λ decl h. h) decls low

  pub globals_typed : AllByRecursion (IsTypedGlobal (program_is decls fit nodes gs ms) nodes) gs
  globals_typed =
      two_each (IsGlobalOf decls nodes) (λ decl. (global_faults (outline_of decls) decl ≡ []) × (const_height decl.init ≤ 1000)) (IsTypedGlobal program nodes)
      (λ decl g h is. global_typed decls fit nodes gs program refl decl g h.0 h.1 is) (filter_map global_of decls) gs
      (each_both (λ decl. global_faults (outline_of decls) decl ≡ []) (λ decl. const_height decl.init ≤ 1000) (filter_map global_of decls) clean_globals low_globals)
      are_globals

  known : AllByRecursion (λ g. is_program_type (records_of decls) g.type ≡ true) gs
  known = each_weaker (IsTypedGlobal program nodes) (λ g. is_program_type (records_of decls) g.type ≡ true) (λ g h. h.type) gs globals_typed

  abbrev Clean : MethodDeclTree → Type 0
  Clean decl = IsCleanMethod names (scope_of decls) decl

  clean_methods : AllByRecursion (λ decl. IsCleanMethod (outline_names decls) (scope_of decls) decl) (filter_map method_of decls)
  clean_methods = each_method (IsClean decls) Clean (λ decl h. clean_method names (scope_of decls) decl h) decls clean

  low_methods : AllByRecursion IsLowMethod (filter_map method_of decls)
  low_methods = each_method IsLowDecl IsLowMethod (λ decl h. h) decls low

  signatures : AllByRecursion (λ decl. signature_of (outline_names decls) decl ≡ Some (signature_is (outline_names decls) decl)) (filter_map method_of decls)
  signatures = each_weaker Clean (λ decl. signature_of names decl ≡ Some (signature_is names decl)) (λ decl h. signature_there names (scope_of decls) decl h)
      (filter_map method_of decls) clean_methods

  globals : AreGlobalsThere decls fit nodes gs 0 (filter_map global_of decls)
  globals = globals_there decls fit nodes gs 0 (filter_map global_of decls) gs clean_globals are_globals (whole_tail gs)

  methods : (own : MethodTree Variable) → AllByRecursion (IsMethodThere decls fit nodes gs ms own) (filter_map method_of decls)
  methods own =
      each_among (IsMethodThere decls fit nodes gs ms own) (filter_map method_of decls) (filter_map method_of decls) (λ decl h. h)
      (λ decl h. method_there decls fit nodes gs ms own decl (of_each Clean (filter_map method_of decls) decl h clean_methods)
      (scope_fine decls fit nodes gs ms globals signatures)
      (stands_at decls fit nodes gs ms (are_sorted ms distinct) are_methods decl h))

  contract_fits : (decl : MethodDeclTree) (start : ℕ) → Clean decl →
      FitsAround program (method_is decls decl start) nodes (is_named_before program nodes (method_is decls decl start)) everything (contract_of decls decl)
  contract_fits decl start is =
      let own = method_is decls decl start in
      let params = types_declared (param_types names decl.params) in
      let locals = locals_of_trees (body_scope names (scope_of decls) decl) (stmts_of decl.body) in
      let whole : HasLocals own 0 (params ++ locals) = λ k t h. subst (λ n. slice_get own.locals n ≡ Some t) (let e : k ≡ 0 + k = omega arith in e) h in
      let count = param_count names (scope_of decls) decl.params in
      subst (λ f. FitsAround program own nodes f everything (contract_of decls decl))
      (λ i x. same_named program nodes own (contract_of decls decl).locals (let e : 0 + length params ≡ length params = omega arith in count ∙ e) x i)
      (fits_params decls fit nodes gs ms globals signatures own (methods own) known names (scope_of decls) decl.params fit.classes is.params
      (front_locals own 0 params locals whole)
      (fits_project decls fit nodes gs ms globals signatures own (methods own) known (count_records decls)))

  method_in : (decl : MethodDeclTree) (method : MethodTree Variable) → Clean decl × IsLowMethod decl → IsMethodOf decls nodes decl method →
      IsTypedMethod program nodes method
  method_in decl method h is =
      subst (IsTypedMethod program nodes) (sym is.same)
      (method_typed program nodes decls decl is.start is.room h.0 h.1 (contract_fits decl is.start h.0) (result_type_known decls fit (scope_of decls) decl h.0)
      (params_known names program decl.params fit.classes (params_typed names (scope_of decls) decl.params h.0.params))
      (ap is_some (signature_there names (scope_of decls) decl h.0)))

  pub methods_typed : AllByRecursion (IsTypedMethod (program_is decls fit nodes gs ms) nodes) (sorted ms)
  methods_typed =
      each_sorted (IsTypedMethod program nodes) ms
      (two_each (IsMethodOf decls nodes) (λ decl. Clean decl × IsLowMethod decl) (IsTypedMethod program nodes) method_in (filter_map method_of decls) ms
      (each_both Clean IsLowMethod (filter_map method_of decls) clean_methods low_methods) are_methods)

-- ---- projects

pub projects_typed : ProjectsAreTyped
projects_typed files none low =
    let decls = declarations files in
    let faultless = project_faultless files none in
    let fit = records_fit decls faultless in
    let part = members_from decls 0 (in_order files) in
    let count = length-map part.places (λ node. node.file) in
    let nodes = length (map (λ node. node.file) part.places) in
    let members = part.from 0 in
    let are = members_in_files decls nodes (in_order files) 0 0 (omega (arith, count)) in
    let clean = clean_each decls [] decls (faultless_each decls [] decls faultless) in
    let distinct = names_distinct decls nodes members.methods faultless are.methods in
    let file_count = length-map (in_order files) (λ file. file.name) in
    record {
      records = fit.well_formed;
      fields = each_place (λ types. list_all is_value_type types ≡ true) [] (records_of decls) fit.value_fields;
      globals = globals_typed decls fit nodes members.globals members.methods clean low are.globals are.methods distinct;
      methods = methods_typed decls fit nodes members.globals members.methods clean low are.globals are.methods distinct;
      sorted = (are_sorted members.methods distinct).ascending;
      node_files_there = files_there decls nodes (in_order files) 0 (length (typed_project files).files) (omega (arith, file_count));
    }
