-- A well-typed program is the one that stands for its own numbers.
use Rattle.std.proofs.Common.{◌≡◌, ℕ, zero, suc, ◌+◌, ◌-◌, ◌<◌, ◌≤◌, true, cond, nat_lt, List, [], ◌∷◌, map, length, slice_get, Some, option_map, refl, sym, ap, ap₂, ◌∙◌, subst, arith, length-take}
use Rattle.std.specs.List.{AllByRecursion}
use Rattle.std.proofs.lemmas.Bool.{false≢true, and_parts, ltb-true, lt-ltb, le-ltb}
use Rattle.std.proofs.lemmas.List.{length-map}
use Rattle.std.proofs.lemmas.Option.{slice_get_within}
use Rattle.slang_values.specs.Value.{ValueType}
use Rattle.slang_values.specs.declared.operators.Unary.{Unary}
use Rattle.program_trees.specs.Programs.{TypedExpr, number, truth, unary, listed, TypedExprs, no_exprs, expr_then, renamed_expr, renamed_exprs, MethodTree, GlobalTree, ProgramTree, renamed_method, renamed_global}
use Rattle.program_trees.specs.Variables.{Variable, local, global, entry, result, variable_of, variable_types, number_of, no_number, numbered_method}
use Rattle.typed_programs.specs.Parts.{is_constant, are_constant}
use Rattle.typed_programs.specs.WellTyped.{is_named_before, scope_before, scope_behind, around_body, body_end, IsTypedMethod, IsTypedGlobal, IsTypedProgram}
use Rattle.typed_texts.specs.TypedProjects.{NodeAt, typed_project}
use Rattle.claim_typing.proofs.Parts.{none_is_some}
use Rattle.project_typing.proofs.Projects.{projects_typed}
use Rattle.program_numbers.specs.Numbers.{NumbersStandForPrograms, NumberedProjectsAreTyped}
use Rattle.program_numbers.proofs.Names.{all_noted_back}
use Rattle.program_numbers.proofs.Codes.{codes_back}

-- ---- variables

abbrev InRange : ℕ → ℕ → Variable → Type 0
InRange locals globals (local n) = n < locals
InRange locals globals (global n) = n < globals
InRange locals globals (entry n) = n < globals
InRange locals globals result = Unit {0}

back : (locals globals : ℕ) (x : Variable) → InRange locals globals x → variable_of locals globals (number_of locals globals x) ≡ x
back locals globals (local n) h =
    ap (λ b. cond b (local n) (cond (nat_lt n (locals + globals)) (global (n - locals))
    (cond (nat_lt n (locals + globals + globals)) (entry (n - (locals + globals))) result))) (lt-ltb n locals h)
back locals globals (global n) h =
    let k = locals + n in
    ap (λ b. cond b (local k) (cond (nat_lt k (locals + globals)) (global (k - locals))
    (cond (nat_lt k (locals + globals + globals)) (entry (k - (locals + globals))) result))) (le-ltb k locals (omega arith))
    ∙ ap (λ b. cond b (global (k - locals)) (cond (nat_lt k (locals + globals + globals)) (entry (k - (locals + globals))) result))
    (lt-ltb k (locals + globals) (omega (arith, h)))
    ∙ ap global (let e : k - locals ≡ n = omega arith in e)
back locals globals (entry n) h =
    let k = locals + globals + n in
    ap (λ b. cond b (local k) (cond (nat_lt k (locals + globals)) (global (k - locals))
    (cond (nat_lt k (locals + globals + globals)) (entry (k - (locals + globals))) result))) (le-ltb k locals (omega arith))
    ∙ ap (λ b. cond b (global (k - locals)) (cond (nat_lt k (locals + globals + globals)) (entry (k - (locals + globals))) result))
    (le-ltb k (locals + globals) (omega arith))
    ∙ ap (λ b. cond b (entry (k - (locals + globals))) result) (lt-ltb k (locals + globals + globals) (omega (arith, h)))
    ∙ ap entry (let e : k - (locals + globals) ≡ n = omega arith in e)
back locals globals result h =
    let k = locals + globals + globals in
    ap (λ b. cond b (local k) (cond (nat_lt k (locals + globals)) (global (k - locals))
    (cond (nat_lt k (locals + globals + globals)) (entry (k - (locals + globals))) result))) (le-ltb k locals (omega arith))
    ∙ ap (λ b. cond b (global (k - locals)) (cond (nat_lt k (locals + globals + globals)) (entry (k - (locals + globals))) result))
    (le-ltb k (locals + globals) (omega arith))
    ∙ ap (λ b. cond b (entry (k - (locals + globals))) result) (le-ltb k (locals + globals + globals) (omega arith))

some_there : (xs : List (GlobalTree Variable)) (n : ℕ) (t : ValueType) → option_map (λ g. g.type) (slice_get xs n) ≡ Some t → n < length xs
some_there [] n t h = none_is_some h
some_there (x ∷ xs) zero t h = omega arith
some_there (x ∷ xs) (suc n) t h = omega (arith, some_there xs n t h)

typed_in_range : (program : ProgramTree Variable) (method : MethodTree Variable) (x : Variable) (t : ValueType) → variable_types program method x ≡ Some t →
    InRange (length method.locals) (length program.globals) x
typed_in_range program method (local n) t h = slice_get_within method.locals n t h
typed_in_range program method (global n) t h = some_there program.globals n t h
typed_in_range program method (entry n) t h = some_there program.globals n t h
typed_in_range program method result t h = tt

named_in_range : (program : ProgramTree Variable) (nodes : ℕ) (method : MethodTree Variable) → length method.params ≤ length method.locals → (x : Variable) →
    is_named_before program nodes method x ≡ true → InRange (length method.locals) (length program.globals) x
named_in_range program nodes method enough (local n) h = let k = ltb-true n (length method.params) h in omega (arith, k, enough)
named_in_range program nodes method enough (global n) h = ltb-true n (length program.globals) h
named_in_range program nodes method enough (entry n) h = absurd (false≢true h)
named_in_range program nodes method enough result h = absurd (false≢true h)

-- ---- methods

method_back : (program : ProgramTree Variable) (nodes : ℕ) (method : MethodTree Variable) → IsTypedMethod program nodes method →
    renamed_method (variable_of (length method.locals) (length program.globals)) (numbered_method (length program.globals) method) ≡ method
method_back program nodes method h =
    let f = number_of (length method.locals) (length program.globals) in
    let g = variable_of (length method.locals) (length program.globals) in
    let front = length-take (length method.params) method.locals in
    let same = ap length h.params in
    let enough : length method.params ≤ length method.locals = omega (arith, front, same) in
    let types = λ (x : Variable) (t : ValueType) (k : variable_types program method x ≡ Some t).
    back (length method.locals) (length program.globals) x (typed_in_range program method x t k) in
    let r = all_noted_back f g (scope_before program nodes method) types method.requires_ h.requires_ in
    let e = all_noted_back f g (scope_behind program nodes method) types method.ensures_ h.ensures_ in
    let b = codes_back f g (body_end program nodes method method.result) (around_body program nodes method) (record {
      types = types;
      named = λ x k. back (length method.locals) (length program.globals) x (named_in_range program nodes method enough x k);
    }) method.body h.body in
    λ i. record {
      name = method.name;
      node = method.node;
      params = method.params;
      result = method.result;
      requires_ = r i;
      modifies = method.modifies;
      ensures_ = e i;
      locals = method.locals;
      body = b i;
    }

methods_back : (program : ProgramTree Variable) (nodes : ℕ) (methods : List (MethodTree Variable)) → AllByRecursion (IsTypedMethod program nodes) methods →
    map (λ method. renamed_method (variable_of (length method.locals) (length program.globals)) method) (map (numbered_method (length program.globals)) methods) ≡ methods
methods_back program nodes [] h = refl
methods_back program nodes (method ∷ methods) h =
    ap₂ (λ m ms. m ∷ ms) (method_back program nodes method h.0) (methods_back program nodes methods h.1)

-- ---- globals

mutual
  const_back : (e : TypedExpr Variable) → is_constant e ≡ true → renamed_expr global (renamed_expr no_number e) ≡ e
  const_back (number node z) h = refl
  const_back (truth node b) h = refl
  const_back (unary node Unary.Neg (number inner z)) h = refl
  const_back (listed node front parts) h = ap (listed node front) (consts_back parts h)
  const_back other h = absurd (false≢true h)

  consts_back : (es : TypedExprs Variable) → are_constant es ≡ true → renamed_exprs global (renamed_exprs no_number es) ≡ es
  consts_back no_exprs h = refl
  consts_back (expr_then e es) h =
      let p = and_parts (is_constant e) (are_constant es) h in ap₂ expr_then (const_back e p.0) (consts_back es p.1)

globals_back : (program : ProgramTree Variable) (nodes : ℕ) (globals : List (GlobalTree Variable)) → AllByRecursion (IsTypedGlobal program nodes) globals →
    map (renamed_global global) (map (renamed_global no_number) globals) ≡ globals
globals_back program nodes [] h = refl
globals_back program nodes (first ∷ globals) h =
    let c = const_back first.initial h.0.constant in
    ap₂ (λ g gs. g ∷ gs) (λ i. record { fixed = first.fixed; type = first.type; initial = c i }) (globals_back program nodes globals h.1)

-- ---- programs

pub numbers_stand : NumbersStandForPrograms
numbers_stand program node_files files h =
    let count = length-map program.globals (renamed_global no_number) in
    let gs = globals_back program (length node_files) program.globals h.globals in
    let ms = subst
    (λ k. map (λ method. renamed_method (variable_of (length method.locals) k) method) (map (numbered_method (length program.globals)) program.methods) ≡ program.methods)
    (sym count) (methods_back program (length node_files) program.methods h.methods) in
    λ i. record { records = program.records; globals = gs i; methods = ms i }

pub numbered_typed : NumberedProjectsAreTyped
numbered_typed files none low =
    let project = typed_project files in
    let node_files = map (λ (node : NodeAt). node.file) project.nodes in
    let count = length project.files in
    let typed = projects_typed files none low in
    subst (λ program. IsTypedProgram program node_files count) (sym (numbers_stand project.program node_files count typed)) typed
