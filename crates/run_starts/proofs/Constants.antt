-- A constant where no variable has a value, and methods by their names.
use Rattle.std.proofs.Common.{◌≡◌, ℕ, zero, suc, ◌+◌, ◌<◌, ◌≤◌, List, [], ◌∷◌, ◌++◌, map, length, take, get_or, refl, sym, ap, ◌∙◌, subst, ⊎_elim, arith}
use Rattle.std.proofs.lemmas.Bool.{cases_order}
use Rattle.slang_values.specs.Value.{Records, Value, unit}
use Rattle.slang_values.specs.Tree.{name, value}
use Rattle.validity.specs.Validity.{no_bounds}
use Rattle.validity.proofs.Binds.{value-bind}
use Rattle.program_trees.specs.Claims.{ClaimName, variable, old_variable, let_symbol, renamed_name}
use Rattle.program_trees.specs.Programs.{TypedExpr, claim_of, renamed_expr}
use Rattle.program_trees.specs.Variables.{Variable, local, global, entry, result}
use Rattle.run_rules.specs.Values.{name_value, claim_value}
use Rattle.std.specs.Prelude.{Result, Ok, Err, IfOk}
use Rattle.std.proofs.lemmas.List.{map-append}
use Rattle.std.proofs.Math.Seq.{take-suc}
use Rattle.program_trees.specs.Programs.{MethodTree, ProgramTree, renamed_global}
use Rattle.lk_programs.specs.declared.program.Global.{Global}
use Rattle.lk_programs.specs.declared.program.Method.{Method}
use Rattle.lk_programs.specs.Program.{global_tree, method_tree}
use Rattle.run_rules.specs.Runs.{initial_value, no_method}
use Rattle.run_values.specs.declared.value.Value.{Value as RunValue}
use Rattle.run_values.specs.Value.{plain_value}
use Rattle.expression_values.specs.declared.environment.Env.{Env}
use Rattle.expression_values.specs.Environment.{value_in, values_in}
use Rattle.run_starts.specs.Constants.{constant_value}
use Rattle.leg_items.proofs.Renaming.{claim_of-renamed}

no_value : (f : ℕ → Variable) (a : ClaimName ℕ) → name_value (λ x. unit) (renamed_name f a) ≡ unit
no_value f (variable x) = refl
no_value f (old_variable x) = refl
no_value f (let_symbol label) = refl

-- the value does not hang on what the names are called
unnamed : (records : Records) (f : ℕ → Variable) (e : TypedExpr ℕ)
    → claim_value records (λ x. unit) (claim_of (renamed_expr f e)) ≡ value records (λ (a : ClaimName ℕ). unit) no_bounds (claim_of e)
unnamed records f e =
    ap (claim_value records (λ x. unit)) (claim_of-renamed f e)
    ∙ value-bind records (name_value (λ x. unit)) (λ a. name (renamed_name f a)) (λ a. tt) (claim_of e) no_bounds
    ∙ ap (λ (names : ClaimName ℕ → Value). value records names no_bounds (claim_of e)) (λ i a. no_value f a i)

pub same_constant : (records : Records) (assigned : Variable → Value) (f g : ℕ → Variable) (e : TypedExpr ℕ) → ((x : Variable) → assigned x ≡ unit)
    → claim_value records assigned (claim_of (renamed_expr f e)) ≡ claim_value records (λ x. unit) (claim_of (renamed_expr g e))
same_constant records assigned f g e none =
    ap (λ (values : Variable → Value). claim_value records values (claim_of (renamed_expr f e))) (λ i x. none x i) ∙ unnamed records f e
    ∙ sym (unnamed records g e)

-- an environment without values
pub none_have : (env : Env) → env.locals ≡ [] → env.globals ≡ [] → env.entry ≡ [] → plain_value env.result ≡ unit → (x : Variable) → values_in env x ≡ unit
none_have env l g e r (local n) = ap (λ (xs : List RunValue). value_in xs n) l
none_have env l g e r (global n) = ap (λ (xs : List RunValue). value_in xs n) g
none_have env l g e r (entry n) = ap (λ (xs : List RunValue). value_in xs n) e
none_have env l g e r result = r

pub if_ok_map : {X E : Type 0} (r : Result X E) (P Q : X → Type 0) → ((x : X) → P x → Q x) → IfOk r P → IfOk r Q
if_ok_map (Ok x) P Q f h = f x h
if_ok_map (Err e) P Q f h = tt

-- the values of the globals of a program, one by one
pub globals_same : (program : ProgramTree Variable) (globals : List Global)
    → map (constant_value program.records) globals ≡ map (initial_value program) (map (renamed_global global) (map global_tree globals))
globals_same program [] = refl
globals_same program (one ∷ globals) = ap (λ (vs : List Value). constant_value program.records one ∷ vs) (globals_same program globals)

pub one_more : (records : Records) (globals : List Global) (place : ℕ) (own : Global) (old new : List RunValue) → place < length globals
    → own ≡ get_or globals place own → map plain_value old ≡ map (constant_value records) (take place globals)
    → map plain_value new ≡ map plain_value old ++ constant_value records own ∷ []
    → map plain_value new ≡ map (constant_value records) (take (place + 1) globals)
one_more records globals place own old new there is before added =
    added ∙ ap (λ (vs : List Value). vs ++ constant_value records own ∷ []) before
    ∙ sym (map-append (constant_value records) (take place globals) (own ∷ []))
    ∙ ap (map (constant_value records)) (sym (take_more globals place own there is))
  where
    take_more : (xs : List Global) (n : ℕ) (x : Global) → n < length xs → x ≡ get_or xs n x → take (n + 1) xs ≡ take n xs ++ x ∷ []
    take_more xs n x l e =
        let s : n + 1 ≡ suc n = omega arith in
        ap (λ k. take k xs) s ∙ take-suc xs n x l ∙ ap (λ (y : Global). take n xs ++ y ∷ []) (sym e)

-- ---- methods

module _ (f : MethodTree ℕ → MethodTree Variable) (keeps : (m : MethodTree ℕ) → (f m).name ≡ m.name) where
  pub name_is : (methods : List Method) (n : ℕ) (m : Method) → n < length methods → m ≡ get_or methods n m
      → (get_or (map f (map method_tree methods)) n no_method).name ≡ m.name
  name_is [] n m l is = absurd (omega (arith, l))
  name_is (one ∷ methods) zero m l is = keeps (method_tree one) ∙ ap (λ (x : Method). x.name) (sym is)
  name_is (one ∷ methods) (suc n) m l is = name_is methods n m (omega (arith, l)) is

  pub count_is : (methods : List Method) → length (map f (map method_tree methods)) ≡ length methods
  count_is [] = refl
  count_is (one ∷ methods) = ap suc (count_is methods)

  module _ (methods : List Method) (name : List ℕ) where
    abbrev Named : ℕ → Type 0
    Named n = (n < length (map f (map method_tree methods))) × ((get_or (map f (map method_tree methods)) n no_method).name ≡ name)

    within : (n : ℕ) → n < length (map f (map method_tree methods)) → n < length methods
    within n l = omega (arith, l, count_is methods)

    pub named : (n : ℕ) (m : Method) → n < length methods → m ≡ get_or methods n m → m.name ≡ name → Named n
    named n m l is same = (omega (arith, l, count_is methods), name_is methods n m l is ∙ same)

    pub none_more : (place : ℕ) (m : Method) → place < length methods → m ≡ get_or methods place m → (m.name ≡ name → ⊥) → ((n : ℕ) → n < place → Named n → ⊥)
        → (n : ℕ) → n < place + 1 → Named n → ⊥
    none_more place m l is other before n near h =
        ⊎_elim (λ (e : n ≡ place). other (sym (name_is methods place m l is)
        ∙ subst (λ k. (get_or (map f (map method_tree methods)) k no_method).name ≡ name) e h.1))
        (⊎_elim (λ (less : n < place). before n less h) (λ (more : place < n). absurd (omega (arith, near, more)))) (cases_order n place)

    pub none_at_all : (place : ℕ) → length methods ≤ place → ((n : ℕ) → n < place → Named n → ⊥) → (n : ℕ) → Named n → ⊥
    none_at_all place past before n h = before n (omega (arith, within n h.0, past)) h
