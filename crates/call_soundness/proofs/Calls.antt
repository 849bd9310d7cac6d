-- What a leg knows at a call, and what it knows behind one.
use Rattle.std.proofs.Common.{◌≡◌, ℕ, zero, suc, ◌+◌, ◌<◌, Bool, true, false, cond, List, [], ◌∷◌, ◌++◌, map, length, get_or, Some, refl, sym, ap, ◌∙◌, subst, arith}
use Rattle.std.specs.Prelude.{nat_eq, nat_lt, ◌||◌, slice_get, slice_index_or}
use Rattle.std.specs.Option.{option_map}
use Rattle.std.specs.Set.{is_member}
use Rattle.std.proofs.lemmas.Bool.{false≢true, ltb-true}
use Rattle.std.proofs.lemmas.Bool.Decides.{Decides-eqb}
use Rattle.std.proofs.lemmas.Option.{slice_get-get_or}
use Rattle.slang_values.specs.Value.{ValueType, AreWellFormed, Value, HasType}
use Rattle.slang_values.specs.Typing.{NameTypes, FitNames}
use Rattle.program_trees.specs.Claims.{NotedTree, renamed_noted}
use Rattle.program_trees.specs.Programs.{TypedExpr, claim_of, MethodTree, ProgramTree}
use Rattle.program_trees.specs.Variables.{Variable, local, global, entry, result, variable_types}
use Rattle.run_rules.specs.Values.{Values, claim_value}
use Rattle.run_rules.specs.Runs.{method_at, entered, argument_values, AreGlobals, Fits}
use Rattle.leg_rules.specs.LegNames.{LegName, own, of_call, same_name, callee_name}
use Rattle.leg_rules.specs.Legs.{Items, own_claim, parameter_items, requires_items, entry_items}
use Rattle.leg_soundness.specs.Passing.{LegValues, leg_value, with_now, Passes, leg_types}
use Rattle.leg_soundness.specs.Scopes.{Scope, requires_scope, AreExprs, IsInOrderMethod}
use Rattle.leg_soundness.proofs.Names.{none≢some, same_name-true, same_name-itself, scoped, AgreesBy, Agrees, own_value, fit_put, fit_with}
use Rattle.leg_soundness.proofs.Demands.{typed_value}
use Rattle.leg_soundness.proofs.Items.{passes_append}
use Rattle.leg_soundness.proofs.Ready.{kept_choice, AllTrue, HasGlobals, AreTrueAt, claims_of_run, claims_same, Ready}

-- the number of a local that a name of a call stands for
abbrev local_number : LegName → ℕ
local_number (own x) = 0
local_number (of_call node method (local n)) = n
local_number (of_call node method (global n)) = 0
local_number (of_call node method (entry n)) = 0
local_number (of_call node method result) = 0

-- the number of an entry value that a name of a call stands for
abbrev entry_number : LegName → ℕ
entry_number (own x) = 0
entry_number (of_call node method (local n)) = 0
entry_number (of_call node method (global n)) = 0
entry_number (of_call node method (entry n)) = n
entry_number (of_call node method result) = 0

abbrev is_parameter : LegName → Bool
is_parameter (own x) = false
is_parameter (of_call node method (local n)) = true
is_parameter (of_call node method (global n)) = false
is_parameter (of_call node method (entry n)) = false
is_parameter (of_call node method result) = false

get_front : {A : Type 0} (xs ys : List A) (n : ℕ) (x : A) → slice_get xs n ≡ Some x → slice_get (xs ++ ys) n ≡ Some x
get_front [] ys n x at = absurd (none≢some at)
get_front (y ∷ xs) ys zero x at = at
get_front (y ∷ xs) ys (suc n) x at = get_front xs ys n x at

-- ---- choices

chosen_same : (b : Bool) (v now other : Value) → (b ≡ true → v ≡ other) → now ≡ other → cond b v now ≡ other
chosen_same true v now other h k = h refl
chosen_same false v now other h k = k

first_or : {P : Type 0} (a b : Bool) → (a || b) ≡ true → (a ≡ true → P) → (b ≡ true → P) → P
first_or true b h f g = f refl
first_or false b h f g = g h

module _ (program : ProgramTree Variable) (method : MethodTree Variable) (formed : AreWellFormed program.records) where
  -- ---- arguments

  pub arguments_fit : (scope : Scope) (s : LegValues) (values : Values) → Ready program method formed scope s values → (ts : List ValueType)
      (exprs : List (TypedExpr Variable)) → AreExprs program method scope ts exprs → Fits program (argument_values program values exprs) ts
  arguments_fit scope s values ready [] [] typed = tt
  arguments_fit scope s values ready [] (expr ∷ exprs) typed = absurd typed
  arguments_fit scope s values ready (t ∷ ts) [] typed = absurd typed
  arguments_fit scope s values ready (t ∷ ts) (expr ∷ exprs) typed =
      (typed_value program method formed scope values ready.run (claim_of expr) t typed.0, arguments_fit scope s values ready ts exprs typed.1)

  as_many : (scope : Scope) (values : Values) (ts : List ValueType) (exprs : List (TypedExpr Variable)) → AreExprs program method scope ts exprs
      → length (argument_values program values exprs) ≡ length ts
  as_many scope values [] [] typed = refl
  as_many scope values [] (expr ∷ exprs) typed = absurd typed
  as_many scope values (t ∷ ts) [] typed = absurd typed
  as_many scope values (t ∷ ts) (expr ∷ exprs) typed = ap suc (as_many scope values ts exprs typed.1)

  pub globals_fit : (scope : Scope) (s : LegValues) (values : Values) → Ready program method formed scope s values
      → AreGlobals program (λ n. values (global n))
  globals_fit scope s values ready = record {
    typed = λ n d lt. ready.run (global n) (get_or program.globals n d).type (ap (option_map (λ g. g.type)) (slice_get-get_or program.globals n d lt));
    fixed = λ n d lt fixed. ready.initial n d lt fixed;
  }

  module _ (node number : ℕ) where
    abbrev callee : MethodTree Variable
    callee = method_at program number

    abbrev types : NameTypes LegName
    types = leg_types program method

    abbrev parameter : ℕ → LegName
    parameter n = of_call node number (local n)

    abbrev entry_name : ℕ → LegName
    entry_name n = of_call node number (entry n)

    abbrev result_name : LegName
    result_name = of_call node number result

    -- ---- parameters

    -- The parameters from a place on have these values, and what is the method's own is as it was.
    pub record WithParameters (place : ℕ) (arguments : List Value) (s t : LegValues) : Type 0 where
      pub own_same : (x : Variable) → t.now (own x) ≡ s.now (own x)
      pub fit : FitNames program.records types t.now
      pub before : (n : ℕ) → n < place → t.now (parameter n) ≡ s.now (parameter n)
      pub given : (n : ℕ) (d : Value) → n < length arguments → t.now (parameter (place + n)) ≡ slice_index_or arguments n d

    given_next : (t : LegValues) (place : ℕ) (v : Value) (arguments : List Value) → t.now (parameter place) ≡ v
        → ((n : ℕ) (d : Value) → n < length arguments → t.now (parameter (suc place + n)) ≡ slice_index_or arguments n d)
        → (n : ℕ) (d : Value) → n < length (v ∷ arguments) → t.now (parameter (place + n)) ≡ slice_index_or (v ∷ arguments) n d
    given_next t place v arguments here next zero d lt =
        let same : place + 0 ≡ place = omega arith in
        ap (λ m. t.now (parameter m)) same ∙ here
    given_next t place v arguments here next (suc n) d lt =
        let same : place + suc n ≡ suc place + n = omega arith in
        ap (λ m. t.now (parameter m)) same ∙ next n d (omega arith)

    other_parameter : (m n : ℕ) → m < n → same_name (parameter m) (parameter n) ≡ true → ⊥
    other_parameter m n lt same =
        let is : m ≡ n = ap local_number (same_name-true (parameter m) (parameter n) same) in
        absurd (omega (arith, is, lt))

    past_parameters : (scope : Scope) (place : ℕ) (params : List ValueType) (arguments : List (TypedExpr Variable)) (s : LegValues) (values : Values)
        (End : LegValues → Type 0) → Agrees scope s values → FitNames program.records types s.now
        → FitNames program.records (variable_types program method) values → AreExprs program method scope params arguments
        → ((n : ℕ) (t : ValueType) → slice_get params n ≡ Some t → slice_get callee.locals (place + n) ≡ Some t)
        → Passes program.records types (parameter_items node number place arguments) End s
        → (t : LegValues) × WithParameters place (argument_values program values arguments) s t × End t
    past_parameters scope place params [] s values End agrees leg run typed at h =
        (s, record { own_same = λ x. refl; fit = leg; before = λ n lt. refl; given = λ n d lt. absurd (omega (arith, lt)) }, h)
    past_parameters scope place [] (argument ∷ arguments) s values End agrees leg run typed at h = absurd typed
    past_parameters scope place (t ∷ params) (argument ∷ arguments) s values End agrees leg run typed at h =
        let v = leg_value program.records s (own_claim (claim_of argument)) in
        let same : v ≡ claim_value program.records values (claim_of argument) =
        own_value program.records scope s values agrees (claim_of argument) (scoped program method scope (claim_of argument) t typed.0) in
        let here : place + 0 ≡ place = omega arith in
        let has : HasType program.records v t =
        subst (λ w. HasType program.records w t) (sym same) (typed_value program method formed scope values run (claim_of argument) t typed.0) in
        let next = with_now (parameter place) v s in
        let rest = past_parameters scope (suc place) params arguments next values End (λ x k. agrees x k)
        (fit_with program.records types same_name same_name-true s.now (parameter place) t v leg
        (subst (λ m. slice_get callee.locals m ≡ Some t) here (at 0 t refl)) has)
        run typed.1
        (λ n u is.
        let moved : place + suc n ≡ suc place + n = omega arith in
        subst (λ m. slice_get callee.locals m ≡ Some u) moved (at (suc n) u is)) h in (
          rest.0,
          record {
            own_same = λ x. rest.1.own_same x;
            fit = rest.1.fit;
            before = λ n lt.
                let less : n < suc place = omega arith in
                rest.1.before n less ∙ kept_choice (same_name (parameter n) (parameter place)) v (s.now (parameter n)) (other_parameter n place lt);
            given = given_next rest.0 place (claim_value program.records values (claim_of argument)) (argument_values program values arguments)
                (rest.1.before place (omega arith)
                ∙ ap (λ b. cond b v (s.now (parameter place))) (same_name-itself (parameter place)) ∙ same) rest.1.given;
          },
          rest.2,
        )

    -- ---- Requires

    after_requires : (name_node : ℕ) (claims : List (NotedTree Variable)) (End : LegValues → Type 0) (s : LegValues)
        → Passes program.records types (requires_items node number name_node claims) End s
        → AreTrueAt program s (map (renamed_noted (callee_name node number)) claims) × End s
    after_requires name_node [] End s h = (tt, h)
    after_requires name_node (noted ∷ claims) End s h =
        let rest = after_requires name_node claims End s h.1 in
        ((h.0, rest.0), rest.1)

    -- the values with which the called method begins
    abbrev pub begun : Values → List (TypedExpr Variable) → Values
    begun values arguments = entered program.records callee (argument_values program values arguments) (λ n. values (global n))

    -- a leg where the method is called
    pub record AtCall (scope : Scope) (values : Values) (arguments : List (TypedExpr Variable)) (s : LegValues) : Type 0 where
      pub ready : Ready program method formed scope s values
      pub given : (n : ℕ) (d : Value) → nat_lt n (length callee.params) ≡ true → s.now (parameter n)
          ≡ slice_index_or (argument_values program values arguments) n d

    requires_agree : (scope : Scope) (values : Values) (arguments : List (TypedExpr Variable)) (s : LegValues) → AtCall scope values arguments s
        → HasGlobals program scope → AgreesBy (callee_name node number) (requires_scope program callee) s (begun values arguments)
    requires_agree scope values arguments s there globals (local n) h = there.given n _ h
    requires_agree scope values arguments s there globals (global n) h = there.ready.agrees (global n) (globals n h)
    requires_agree scope values arguments s there globals (entry n) h = absurd (false≢true h)
    requires_agree scope values arguments s there globals result h = absurd (false≢true h)

    -- the leg up to the call
    pub to_call : (scope : Scope) (name_node : ℕ) (arguments : List (TypedExpr Variable)) (rest : Items) (s : LegValues) (values : Values)
        (End : LegValues → Type 0) → IsInOrderMethod program callee → HasGlobals program scope → Ready program method formed scope s values
        → AreExprs program method scope callee.params arguments
        → Passes program.records types (parameter_items node number 0 arguments ++ (requires_items node number name_node callee.requires_ ++ rest)) End s
        → (t : LegValues) × AtCall scope values arguments t × AllTrue program (begun values arguments) callee.requires_ × Passes program.records types rest End t
    to_call scope name_node arguments rest s values End order globals ready typed h =
        let behind = requires_items node number name_node callee.requires_ ++ rest in
        let set = past_parameters scope 0 callee.params arguments s values (Passes program.records types behind End) ready.agrees ready.leg ready.run typed
        (λ n t at.
        let same : 0 + n ≡ n = omega arith in
        subst (λ m. slice_get callee.locals m ≡ Some t) (sym same)
        (subst (λ locals. slice_get locals n ≡ Some t) (sym order.params) (get_front callee.params order.others n t at)))
        (passes_append program.records types (parameter_items node number 0 arguments) behind End s h) in
        let there : AtCall scope values arguments set.0 = record {
          ready = record { agrees = λ x k. set.1.own_same x ∙ ready.agrees x k; leg = set.1.fit; run = ready.run; initial = ready.initial };
          given = λ n d k.
              let same : 0 + n ≡ n = omega arith in
              let many = as_many scope values callee.params arguments typed in
              ap (λ m. set.0.now (parameter m)) (sym same) ∙ set.1.given n d (subst (λ m. n < m) (sym many) (ltb-true n (length callee.params) k));
        } in
        let tested = after_requires name_node callee.requires_ (Passes program.records types rest End) set.0
        (passes_append program.records types (requires_items node number name_node callee.requires_) rest End set.0 set.2) in (
          set.0,
          there,
          claims_of_run program (callee_name node number) set.0 (begun values arguments) callee.requires_
              (claims_same program callee (callee_name node number) (requires_scope program callee) set.0 (begun values arguments) callee.requires_
              (requires_agree scope values arguments set.0 there globals) order.requires_) tested.0,
          tested.1,
        )

    -- ---- entry values

    pub record WithEntries (gs : List ℕ) (s t : LegValues) : Type 0 where
      pub own_same : (x : Variable) → t.now (own x) ≡ s.now (own x)
      pub parameters : (n : ℕ) → t.now (parameter n) ≡ s.now (parameter n)
      pub fit : FitNames program.records types t.now
      pub stays : (g : ℕ) → s.now (entry_name g) ≡ s.now (own (global g)) → t.now (entry_name g) ≡ s.now (own (global g))
      pub entries : (g : ℕ) → is_member nat_eq gs g ≡ true → t.now (entry_name g) ≡ s.now (own (global g))

    -- an entry value that is set, and one that was as its global is
    entry_set : (s : LegValues) (g k : ℕ) → s.now (entry_name k) ≡ s.now (own (global k))
        → (with_now (entry_name g) (s.now (own (global g))) s).now (entry_name k) ≡ s.now (own (global k))
    entry_set s g k is =
        chosen_same (same_name (entry_name k) (entry_name g)) (s.now (own (global g))) (s.now (entry_name k)) (s.now (own (global k)))
        (λ same. ap (λ m. s.now (own (global m))) (sym (ap entry_number (same_name-true (entry_name k) (entry_name g) same)))) is

    pub past_entries : (gs : List ℕ) (s : LegValues) (End : LegValues → Type 0) → FitNames program.records types s.now
        → Passes program.records types (entry_items node (λ g. of_call node number (entry g)) gs) End s
        → (t : LegValues) × WithEntries gs s t × End t
    past_entries [] s End leg h = (
      s,
      record { own_same = λ x. refl; parameters = λ n. refl; fit = leg; stays = λ g is. is; entries = λ g is. absurd (false≢true is) },
      h,
    )
    past_entries (g ∷ gs) s End leg h =
        let v = s.now (own (global g)) in
        let next = with_now (entry_name g) v s in
        let rest = past_entries gs next End
        (fit_put program.records types same_name same_name-true s.now (entry_name g) v leg (λ u at. leg (own (global g)) u at)) h in (
          rest.0,
          record {
            own_same = λ x. rest.1.own_same x;
            parameters = λ n. rest.1.parameters n
                ∙ kept_choice (same_name (parameter n) (entry_name g)) v (s.now (parameter n))
                (λ same. false≢true (sym (ap is_parameter (same_name-true (parameter n) (entry_name g) same))));
            fit = rest.1.fit;
            stays = λ k is. rest.1.stays k (entry_set s g k is);
            entries = λ k is. first_or (nat_eq k g) (is_member nat_eq gs k) is
                (λ first. rest.1.stays k (ap (λ b. cond b v (s.now (entry_name k)))
                (subst (λ m. same_name (entry_name k) (entry_name m) ≡ true) ((Decides-eqb k g).0 first) (same_name-itself (entry_name k)))
                ∙ ap (λ m. s.now (own (global m))) (sym ((Decides-eqb k g).0 first))))
                (λ later. rest.1.entries k later);
          },
          rest.2,
        )
