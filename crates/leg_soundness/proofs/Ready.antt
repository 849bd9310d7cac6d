-- A leg and a run at the same place: what each knows of the other there.
use Rattle.std.proofs.Common.{◌≡◌, ℕ, ◌<◌, Bool, true, false, not, cond, List, [], ◌∷◌, map, length, get_or, Option, Some, None, refl, sym, ap, ◌∙◌, subst}
use Rattle.std.specs.Prelude.{◌&&◌, ◌||◌, nat_eq, nat_lt}
use Rattle.std.specs.Option.{option_map_or}
use Rattle.std.specs.List.{AllByRecursion}
use Rattle.std.specs.Set.{is_member}
use Rattle.std.proofs.lemmas.Bool.{false≢true, or_right}
use Rattle.std.proofs.lemmas.Bool.Decides.{Decides-eqb}
use Rattle.std.proofs.lemmas.Option.{slice_get-get_or}
use Rattle.slang_values.specs.Value.{ValueType, truth_type, AreWellFormed, Value, truth_of, HasType}
use Rattle.slang_values.specs.Typing.{NameTypes, FitNames}
use Rattle.validity.specs.Bind.{EachName}
use Rattle.program_trees.specs.Claims.{ClaimTree, NotedTree, renamed_noted}
use Rattle.program_trees.specs.Programs.{TypedExpr, claim_of, CodeTree, set as set_code, give, assert, deduce, branch, loop, call, CodeTrees, no_code, code_then, MethodTree, GlobalTree, ProgramTree}
use Rattle.program_trees.specs.Variables.{Variable, local, global, entry, result, same_variable, variable_types}
use Rattle.run_rules.specs.Values.{Values, claim_value, is_true, with_value}
use Rattle.run_rules.specs.Evaluation.{Failure, failing, failing_argument}
use Rattle.run_rules.specs.Runs.{Stack, Outcome, on_test, on_failure, first_false, going_on, turns, initial_value, IsFailure}
use Rattle.leg_rules.specs.LegNames.{LegName, own, of_call, same_name}
use Rattle.leg_rules.specs.Checks.{Demand, demands, argument_demands}
use Rattle.leg_rules.specs.Legs.{own_claim}
use Rattle.leg_soundness.specs.Passing.{LegValues, leg_value, IsTrueAt, with_now, with_fresh, leg_types}
use Rattle.leg_soundness.specs.Scopes.{Scope, with_variable, scope_behind, scope_at_end, loop_keeps, start_scope, method_keeps, ensures_scope, is_val, IsOf, AreClaims, IsExpr, AreExprs}
use Rattle.leg_soundness.proofs.Names.{same_variable-true, same_name-true, InScope, scoped, AgreesBy, Agrees, SameAt, same_in_scope, EachName-map, renamed_value, own_value, agrees_with, fit_with}
use Rattle.leg_soundness.proofs.Members.{not_member}
use Rattle.leg_soundness.proofs.Demands.{all_left, all_right, Named, demands_named, Holds, typed_value, first_none, never_fails}

-- ---- what is kept, and scopes

abbrev pub Keeps : (Variable → Bool) → Values → Values → Type 0
Keeps keeps before after = (x : Variable) → keeps x ≡ true → after x ≡ before x

pub keeps_on : (keeps : Variable → Bool) (a b c : Values) → Keeps keeps a b → Keeps keeps b c → Keeps keeps a c
keeps_on keeps a b c r s x h = s x h ∙ r x h

-- each variable of the first is in the second
abbrev pub Within : Scope → Scope → Type 0
Within a b = (x : Variable) → a x ≡ true → b x ≡ true

pub within_behind : (code : CodeTree Variable) (scope : Scope) → Within scope (scope_behind code scope)
within_behind (set_code node x value) scope y h = or_right (same_variable y x) (scope y) h
within_behind (give node value) scope y h = or_right (same_variable y result) (scope y) h
within_behind (assert noted) scope y h = h
within_behind (deduce node steps) scope y h = h
within_behind (branch node test on_true on_false) scope y h = h
within_behind (loop node test modifies invariants body) scope y h = h
within_behind (call node None name_node method arguments) scope y h = h
within_behind (call node (Some x) name_node method arguments) scope y h = or_right (same_variable y x) (scope y) h

pub within_end : (codes : CodeTrees Variable) (scope : Scope) → Within scope (scope_at_end codes scope)
within_end no_code scope y h = h
within_end (code_then code codes) scope y h = within_end codes (scope_behind code scope) y (within_behind code scope y h)

pub kept_choice : (b : Bool) (v now : Value) → (b ≡ true → ⊥) → cond b v now ≡ now
kept_choice true v now other = absurd (other refl)
kept_choice false v now other = refl

pub keeps_set : (keeps : Variable → Bool) (values : Values) (x : Variable) (v : Value) → keeps x ≡ false → Keeps keeps values (with_value values x v)
keeps_set keeps values x v free y h =
    kept_choice (same_variable y x) v (values y) (λ same. false≢true (sym free ∙ subst (λ z. keeps z ≡ true) (same_variable-true y x same) h))

-- ---- fresh variables of the method itself

member_own : (xs : List Variable) (x : Variable) → is_member same_name (map own xs) (own x) ≡ is_member same_variable xs x
member_own [] x = refl
member_own (y ∷ xs) x = ap (λ b. same_variable x y || b) (member_own xs x)

-- ---- tests

none_false : (program : ProgramTree Variable) (values : Values) (claims : List (NotedTree Variable)) → AllByRecursion
    (λ noted. is_true program.records values noted.claim ≡ true) claims
    → first_false program values claims ≡ None
none_false program values [] hold = refl
none_false program values (noted ∷ claims) hold =
    ap (λ b. cond (not b) (Some noted) (first_false program values claims)) hold.0 ∙ none_false program values claims hold.1

-- the values of a run, and where the leg has others, those
abbrev pub taken : Values → LegValues → LegName → Value
taken values s (own x) = values x
taken values s (of_call node number x) = s.now (of_call node number x)

module _ (program : ProgramTree Variable) where
  safe_where : (outcome next : Outcome) → outcome ≡ next → (IsFailure program next → ⊥) → IsFailure program outcome → ⊥
  safe_where outcome next same safe = subst (λ o. IsFailure program o → ⊥) (sym same) safe

  abbrev pub AllTrue : Values → List (NotedTree Variable) → Type 0
  AllTrue values claims = AllByRecursion (λ noted. is_true program.records values noted.claim ≡ true) claims

  pub test_safe : (claims : List (NotedTree Variable)) (values : Values) (failed : NotedTree Variable → Outcome) (next : Outcome) → AllTrue values claims
      → (IsFailure program next → ⊥) → IsFailure program (on_test (first_false program values claims) failed next) → ⊥
  test_safe claims values failed next hold safe =
      safe_where _ next (ap (λ found. on_test found failed next) (none_false program values claims hold)) safe

  pub failure_safe : (found : Option Failure) (next : Outcome) → found ≡ None → (IsFailure program next → ⊥) → IsFailure program (on_failure found next) → ⊥
  failure_safe found next none safe = safe_where _ next (ap (λ o. on_failure o next) none) safe

  abbrev pub Safe : ℕ → Stack → Values → Type 0
  Safe n stack values = IsFailure program (going_on program (turns program n) stack values) → ⊥

  -- ---- `val`s

  -- each `val` has its initial value
  abbrev pub AreInitial : Values → Type 0
  AreInitial values = (n : ℕ) (d : GlobalTree Variable) → n < length program.globals → (get_or program.globals n d).fixed ≡ true
      → values (global n) ≡ initial_value program (get_or program.globals n d)

  -- and keeps it
  abbrev pub KeepsVals : (Variable → Bool) → Type 0
  KeepsVals keeps =
      (n : ℕ) (d : GlobalTree Variable) → n < length program.globals → (get_or program.globals n d).fixed ≡ true → keeps (global n) ≡ true

  pub initial_kept : (keeps : Variable → Bool) (before after : Values) → KeepsVals keeps → Keeps keeps before after → AreInitial before → AreInitial after
  initial_kept keeps before after vals kept initial n d lt fixed = kept (global n) (vals n d lt fixed) ∙ initial n d lt fixed

  -- a method that modifies no `val` keeps them
  pub keeps_vals : (method : MethodTree Variable) → AllByRecursion (λ g. is_val program g ≡ false) method.modifies → KeepsVals (method_keeps method)
  keeps_vals method none n d lt fixed =
      ap not (not_member nat_eq (λ g. is_val program g ≡ true) (λ a b. (Decides-eqb a b).0) method.modifies (no_vals method.modifies none) n
      (ap (λ o. option_map_or (λ g. g.fixed) o false) (slice_get-get_or program.globals n d lt) ∙ fixed))
    where
      no_vals : (gs : List ℕ) → AllByRecursion (λ g. is_val program g ≡ false) gs → AllByRecursion (λ g. is_val program g ≡ true → ⊥) gs
      no_vals [] h = tt
      no_vals (g ∷ gs) h = ((λ is. false≢true (sym h.0 ∙ is)), no_vals gs h.1)

  -- what the Ensures name is in scope at the end
  pub ensures_within : (method : MethodTree Variable) → Within (ensures_scope program method) (scope_at_end method.body (start_scope program method))
  ensures_within method (local n) h = within_end method.body (start_scope program method) (local n) h
  ensures_within method (global n) h = within_end method.body (start_scope program method) (global n) h
  ensures_within method (entry n) h = within_end method.body (start_scope program method) (entry n) h
  ensures_within method result h = h

  abbrev pub HasGlobals : Scope → Type 0
  HasGlobals scope = (n : ℕ) → nat_lt n (length program.globals) ≡ true → scope (global n) ≡ true

  -- ---- claims under a renaming

  abbrev pub AreSame : (Variable → LegName) → LegValues → Values → List (NotedTree Variable) → Type 0
  AreSame f s values claims = AllByRecursion (λ noted. EachName (SameAt f s values) noted.claim) claims

  abbrev pub AreTrueAt : LegValues → List (NotedTree LegName) → Type 0
  AreTrueAt s claims = AllByRecursion (λ noted. IsTrueAt program.records s noted.claim) claims

  pub claims_of_run : (f : Variable → LegName) (s : LegValues) (values : Values) (claims : List (NotedTree Variable)) → AreSame f s values claims
      → AreTrueAt s (map (renamed_noted f) claims) → AllTrue values claims
  claims_of_run f s values [] same h = tt
  claims_of_run f s values (noted ∷ claims) same h =
      (sym (ap truth_of (renamed_value program.records f s values noted.claim same.0)) ∙ h.0, claims_of_run f s values claims same.1 h.1)

  pub claims_of_leg : (f : Variable → LegName) (s : LegValues) (values : Values) (claims : List (NotedTree Variable)) → AreSame f s values claims
      → AllTrue values claims → AreTrueAt s (map (renamed_noted f) claims)
  claims_of_leg f s values [] same h = tt
  claims_of_leg f s values (noted ∷ claims) same h =
      (ap truth_of (renamed_value program.records f s values noted.claim same.0) ∙ h.0, claims_of_leg f s values claims same.1 h.1)

  -- claims over a scope on whose names they agree
  pub claims_same : (method : MethodTree Variable) (f : Variable → LegName) (scope : Scope) (s : LegValues) (values : Values)
      (claims : List (NotedTree Variable)) → AgreesBy f scope s values → AreClaims program method scope claims → AreSame f s values claims
  claims_same method f scope s values [] agrees typed = tt
  claims_same method f scope s values (noted ∷ claims) agrees typed = (
    EachName-map (InScope scope) (SameAt f s values) (same_in_scope f scope s values agrees) noted.claim
        (scoped program method scope noted.claim truth_type typed.0),
    claims_same method f scope s values claims agrees typed.1,
  )

  module _ (method : MethodTree Variable) (formed : AreWellFormed program.records) where
    abbrev pub types : NameTypes LegName
    types = leg_types program method

    -- a leg and a run at the same place
    pub record Ready (scope : Scope) (s : LegValues) (values : Values) : Type 0 where
      pub agrees : Agrees scope s values
      pub leg : FitNames program.records types s.now
      pub run : FitNames program.records (variable_types program method) values
      pub initial : AreInitial values

    pub ready_within : (a b : Scope) (s : LegValues) (values : Values) → Within a b → Ready b s values → Ready a s values
    ready_within a b s values within r = record { agrees = λ x h. r.agrees x (within x h); leg = r.leg; run = r.run; initial = r.initial }

    -- ---- from the leg to the run

    pub true_of_run : (scope : Scope) (s : LegValues) (values : Values) (claim : ClaimTree Variable) → Agrees scope s values → EachName (InScope scope) claim
        → IsTrueAt program.records s (own_claim claim) → is_true program.records values claim ≡ true
    true_of_run scope s values claim agrees named h = sym (ap truth_of (own_value program.records scope s values agrees claim named)) ∙ h

    pub true_of_leg : (scope : Scope) (s : LegValues) (values : Values) (claim : ClaimTree Variable) → Agrees scope s values → EachName (InScope scope) claim
        → is_true program.records values claim ≡ true → IsTrueAt program.records s (own_claim claim)
    true_of_leg scope s values claim agrees named h = ap truth_of (own_value program.records scope s values agrees claim named) ∙ h

    demands_of_run : (scope : Scope) (s : LegValues) (values : Values) (ds : List (Demand Variable)) (ready : Ready scope s values)
        → AllByRecursion (Named (InScope scope)) ds → AllByRecursion (λ d. IsTrueAt program.records s (own_claim d.claim)) ds
        → AllByRecursion (Holds program method formed scope values ready.run) ds
    demands_of_run scope s values [] ready named h = tt
    demands_of_run scope s values (d ∷ ds) ready named h =
        (true_of_run scope s values d.claim ready.agrees named.0 h.0, demands_of_run scope s values ds ready named.1 h.1)

    -- an expression whose demands are met does not fail
    pub expr_fine : (scope : Scope) (s : LegValues) (values : Values) (t : ValueType) (expr : TypedExpr Variable) (ready : Ready scope s values)
        → IsExpr program method scope t expr
        → AllByRecursion (λ d. IsTrueAt program.records s (own_claim d.claim)) (demands expr) → failing program.records values expr ≡ None
    expr_fine scope s values t expr ready typed h =
        never_fails program method formed scope values ready.run expr t typed
        (demands_of_run scope s values (demands expr) ready (demands_named (InScope scope) expr (scoped program method scope (claim_of expr) t typed)) h)

    pub arguments_fine : (scope : Scope) (s : LegValues) (values : Values) (ts : List ValueType) (exprs : List (TypedExpr Variable))
        → Ready scope s values → AreExprs program method scope ts exprs
        → AllByRecursion (λ d. IsTrueAt program.records s (own_claim d.claim)) (argument_demands exprs) → failing_argument program.records values exprs ≡ None
    arguments_fine scope s values ts [] ready typed h = refl
    arguments_fine scope s values [] (expr ∷ exprs) ready typed h = absurd typed
    arguments_fine scope s values (t ∷ ts) (expr ∷ exprs) ready typed h =
        let P : Demand Variable → Type 0 = λ d. IsTrueAt program.records s (own_claim d.claim) in
        first_none _ _ (expr_fine scope s values t expr ready typed.0 (all_left P (demands expr) (argument_demands exprs) h))
        (arguments_fine scope s values ts exprs ready typed.1 (all_right P (demands expr) (argument_demands exprs) h))

    -- ---- a variable that is set

    pub ready_set : (keeps : Variable → Bool) (scope : Scope) (s : LegValues) (values : Values) (x : Variable) (t : ValueType) (claim : ClaimTree Variable)
        → KeepsVals keeps → keeps x ≡ false → Ready scope s values → variable_types program method x ≡ Some t → IsOf program method scope t claim
        → Ready (with_variable x scope) (with_now (own x) (leg_value program.records s (own_claim claim)) s) (with_value values x
        (claim_value program.records values claim))
    ready_set keeps scope s values x t claim vals free ready at typed =
        let same = own_value program.records scope s values ready.agrees claim (scoped program method scope claim t typed) in
        let has = typed_value program method formed scope values ready.run claim t typed in
        let kept = keeps_set keeps values x (claim_value program.records values claim) free in
        record {
          agrees = agrees_with scope s values x _ _ ready.agrees same;
          leg = fit_with program.records types same_name same_name-true s.now (own x) t _ ready.leg at (subst (λ v. HasType program.records v t)
              (sym same) has);
          run = fit_with program.records (variable_types program method) same_variable same_variable-true values x t _ ready.run at has;
          initial = initial_kept keeps values _ vals kept ready.initial;
        }

    -- ---- a loop's variables

    pub fit_taken : (values : Values) (s : LegValues) → FitNames program.records (variable_types program method) values → FitNames program.records types s.now
        → FitNames program.records types (taken values s)
    fit_taken values s run leg (own x) t at = run x t at
    fit_taken values s run leg (of_call node number x) t at = leg (of_call node number x) t at

    fresh_choice : (b k c : Bool) (v now : Value) → c ≡ true → ((k || (c && not b)) ≡ true → now ≡ v) → cond b v now ≡ v
    fresh_choice true k c v now h same = refl
    fresh_choice false k true v now h same = same (or_right k true refl)
    fresh_choice false k false v now h same = absurd (false≢true h)

    pub fit_fresh : (b : Bool) (v now : Value) (t : ValueType) → HasType program.records v t → HasType program.records now t → HasType program.records
        (cond b v now) t
    fit_fresh true v now t h k = h
    fit_fresh false v now t h k = k

    pub ready_fresh : (keeps : Variable → Bool) (scope : Scope) (modifies : List Variable) (s : LegValues) (before values : Values)
        → KeepsVals (loop_keeps keeps scope modifies) → Ready scope s before → FitNames program.records (variable_types program method) values → Keeps (loop_keeps keeps scope modifies) before values
        → Ready scope (with_fresh (map own modifies) (taken values s) s) values
    ready_fresh keeps scope modifies s before values vals ready run kept = record {
      agrees = λ x h. ap (λ b. cond b (values x) (s.now (own x))) (member_own modifies x)
          ∙ fresh_choice (is_member same_variable modifies x) (keeps x) (scope x) (values x) (s.now (own x)) h (λ k. ready.agrees x h ∙ sym (kept x k));
      leg = λ y t at. fit_fresh (is_member same_name (map own modifies) y) _ _ t (fit_taken values s run ready.leg y t at) (ready.leg y t at);
      run = run;
      initial = initial_kept (loop_keeps keeps scope modifies) before values vals kept ready.initial;
    }
