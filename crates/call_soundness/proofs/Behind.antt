-- Where a called method has ended, the leg behind the call has what the run has.
use Rattle.std.proofs.Common.{◌≡◌, ℕ, ◌<◌, Bool, true, false, not, cond, List, [], ◌∷◌, ◌++◌, map, length, Option, Some, None, refl, sym, ap, ◌∙◌, arith, ◌+◌}
use Rattle.std.specs.Prelude.{nat_eq, nat_lt, ◌||◌}
use Rattle.std.specs.List.{AllByRecursion}
use Rattle.std.specs.Set.{is_member}
use Rattle.std.proofs.lemmas.Bool.{false≢true, or_left, or_right, ltb-true}
use Rattle.std.proofs.lemmas.Bool.Decides.{Decides-eqb}
use Rattle.std.proofs.lemmas.Cmp.{nat_eq_equiv}
use Rattle.slang_values.specs.Value.{ValueType, unit_type, number_type, truth_type, sequence_type, record_type, AreWellFormed, Value}
use Rattle.slang_values.specs.Typing.{NameTypes, FitNames}
use Rattle.validity.proofs.Binds.{EachName-typed}
use Rattle.program_trees.specs.Claims.{ClaimName, variable, old_variable, let_symbol, NotedTree, renamed_noted}
use Rattle.program_trees.specs.Programs.{TypedExpr, MethodTree, ProgramTree}
use Rattle.program_trees.specs.Variables.{Variable, local, global, entry, result, same_variable, variable_types}
use Rattle.run_rules.specs.Values.{Values, with_value}
use Rattle.run_rules.specs.Runs.{method_at, with_globals, returned}
use Rattle.leg_rules.specs.LegNames.{LegName, own, of_call, same_name, callee_name}
use Rattle.leg_rules.specs.Mentions.{has_name, on_variable, mentions, some_mention}
use Rattle.leg_rules.specs.Legs.{assumed, entry_items, entries_named, result_names, ensures_items, target_items}
use Rattle.leg_soundness.specs.Passing.{LegValues, with_now, with_fresh, Passes, leg_types}
use Rattle.leg_soundness.specs.Scopes.{Scope, scope_types, claim_types, with_variable, method_keeps, ensures_scope, AreClaims, GetsResult, IsCall, IsInOrderMethod}
use Rattle.leg_soundness.proofs.Names.{none≢some, same_variable-true, same_name-true, same_name-itself, shown, shown_type, Agrees, SameAt, EachName-both, Had, each_had, agrees_with, fit_put, fit_with}
use Rattle.leg_soundness.proofs.Members.{is_false, member_right, not_member, is_passing}
use Rattle.leg_soundness.proofs.Items.{passes_append, after_assumed}
use Rattle.leg_soundness.proofs.Ready.{Keeps, keeps_on, keeps_set, taken, AllTrue, KeepsVals, initial_kept, HasGlobals, AreSame, claims_of_leg, Ready, fit_taken, fit_fresh}
use Rattle.call_soundness.proofs.Calls.{begun, AtCall, WithEntries, past_entries}

own_choice : (b : Bool) (v now : Value) → (b ≡ false → now ≡ v) → cond b v now ≡ v
own_choice true v now h = refl
own_choice false v now h = h refl

other_choice : (m q : Bool) (v now : Value) → (q ≡ true → ⊥) → cond m (cond q v now) now ≡ now
other_choice true true v now h = absurd (h refl)
other_choice true false v now h = refl
other_choice false q v now h = refl

or_map : (a b c : Bool) → (b ≡ true → c ≡ true) → (a || b) ≡ true → (a || c) ≡ true
or_map true b c f h = refl
or_map false b c f h = f h

-- the target of a call is in scope behind it
abbrev pub with_target : Option Variable → Scope → Scope
with_target None scope = scope
with_target (Some x) scope = with_variable x scope

-- whether a name is the result of a call
abbrev is_result : LegName → Bool
is_result (own x) = false
is_result (of_call node method (local n)) = false
is_result (of_call node method (global n)) = false
is_result (of_call node method (entry n)) = false
is_result (of_call node method result) = true

-- the modified globals are among those that are fresh behind the call
modified_fresh : (gs : List ℕ) (more : List LegName) (n : ℕ) → is_member nat_eq gs n ≡ true
    → is_member same_name (map (λ g. own (global g)) gs ++ more) (own (global n)) ≡ true
modified_fresh [] more n h = absurd (false≢true h)
modified_fresh (g ∷ gs) more n h = or_map (nat_eq n g) _ _ (modified_fresh gs more n) h

module _ (program : ProgramTree Variable) (method : MethodTree Variable) (formed : AreWellFormed program.records) (node number : ℕ) where
  abbrev callee : MethodTree Variable
  callee = method_at program number

  abbrev types : NameTypes LegName
  types = leg_types program method

  abbrev parameter : ℕ → LegName
  parameter n = of_call node number (local n)

  abbrev entry_name : ℕ → LegName
  entry_name n = of_call node number (entry n)

  abbrev result_name : LegName
  result_name = of_call node number result

  abbrev fresh_names : List LegName
  fresh_names = map (λ g. own (global g)) callee.modifies ++ result_names node number callee.result

  -- the result is among them, where there is one
  result_is_fresh : (r t : ValueType) → variable_types program (record callee { result = r }) result ≡ Some t
      → is_member same_name (result_names node number r) result_name ≡ true
  result_is_fresh unit_type t at = absurd (none≢some at)
  result_is_fresh number_type t at = or_left (same_name result_name result_name) false (same_name-itself result_name)
  result_is_fresh truth_type t at = or_left (same_name result_name result_name) false (same_name-itself result_name)
  result_is_fresh (sequence_type r) t at = or_left (same_name result_name result_name) false (same_name-itself result_name)
  result_is_fresh (record_type r) t at = or_left (same_name result_name result_name) false (same_name-itself result_name)

  -- ---- what the leg has where the called method has ended with the values `after`

  module _ (values after : Values) (s : LegValues) where
    abbrev left_behind : LegName → Value
    left_behind y = cond (same_name y result_name) (after result) (taken (with_globals values after) s y)

    abbrev pub behind : LegValues
    behind = with_fresh fresh_names left_behind s

    pub fit_globals : FitNames program.records (variable_types program method) values → FitNames program.records (variable_types program callee) after
        → FitNames program.records (variable_types program method) (with_globals values after)
    fit_globals before fit (local n) t at = before (local n) t at
    fit_globals before fit (global n) t at = fit (global n) t at
    fit_globals before fit (entry n) t at = before (entry n) t at
    fit_globals before fit result t at = before result t at

    fit_left : FitNames program.records (variable_types program method) values → FitNames program.records (variable_types program callee) after
        → FitNames program.records types s.now → FitNames program.records types left_behind
    fit_left before fit leg =
        fit_put program.records types same_name same_name-true (taken (with_globals values after) s) result_name (after result)
        (fit_taken program method formed (with_globals values after) s (fit_globals before fit) leg) (λ u at. fit result u at)

    fit_behind : FitNames program.records (variable_types program method) values → FitNames program.records (variable_types program callee) after
        → FitNames program.records types s.now → FitNames program.records types behind.now
    fit_behind before fit leg y t at =
        fit_fresh program method formed (is_member same_name fresh_names y) (left_behind y) (s.now y) t (fit_left before fit leg y t at) (leg y t at)

    -- what the called method does not modify is as it was
    unmodified : (arguments : List (TypedExpr Variable)) → Keeps (method_keeps callee) (begun program method formed node number values arguments) after
        → (x : Variable) → is_member same_name fresh_names (own x) ≡ false → values x ≡ with_globals values after x
    unmodified arguments kept (local n) none = refl
    unmodified arguments kept (global n) none =
        sym (kept (global n) (ap not (is_false (is_member nat_eq callee.modifies n) (λ is. false≢true (sym none
        ∙ modified_fresh callee.modifies (result_names node number callee.result) n is)))))
    unmodified arguments kept (entry n) none = refl
    unmodified arguments kept result none = refl

    behind_agrees : (scope : Scope) (arguments : List (TypedExpr Variable))
        → Keeps (method_keeps callee) (begun program method formed node number values arguments) after → Agrees scope s values
        → Agrees scope behind (with_globals values after)
    behind_agrees scope arguments kept agrees x h =
        own_choice (is_member same_name fresh_names (own x)) (with_globals values after x) (s.now (own x))
        (λ none. agrees x h ∙ unmodified arguments kept x none)

    behind_other : (x : Variable) → (same_name (of_call node number x) result_name ≡ true → ⊥) → behind.now (of_call node number x)
        ≡ s.now (of_call node number x)
    behind_other x other =
        other_choice (is_member same_name fresh_names (of_call node number x)) (same_name (of_call node number x) result_name) (after result)
        (s.now (of_call node number x)) other

    behind_result : (t : ValueType) → variable_types program callee result ≡ Some t → behind.now result_name ≡ after result
    behind_result t at =
        ap (λ b. cond b (left_behind result_name) (s.now result_name))
        (member_right same_name (map (λ g. own (global g)) callee.modifies) (result_names node number callee.result) result_name
        (result_is_fresh callee.result t at))
        ∙ ap (λ b. cond b (after result) (taken (with_globals values after) s result_name)) (same_name-itself result_name)

  -- ---- Ensures

  -- what the Ensures name is on the leg as it is where the called method has ended
  record Known (s : LegValues) (after : Values) : Type 0 where
    params : (n : ℕ) → nat_lt n (length callee.params) ≡ true → s.now (parameter n) ≡ after (local n)
    globals : (n : ℕ) → nat_lt n (length program.globals) ≡ true → s.now (own (global n)) ≡ after (global n)
    entries : (n : ℕ) → nat_lt n (length program.globals) ≡ true → is_member nat_eq (entries_named program callee.ensures_) n ≡ true
        → s.now (entry_name n) ≡ after (entry n)
    result_ : (t : ValueType) → variable_types program callee result ≡ Some t → s.now result_name ≡ after result

  abbrev ensures_types : NameTypes (ClaimName Variable)
  ensures_types = claim_types (scope_types program callee (ensures_scope program callee))

  name_known : (s : LegValues) (after : Values) → Known s after → (a : ClaimName Variable) (t : ValueType) → ensures_types a ≡ Some t
      → ((test : Variable → Bool) → on_variable test a ≡ true → some_mention test callee.ensures_ ≡ true) → SameAt (callee_name node number) s after a
  name_known s after known (variable (local n)) t at has =
      known.params n (shown (nat_lt n (length callee.params)) t (variable_types program callee (local n)) at)
  name_known s after known (variable (global n)) t at has =
      known.globals n (shown (nat_lt n (length program.globals)) t (variable_types program callee (global n)) at)
  name_known s after known (variable (entry n)) t at has =
      let there = shown (nat_lt n (length program.globals)) t (variable_types program callee (entry n)) at in
      let lt = ltb-true n (length program.globals) there in
      let within : n < 0 + length program.globals = omega (arith, lt) in
      known.entries n there (is_passing (λ g. some_mention (same_variable (entry g)) callee.ensures_) 0 (length program.globals) n (omega arith) within
      (has (same_variable (entry n)) (nat_eq_equiv.refl n)))
  name_known s after known (variable result) t at has =
      known.result_ t (shown_type (ensures_scope program callee result) t (variable_types program callee result) at)
  name_known s after known (old_variable x) t at has = absurd (none≢some at)
  name_known s after known (let_symbol label) t at has = absurd (none≢some at)

  abbrev IsNamed : ClaimName Variable → Type 0
  IsNamed a = (t : ValueType) × (ensures_types a ≡ Some t)

  ensures_same : (s : LegValues) (after : Values) → Known s after → (claims : List (NotedTree Variable))
      → ((test : Variable → Bool) → some_mention test claims ≡ true → some_mention test callee.ensures_ ≡ true)
      → AreClaims program callee (ensures_scope program callee) claims → AreSame program (callee_name node number) s after claims
  ensures_same s after known [] up typed = tt
  ensures_same s after known (noted ∷ claims) up typed =
      let has : (ClaimName Variable → Bool) → Bool = λ test. has_name test noted.claim in (
        EachName-both IsNamed (Had has) (SameAt (callee_name node number) s after)
            (λ a is had. name_known s after known a is.0 is.1 (λ test h.
            up test (or_left (mentions test noted.claim) (some_mention test claims) (had (on_variable test) h))))
            noted.claim (EachName-typed program.records ensures_types IsNamed (λ a t at. (t, at)) noted.claim truth_type typed.0)
            (each_had has noted.claim (λ test h. h)),
        ensures_same s after known claims (λ test h. up test (or_right (mentions test noted.claim) (some_mention test claims) h)) typed.1,
      )

  -- ---- behind the call

  -- the called method has ended with these values, and its Ensures hold
  pub record HasEnded (values : Values) (arguments : List (TypedExpr Variable)) (after : Values) : Type 0 where
    pub fit : FitNames program.records (variable_types program callee) after
    pub kept : Keeps (method_keeps callee) (begun program method formed node number values arguments) after
    pub ensures_ : AllTrue program after callee.ensures_

  known_behind : (scope : Scope) (values : Values) (arguments : List (TypedExpr Variable)) (after : Values) (s t : LegValues) → HasGlobals program scope
      → AtCall program method formed node number scope values arguments s → HasEnded values arguments after
      → WithEntries program method formed node number (entries_named program callee.ensures_) s t → Known (behind values after t) after
  known_behind scope values arguments after s t globals there ended entered = record {
    params = λ n lt.
        behind_other values after t (local n) (λ same. false≢true (ap is_result (same_name-true (parameter n) result_name same)))
        ∙ entered.parameters n ∙ there.given n _ lt ∙ sym (ended.kept (local n) lt);
    globals = λ n lt.
        behind_agrees values after t scope arguments ended.kept (λ x h. entered.own_same x ∙ there.ready.agrees x h) (global n) (globals n lt);
    entries = λ n lt is.
        behind_other values after t (entry n) (λ same. false≢true (ap is_result (same_name-true (entry_name n) result_name same)))
        ∙ entered.entries n is ∙ there.ready.agrees (global n) (globals n lt) ∙ sym (ended.kept (entry n) refl);
    result_ = λ u at. behind_result values after t u at;
  }

  keeps_global : (keeps : Variable → Bool) (values : Values) (arguments : List (TypedExpr Variable)) (after : Values)
      → AllByRecursion (λ g. keeps (global g) ≡ false) callee.modifies
      → Keeps (method_keeps callee) (begun program method formed node number values arguments) after → Keeps keeps values (with_globals values after)
  keeps_global keeps values arguments after free kept (local n) k = refl
  keeps_global keeps values arguments after free kept (global n) k =
      kept (global n) (ap not (not_member nat_eq (λ g. keeps (global g) ≡ true) (λ a b. (Decides-eqb a b).0) callee.modifies
      (each_free callee.modifies free) n k))
    where
      each_free : (gs : List ℕ) → AllByRecursion (λ g. keeps (global g) ≡ false) gs → AllByRecursion (λ g. keeps (global g) ≡ true → ⊥) gs
      each_free [] h = tt
      each_free (g ∷ gs) h = ((λ is. false≢true (sym h.0 ∙ is)), each_free gs h.1)
  keeps_global keeps values arguments after free kept (entry n) k = refl
  keeps_global keeps values arguments after free kept result k = refl

  -- the leg and the run behind a call, before what comes next
  pub record Behind (keeps : Variable → Bool) (scope : Scope) (values now : Values) (t : LegValues) : Type 0 where
    pub ready : Ready program method formed scope t now
    pub kept : Keeps keeps values now

  past_target : (keeps : Variable → Bool) (scope : Scope) (values after : Values) (target : Option Variable) (t : LegValues) (End : LegValues → Type 0)
      → KeepsVals program keeps → GetsResult program method keeps callee target → Behind keeps scope values (with_globals values after) t
      → FitNames program.records (variable_types program callee) after
      → ((u : ValueType) → variable_types program callee result ≡ Some u → t.now result_name ≡ after result)
      → Passes program.records types (target_items node number target) End t
      → (u : LegValues) × Behind keeps (with_target target scope) values (returned values target after) u × End u
  past_target keeps scope values after None t End vals gets there fit same h = (t, there, h)
  past_target keeps scope values after (Some x) t End vals gets there fit same h =
      let now = with_globals values after in
      let kept = keeps_on keeps values now (with_value now x (after result)) there.kept (keeps_set keeps now x (after result) gets.2) in (
        with_now (own x) (t.now result_name) t,
        record {
          ready = record {
            agrees = agrees_with scope t now x (t.now result_name) (after result) there.ready.agrees (same gets.0 gets.3);
            leg = fit_with program.records types same_name same_name-true t.now (own x) gets.0 (t.now result_name) there.ready.leg gets.1
                (there.ready.leg result_name gets.0 gets.3);
            run = fit_with program.records (variable_types program method) same_variable same_variable-true now x gets.0 (after result) there.ready.run gets.1
                (fit result gets.0 gets.3);
            initial = initial_kept program keeps now _ vals (keeps_set keeps now x (after result) gets.2) there.ready.initial;
          };
          kept = kept;
        },
        h,
      )

  -- the leg from where the method is called to what comes behind the call
  pub behind_call : (keeps : Variable → Bool) (scope : Scope) (values : Values) (arguments : List (TypedExpr Variable)) (target : Option Variable)
      (after : Values) (s : LegValues) (End : LegValues → Type 0) → IsInOrderMethod program callee → HasGlobals program scope → KeepsVals program keeps
      → IsCall program method keeps scope callee target arguments → AtCall program method formed node number scope values arguments s
      → HasEnded values arguments after
      → Passes program.records types (entry_items node (λ g. of_call node number (entry g)) (entries_named program callee.ensures_)
      ++ (ensures_items program node number ++ target_items node number target)) End s
      → (t : LegValues) × Behind keeps (with_target target scope) values (returned values target after) t × End t
  behind_call keeps scope values arguments target after s End order globals vals is_call there ended h =
      let last = target_items node number target in
      let entries = entries_named program callee.ensures_ in
      let one = past_entries program method formed node number entries s (Passes program.records types (ensures_items program node number ++ last) End)
      there.ready.leg
      (passes_append program.records types (entry_items node (λ g. of_call node number (entry g)) entries) (ensures_items program node number ++ last) End s
      h) in
      let t = one.0 in
      let before : FitNames program.records (variable_types program method) values = there.ready.run in
      let two = one.2 (left_behind values after t) (fit_left values after t before ended.fit one.1.fit) in
      let now = behind values after t in
      let renamed = map (renamed_noted (callee_name node number)) callee.ensures_ in
      let same = ensures_same now after (known_behind scope values arguments after s t globals there ended one.1) callee.ensures_ (λ test is. is)
      order.ensures_ in
      let three = after_assumed program.records types renamed (Passes program.records types last End) now
      (passes_append program.records types (assumed renamed) last End now two)
      (claims_of_leg program (callee_name node number) now after callee.ensures_ same ended.ensures_) in
      let kept = keeps_global keeps values arguments after is_call.modifies ended.kept in
      past_target keeps scope values after target now End vals is_call.target_typed
      (record {
        ready = record {
          agrees = behind_agrees values after t scope arguments ended.kept (λ x k. one.1.own_same x ∙ there.ready.agrees x k);
          leg = fit_behind values after t before ended.fit one.1.fit;
          run = fit_globals values after t before ended.fit;
          initial = initial_kept program keeps values _ vals kept there.ready.initial;
        };
        kept = kept;
      }) ended.fit (λ u at. behind_result values after t u at) three
