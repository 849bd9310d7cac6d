-- The command's run begins with values of the globals' types, so it fails at the Requires or not at all.
use Rattle.std.proofs.Common.{◌≡◌, ℕ, ◌<◌, Bool, true, false, not, if◌then◌else◌, List, [], ◌∷◌, length, get_or, map, Option, Some, None, refl, sym, ap, ◌∙◌, subst}
use Rattle.std.specs.List.{All, AllByRecursion}
use Rattle.std.proofs.lemmas.List.{get_or-map}
use Rattle.std.proofs.lemmas.List.Elements.{All-from_recursion}
use Rattle.slang_values.specs.Value.{ValueType, Value, unit, HasType}
use Rattle.slang_values.proofs.Typed.{HasType-value}
use Rattle.validity.specs.Validity.{no_bounds}
use Rattle.program_trees.specs.declared.answer.Kind.{Kind}
use Rattle.program_trees.specs.declared.answer.Kind.TheVariants as kinds
use Rattle.program_trees.specs.Claims.{ClaimName, variable, old_variable, let_symbol, NotedTree}
use Rattle.program_trees.specs.Programs.{claim_of, GlobalTree, MethodTree, ProgramTree}
use Rattle.program_trees.specs.Variables.{Variable}
use Rattle.run_rules.specs.Values.{Values, name_value, is_true}
use Rattle.run_rules.specs.Runs.{no_method, method_at, entered, last, begin, Outcome, fails, first_false, initial_value, AreGlobals, Fits, IsStart, IsSafe}
use Rattle.typed_programs.specs.Scopes.{Scope, claim_names}
use Rattle.typed_programs.specs.WellTyped.{IsTypedProgram, IsTypedGlobal, nothing_named}
use Rattle.run_stops.specs.ClaimStops.{visit_limit}
use Rattle.verified_programs.specs.Laws.{ReachedAreVerified}
use Rattle.verified_programs.proofs.Verified.{verified_safe}
use Rattle.stopped_runs.specs.Tests.{Tested, all_hold, is_false, is_wide, is_out, test}
use Rattle.stopped_runs.specs.Runs.{Stopped, reached, wide, out_of_visits, on_test, going_on, turns, run, initial_globals, command_run}
use Rattle.stopped_runs.proofs.Agree.{test_agrees, TestAgrees, safe_methods_do_not_fail}
use Rattle.verified_runs.specs.Laws.{VerifiedRunsDoNotFail, FailsAtEntry, VerifiedCommandsFailAtEntryAlone}

pub verified_runs_do_not_fail : VerifiedRunsDoNotFail
verified_runs_do_not_fail program node_files files from typed reached_verified limit arguments globals n kind node start h =
    safe_methods_do_not_fail limit program (method_at program from) arguments globals n kind node
    (verified_safe program node_files files from typed reached_verified) start h

none_some : {A : Type 0} (a : A) → None ≡ Some a → ⊥
none_some a h = cc (h)

-- ---- the globals begin with values of their types

module _ (program : ProgramTree Variable) (node_files : List ℕ) (files : ℕ) (typed : IsTypedProgram program node_files files) where
  abbrev around : Scope
  around = record { program = program; method = no_method; named = nothing_named; nodes = length node_files }

  no_names : (values : Values) (a : ClaimName Variable) (t : ValueType) → claim_names around a ≡ Some t → HasType program.records (name_value values a) t
  no_names values (variable x) t h = absurd (none_some t h)
  no_names values (old_variable x) t h = absurd (none_some t h)
  no_names values (let_symbol label) t h = absurd (none_some t h)

  initial_typed : (n : ℕ) (d : GlobalTree Variable) → n < length program.globals
      → HasType program.records (initial_value program (get_or program.globals n d)) (get_or program.globals n d).type
  initial_typed n d there =
      let one = All-from_recursion (IsTypedGlobal program (length node_files)) program.globals typed.globals n d there in
      HasType-value program.records typed.records (claim_names around) (name_value (λ x. unit)) (no_names (λ x. unit))
      (claim_of (get_or program.globals n d).initial) (get_or program.globals n d).type no_bounds one.initial.typed

  initial_is : (n : ℕ) (d : GlobalTree Variable) → n < length program.globals → initial_globals program n ≡ initial_value program (get_or program.globals n d)
  initial_is n d there = get_or-map (initial_value program) program.globals n d unit there

  globals_fit : AreGlobals program (initial_globals program)
  globals_fit = record {
    typed = λ n d there. subst (λ v. HasType program.records v (get_or program.globals n d).type) (sym (initial_is n d there)) (initial_typed n d there);
    fixed = λ n d there is_fixed. initial_is n d there;
  }

-- ---- the Requires

-- no claim is false, so all hold
all_hold_of : (program : ProgramTree Variable) (values : Values) (claims : List (NotedTree Variable)) → first_false program values claims ≡ None
    → AllByRecursion (λ noted. is_true program.records values noted.claim ≡ true) claims
all_hold_of program values [] h = tt
all_hold_of program values (noted ∷ claims) h =
    by (is_true program.records values noted.claim) refl h (λ k. all_hold_of program values claims k) where
      by : (b : Bool) → is_true program.records values noted.claim ≡ b → (if not b then Some noted else first_false program values claims) ≡ None
          → (first_false program values claims ≡ None → AllByRecursion (λ noted. is_true program.records values noted.claim ≡ true) claims)
          → AllByRecursion (λ noted. is_true program.records values noted.claim ≡ true) (noted ∷ claims)
      by true e k more = (e, more k)
      by false e k more = absurd (none_some noted (sym k))

-- what a run has come to that has failed
abbrev outcome_of : Stopped → Option Outcome
outcome_of (reached outcome) = Some outcome
outcome_of (wide node) = None
outcome_of (out_of_visits node) = None

module _ (program : ProgramTree Variable) (from : ℕ) (arguments : List Value) where
  abbrev method : MethodTree Variable
  method = method_at program from

  abbrev at_entry : Values
  at_entry = entered program.records method arguments (initial_globals program)

  abbrev beyond : ℕ → Stopped
  beyond n = going_on visit_limit program (turns visit_limit program n) (begin method.body (last method)) at_entry

  abbrev behind_test : Tested → ℕ → Stopped
  behind_test t n = on_test t (λ node. reached (fails kinds.Requires method.node)) (beyond n)

  fails_at_entry : ((n : ℕ) (kind : Kind) (node : ℕ) → IsStart program method arguments (initial_globals program)
      → command_run program method arguments n ≡ reached (fails kind node) → ⊥)
      → Fits program arguments method.params → AreGlobals program (initial_globals program)
      → (n : ℕ) (kind : Kind) (node : ℕ) → command_run program method arguments n ≡ reached (fails kind node) → FailsAtEntry program from arguments kind node
  fails_at_entry never fit fit_globals n kind node h =
      by (test visit_limit program.records at_entry method.requires_) refl (test_agrees visit_limit program at_entry method.requires_) where
        of_start : first_false program at_entry method.requires_ ≡ None → FailsAtEntry program from arguments kind node
        of_start none =
            absurd (never n kind node (record {
              arguments_fit = fit;
              globals_fit = fit_globals;
              requires_ = All-from_recursion (λ noted. is_true program.records at_entry noted.claim ≡ true) method.requires_
                  (all_hold_of program at_entry method.requires_ none);
            }) h)

        same : (t : Tested) → test visit_limit program.records at_entry method.requires_ ≡ t → behind_test t n ≡ reached (fails kind node)
        same t e = subst (λ t. behind_test t n ≡ reached (fails kind node)) e h

        by : (t : Tested) → test visit_limit program.records at_entry method.requires_ ≡ t
            → TestAgrees (test visit_limit program.records at_entry method.requires_) (first_false program at_entry method.requires_)
            → FailsAtEntry program from arguments kind node
        by all_hold e agrees = of_start (subst (λ t. TestAgrees t (first_false program at_entry method.requires_)) e agrees)
        by (is_false claim_node) e agrees =
            let told : reached (fails kinds.Requires method.node) ≡ reached (fails kind node) = same (is_false claim_node) e in
            let kind_same : kinds.Requires ≡ kind = cc (told) in
            let node_same : method.node ≡ node = cc (told) in
            record {
              kind_is = sym kind_same;
              node_is = sym node_same;
              before_any_turn = subst (λ t. behind_test t 0 ≡ reached (fails kind node)) (sym e) told;
            }
        by (is_wide claim_node) e agrees = absurd (none_some (fails kind node) (ap outcome_of (same (is_wide claim_node) e)))
        by (is_out claim_node) e agrees = absurd (none_some (fails kind node) (ap outcome_of (same (is_out claim_node) e)))

pub verified_commands_fail_at_entry_alone : VerifiedCommandsFailAtEntryAlone
verified_commands_fail_at_entry_alone program node_files files from typed reached_verified arguments n kind node fit h =
    fails_at_entry program from arguments
    (λ n kind node start k. verified_runs_do_not_fail program node_files files from typed reached_verified visit_limit arguments
    (initial_globals program) n kind node start k)
    fit (globals_fit program node_files files typed) n kind node h
