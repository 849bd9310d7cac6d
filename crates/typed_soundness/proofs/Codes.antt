-- Typed statements are in order.
use Rattle.std.proofs.Common.{◌≡◌, ℕ, Bool, true, false, List, [], ◌∷◌, Option, Some, None, refl, subst}
use Rattle.std.specs.Prelude.{◌&&◌, ◌||◌}
use Rattle.std.specs.List.{AllByRecursion, list_all}
use Rattle.std.specs.Set.{is_member}
use Rattle.std.proofs.lemmas.Bool.{and_parts}
use Rattle.slang_values.specs.Value.{ValueType, unit_type, number_type, truth_type, sequence_type, record_type}
use Rattle.program_trees.specs.Programs.{CodeTree, set, give, assert, deduce, branch, loop, call, CodeTrees, no_code, code_then, MethodTree, ProgramTree}
use Rattle.program_trees.specs.Variables.{Variable, global, result, same_variable, variable_types}
use Rattle.run_rules.specs.Runs.{method_at}
use Rattle.typed_programs.specs.WellTyped as typed
use Rattle.typed_programs.specs.WellTyped.{Around, within, behind, End, goes_on, returns, ended, end_behind, IsOptionalTarget, IsTypedCode, AreTypedCodes}
use Rattle.leg_soundness.specs.Scopes.{Scope, with_variable, scope_behind, scope_at_end, loop_keeps, GetsResult, IsInOrder, AreInOrder}
use Rattle.leg_soundness.proofs.Ready.{within_end}
use Rattle.typed_soundness.proofs.Typed.{place, claim_typed, claims_typed, expr_typed, exprs_typed}
use Rattle.typed_soundness.proofs.Related.{Related, settable_free, related_set, related_result, related_within}

module _ (program : ProgramTree Variable) (method : MethodTree Variable) (nodes : ℕ)
    (no_unit : (x : Variable) → variable_types program method x ≡ Some unit_type → ⊥) where
  abbrev around : (Variable → Bool) → (Variable → Bool) → Around
  around named assigned = record { scope = place program method nodes named; assigned = assigned }

  -- ---- behind a statement

  abbrev named_behind : CodeTree Variable → (Variable → Bool) → Variable → Bool
  named_behind (set node x value) named = λ y. same_variable x y || named y
  named_behind (give node value) named = named
  named_behind (assert noted) named = named
  named_behind (deduce node steps) named = named
  named_behind (branch node test on_true on_false) named = named
  named_behind (loop node test modifies invariants body) named = named
  named_behind (call node None name_node number arguments) named = named
  named_behind (call node (Some x) name_node number arguments) named = λ y. same_variable x y || named y

  behind_is : (code : CodeTree Variable) (named assigned : Variable → Bool)
      → behind (around named assigned) code ≡ around (named_behind code named) (named_behind code assigned)
  behind_is (set node x value) named assigned = refl
  behind_is (give node value) named assigned = refl
  behind_is (assert noted) named assigned = refl
  behind_is (deduce node steps) named assigned = refl
  behind_is (branch node test on_true on_false) named assigned = refl
  behind_is (loop node test modifies invariants body) named assigned = refl
  behind_is (call node None name_node number arguments) named assigned = refl
  behind_is (call node (Some x) name_node number arguments) named assigned = refl

  -- at a return the result is not kept, and has that type
  abbrev pub EndFits : Option ValueType → (Variable → Bool) → End → Type 0
  EndFits o keeps goes_on = Unit {0}
  EndFits o keeps (returns t) = (o ≡ Some t) × (keeps result ≡ false)
  EndFits o keeps ended = Unit {0}

  end_fits_behind : (o : Option ValueType) (keeps : Variable → Bool) (end : End) (code : CodeTree Variable) → EndFits o keeps end
      → EndFits o keeps (end_behind end code)
  end_fits_behind o keeps end (set node x value) fits = fits
  end_fits_behind o keeps end (give node value) fits = tt
  end_fits_behind o keeps end (assert noted) fits = fits
  end_fits_behind o keeps end (deduce node steps) fits = fits
  end_fits_behind o keeps end (branch node test on_true on_false) fits = fits
  end_fits_behind o keeps end (loop node test modifies invariants body) fits = fits
  end_fits_behind o keeps end (call node target name_node number arguments) fits = fits

  related_behind : (end : End) (keeps : Variable → Bool) (scope : Scope) (named assigned : Variable → Bool) (code : CodeTree Variable)
      → Related keeps scope named assigned → IsTypedCode end (around named assigned) code
      → Related keeps (scope_behind code scope) (named_behind code named) (named_behind code assigned)
  related_behind end keeps scope named assigned (set node x value) related h =
      related_set keeps scope named assigned x related (settable_free keeps scope named assigned x related h.1.0)
  related_behind end keeps scope named assigned (give node value) related h = related_result keeps scope named assigned related
  related_behind end keeps scope named assigned (assert noted) related h = related
  related_behind end keeps scope named assigned (deduce node steps) related h = related
  related_behind end keeps scope named assigned (branch node test on_true on_false) related h = related
  related_behind end keeps scope named assigned (loop node test modifies invariants body) related h = related
  related_behind end keeps scope named assigned (call node None name_node number arguments) related h = related
  related_behind end keeps scope named assigned (call node (Some x) name_node number arguments) related h =
      related_set keeps scope named assigned x related (settable_free keeps scope named assigned x related h.2.target_typed.0)

  -- ---- calls

  modified_free : (keeps : Variable → Bool) (scope : Scope) (named assigned : Variable → Bool) → Related keeps scope named assigned → (gs : List ℕ)
      → list_all (λ g. assigned (global g)) gs ≡ true → AllByRecursion (λ g. keeps (global g) ≡ false) gs
  modified_free keeps scope named assigned related [] h = tt
  modified_free keeps scope named assigned related (g ∷ gs) h =
      let both = and_parts (assigned (global g)) (list_all (λ k. assigned (global k)) gs) h in
      (related.free (global g) both.0, modified_free keeps scope named assigned related gs both.1)

  result_there : (callee : MethodTree Variable) (r : ValueType) → (r ≡ unit_type → ⊥) → variable_types program (record callee { result = r }) result ≡ Some r
  result_there callee unit_type some = absurd (some refl)
  result_there callee number_type some = refl
  result_there callee truth_type some = refl
  result_there callee (sequence_type r) some = refl
  result_there callee (record_type n) some = refl

  gets_result : (keeps : Variable → Bool) (scope : Scope) (named assigned : Variable → Bool) → Related keeps scope named assigned
      → (callee : MethodTree Variable) (target : Option Variable) → IsOptionalTarget (around named assigned) target callee.result
      → GetsResult program method keeps callee target
  gets_result keeps scope named assigned related callee None h = tt
  gets_result keeps scope named assigned related callee (Some x) h = (
    callee.result,
    h.1,
    settable_free keeps scope named assigned x related h.0,
    result_there callee callee.result (λ unit. no_unit x (subst (λ t. variable_types program method x ≡ Some t) unit h.1)),
  )

  -- ---- statements

  module _ (keeps : Variable → Bool) (scope : Scope) (named assigned : Variable → Bool) (related : Related keeps scope named assigned) where
    covers : (x : Variable) (t : ValueType) → named x ≡ true → variable_types program method x ≡ Some t → scope x ≡ true
    covers x t is at = related.named_in x is

  mutual
    pub code_in_order : (end : End) (keeps : Variable → Bool) (scope : Scope) (named assigned : Variable → Bool) (code : CodeTree Variable)
        → Related keeps scope named assigned → EndFits (variable_types program method result) keeps end
        → IsTypedCode end (around named assigned) code → IsInOrder program method keeps scope code
    code_in_order end keeps scope named assigned (set node x value) related fits h = (
      typed.target_type (around named assigned) x,
      h.1.1,
      settable_free keeps scope named assigned x related h.1.0,
      expr_typed program method nodes scope named (covers keeps scope named assigned related) value (typed.target_type (around named assigned) x) h.2,
    )
    code_in_order goes_on keeps scope named assigned (give node value) related fits h = absurd h
    code_in_order (returns t) keeps scope named assigned (give node value) related fits h =
        (t, fits.0, fits.1, expr_typed program method nodes scope named (covers keeps scope named assigned related) value t h.1)
    code_in_order ended keeps scope named assigned (give node value) related fits h = absurd h
    code_in_order end keeps scope named assigned (assert noted) related fits h =
        claim_typed program method nodes scope named (covers keeps scope named assigned related) noted.claim truth_type h.claim.typed
    code_in_order end keeps scope named assigned (deduce node steps) related fits h = tt
    code_in_order end keeps scope named assigned (branch node test on_true on_false) related fits h = (
      expr_typed program method nodes scope named (covers keeps scope named assigned related) test truth_type h.1,
      codes_in_order goes_on keeps scope named assigned on_true related tt h.2,
      codes_in_order goes_on keeps scope named assigned on_false related tt h.3,
    )
    code_in_order end keeps scope named assigned (loop node test modifies invariants body) related fits h = (
      expr_typed program method nodes scope named (covers keeps scope named assigned related) test truth_type h.1,
      claims_typed program method nodes scope named (covers keeps scope named assigned related) invariants h.3,
      codes_in_order goes_on (loop_keeps keeps scope modifies) scope named (λ x. assigned x && is_member same_variable modifies x) body
          (related_within keeps scope named assigned modifies related) tt h.4,
    )
    code_in_order end keeps scope named assigned (call node target name_node number arguments) related fits h = record {
      arguments_typed = exprs_typed program method nodes scope named (covers keeps scope named assigned related) (method_at program number).params
          arguments h.2.arguments_typed;
      modifies = modified_free keeps scope named assigned related (method_at program number).modifies h.2.covered;
      target_typed = gets_result keeps scope named assigned related (method_at program number) target h.2.target_typed;
    }

    pub codes_in_order : (end : End) (keeps : Variable → Bool) (scope : Scope) (named assigned : Variable → Bool) (codes : CodeTrees Variable)
        → Related keeps scope named assigned → EndFits (variable_types program method result) keeps end
        → AreTypedCodes end (around named assigned) codes → AreInOrder program method keeps scope codes
    codes_in_order end keeps scope named assigned no_code related fits h = tt
    codes_in_order goes_on keeps scope named assigned (code_then code codes) related fits h = (
      code_in_order goes_on keeps scope named assigned code related fits h.0,
      codes_in_order (end_behind goes_on code) keeps (scope_behind code scope) (named_behind code named) (named_behind code assigned) codes
          (related_behind goes_on keeps scope named assigned code related h.0)
          (end_fits_behind (variable_types program method result) keeps goes_on code fits)
          (subst (λ a. AreTypedCodes (end_behind goes_on code) a codes) (behind_is code named assigned) h.1),
    )
    codes_in_order (returns t) keeps scope named assigned (code_then code codes) related fits h = (
      code_in_order (returns t) keeps scope named assigned code related fits h.0,
      codes_in_order (end_behind (returns t) code) keeps (scope_behind code scope) (named_behind code named) (named_behind code assigned) codes
          (related_behind (returns t) keeps scope named assigned code related h.0)
          (end_fits_behind (variable_types program method result) keeps (returns t) code fits)
          (subst (λ a. AreTypedCodes (end_behind (returns t) code) a codes) (behind_is code named assigned) h.1),
    )
    codes_in_order ended keeps scope named assigned (code_then code codes) related fits h = absurd h

-- statements that end with a return give a result
pub result_given : (t : ValueType) (around : Around) (codes : CodeTrees Variable) (scope : Scope) → AreTypedCodes (returns t) around codes
    → scope_at_end codes scope result ≡ true
result_given t around no_code scope h = absurd h
result_given t around (code_then (set node x value) codes) scope h = result_given t (behind around (set node x value)) codes _ h.1
result_given t around (code_then (give node value) codes) scope h = within_end codes (with_variable result scope) result refl
result_given t around (code_then (assert noted) codes) scope h = result_given t (behind around (assert noted)) codes _ h.1
result_given t around (code_then (deduce node steps) codes) scope h = result_given t (behind around (deduce node steps)) codes _ h.1
result_given t around (code_then (branch node test on_true on_false) codes) scope h =
    result_given t (behind around (branch node test on_true on_false)) codes _ h.1
result_given t around (code_then (loop node test modifies invariants body) codes) scope h =
    result_given t (behind around (loop node test modifies invariants body)) codes _ h.1
result_given t around (code_then (call node target name_node number arguments) codes) scope h =
    result_given t (behind around (call node target name_node number arguments)) codes _ h.1
