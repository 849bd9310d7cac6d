-- The legs of a typed method are fit.
use Rattle.std.proofs.Common.{◌≡◌, ℕ, ◌<◌, List, [], ◌∷◌, ◌++◌, length, Some, None, refl, sym, subst}
use Rattle.std.specs.Prelude.{nat_eq}
use Rattle.std.specs.List.{AllByRecursion, IsDistinct}
use Rattle.numbering_laws.proofs.Places.{all_append}
use Rattle.method_legs.proofs.Lists.{all_map, all_got_or}
use Rattle.slang_values.specs.Value.{truth_type}
use Rattle.program_trees.specs.declared.answer.Kind.TheVariants as kinds
use Rattle.program_trees.specs.Programs.{CodeTree, set as set_code, give, assert, deduce, branch, loop, call, CodeTrees, no_code, code_then, MethodTree, ProgramTree}
use Rattle.program_trees.specs.Variables.{Variable, entry, result}
use Rattle.run_rules.specs.Runs.{no_method, method_at}
use Rattle.leg_rules.specs.LegNames.{own}
use Rattle.leg_rules.specs.Legs.{Items, checked, assumed, own_claims, set_items, assert_items, deduce_items, test_items, on_true_items, on_false_items, loop_items, call_items, in_front, legs_of, legs_of_code, with_fixed, fixed_items, entry_and_requires, ensures_at_end, entry_items, entries_named, legs}
use Rattle.leg_rules.specs.Typed.{no_labels}
use Rattle.typed_programs.specs.WellTyped.{Around, within, behind, End, goes_on, returns, ended, end_behind, IsTypedCode, AreTypedCodes, scope_before, scope_behind, around_body, body_end, target_type, IsTypedMethod, IsTypedGlobal}
use Rattle.well_formed_legs.specs.Fit.{AreFit}
use Rattle.well_formed_legs.proofs.Items.{steps_renamed, same_labels}
use Rattle.well_formed_legs.proofs.Calls.{fit_append, assumed_fit, checked_fit, steps_fit, test_fit, set_fit, on_true_fit, on_false_fit, entries_fit, fixed_fit, call_fit}

module _ (program : ProgramTree Variable) (nodes : ℕ) where
  abbrev AllFit : List Items → Type 0
  AllFit all = AllByRecursion AreFit all

  front_fit : (items : Items) (all : List Items) → AreFit items → AllFit all → AllFit (in_front items all)
  front_fit items all h k = all_map AreFit AreFit (λ leg. items ++ leg) (λ leg is. fit_append items leg h is) all k

  -- the place is one of the program
  abbrev Within : Around → Type 0
  Within around = around.scope.program ≡ program

  still_within : (around : Around) (code : CodeTree Variable) → Within around → Within (behind around code)
  still_within around (set_code node x value) e = e
  still_within around (give node value) e = e
  still_within around (assert noted) e = e
  still_within around (deduce node steps) e = e
  still_within around (branch node test on_true on_false) e = e
  still_within around (loop node test modifies invariants body) e = e
  still_within around (call node None name_node number arguments) e = e
  still_within around (call node (Some x) name_node number arguments) e = e

  module _ (methods : AllByRecursion (IsTypedMethod program nodes) program.methods) where
    mutual
      code_fit : (code : CodeTree Variable) (end : End) (around : Around) → Within around → IsTypedCode end around code → (following : List Items) →
          AllFit following →
          AllFit (legs_of program code following)
      code_fit (set_code node x value) end around e h following all =
          front_fit (set_items node x value) following (set_fit around.scope node x (target_type around x) value h.2) all
      code_fit (give node value) goes_on around e h following all = absurd h
      code_fit (give node value) (returns t) around e h following all = front_fit (set_items node result value) following
          (set_fit around.scope node result t value h.1) all
      code_fit (give node value) ended around e h following all = absurd h
      code_fit (assert noted) end around e h following all =
          front_fit (assert_items noted) following (checked_fit around.scope kinds.Assert refl (noted ∷ []) (h, tt)) all
      code_fit (deduce node steps) end around e h following all =
          front_fit (deduce_items node steps) following (
            (
              steps_renamed own steps 200 (steps_fit around.scope steps 200 no_labels h.1),
              subst (IsDistinct nat_eq) (sym
                  (same_labels own steps)) h.2,
            ),
            tt,
          ) all
      code_fit (branch node test on_true on_false) end around e h following all =
          front_fit (test_items test) _ (test_fit around.scope truth_type test h.1)
          (all_append AreFit (in_front (on_true_items node test) (legs_of_code program on_true following)) _
          (front_fit (on_true_items node test) _ (on_true_fit around.scope node truth_type test h.1) (codes_fit on_true goes_on around e h.2 following all))
          (front_fit (on_false_items node test) _ (on_false_fit around.scope node truth_type test h.1)
          (codes_fit on_false goes_on around e h.3 following all)))
      code_fit (loop node test modifies invariants body) end around e h following all =
          front_fit (loop_items node test modifies invariants) _
          (fit_append (checked kinds.InvStart (own_claims invariants)) _ (checked_fit around.scope kinds.InvStart refl invariants h.3) (
            tt,
            fit_append (assumed (own_claims invariants)) (test_items test) (assumed_fit around.scope own invariants h.3)
                (test_fit around.scope truth_type test h.1),
          ))
          (all_append AreFit (in_front (on_true_items node test) (legs_of_code program body (checked kinds.InvKept (own_claims invariants) ∷ []))) _
          (front_fit (on_true_items node test) _ (on_true_fit around.scope node truth_type test h.1)
          (codes_fit body goes_on (within around modifies) e h.4 (checked kinds.InvKept (own_claims invariants) ∷ [])
          (checked_fit around.scope kinds.InvKept refl invariants h.3, tt)))
          (front_fit (on_false_items node test) following (on_false_fit around.scope node truth_type test h.1) all))
      code_fit (call node target name_node number arguments) end around e h following all =
          let there : number < length program.methods = subst (λ p. number < length p.methods) e h.2.there in
          let callee = all_got_or (IsTypedMethod program nodes) program.methods number no_method methods there in
          front_fit (call_items program node target name_node number arguments) following
          (call_fit program nodes around.scope node number callee name_node target
          (method_at around.scope.program number).params arguments h.2.arguments_typed) all

      codes_fit : (codes : CodeTrees Variable) (end : End) (around : Around) → Within around → AreTypedCodes end around codes → (following : List Items) →
          AllFit following →
          AllFit (legs_of_code program codes following)
      codes_fit no_code end around e h following all = all
      codes_fit (code_then code codes) goes_on around e h following all =
          code_fit code goes_on around e h.0 _
          (codes_fit codes (end_behind goes_on code) (behind around code) (still_within around code e) h.1 following all)
      codes_fit (code_then code codes) (returns t) around e h following all =
          code_fit code (returns t) around e h.0 _
          (codes_fit codes (end_behind (returns t) code) (behind around code) (still_within around code e) h.1 following all)
      codes_fit (code_then code codes) ended around e h following all = absurd h

    -- ---- a method

    module _ (globals : AllByRecursion (IsTypedGlobal program nodes) program.globals) (method : MethodTree Variable) (typed : IsTypedMethod program nodes method) where
      front_items_fit : AreFit (entry_and_requires program method)
      front_items_fit =
          fit_append (entry_items method.node (λ g. own (entry g)) (entries_named program method.ensures_)) _
          (entries_fit method.node (λ g. own (entry g)) (entries_named program method.ensures_))
          (assumed_fit (scope_before program nodes method) own method.requires_ typed.requires_)

      whole_leg : (leg : Items) → AreFit leg → AreFit (with_fixed program method (entry_and_requires program method ++ leg))
      whole_leg leg h =
          let rest = entry_and_requires program method ++ leg in
          fit_append (fixed_items program method rest 0 program.globals) rest (fixed_fit program nodes method rest 0 program.globals globals)
          (fit_append (entry_and_requires program method) leg front_items_fit h)

      pub legs_fit : AllByRecursion AreFit (legs program method)
      legs_fit =
          all_map AreFit AreFit (λ leg. with_fixed program method (entry_and_requires program method ++ leg)) whole_leg
          (legs_of_code program method.body (ensures_at_end method ∷ []))
          (codes_fit method.body (body_end program nodes method method.result) (around_body program nodes method) refl typed.body (ensures_at_end method ∷ [])
          (checked_fit (scope_behind program nodes method) kinds.Ensures refl method.ensures_ typed.ensures_, tt))
