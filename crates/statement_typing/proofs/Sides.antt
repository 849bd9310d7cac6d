-- Values, arguments, calls and right sides without faults.
use Rattle.std.proofs.Common.{◌≡◌, ℕ, ◌+◌, ◌≤◌, Bool, true, false, not, ◌||◌, nat_eq, List, [], ◌∷◌, length, Option, Some, None, refl, sym, ap, ◌∙◌, subst, arith, length-append}
use Rattle.std.specs.Option.{option_map_or}
use Rattle.std.specs.List.{AllByRecursion, list_all}
use Rattle.std.proofs.lemmas.Bool.{and_from, eqb-true}
use Rattle.slang_values.specs.Value.{ValueType}
use Rattle.slang_tree.specs.declared.place.Place.{Place}
use Rattle.slang_tree.specs.ExprTree.{ExprTree, ExprTrees, no_exprs, expr_then}
use Rattle.slang_tree.specs.ExprTree as e
use Rattle.program_trees.specs.Programs.{MethodTree, ProgramTree}
use Rattle.program_trees.specs.Variables.{Variable, global}
use Rattle.run_rules.specs.Runs.{method_at}
use Rattle.typed_programs.specs.Scopes.{claim_names, IsValueIn, AreValuesIn}
use Rattle.typed_programs.specs.WellTyped.{IsOptionalTarget, IsCall}
use Rattle.type_rules.specs.Faults.{argument_count, outside_modifies}
use Rattle.type_rules.specs.Meanings.{Signature, Meaning, variable, bound_variable, block_variable, record_class, method, Scope, meaning_of, is_global_var, names_global_var, covers_all}
use Rattle.type_rules.specs.Judged.{Judged, are_typed, known_type, over, expects, expect_each}
use Rattle.type_rules.specs.Expressions.{in_program, argument_faults, callee_meant, change_faults, judged_call, judged, judged_each, judged_side, judged_right}
use Rattle.typed_texts.specs.Values.{value_of_tree}
use Rattle.typed_texts.specs.Code.{arguments_of}
use Rattle.claim_typing.proofs.Parts.{both_nil, first_typed, expected, cond_nil, unless-nil}
use Rattle.claim_typing.proofs.ClaimTypes.{good}
use Rattle.value_typing.proofs.WellTyped.{values_well_typed}
use Rattle.text_heights.specs.Heights.{greatest_height}
use Rattle.text_heights.specs.Low.{IsLow, AreLow}
use Rattle.text_heights.proofs.Low.{values_low}
use Rattle.statement_typing.specs.Around.{IsNamedGlobal, place_at, around_at, IsMethod, IsMeant, FitsAround}
use Rattle.statement_typing.proofs.Lists.{all_among}
use Rattle.statement_typing.proofs.Types.{value_typed, program_type, is_result}
use Rattle.statement_typing.proofs.Declares.{HasSide}
use Rattle.statement_typing.proofs.Typed.{has_known, judged_typed, each_typed, IsFaultless, over_faultless, over_type}
use Rattle.statement_typing.proofs.Fits.{of_program, fits_program, declared_in_program, names_are_values}

pub each_low : (trees : ExprTrees) → greatest_height trees ≤ 1000 → AreLow trees
each_low no_exprs h = tt
each_low (expr_then tree trees) h = (omega (arith, h), each_low trees (omega (arith, h)))

module _ (program : ProgramTree Variable) (own : MethodTree Variable) (nodes : ℕ) (named assigned : Variable → Bool) (scope : Scope)
    (fits : FitsAround program own nodes named assigned scope) where
  pub value_here : (tree : ExprTree) (t : ValueType) (node : ℕ) → (judged scope in_program tree).type ≡ Some t → IsLow tree →
      node + length (value_of_tree scope tree).places ≤ nodes → IsValueIn (place_at program own nodes named) t ((value_of_tree scope tree).from node)
  value_here tree t node h low room =
      values_well_typed (place_at program own nodes named) scope (fits_program program own nodes named assigned scope fits)
      (of_program program own nodes named assigned scope fits) tree t node h room (omega (arith, values_low scope tree node, low))

  values_here : (trees : ExprTrees) (types : List ValueType) (node : ℕ) → are_typed (judged_each scope in_program trees) ≡ true →
      length types ≡ length (judged_each scope in_program trees) → expect_each types (judged_each scope in_program trees) ≡ [] → AreLow trees →
      node + length (arguments_of scope trees).places ≤ nodes →
      AreValuesIn (place_at program own nodes named) types ((arguments_of scope trees).from node)
  values_here no_exprs [] node typed n h low room = tt
  values_here no_exprs (t ∷ types) node typed n h low room = absurd (omega (arith, n))
  values_here (expr_then tree trees) [] node typed n h low room = absurd (omega (arith, n))
  values_here (expr_then tree trees) (t ∷ types) node typed n h low room =
      let part = judged scope in_program tree in
      let parts = judged_each scope in_program trees in
      let p = first_typed part parts typed in
      let q = both_nil (expects t part) (expect_each types parts) h in
      let first = value_of_tree scope tree in
      let others = arguments_of scope trees in
      let count = length-append first.places others.places in (
        value_here tree t node (p.0 ∙ ap Some (sym (expected t part q.0))) low.0 (omega (arith, count, room)),
        values_here trees types (node + length first.places) p.1 (omega (arith, n)) q.1 low.1 (omega (arith, count, room)),
      )

  -- ---- calls

  assigned_at : (n : ℕ) (type : Option ValueType) (text : List ℕ) → IsMeant program own nodes named assigned scope text (variable (global n) true type) →
      scope.covers text ≡ true → assigned (global n) ≡ true
  assigned_at n None text h covered = absurd h
  assigned_at n (Some t) text h covered = h.may_be_assigned refl covered

  named_covered : (n : ℕ) (modifies : List (List ℕ)) → covers_all scope modifies ≡ true → IsNamedGlobal scope.names modifies n → assigned (global n) ≡ true
  named_covered n modifies covered h =
      let is_global : names_global_var scope h.text ≡ true = ap (λ o. option_map_or is_global_var o false) h.meant in
      let one = all_among (λ text. not (names_global_var scope text) || scope.covers text) modifies h.text h.among covered in
      assigned_at n h.type h.text (fits.meanings h.text (variable (global n) true h.type) h.meant)
      (subst (λ b. (not b || scope.covers h.text) ≡ true) is_global one)

  all_covered : (modifies : List (List ℕ)) → covers_all scope modifies ≡ true → (ns : List ℕ) → AllByRecursion (IsNamedGlobal scope.names modifies) ns →
      list_all (λ g. assigned (global g)) ns ≡ true
  all_covered modifies covered [] h = refl
  all_covered modifies covered (n ∷ ns) h =
      and_from (assigned (global n)) (list_all (λ g. assigned (global g)) ns) (named_covered n modifies covered h.0) (all_covered modifies covered ns h.1)

  -- what a call without faults has
  pub record Calls (place : Place) (signature : Signature) (modifies : List (List ℕ)) (arguments : List Judged) : Type 0 where
    pub covered : covers_all scope modifies ≡ true
    pub parts : IsFaultless arguments (argument_faults place signature.params arguments)

  pub calls : (place : Place) (signature : Signature) (modifies : List (List ℕ)) (arguments : ExprTrees) →
      (judged_call scope place (Some signature) modifies (judged_each scope in_program arguments)).faults ≡ [] →
      Calls place signature modifies (judged_each scope in_program arguments)
  calls place signature modifies arguments h =
      let parts = judged_each scope in_program arguments in
      let own_faults = argument_faults place signature.params parts in
      let p = both_nil (change_faults scope place modifies) (over place parts own_faults (Some signature.result)).faults h in
      record {
        covered = unless-nil (covers_all scope modifies) (outside_modifies place) p.0;
        parts = over_faultless place parts own_faults (Some signature.result)
            (each_typed in_program scope (declared_in_program program own nodes named assigned scope fits) arguments) p.1;
      }

  pub call_in : (place : Place) (number : ℕ) (signature : Signature) (modifies : List (List ℕ)) → IsMethod program own nodes scope.names number signature modifies →
      (arguments : ExprTrees) → Calls place signature modifies (judged_each scope in_program arguments) → AreLow arguments → (node : ℕ) →
      node + length (arguments_of scope arguments).places ≤ nodes → (target : Option Variable) →
      IsOptionalTarget (around_at program own nodes named assigned) target signature.result →
      IsCall (around_at program own nodes named assigned) target number ((arguments_of scope arguments).from node)
  call_in place number signature modifies is arguments call low node room target fitting =
      let parts = judged_each scope in_program arguments in
      let own_faults = cond_nil (nat_eq (length signature.params) (length parts)) (expect_each signature.params parts) [] (argument_count place) call.parts.none in
      record {
        there = is.there;
        arguments_typed = subst (λ types. AreValuesIn (place_at program own nodes named) types ((arguments_of scope arguments).from node)) (sym is.params)
            (values_here arguments signature.params node call.parts.typed (eqb-true (length signature.params) (length parts) own_faults.0) own_faults.1 low room);
        covered = all_covered modifies call.covered (method_at program number).modifies is.modified;
        target_typed = subst (λ t. IsOptionalTarget (around_at program own nodes named assigned) target t) (sym is.result) fitting;
      }

  -- ---- right sides

  plain_typed : (tree : ExprTree) → (judged scope in_program tree).faults ≡ [] → (t : ValueType) × HasSide program.records (judged scope in_program tree) t
  plain_typed tree h =
      let part = judged scope in_program tree in
      let typed = has_known part (judged_typed in_program scope (declared_in_program program own nodes named assigned scope fits) tree h) in
      let names = claim_names (place_at program own nodes named) in
      let g = good program.records names in_program scope (fits_program program own nodes named assigned scope fits) tree (known_type part) typed in (
        known_type part,
        record {
          typed = typed;
          known = is_result program.records (known_type part)
              (program_type program.records (known_type part)
              (value_typed program.records names (names_are_values program own nodes named assigned scope fits) fits.value_fields _ (known_type part) g.typed g.elements)
              g.known);
        },
      )

  call_typed : (place : Place) (number : ℕ) (signature : Signature) (modifies : List (List ℕ)) → IsMethod program own nodes scope.names number signature modifies →
      (arguments : ExprTrees) → (judged_call scope place (Some signature) modifies (judged_each scope in_program arguments)).faults ≡ [] →
      (t : ValueType) × HasSide program.records (judged_call scope place (Some signature) modifies (judged_each scope in_program arguments)) t
  call_typed place number signature modifies is arguments h =
      let parts = judged_each scope in_program arguments in
      let call = calls place signature modifies arguments h in (
        signature.result,
        record {
          typed = over_type place parts (argument_faults place signature.params parts) (Some signature.result) call.parts;
          known = is.known;
        },
      )

  side_by : (place : Place) (tree : ExprTree) (text : List ℕ) (arguments : ExprTrees) (meaning : Option Meaning) → meaning_of scope text ≡ meaning →
      (judged_side scope place (callee_meant meaning) (judged scope in_program tree) (judged_each scope in_program arguments)).faults ≡ [] →
      (t : ValueType) × HasSide program.records (judged_side scope place (callee_meant meaning) (judged scope in_program tree) (judged_each scope in_program arguments)) t
  side_by place tree text arguments None m h = plain_typed tree h
  side_by place tree text arguments (Some (variable x changes type)) m h = plain_typed tree h
  side_by place tree text arguments (Some (bound_variable depth)) m h = plain_typed tree h
  side_by place tree text arguments (Some (block_variable label)) m h = plain_typed tree h
  side_by place tree text arguments (Some (record_class n)) m h = plain_typed tree h
  side_by place tree text arguments (Some (method number None modifies)) m h = absurd (fits.meanings text (method number None modifies) m)
  side_by place tree text arguments (Some (method number (Some signature) modifies)) m h =
      call_typed place number signature modifies (fits.meanings text (method number (Some signature) modifies) m) arguments h

  pub right_typed : (tree : ExprTree) → (judged_right scope tree).faults ≡ [] → (t : ValueType) × HasSide program.records (judged_right scope tree) t
  right_typed (e.application place (e.name text at) arguments) h =
      side_by place (e.application place (e.name text at) arguments) text arguments (meaning_of scope text) refl h
  right_typed other h = plain_typed other h
