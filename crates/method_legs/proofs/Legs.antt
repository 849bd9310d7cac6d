-- The legs of a typed method are well typed.
use Rattle.std.proofs.Common.{◌≡◌, ℕ, ◌+◌, ◌<◌, Bool, true, false, ◌||◌, List, [], ◌∷◌, ◌++◌, map, length, Some, None, refl, sym, ap, subst, arith}
use Rattle.std.specs.Prelude.{slice_get, ◌&&◌}
use Rattle.std.specs.Option.{option_map}
use Rattle.std.specs.List.{AllByRecursion, list_all}
use Rattle.std.specs.Set.{is_member}
use Rattle.std.proofs.lemmas.Bool.{false≢true, and_parts, ltb-true}
use Rattle.slang_values.specs.Value.{ValueType, unit_type, number_type, truth_type, sequence_type, record_type, AreWellFormed}
use Rattle.program_trees.specs.declared.answer.Kind.{Kind}
use Rattle.program_trees.specs.declared.answer.Kind.TheVariants as kinds
use Rattle.program_trees.specs.Claims.{NotedTree}
use Rattle.program_trees.specs.Programs.{CodeTree, set as set_code, give, assert, deduce, branch, loop, call, CodeTrees, no_code, code_then, MethodTree, ProgramTree}
use Rattle.program_trees.specs.Variables.{Variable, local, global, entry, result, same_variable, variable_types}
use Rattle.run_rules.specs.Runs.{no_method, method_at}
use Rattle.leg_rules.specs.LegNames.{own}
use Rattle.leg_rules.specs.Legs.{Items, checked, assumed, own_claims, set_items, assert_items, deduce_items, test_items, on_true_items, on_false_items, loop_items, call_items, in_front, legs_of, legs_of_code, with_fixed, fixed_items, entry_and_requires, ensures_at_end, entry_items, entries_named, legs}
use Rattle.leg_rules.specs.Typed.{no_labels}
use Rattle.typed_programs.specs.Scopes.{is_var, claim_names, IsNotedIn}
use Rattle.typed_programs.specs.WellTyped.{Around, behind, End, goes_on, returns, ended, end_behind, IsTypedCode, AreTypedCodes, is_named_before, is_named_behind, body_end, is_program_type, IsTypedMethod, IsTypedGlobal, IsTypedProgram}
use Rattle.answer_laws.specs.Laws.{HasTypedLegs, IsTypedLegOf}
use Rattle.leg_typing.proofs.Legs.{typed_leg}
use Rattle.numbering_laws.proofs.Places.{all_mapped, all_append, there_is}
use Rattle.numbering_laws.proofs.SameNames.{same_name-true}
use Rattle.method_legs.proofs.Lists.{all_map, all_tested, all_got_or, taken}
use Rattle.method_legs.proofs.Claims.{AreItems, items_append, own_names, scope_of, assumed_items, checked_items, noted_truths, test_are, set_are, on_true_are, on_false_are, steps_over}
use Rattle.method_legs.proofs.Methods.{HasTypes, variable_type, known_types}
use Rattle.method_legs.proofs.Calls.{HasType, own_entries_are, fixed_are, call_are, target_is}

module _ (program : ProgramTree Variable) (nodes : ℕ) (method : MethodTree Variable) where
  abbrev Are : Items → Type 0
  Are items = AreItems program method items

  abbrev AllAre : List Items → Type 0
  AllAre all = AllByRecursion Are all

  front_are : (items : Items) (all : List Items) → Are items → AllAre all → AllAre (in_front items all)
  front_are items all h k = all_map Are Are (λ leg. items ++ leg) (λ leg is. items_append program method items leg h is) all k

  abbrev at : (Variable → Bool) → (Variable → Bool) → Around
  at named assigned = record { scope = record { program = program; method = method; named = named; nodes = nodes }; assigned = assigned }

  -- what may be named has a type
  abbrev NamedHaveTypes : (Variable → Bool) → Type 0
  NamedHaveTypes named = (x : Variable) → named x ≡ true → (t : ValueType) × (variable_types program method x ≡ Some t)

  same_variable-true : (x y : Variable) → same_variable x y ≡ true → x ≡ y
  same_variable-true x y h = own_inj (same_name-true (own x) (own y) h)
    where
      own_inj : own x ≡ own y → x ≡ y
      own_inj e = cc

  with_one : (named : Variable → Bool) → NamedHaveTypes named → (x : Variable) (t : ValueType) → variable_types program method x ≡ Some t
      → NamedHaveTypes (λ y. same_variable x y || named y)
  with_one named have x t is y h = by (same_variable x y) refl h
    where
      by : (b : Bool) → same_variable x y ≡ b → (b || named y) ≡ true → (s : ValueType) × (variable_types program method y ≡ Some s)
      by true e k = (t, subst (λ z. variable_types program method z ≡ Some t) (same_variable-true x y e) is)
      by false e k = have y k

  modified_are : (named : Variable → Bool) (assigned : Variable → Bool) → NamedHaveTypes named → (modifies : List Variable)
      → list_all (λ x. named x && is_var (scope_of program method named nodes) x) modifies ≡ true
      → AllByRecursion (HasType program nodes method) (map own modifies)
  modified_are named assigned have modifies h =
      all_map (λ x. named x && is_var (scope_of program method named nodes) x ≡ true) (HasType program nodes method) own
      (λ x e. have x (and_parts _ _ e).0) modifies (all_tested _ _ (λ x e. e) modifies h)

  invariants_assumed : (named : Variable → Bool) (claims : List (NotedTree Variable)) → AllByRecursion (IsNotedIn (scope_of program method named nodes)) claims
      → Are (assumed (own_claims claims))
  invariants_assumed named claims h =
      assumed_items program method (claim_names (scope_of program method named nodes)) own (own_names program method named nodes) claims
      (noted_truths program method (scope_of program method named nodes) claims h)

  claims_checked : (named : Variable → Bool) (kind : Kind) (claims : List (NotedTree Variable))
      → AllByRecursion (IsNotedIn (scope_of program method named nodes)) claims → Are (checked kind (own_claims claims))
  claims_checked named kind claims h =
      checked_items program method (claim_names (scope_of program method named nodes)) own (own_names program method named nodes) kind claims
      (noted_truths program method (scope_of program method named nodes) claims h)

  -- a value that is returned has the type of the result
  abbrev EndFits : End → Type 0
  EndFits goes_on = Unit {0}
  EndFits (returns t) = variable_types program method result ≡ Some t
  EndFits ended = Unit {0}

  end_fits : (end : End) (code : CodeTree Variable) → EndFits end → EndFits (end_behind end code)
  end_fits end (set_code node x value) fits = fits
  end_fits end (give node value) fits = tt
  end_fits end (assert noted) fits = fits
  end_fits end (deduce node steps) fits = fits
  end_fits end (branch node test on_true on_false) fits = fits
  end_fits end (loop node test modifies invariants body) fits = fits
  end_fits end (call node target name_node number arguments) fits = fits

  module _ (methods : AllByRecursion (IsTypedMethod program nodes) program.methods) (types : (x : Variable) (t : ValueType) → variable_types program method x ≡ Some t → is_program_type program.records t ≡ true) where
    -- what may be named behind a statement
    abbrev NamedBehind : End → (Variable → Bool) → (Variable → Bool) → CodeTree Variable → Type 0
    NamedBehind end named assigned code =
        (next : Variable → Bool) × (may : Variable → Bool) × (behind (at named assigned) code ≡ at next may) × NamedHaveTypes next

    behind_is : (end : End) (named assigned : Variable → Bool) (code : CodeTree Variable) → NamedHaveTypes named → IsTypedCode end (at named assigned) code
        → NamedBehind end named assigned code
    behind_is end named assigned (set_code node x value) have h =
        (λ y. same_variable x y || named y, λ y. same_variable x y || assigned y, refl, with_one named have x _ h.1.1)
    behind_is end named assigned (give node value) have h = (named, assigned, refl, have)
    behind_is end named assigned (assert noted) have h = (named, assigned, refl, have)
    behind_is end named assigned (deduce node steps) have h = (named, assigned, refl, have)
    behind_is end named assigned (branch node test on_true on_false) have h = (named, assigned, refl, have)
    behind_is end named assigned (loop node test modifies invariants body) have h = (named, assigned, refl, have)
    behind_is end named assigned (call node None name_node number arguments) have h = (named, assigned, refl, have)
    behind_is end named assigned (call node (Some x) name_node number arguments) have h =
        (λ y. same_variable x y || named y, λ y. same_variable x y || assigned y, refl, with_one named have x _ h.2.target_typed.1)

    mutual
      code_are : (code : CodeTree Variable) (end : End) (named assigned : Variable → Bool) → EndFits end → NamedHaveTypes named
          → IsTypedCode end (at named assigned) code → (following : List Items) → AllAre following → AllAre (legs_of program code following)
      code_are (set_code node x value) end named assigned fits have h following all =
          front_are (set_items node x value) following (set_are program method named nodes node x value _ h.1.1 h.2.typed) all
      code_are (give node value) goes_on named assigned fits have h following all = absurd h
      code_are (give node value) (returns t) named assigned fits have h following all =
          front_are (set_items node result value) following (set_are program method named nodes node result value t fits h.1.typed) all
      code_are (give node value) ended named assigned fits have h following all = absurd h
      code_are (assert noted) end named assigned fits have h following all =
          front_are (assert_items noted) following (claims_checked named kinds.Assert (noted ∷ []) (h, tt)) all
      code_are (deduce node steps) end named assigned fits have h following all =
          front_are (deduce_items node steps) following (steps_over program method named nodes steps 200 no_labels h.1, tt) all
      code_are (branch node test on_true on_false) end named assigned fits have h following all =
          front_are (test_items test) _ (test_are program method named nodes test truth_type h.1.typed)
          (all_append Are (in_front (on_true_items node test) (legs_of_code program on_true following)) _
          (front_are (on_true_items node test) _ (on_true_are program method named nodes node test h.1.typed)
          (codes_are on_true goes_on named assigned tt have h.2 following all))
          (front_are (on_false_items node test) _ (on_false_are program method named nodes node test h.1.typed)
          (codes_are on_false goes_on named assigned tt have h.3 following all)))
      code_are (loop node test modifies invariants body) end named assigned fits have h following all =
          front_are (loop_items node test modifies invariants) _
          (items_append program method (checked kinds.InvStart (own_claims invariants)) _ (claims_checked named kinds.InvStart invariants h.3) (
            modified_are named assigned have modifies h.2.vars,
            items_append program method (assumed (own_claims invariants)) (test_items test) (invariants_assumed named invariants h.3)
                (test_are program method named nodes test truth_type h.1.typed),
          ))
          (all_append Are (in_front (on_true_items node test) (legs_of_code program body (checked kinds.InvKept (own_claims invariants) ∷ []))) _
          (front_are (on_true_items node test) _ (on_true_are program method named nodes node test h.1.typed)
          (codes_are body goes_on named (λ x. assigned x && is_member same_variable modifies x) tt have h.4 (checked kinds.InvKept (own_claims invariants) ∷ [])
          (claims_checked named kinds.InvKept invariants h.3, tt)))
          (front_are (on_false_items node test) following (on_false_are program method named nodes node test h.1.typed) all))
      code_are (call node None name_node number arguments) end named assigned fits have h following all =
          let callee = all_got_or (IsTypedMethod program nodes) program.methods number no_method methods h.2.there in
          front_are (call_items program node None name_node number arguments) following
          (call_are program nodes method node number callee named name_node None arguments h.2.arguments_typed tt) all
      code_are (call node (Some x) name_node number arguments) end named assigned fits have h following all =
          let callee = all_got_or (IsTypedMethod program nodes) program.methods number no_method methods h.2.there in
          let at_x = h.2.target_typed.1 in
          front_are (call_items program node (Some x) name_node number arguments) following
          (call_are program nodes method node number callee named name_node (Some x) arguments h.2.arguments_typed
          (target_is program nodes method node number callee x at_x (types x _ at_x))) all

      codes_are : (codes : CodeTrees Variable) (end : End) (named assigned : Variable → Bool) → EndFits end → NamedHaveTypes named
          → AreTypedCodes end (at named assigned) codes → (following : List Items) → AllAre following → AllAre (legs_of_code program codes following)
      codes_are no_code end named assigned fits have h following all = all
      codes_are (code_then code codes) goes_on named assigned fits have h following all =
          let next = behind_is goes_on named assigned code have h.0 in
          code_are code goes_on named assigned fits have h.0 _
          (codes_are codes (end_behind goes_on code) next.0 next.1 (end_fits goes_on code fits) next.3 (subst (λ around. AreTypedCodes (end_behind goes_on code) around codes) next.2 h.1)
          following all)
      codes_are (code_then code codes) (returns t) named assigned fits have h following all =
          let next = behind_is (returns t) named assigned code have h.0 in
          code_are code (returns t) named assigned fits have h.0 _
          (codes_are codes (end_behind (returns t) code) next.0 next.1 (end_fits (returns t) code fits) next.3
          (subst (λ around. AreTypedCodes (end_behind (returns t) code) around codes) next.2 h.1) following all)
      codes_are (code_then code codes) ended named assigned fits have h following all = absurd h

  -- ---- a method

  module _ (typed : IsTypedMethod program nodes method) where
    named_before : NamedHaveTypes (is_named_before program nodes method)
    named_before (local n) h =
        let got = there_is method.params n (ltb-true n (length method.params) h) in
        (got.0, taken (length method.params) method.locals n got.0 (subst (λ ts. slice_get ts n ≡ Some got.0) (sym typed.params) got.1))
    named_before (global n) h =
        let got = there_is program.globals n (ltb-true n (length program.globals) h) in
        (got.0.type, ap (option_map (λ g. g.type)) got.1)
    named_before (entry n) h = absurd (false≢true h)
    named_before result h = absurd (false≢true h)

    result_end : (r : ValueType) → ((t : ValueType) → variable_types program (record method { result = r }) result ≡ Some t
        → variable_types program method result ≡ Some t) → EndFits (body_end program nodes method r)
    result_end unit_type same = tt
    result_end number_type same = same number_type refl
    result_end truth_type same = same truth_type refl
    result_end (sequence_type s) same = same (sequence_type s) refl
    result_end (record_type n) same = same (record_type n) refl

  module _ (globals : AllByRecursion (IsTypedGlobal program nodes) program.globals) (methods : AllByRecursion (IsTypedMethod program nodes) program.methods) (typed : IsTypedMethod program nodes method) where
    has_types : HasTypes program nodes globals method
    has_types = record { locals = typed.locals; result_type = typed.result_type }

    front_items_are : Are (entry_and_requires program method)
    front_items_are =
        items_append program method (entry_items method.node (λ g. own (entry g)) (entries_named program method.ensures_)) _
        (own_entries_are program nodes method method.node method.ensures_)
        (invariants_assumed (is_named_before program nodes method) method.requires_ typed.requires_)

    whole_leg : (leg : Items) → Are leg → Are (with_fixed program method (entry_and_requires program method ++ leg))
    whole_leg leg h =
        let rest = entry_and_requires program method ++ leg in
        items_append program method (fixed_items program method rest 0 program.globals) rest
        (fixed_are program nodes method rest 0 program.globals (λ k g e. subst (λ n. slice_get program.globals n ≡ Some g) (zero_before k) e) globals)
        (items_append program method (entry_and_requires program method) leg front_items_are h)
      where
        zero_before : (n : ℕ) → n ≡ 0 + n
        zero_before n = omega arith

    legs_are : AllAre (legs program method)
    legs_are =
        all_map Are Are (λ leg. with_fixed program method (entry_and_requires program method ++ leg)) whole_leg
        (legs_of_code program method.body (ensures_at_end method ∷ []))
        (codes_are methods (variable_type program nodes globals method has_types) method.body (body_end program nodes method method.result)
        (is_named_before program nodes method) _ (result_end typed method.result (λ t h. h)) (named_before typed) typed.body (ensures_at_end method ∷ [])
        (claims_checked (is_named_behind program nodes method) kinds.Ensures method.ensures_ typed.ensures_, tt))

    pub has_typed_legs : AreWellFormed program.records → HasTypedLegs program method
    has_typed_legs fine =
        all_mapped Are (IsTypedLegOf program method)
        (λ items is. typed_leg program method items fine (known_types program nodes globals methods method has_types) is) (legs program method) legs_are

pub legs_typed : (program : ProgramTree Variable) (node_files : List ℕ) (files : ℕ) → IsTypedProgram program node_files files → (number : ℕ)
    → number < length program.methods → HasTypedLegs program (method_at program number)
legs_typed program node_files files typed number there =
    has_typed_legs program (length node_files) (method_at program number) typed.globals typed.methods
    (all_got_or (IsTypedMethod program (length node_files)) program.methods number no_method typed.methods there) typed.records
