-- Statements over numbers, and back.
use Rattle.std.proofs.Common.{◌≡◌, ⊎_elim, ℕ, true, ◌&&◌, ◌||◌, List, [], ◌∷◌, map, Option, Some, None, option_map, refl, ap, ap₂, subst}
use Rattle.std.specs.List.{list_all}
use Rattle.std.proofs.lemmas.Bool.{and_parts, or_cases}
use Rattle.slang_values.specs.Value.{ValueType, truth_type}
use Rattle.leg_rules.specs.Typed.{no_labels}
use Rattle.program_trees.specs.Programs.{CodeTree, set, give, assert, deduce, branch, loop, call, CodeTrees, no_code, code_then, renamed_code, renamed_codes}
use Rattle.program_trees.specs.Variables.{Variable, same_variable, variable_types}
use Rattle.run_rules.specs.Runs.{method_at}
use Rattle.typed_programs.specs.Scopes.{is_var}
use Rattle.typed_programs.specs.WellTyped.{Around, within, target_type, IsOptionalTarget, behind, End, goes_on, returns, ended, end_behind, IsTypedCode, AreTypedCodes}
use Rattle.statement_typing.proofs.Names.{same_variable-true}
use Rattle.program_numbers.proofs.Names.{value_back, values_back, noted_back, all_noted_back, steps_back}

module _ (f : Variable → ℕ) (g : ℕ → Variable) where
  -- each variable comes back that has a type, or that may be named
  pub record AllBack (around : Around) : Type 0 where
    pub types : (x : Variable) (t : ValueType) → variable_types around.scope.program around.scope.method x ≡ Some t → g (f x) ≡ x
    pub named : (x : Variable) → around.scope.named x ≡ true → g (f x) ≡ x

  target_back : (around : Around) → AllBack around → (x : Variable) → g (f x) ≡ x → (y : Variable) → (same_variable x y || around.scope.named y) ≡ true → g (f y) ≡ y
  target_back around all x back y h = ⊎_elim
      (λ e. subst (λ z. g (f z) ≡ z) (same_variable-true x y e) back)
      (λ k. all.named y k)
      (or_cases (same_variable x y) (around.scope.named y) h)

  behind_back : (end : End) (around : Around) → AllBack around → (code : CodeTree Variable) → IsTypedCode end around code → AllBack (behind around code)
  behind_back end around all (set node x value) h = record {
    types = all.types;
    named = target_back around all x (all.types x (target_type around x) h.1.1);
  }
  behind_back end around all (give node value) h = all
  behind_back end around all (assert noted) h = all
  behind_back end around all (deduce node steps) h = all
  behind_back end around all (branch node test on_true on_false) h = all
  behind_back end around all (loop node test modifies invariants body) h = all
  behind_back end around all (call node None name_node number arguments) h = all
  behind_back end around all (call node (Some x) name_node number arguments) h = record {
    types = all.types;
    named = target_back around all x (all.types x _ h.2.target_typed.1);
  }

  optional_back : (around : Around) → AllBack around → (target : Option Variable) (t : ValueType) → IsOptionalTarget around target t →
      option_map g (option_map f target) ≡ target
  optional_back around all None t h = refl
  optional_back around all (Some x) t h = ap Some (all.types x t h.1)

  all_named : (around : Around) → AllBack around → (xs : List Variable) → list_all (λ x. around.scope.named x && is_var around.scope x) xs ≡ true →
      map g (map f xs) ≡ xs
  all_named around all [] h = refl
  all_named around all (x ∷ xs) h =
      let p = and_parts (around.scope.named x && is_var around.scope x) (list_all (λ y. around.scope.named y && is_var around.scope y) xs) h in
      ap₂ (λ y ys. y ∷ ys) (all.named x (and_parts (around.scope.named x) (is_var around.scope x) p.0).0) (all_named around all xs p.1)

  mutual
    code_back : (end : End) (around : Around) → AllBack around → (code : CodeTree Variable) → IsTypedCode end around code →
        renamed_code g (renamed_code f code) ≡ code
    code_back end around all (set node x value) h =
        ap₂ (set node) (all.types x (target_type around x) h.1.1) (value_back f g around.scope all.types (target_type around x) value h.2)
    code_back (returns t) around all (give node value) h = ap (give node) (value_back f g around.scope all.types t value h.1)
    code_back goes_on around all (give node value) h = absurd h
    code_back ended around all (give node value) h = absurd h
    code_back end around all (assert noted) h = ap assert (noted_back f g around.scope all.types noted h)
    code_back end around all (deduce node steps) h = ap (deduce node) (steps_back f g around.scope all.types 200 no_labels steps h.1)
    code_back end around all (branch node test on_true on_false) h =
        let v = value_back f g around.scope all.types truth_type test h.1 in
        let a = codes_back goes_on around all on_true h.2 in
        let b = codes_back goes_on around all on_false h.3 in
        λ i. branch node (v i) (a i) (b i)
    code_back end around all (loop node test modifies invariants body) h =
        let v = value_back f g around.scope all.types truth_type test h.1 in
        let m = all_named around all modifies h.2.vars in
        let n = all_noted_back f g around.scope all.types invariants h.3 in
        let b = codes_back goes_on (within around modifies) (record { types = all.types; named = all.named }) body h.4 in
        λ i. loop node (v i) (m i) (n i) (b i)
    code_back end around all (call node target name_node number arguments) h =
        let t = optional_back around all target (method_at around.scope.program number).result h.2.target_typed in
        let a = values_back f g around.scope all.types (method_at around.scope.program number).params arguments h.2.arguments_typed in
        λ i. call node (t i) name_node number (a i)

    pub codes_back : (end : End) (around : Around) → AllBack around → (codes : CodeTrees Variable) → AreTypedCodes end around codes →
        renamed_codes g (renamed_codes f codes) ≡ codes
    codes_back end around all no_code h = refl
    codes_back goes_on around all (code_then code codes) h =
        ap₂ code_then (code_back goes_on around all code h.0)
        (codes_back (end_behind goes_on code) (behind around code) (behind_back goes_on around all code h.0) codes h.1)
    codes_back (returns t) around all (code_then code codes) h =
        ap₂ code_then (code_back (returns t) around all code h.0)
        (codes_back (end_behind (returns t) code) (behind around code) (behind_back (returns t) around all code h.0) codes h.1)
    codes_back ended around all (code_then code codes) h = absurd h
