-- The names of a Modifies without faults.
use Rattle.std.proofs.Common.{◌≡◌, ℕ, Bool, true, false, cond, not, ◌&&◌, bytes_eq, List, [], ◌∷◌, ◌++◌, Option, Some, None, refl, sym, ◌∙◌, subst}
use Rattle.std.specs.List.{AllByRecursion, IsDistinct, list_all}
use Rattle.std.specs.Set.{is_member}
use Rattle.std.proofs.lemmas.Bool.{true≢false, false≢true, and_from, false_from_ne_true}
use Rattle.slang_values.specs.Value.{ValueType}
use Rattle.slang_tree.specs.declared.expression.Name.{Name}
use Rattle.program_trees.specs.Programs.{MethodTree, ProgramTree}
use Rattle.program_trees.specs.Variables.{Variable, same_variable}
use Rattle.typed_programs.specs.Scopes as programs
use Rattle.typed_programs.specs.WellTyped.{IsModified}
use Rattle.type_rules.specs.Faults.{unless, duplicate_name, constant_assigned}
use Rattle.type_rules.specs.Meanings.{Meaning, variable, bound_variable, block_variable, record_class, method, Scope, meaning_of, is_well_declared, is_var}
use Rattle.type_rules.specs.Statements.{modified_faults, modifies_faults, texts}
use Rattle.typed_texts.specs.Code.{variable_meant, variables_meant}
use Rattle.claim_typing.proofs.Parts.{both_nil, one_is_none, unless-nil}
use Rattle.statement_typing.specs.Around.{place_at, around_at, IsVariable, FitsAround}
use Rattle.statement_typing.proofs.Lists.{AreNew, new_distinct, unless_not, bytes_flip, bytes_itself}
use Rattle.statement_typing.proofs.Names.{same_variable-true}
use Rattle.statement_typing.proofs.Fits.{well_declared}

-- the name means something that may be named there
pub record IsNamedThere (may_be_named : Meaning → Bool) (scope : Scope) (written : Name) : Type 0 where
  pub meaning : Meaning
  pub meant : meaning_of scope written.text ≡ Some meaning
  pub may : may_be_named meaning ≡ true

module _ (scope : Scope) (fine : (text : List ℕ) (m : Meaning) → meaning_of scope text ≡ Some m → is_well_declared scope m ≡ true) where
  named_there : (may_be_named : Meaning → Bool) (written : Name) (meaning : Option Meaning) → meaning_of scope written.text ≡ meaning →
      modified_faults may_be_named scope written.place meaning ≡ [] → IsNamedThere may_be_named scope written
  named_there may_be_named written None m h = one_is_none h
  named_there may_be_named written (Some meaning) m h = record {
    meaning = meaning;
    meant = m;
    may = unless-nil (may_be_named meaning) (constant_assigned written.place)
        (subst (λ b. cond b (unless (may_be_named meaning) (constant_assigned written.place)) [] ≡ []) (fine written.text meaning m) h);
  }

  -- what follows for the names
  pub record AreNamed (may_be_named : Meaning → Bool) (before : List (List ℕ)) (modifies : List Name) : Type 0 where
    pub each : AllByRecursion (IsNamedThere may_be_named scope) modifies
    pub new : AreNew bytes_eq before (texts modifies)

  pub are_named : (may_be_named : Meaning → Bool) (before : List (List ℕ)) (modifies : List Name) → modifies_faults may_be_named scope before modifies ≡ [] →
      AreNamed may_be_named before modifies
  are_named may_be_named before [] h = record { each = tt; new = tt }
  are_named may_be_named before (written ∷ modifies) h =
      let twice = unless (not (is_member bytes_eq before written.text)) (duplicate_name written.place) in
      let others = modifies_faults may_be_named scope (written.text ∷ before) modifies in
      let q = both_nil (modified_faults may_be_named scope written.place (meaning_of scope written.text) ++ twice) others h in
      let p = both_nil (modified_faults may_be_named scope written.place (meaning_of scope written.text)) twice q.0 in
      let rest = are_named may_be_named (written.text ∷ before) modifies q.1 in
      record {
        each = (named_there may_be_named written (meaning_of scope written.text) refl p.0, rest.each);
        new = (unless_not (is_member bytes_eq before written.text) (duplicate_name written.place) p.1, rest.new);
      }

module _ (program : ProgramTree Variable) (own : MethodTree Variable) (nodes : ℕ) (named assigned : Variable → Bool) (scope : Scope)
    (fits : FitsAround program own nodes named assigned scope) where
  -- ---- variables

  -- A name that means a `var` has a variable.
  pub record IsVarOf (written : Name) (x : Variable) : Type 0 where
    pub type : ValueType
    pub meant : meaning_of scope written.text ≡ Some (variable x true (Some type))
    pub is : IsVariable program own nodes named assigned (scope.covers written.text) scope.locals x true type

  var_at : (written : Name) (meaning : Meaning) → meaning_of scope written.text ≡ Some meaning → is_var meaning ≡ true →
      IsVarOf written (variable_meant (Some meaning))
  var_at written (variable x true (Some t)) m h = record { type = t; meant = m; is = fits.meanings written.text (variable x true (Some t)) m }
  var_at written (variable x true None) m h = absurd (fits.meanings written.text (variable x true None) m)
  var_at written (variable x false type) m h = absurd (false≢true h)
  var_at written (bound_variable depth) m h = absurd (false≢true h)
  var_at written (block_variable label) m h = absurd (false≢true h)
  var_at written (record_class n) m h = absurd (false≢true h)
  var_at written (method n signature modifies) m h = absurd (false≢true h)

  pub var_of : (written : Name) → IsNamedThere is_var scope written → IsVarOf written (variable_meant (meaning_of scope written.text))
  var_of written h = subst (λ o. IsVarOf written (variable_meant o)) (sym h.meant) (var_at written h.meaning h.meant h.may)

  pub vars_of : (modifies : List Name) → AllByRecursion (IsNamedThere is_var scope) modifies →
      list_all (λ x. named x && programs.is_var (place_at program own nodes named) x) (variables_meant scope modifies) ≡ true
  vars_of [] h = refl
  vars_of (written ∷ modifies) h =
      let x = variable_meant (meaning_of scope written.text) in
      let v = var_of written h.0 in
      and_from (named x && programs.is_var (place_at program own nodes named) x)
      (list_all (λ y. named y && programs.is_var (place_at program own nodes named) y) (variables_meant scope modifies))
      (and_from (named x) (programs.is_var (place_at program own nodes named) x) v.is.is_named (v.is.var refl)) (vars_of modifies h.1)

  other_variable : (first second : Name) → IsNamedThere is_var scope first → IsNamedThere is_var scope second →
      bytes_eq first.text second.text ≡ false →
      same_variable (variable_meant (meaning_of scope first.text)) (variable_meant (meaning_of scope second.text)) ≡ false
  other_variable first second h k differ =
      let x = variable_meant (meaning_of scope first.text) in
      let y = variable_meant (meaning_of scope second.text) in
      let v = var_of first h in
      let w = var_of second k in
      false_from_ne_true (same_variable x y) (λ e.
      let same = fits.apart first.text second.text x true true (Some v.type) (Some w.type) v.meant
      (subst (λ z. meaning_of scope second.text ≡ Some (variable z true (Some w.type))) (sym (same_variable-true x y e)) w.meant) in
      true≢false (sym (subst (λ s. bytes_eq first.text s ≡ true) same (bytes_itself first.text)) ∙ differ))

  others_apart : (first : Name) (modifies : List Name) → IsNamedThere is_var scope first → AllByRecursion (IsNamedThere is_var scope) modifies →
      AllByRecursion (λ s. bytes_eq first.text s ≡ false) (texts modifies) →
      AllByRecursion (λ y. same_variable (variable_meant (meaning_of scope first.text)) y ≡ false) (variables_meant scope modifies)
  others_apart first [] h all differ = tt
  others_apart first (second ∷ modifies) h all differ =
      (other_variable first second h all.0 differ.0, others_apart first modifies h all.1 differ.1)

  pub vars_distinct : (modifies : List Name) → AllByRecursion (IsNamedThere is_var scope) modifies → IsDistinct bytes_eq (texts modifies) →
      IsDistinct same_variable (variables_meant scope modifies)
  unfolding IsDistinct
  vars_distinct [] all differ = tt
  vars_distinct (written ∷ modifies) all differ = (others_apart written modifies all.0 all.1 differ.0, vars_distinct modifies all.1 differ.1)

  pub modified_in : (modifies : List Name) → modifies_faults is_var scope [] modifies ≡ [] →
      IsModified (around_at program own nodes named assigned) (variables_meant scope modifies)
  modified_in modifies h =
      let names = are_named scope (well_declared program own nodes named assigned scope fits) is_var [] modifies h in
      record {
        vars = vars_of modifies names.each;
        once = vars_distinct modifies names.each (new_distinct bytes_eq bytes_flip [] (texts modifies) names.new);
      }
