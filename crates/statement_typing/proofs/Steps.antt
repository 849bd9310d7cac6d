-- The steps of a proof without faults are steps of the program.
use Rattle.std.proofs.Common.{◌≡◌, ◌⊎◌, ⊎_elim, ℕ, zero, suc, ◌==◌, Bool, true, false, cond, nat_eq, not, ◌||◌, bytes_eq, List, [], ◌∷◌, ◌++◌, map, length, Option, Some, None, is_some, unwrap_or, refl, sym, ap, ap₂, ◌∙◌, subst}
use Rattle.std.specs.List.{IsDistinct}
use Rattle.std.specs.Option.{option_map_or}
use Rattle.std.specs.Set.{is_member}
use Rattle.std.proofs.lemmas.Bool.{or_right, eqb-true, eq-eqb}
use Rattle.slang_values.specs.Value.{number_type, truth_type}
use Rattle.slang_tree.specs.declared.expression.Name.{Name}
use Rattle.slang_tree.specs.declared.statement.Label.{Label}
use Rattle.slang_tree.specs.declared.place.Place.{Place}
use Rattle.slang_tree.specs.declared.rules.Rule.{Rule}
use Rattle.slang_tree.specs.Rules.{NamedRule, rules, named_in, numbered_in, rule_named}
use Rattle.slang_tree.specs.ExprTree.{ExprTree}
use Rattle.slang_tree.specs.StmtTree.{StepTree, line, block, let_block, StepTrees, no_steps, step_then}
use Rattle.leg_rules.specs.Typed.{with_label, no_labels}
use Rattle.program_trees.specs.Claims.{let_symbol, step_labels, labels, is_rule, is_empty}
use Rattle.typed_programs.specs.Scopes.{proof_names, IsClaimOver, IsStepIn, AreStepsIn}
use Rattle.typed_programs.specs.Scopes as programs
use Rattle.type_rules.specs.Faults.{unless, duplicate_name}
use Rattle.type_rules.specs.Meanings.{Meaning, variable, bound_variable, block_variable, record_class, method, declared, Scope, meaning_of, is_well_declared, with_name}
use Rattle.type_rules.specs.Expressions.{in_proof}
use Rattle.type_rules.specs.Steps.{cited_faults, rule_faults, claim_faults, new_name_faults, step_faults, steps_faults, labels_of_step, labels_of, repeated_labels}
use Rattle.typed_texts.specs.Claims.{claim_of_tree, rule_number, step_of_tree, steps_of_trees}
use Rattle.claim_typing.specs.Fits.{FitsScope}
use Rattle.claim_typing.proofs.Parts.{none_is_some, one_is_none, both_nil}
use Rattle.claim_typing.proofs.ClaimTypes.{meant-behind}
use Rattle.value_typing.specs.Faultless.{IsWellDeclared}
use Rattle.value_typing.specs.Kept.{IsInside}
use Rattle.value_typing.proofs.WellTyped.{claims_well_typed}
use Rattle.text_heights.specs.Low.{IsLow, HasNoSteps, IsLowStep, AreLowSteps}
use Rattle.statement_typing.specs.Around.{place_at}
use Rattle.statement_typing.specs.Laws.{ProofsAreTyped}
use Rattle.statement_typing.proofs.Lists.{AreNew, new_distinct, unless_not, flips}
use Rattle.statement_typing.proofs.Typed.{judged_against, claim_is_low}
use Rattle.statement_typing.proofs.Fits.{fits_proof, declared_in_proof, none_loose}

-- ---- rules

rule_kept : (rows : List NamedRule) (text : List ℕ) (r : Rule) → named_in rows text ≡ Some r → is_some (numbered_in rows r.number) ≡ true
rule_kept [] text r h = none_is_some h
rule_kept (first ∷ rows) text r h = at (bytes_eq first.name text) h (rule_kept rows text r)
  where
    either : (b : Bool) → is_some (numbered_in rows r.number) ≡ true → is_some (cond b (Some first.rule) (numbered_in rows r.number)) ≡ true
    either true k = refl
    either false k = k

    at : (here : Bool) → cond here (Some first.rule) (named_in rows text) ≡ Some r →
        (named_in rows text ≡ Some r → is_some (numbered_in rows r.number) ≡ true) →
        is_some (cond (first.rule.number == r.number) (Some first.rule) (numbered_in rows r.number)) ≡ true
    at true k next =
        subst (λ (q : Rule). is_some (cond (first.rule.number == q.number) (Some first.rule) (numbered_in rows q.number)) ≡ true)
        (ap (λ o. unwrap_or o first.rule) k)
        (ap (λ b. is_some (cond b (Some first.rule) (numbered_in rows first.rule.number))) (eq-eqb first.rule.number first.rule.number refl))
    at false k next = either (first.rule.number == r.number) (next k)

some_rule : (o : Option Rule) → is_some o ≡ true → option_map_or (λ r. true) o false ≡ true
some_rule None h = h
some_rule (Some r) h = refl

cited_rule : (place : Place) (count : ℕ) (text : List ℕ) (o : Option Rule) → rule_named text ≡ o → cited_faults place count o ≡ [] →
    is_rule (option_map_or (λ r. r.number) o 0) ≡ true
cited_rule place count text None e h = one_is_none h
cited_rule place count text (Some r) e h = some_rule (numbered_in rules r.number) (rule_kept rules text r e)

rule_there : (rule : Name) (cites : List Label) → rule_faults rule cites ≡ [] → is_rule (rule_number rule) ≡ true
rule_there rule cites h = cited_rule rule.place (length cites) rule.text (rule_named rule.text) refl h

-- ---- scopes of steps

label_kept : (has_symbol : Bool) (label : ℕ) (lets : ℕ → Bool) (other : ℕ) → lets other ≡ true → with_label has_symbol label lets other ≡ true
label_kept has_symbol label lets other h = at (nat_eq other label)
  where
    at : (here : Bool) → cond here (has_symbol || lets other) (lets other) ≡ true
    at true = or_right has_symbol (lets other) h
    at false = h

label_new : (label : ℕ) (lets : ℕ → Bool) → with_label true label lets label ≡ true
label_new label lets = ap (λ b. cond b true (lets label)) (eq-eqb label label refl)

same_declared : (scope : Scope) (text : List ℕ) (m n : Meaning) → is_well_declared scope n ≡ true → is_well_declared (with_name scope text m) n ≡ true
same_declared scope text m (variable x changes type) h = h
same_declared scope text m (bound_variable depth) h = h
same_declared scope text m (block_variable label) h = h
same_declared scope text m (record_class n) h = h
same_declared scope text m (method n signature modifies) h = h

module _ (place : programs.Scope) where
  symbol_known : (lets : ℕ → Bool) (label : ℕ) → proof_names place lets (let_symbol label) ≡ Some number_type → lets label ≡ true
  symbol_known lets label h = at (lets label) h
    where
      at : (b : Bool) → cond b (Some number_type) None ≡ Some number_type → b ≡ true
      at true k = refl
      at false k = none_is_some k

  symbol_type : (lets : ℕ → Bool) (label : ℕ) → lets label ≡ true → proof_names place lets (let_symbol label) ≡ Some number_type
  symbol_type lets label h = ap (λ b. cond b (Some number_type) None) h

  -- claims of steps may stand there
  record Ready (lets : ℕ → Bool) (scope : Scope) : Type 0 where
    fits : FitsScope place.program.records (proof_names place lets) in_proof scope
    declared : IsWellDeclared in_proof scope
    none_loose : (text : List ℕ) → IsInside 0 (meaning_of scope text)
    outside : scope.depth ≡ 0

  ready_block : (lets : ℕ → Bool) (label : ℕ) (scope : Scope) → Ready lets scope → Ready (with_label false label lets) scope
  ready_block lets label scope ready = record {
    fits = record {
      variables = ready.fits.variables;
      entries = λ text n t h. tt;
      olds = ready.fits.olds;
      blocks = λ text other h. symbol_type (with_label false label lets) other
          (label_kept false label lets other (symbol_known lets other (ready.fits.blocks text other h)));
      classes = ready.fits.classes;
      result = tt;
      same_fields = ready.fits.same_fields;
      known_fields = ready.fits.known_fields;
    };
    declared = ready.declared;
    none_loose = ready.none_loose;
    outside = ready.outside;
  }

  ready_let : (lets : ℕ → Bool) (label : ℕ) (text : List ℕ) (scope : Scope) → Ready lets scope →
      Ready (with_label true label lets) (with_name scope text (block_variable label))
  ready_let lets label text scope ready = record {
    fits = record {
      variables = λ other x changes t h. ⊎_elim (ready.fits.variables other x changes t)
          (λ k. absurd (let d : block_variable label ≡ variable x changes (Some t) = k in cc)) (behind other (variable x changes (Some t)) h);
      entries = λ other n t h. tt;
      olds = λ other x t h. ⊎_elim (ready.fits.olds other x t)
          (λ k. absurd (let d : block_variable label ≡ variable x true (Some t) = k in cc)) (behind other (variable x true (Some t)) h);
      blocks = λ other l h. symbol_type (with_label true label lets) l (⊎_elim
          (λ k. label_kept true label lets l (symbol_known lets l (ready.fits.blocks other l k)))
          (λ k. subst (λ n. with_label true label lets n ≡ true) (ap label_in k) (label_new label lets))
          (behind other (block_variable l) h));
      classes = λ other n h. ⊎_elim (ready.fits.classes other n)
          (λ k. absurd (let d : block_variable label ≡ record_class n = k in cc)) (behind other (record_class n) h);
      result = tt;
      same_fields = ready.fits.same_fields;
      known_fields = ready.fits.known_fields;
    };
    declared = record {
      names = λ other m h. ⊎_elim (λ k. same_declared scope text (block_variable label) m (ready.declared.names other m k))
          (λ k. subst (λ n. is_well_declared (with_name scope text (block_variable label)) n ≡ true) k refl) (behind other m h);
      fields = ready.declared.fields;
      result = tt;
    };
    none_loose = λ other. at other (meaning_of (with_name scope text (block_variable label)) other) refl;
    outside = ready.outside;
  }
    where
      label_in : Meaning → ℕ
      label_in (block_variable l) = l
      label_in other = 0

      behind : (other : List ℕ) (m : Meaning) → meaning_of (with_name scope text (block_variable label)) other ≡ Some m →
          (meaning_of scope other ≡ Some m) ⊎ (block_variable label ≡ m)
      behind other m h = meant-behind scope.names (declared text (block_variable label)) other m h

      at : (other : List ℕ) (meaning : Option Meaning) → meaning_of (with_name scope text (block_variable label)) other ≡ meaning → IsInside 0 meaning
      at other None h = tt
      at other (Some m) h = ⊎_elim
          (λ k. subst (IsInside 0) k (ready.none_loose other))
          (λ k. subst (λ n. IsInside 0 (Some n)) k tt)
          (behind other m h)

  -- ---- steps

  claim_in : (lets : ℕ → Bool) (scope : Scope) → Ready lets scope → (claim : ExprTree) → claim_faults scope claim ≡ [] → IsLow claim →
      IsClaimOver place (proof_names place lets) (claim_of_tree scope in_proof claim)
  claim_in lets scope ready claim h low =
      claims_well_typed place (proof_names place lets) in_proof scope ready.fits ready.none_loose ready.outside claim
      (judged_against in_proof scope ready.declared truth_type claim h) (claim_is_low scope in_proof claim low)

  no_steps_inside : (scope : Scope) (steps : StepTrees) → HasNoSteps steps → is_empty (steps_of_trees scope steps) ≡ true
  no_steps_inside scope no_steps h = refl
  no_steps_inside scope (step_then step steps) h = absurd h

  mutual
    step_typed : (depth : ℕ) (lets : ℕ → Bool) (scope : Scope) → Ready lets scope → (step : StepTree) → step_faults scope step ≡ [] →
        IsLowStep depth step → IsStepIn place depth lets (step_of_tree scope step)
    step_typed zero lets scope ready (line label claim rule cites) h low =
        let p = both_nil (claim_faults scope claim) (rule_faults rule cites) h in
        (claim_in lets scope ready claim p.0 low, rule_there rule cites p.1)
    step_typed (suc depth) lets scope ready (line label claim rule cites) h low =
        let p = both_nil (claim_faults scope claim) (rule_faults rule cites) h in
        (claim_in lets scope ready claim p.0 low, rule_there rule cites p.1)
    step_typed zero lets scope ready (block label assumed given steps) h low =
        let p = both_nil (claim_faults scope given) (steps_faults scope steps) h in
        (claim_in (with_label false label.number lets) scope (ready_block lets label.number scope ready) given p.0 low.0, no_steps_inside scope steps low.1)
    step_typed (suc depth) lets scope ready (block label assumed given steps) h low =
        let p = both_nil (claim_faults scope given) (steps_faults scope steps) h in
        let next = ready_block lets label.number scope ready in
        (claim_in (with_label false label.number lets) scope next given p.0 low.0, steps_typed depth (with_label false label.number lets) scope next steps p.1 low.1)
    step_typed zero lets scope ready (let_block label named assumed given steps) h low =
        let inner = with_name scope named.text (block_variable label.number) in
        let q = both_nil (new_name_faults scope named ++ claim_faults inner given) (steps_faults inner steps) h in
        let p = both_nil (new_name_faults scope named) (claim_faults inner given) q.0 in
        (claim_in (with_label true label.number lets) inner (ready_let lets label.number named.text scope ready) given p.1 low.0, no_steps_inside inner steps low.1)
    step_typed (suc depth) lets scope ready (let_block label named assumed given steps) h low =
        let inner = with_name scope named.text (block_variable label.number) in
        let q = both_nil (new_name_faults scope named ++ claim_faults inner given) (steps_faults inner steps) h in
        let p = both_nil (new_name_faults scope named) (claim_faults inner given) q.0 in
        let next = ready_let lets label.number named.text scope ready in
        (claim_in (with_label true label.number lets) inner next given p.1 low.0, steps_typed depth (with_label true label.number lets) inner next steps q.1 low.1)

    steps_typed : (depth : ℕ) (lets : ℕ → Bool) (scope : Scope) → Ready lets scope → (steps : StepTrees) → steps_faults scope steps ≡ [] →
        AreLowSteps depth steps → AreStepsIn place depth lets (steps_of_trees scope steps)
    steps_typed depth lets scope ready no_steps h low = tt
    steps_typed depth lets scope ready (step_then step steps) h low =
        let p = both_nil (step_faults scope step) (steps_faults scope steps) h in
        (step_typed depth lets scope ready step p.0 low.0, steps_typed depth lets scope ready steps p.1 low.1)

-- ---- labels

numbers_both : (front back : List Label) → map (λ (label : Label). label.number) (front ++ back) ≡ map (λ label. label.number) front ++ map (λ label. label.number) back
numbers_both [] back = refl
numbers_both (label ∷ front) back = ap (λ ns. label.number ∷ ns) (numbers_both front back)

mutual
  step_labels_kept : (scope : Scope) (step : StepTree) → step_labels (step_of_tree scope step) ≡ map (λ label. label.number) (labels_of_step step)
  step_labels_kept scope (line label claim rule cites) = refl
  step_labels_kept scope (block label assumed given steps) = ap (λ ns. label.number ∷ assumed.number ∷ ns) (labels_kept scope steps)
  step_labels_kept scope (let_block label named assumed given steps) =
      ap (λ ns. label.number ∷ assumed.number ∷ ns) (labels_kept (with_name scope named.text (block_variable label.number)) steps)

  labels_kept : (scope : Scope) (steps : StepTrees) → labels (steps_of_trees scope steps) ≡ map (λ label. label.number) (labels_of steps)
  labels_kept scope no_steps = refl
  labels_kept scope (step_then step steps) =
      ap₂ (λ front back. front ++ back) (step_labels_kept scope step) (labels_kept scope steps)
      ∙ sym (numbers_both (labels_of_step step) (labels_of steps))

new_labels : (before : List ℕ) (labels : List Label) → repeated_labels before labels ≡ [] → AreNew nat_eq before (map (λ label. label.number) labels)
new_labels before [] h = tt
new_labels before (label ∷ labels) h =
    let p = both_nil (unless (not (is_member nat_eq before label.number)) (duplicate_name label.place))
    (repeated_labels (label.number ∷ before) labels) h in
    (unless_not (is_member nat_eq before label.number) (duplicate_name label.place) p.0, new_labels (label.number ∷ before) labels p.1)

pub proofs_typed : ProofsAreTyped
proofs_typed program own nodes named assigned scope fits steps h low =
    let p = both_nil (repeated_labels [] (labels_of steps)) (steps_faults scope steps) h in (
      steps_typed (place_at program own nodes named) 200 no_labels scope (record {
        fits = fits_proof program own nodes named assigned scope fits;
        declared = declared_in_proof program own nodes named assigned scope fits;
        none_loose = none_loose program own nodes named assigned scope fits;
        outside = fits.outside;
      }) steps p.1 low,
      subst (IsDistinct nat_eq) (sym (labels_kept scope steps))
          (new_distinct nat_eq (flips nat_eq (λ a b. eqb-true a b) (λ a. eq-eqb a a refl)) [] (map (λ label. label.number) (labels_of steps))
          (new_labels [] (labels_of steps) p.0)),
    )
