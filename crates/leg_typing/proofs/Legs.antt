-- A well-typed leg is well typed over numbers.
use Rattle.std.proofs.Common.{◌≡◌, ℕ, zero, suc, ◌<◌, Bool, true, false, cond, List, [], ◌∷◌, map, length, Some, None, refl, sym, ap, ◌∙◌, subst}
use Rattle.std.specs.Prelude.{nat_eq, slice_get}
use Rattle.std.specs.List.{AllByRecursion, flat_map}
use Rattle.std.proofs.lemmas.List.{length-map}
use Rattle.slang_values.specs.Value.{ValueType, number_type, truth_type, Records, is_known, AreWellFormed}
use Rattle.slang_values.specs.Typing.{NameTypes}
use Rattle.program_trees.specs.Claims.{ClaimName, variable, old_variable, let_symbol, ClaimTree, ProofStepTree, line, block, ProofStepTrees, no_steps, step_then, renamed_name, renamed_step, renamed_steps}
use Rattle.program_trees.specs.Programs.{MethodTree, ProgramTree}
use Rattle.program_trees.specs.Variables.{Variable}
use Rattle.program_trees.specs.Legs.{ItemTree, assume, check, set, fresh, proof, renamed_item}
use Rattle.leg_rules.specs.LegNames.{LegName, same_name}
use Rattle.leg_rules.specs.Legs.{Items}
use Rattle.leg_rules.specs.Numbering.{Appearance, of_variable, name_appears, claim_appears, step_appears, steps_appear, item_appears, leg_appears, leg_name_type, appearing_variables, variable_order, record_order, number_in, renumbered_type, renumbered_step, renumbered_steps, renumbered_item}
use Rattle.leg_rules.specs.Typed.{item_names, step_names, IsLegClaim, with_label, IsTypedStep, AreTypedSteps, no_labels, IsTypedItem}
use Rattle.leg_soundness.specs.Passing.{leg_types}
use Rattle.numbering_laws.proofs.Places.{none≢some, In, got_below, all_left, all_right, all_mapped, number_at, all_in_firsts, some_inj}
use Rattle.numbering_laws.proofs.SameNames.{same_name-true, same_name-self}
use Rattle.numbering_laws.proofs.Values.{TypeIn, AreRenumbered}
use Rattle.numbering_laws.proofs.RecordOrder.{is_record_order}
use Rattle.numbering_laws.proofs.RecordNumbers.{got_map, are_renumbered, new_known, new_well_formed}
use Rattle.numbering_laws.proofs.Claims.{AppearsIn}
use Rattle.numbering_laws.proofs.Passing.{known_type, IsTypedVariable, typed_variables, all_numbered}
use Rattle.answer_laws.specs.Laws.{IsTypedLegOf}
use Rattle.leg_typing.specs.OverNames.{variable_names, proof_names, IsTypedClaim, IsStepOver, AreStepsOver, IsItemOver}
use Rattle.leg_typing.specs.Laws.{HasKnownTypes}
use Rattle.leg_typing.proofs.Appearances.{leg_known}
use Rattle.leg_typing.proofs.Claims.{number_claim, closed_new, typed_new}

-- what holds of what stands in a list holds of all
all_from_at : {A B : Type 0} (Q : B → Type 0) (h : A → B) (xs : List A) → ((i : ℕ) (x : A) → slice_get xs i ≡ Some x → Q (h x)) → AllByRecursion Q (map h xs)
all_from_at Q h [] at = tt
all_from_at Q h (x ∷ xs) at = (at zero x refl, all_from_at Q h xs (λ i y e. at (suc i) y e))

module _ (records new_records : Records) (S : ℕ → Type 0) (f back : ℕ → ℕ) (are : AreRenumbered records new_records S f back) (variables : List LegName) (known : (t : ValueType) → TypeIn S t → is_known new_records (renumbered_type f t) ≡ true) where
  abbrev Appears : Appearance → Type 0
  Appears = AppearsIn records new_records S f back are variables

  abbrev number : LegName → ℕ
  number x = number_in same_name variables x

  module _ (types : NameTypes LegName) (type_of_name : LegName → ValueType) (typed : (i : ℕ) (x : LegName) → slice_get variables i ≡ Some x → (types x ≡ Some (type_of_name x)) × TypeIn S (type_of_name x)) where
    abbrev variable_types : List ValueType
    variable_types = map (λ x. renumbered_type f (type_of_name x)) variables

    -- a variable of the leg by its number
    variable_stands : (x : LegName) (t : ValueType) → types x ≡ Some t → In variables x
        → TypeIn S t × (slice_get variable_types (number x) ≡ Some (renumbered_type f t))
    variable_stands x t h at =
        let has = typed at.0 x at.1 in
        let is = some_inj (sym has.0 ∙ h) in (
          subst (TypeIn S) is has.1,
          got_map (λ y. renumbered_type f (type_of_name y)) variables (number x) x
              (number_at same_name same_name-true same_name-self variables at.0 x at.1).1
              ∙ ap (λ s. Some (renumbered_type f s)) is,
        )

    outside : (a : ClaimName LegName) (t : ValueType) → variable_names types a ≡ Some t → AllByRecursion Appears (name_appears a)
        → TypeIn S t × (item_names variable_types (renamed_name number a) ≡ Some (renumbered_type f t))
    outside (variable x) t h p = variable_stands x t h p.0
    outside (old_variable x) t h p = absurd (none≢some h)
    outside (let_symbol label) t h p = absurd (none≢some h)

    let_stands : (b : Bool) (t : ValueType) → cond b (Some number_type) None ≡ Some t
        → TypeIn S t × (cond b (Some number_type) None ≡ Some (renumbered_type f t))
    let_stands true t h = let is = some_inj h in (subst (TypeIn S) is tt, ap (λ s. Some (renumbered_type f s)) is)
    let_stands false t h = absurd (none≢some h)

    in_proofs : (lets : ℕ → Bool) (a : ClaimName LegName) (t : ValueType) → proof_names types lets a ≡ Some t → AllByRecursion Appears (name_appears a)
        → TypeIn S t × (step_names variable_types lets (renamed_name number a) ≡ Some (renumbered_type f t))
    in_proofs lets (variable x) t h p = variable_stands x t h p.0
    in_proofs lets (old_variable x) t h p = variable_stands x t h p.0
    in_proofs lets (let_symbol label) t h p = let_stands (lets label) t h

    item_claim : (c : ClaimTree LegName) (t : ValueType) → IsTypedClaim records (variable_names types) t c → AllByRecursion Appears (claim_appears c)
        → IsLegClaim new_records (item_names variable_types) (renumbered_type f t) (number_claim f number c)
    item_claim c t h p = record {
      typed = (typed_new records new_records S f back are variables known (variable_names types) (item_names variable_types) outside c t h.typed p).1;
      closed = closed_new f number c 0 h.closed;
    }

    step_claim : (lets : ℕ → Bool) (c : ClaimTree LegName) → IsTypedClaim records (proof_names types lets) truth_type c
        → AllByRecursion Appears (claim_appears c) → IsLegClaim new_records (step_names variable_types lets) truth_type (number_claim f number c)
    step_claim lets c h p = record {
      typed = (typed_new records new_records S f back are variables known (proof_names types lets) (step_names variable_types lets) (in_proofs lets) c
          truth_type h.typed p).1;
      closed = closed_new f number c 0 h.closed;
    }

    mutual
      step_new : (step : ProofStepTree LegName) (lets : ℕ → Bool) → IsStepOver records types lets step → AllByRecursion Appears (step_appears step)
          → IsTypedStep new_records variable_types lets (renumbered_step f (renamed_step number step))
      step_new (line label claim rule cites) lets h p = step_claim lets claim h p
      step_new (block label has_symbol assumed given steps) lets h p =
          let inner = with_label has_symbol label lets in (
            step_claim inner given h.0 (all_left Appears (claim_appears given) (steps_appear steps) p),
            steps_new steps inner h.1 (all_right Appears (claim_appears given) (steps_appear steps) p),
          )

      steps_new : (steps : ProofStepTrees LegName) (lets : ℕ → Bool) → AreStepsOver records types lets steps → AllByRecursion Appears (steps_appear steps)
          → AreTypedSteps new_records variable_types lets (renumbered_steps f (renamed_steps number steps))
      steps_new no_steps lets h p = tt
      steps_new (step_then step steps) lets h p = (
        step_new step lets h.0 (all_left Appears (step_appears step) (steps_appear steps) p),
        steps_new steps lets h.1 (all_right Appears (step_appears step) (steps_appear steps) p),
      )

    fresh_new : (xs : List LegName) → AllByRecursion Appears (map of_variable xs) → AllByRecursion (λ x. x < length variable_types) (map number xs)
    fresh_new [] p = tt
    fresh_new (x ∷ xs) p = (
      subst (λ l. number x < l) (sym (length-map variables (λ y. renumbered_type f (type_of_name y))))
          (got_below variables (number x) x (number_at same_name same_name-true same_name-self variables p.0.0 x p.0.1).1),
      fresh_new xs p.1,
    )

    item_new : (item : ItemTree LegName) → IsItemOver records types item → AllByRecursion Appears (item_appears item)
        → IsTypedItem new_records variable_types (renumbered_item f (renamed_item number item))
    item_new (assume claim) h p = item_claim claim truth_type h p
    item_new (check kind claim) h p = item_claim claim truth_type h p
    item_new (set x claim) h p = (renumbered_type f h.0, (variable_stands x h.0 h.1 p.0).1, item_claim claim h.0 h.2 p.1)
    item_new (fresh xs) h p = fresh_new xs p
    item_new (proof steps) h p = steps_new steps no_labels h p

    pub items_new : (items : Items) → AllByRecursion (λ noted. IsItemOver records types noted.item) items → AllByRecursion Appears (leg_appears items)
        → AllByRecursion (IsTypedItem new_records variable_types) (map (λ noted. renumbered_item f (renamed_item number noted.item)) items)
    items_new [] h p = tt
    items_new (noted ∷ items) h p = (
      item_new noted.item h.0 (all_left Appears (item_appears noted.item) (leg_appears items) p),
      items_new items h.1 (all_right Appears (item_appears noted.item) (leg_appears items) p),
    )

module _ (program : ProgramTree Variable) (method : MethodTree Variable) where
  pub typed_leg : (items : Items) → AreWellFormed program.records → HasKnownTypes program method
      → AllByRecursion (λ noted. IsItemOver program.records (leg_types program method) noted.item) items → IsTypedLegOf program method items
  typed_leg items fine known typed =
      let as' = leg_appears items in
      let order = record_order program method items in
      let variables = variable_order program method items in
      let appear = leg_known program method known items typed in
      let facts = is_record_order program method fine as' (all_mapped _ _ (known_type program method) as' appear) in
      let are = are_renumbered program.records order facts.behind facts.there fine in
      let known_new = new_known program.records order facts.behind facts.there fine in
      let firsts_of = all_in_firsts same_name same_name-true same_name-self (IsTypedVariable program method order variables) []
      (flat_map (appearing_variables program method) as') (λ i y h. absurd (none≢some h))
      (typed_variables program method order variables as' appear facts.types) in
      record {
        known = appear;
        typed = record {
          records = new_well_formed program.records order facts.behind facts.there fine;
          variables = all_from_at _ (λ x. renumbered_type (number_in nat_eq order) (leg_name_type program method x)) variables
              (λ i x e. known_new (leg_name_type program method x) (firsts_of.2 i x e).1);
          items = items_new program.records _ (In order) _ _ are variables known_new (leg_types program method) (leg_name_type program method) firsts_of.2
              items typed (all_numbered program method order variables as' firsts_of.1 facts.types);
        };
      }
