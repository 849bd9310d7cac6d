-- What appears on a leg over numbers is what appears on the leg, by its number.
use Rattle.std.proofs.Common.{◌≡◌, ℕ, List, [], ◌∷◌, ◌++◌, map, refl, sym, ap, ap₂, ◌∙◌}
use Rattle.std.specs.List.{flat_map}
use Rattle.std.proofs.lemmas.List.{map-append}
use Rattle.slang_values.specs.Value.{record_type}
use Rattle.slang_values.specs.Tree.{literal, truth_literal, name, bound, unary, binary, update, quantified, listed, Trees, no_trees, tree_then, sequence_of, record_of}
use Rattle.validity.specs.Bind.{bind_all}
use Rattle.program_trees.specs.Claims.{ClaimName, variable, old_variable, let_symbol, ClaimTree, ProofStepTree, line, block, ProofStepTrees, no_steps, step_then, renamed_name, renamed_claim, renamed_step, renamed_steps}
use Rattle.program_trees.specs.Legs.{ItemTree, assume, check, set, fresh, proof, renamed_item}
use Rattle.leg_rules.specs.LegNames.{LegName}
use Rattle.leg_rules.specs.Legs.{Items}
use Rattle.leg_rules.specs.Numbering.{Appearance, of_variable, of_type, claim_appears, parts_appear, step_appears, steps_appear, item_appears, leg_appears, renumbered_type, renumbered, all_renumbered, renumbered_step, renumbered_steps, renumbered_item}
use Rattle.leg_forms.specs.WellFormed.{leg_name}

module _ (number : LegName → ℕ) (f : ℕ → ℕ) where
  abbrev pub new_appearance : Appearance → Appearance
  new_appearance (of_variable x) = of_variable (leg_name (number x))
  new_appearance (of_type t) = of_type (renumbered_type f t)

  abbrev New : List Appearance → List Appearance
  New as' = map new_appearance as'

  both : (a b c d : List Appearance) → a ≡ New b → c ≡ New d → a ++ c ≡ New (b ++ d)
  both a b c d e h = ap₂ (λ x y. x ++ y) e h ∙ sym (map-append new_appearance b d)

  abbrev new_claim : ClaimTree LegName → ClaimTree LegName
  new_claim claim = renamed_claim leg_name (renumbered f (renamed_claim number claim))

  abbrev new_claims : Trees (ClaimName LegName) → Trees (ClaimName LegName)
  new_claims claims = bind_all (λ a. name (renamed_name leg_name a)) (all_renumbered f (bind_all (λ a. name (renamed_name number a)) claims))

  mutual
    claim_new : (c : ClaimTree LegName) → claim_appears (new_claim c) ≡ New (claim_appears c)
    claim_new (literal z) = refl
    claim_new (truth_literal b) = refl
    claim_new (name (variable x)) = refl
    claim_new (name (old_variable x)) = refl
    claim_new (name (let_symbol label)) = refl
    claim_new (bound n) = refl
    claim_new (unary op a) = claim_new a
    claim_new (binary op a b) = both _ (claim_appears a) _ (claim_appears b) (claim_new a) (claim_new b)
    claim_new (update a i x) =
        both _ (claim_appears a) _ (claim_appears i ++ claim_appears x) (claim_new a) (both _ (claim_appears i) _ (claim_appears x) (claim_new i)
        (claim_new x))
    claim_new (quantified q low high body) =
        both _ (claim_appears low) _ (claim_appears high ++ claim_appears body) (claim_new low)
        (both _ (claim_appears high) _ (claim_appears body) (claim_new high) (claim_new body))
    claim_new (listed (sequence_of t) ts) = ap (λ l. of_type (renumbered_type f t) ∷ l) (parts_new ts)
    claim_new (listed (record_of n) ts) = ap (λ l. new_appearance (of_type (record_type n)) ∷ l) (parts_new ts)

    parts_new : (ts : Trees (ClaimName LegName)) → parts_appear (new_claims ts) ≡ New (parts_appear ts)
    parts_new no_trees = refl
    parts_new (tree_then t ts) = both _ (claim_appears t) _ (parts_appear ts) (claim_new t) (parts_new ts)

  abbrev new_step : ProofStepTree LegName → ProofStepTree LegName
  new_step step = renamed_step leg_name (renumbered_step f (renamed_step number step))

  abbrev new_steps : ProofStepTrees LegName → ProofStepTrees LegName
  new_steps steps = renamed_steps leg_name (renumbered_steps f (renamed_steps number steps))

  mutual
    step_new : (step : ProofStepTree LegName) → step_appears (new_step step) ≡ New (step_appears step)
    step_new (line label claim rule cites) = claim_new claim
    step_new (block label has_symbol assumed given steps) = both _ (claim_appears given) _ (steps_appear steps) (claim_new given) (steps_new steps)

    steps_new : (steps : ProofStepTrees LegName) → steps_appear (new_steps steps) ≡ New (steps_appear steps)
    steps_new no_steps = refl
    steps_new (step_then step steps) = both _ (step_appears step) _ (steps_appear steps) (step_new step) (steps_new steps)

  fresh_new : (xs : List LegName) → map of_variable (map leg_name (map number xs)) ≡ New (map of_variable xs)
  fresh_new [] = refl
  fresh_new (x ∷ xs) = ap (λ l. of_variable (leg_name (number x)) ∷ l) (fresh_new xs)

  item_new : (item : ItemTree LegName) → item_appears (renamed_item leg_name (renumbered_item f (renamed_item number item))) ≡ New (item_appears item)
  item_new (assume claim) = claim_new claim
  item_new (check kind claim) = claim_new claim
  item_new (set x claim) = ap (λ l. of_variable (leg_name (number x)) ∷ l) (claim_new claim)
  item_new (fresh xs) = fresh_new xs
  item_new (proof steps) = steps_new steps

  pub leg_new : (items : Items) →
      flat_map (λ item. item_appears (renamed_item leg_name item)) (map (λ noted. renumbered_item f
      (renamed_item number noted.item)) items) ≡ map new_appearance (leg_appears items)
  leg_new [] = refl
  leg_new (noted ∷ items) = both _ (item_appears noted.item) _ (leg_appears items) (item_new noted.item) (leg_new items)
