-- Fit items over other names, and over numbers.
use Rattle.std.proofs.Common.{◌≡◌, ℕ, zero, suc, ◌+◌, ◌≤◌, max, true, List, [], ◌∷◌, ◌++◌, map, refl, sym, ap, ap₂, ◌∙◌, subst}
use Rattle.std.specs.Prelude.{nat_eq, ◌&&◌}
use Rattle.std.specs.List.{AllByRecursion, IsDistinct, list_all}
use Rattle.std.proofs.lemmas.Bool.{false≢true, and_parts, and_from}
use Rattle.std.proofs.lemmas.List.Folds.{list_all-append}
use Rattle.slang_values.specs.Value.{ValueType, unit_type, number_type, truth_type, sequence_type, record_type, is_element_type, is_value_type}
use Rattle.slang_values.specs.Tree.{Tree, literal, truth_literal, name, bound, unary, binary, update, quantified, listed, Trees, no_trees, tree_then, sequence_of, record_of}
use Rattle.slang_values.specs.Measure.{height, greatest_height}
use Rattle.validity.specs.Bind.{rename, bind_all}
use Rattle.program_trees.specs.Claims.{ClaimName, variable, old_variable, let_symbol, ClaimTree, ProofStepTree, line, block, ProofStepTrees, no_steps, step_then, renamed_name, renamed_claim, renamed_step, renamed_steps, is_empty, step_labels, labels}
use Rattle.program_trees.specs.Legs.{ItemTree, assume, check, set, fresh, proof, renamed_item}
use Rattle.leg_forms.specs.WellFormed.{is_front, IsWellFormedStep, AreWellFormedSteps, IsWellFormedItem}
use Rattle.leg_rules.specs.LegNames.{LegName}
use Rattle.leg_rules.specs.Legs.{Items}
use Rattle.leg_rules.specs.Numbering.{Appearance, of_variable, of_type, claim_appears, parts_appear, step_appears, steps_appear, item_appears, leg_appears, renumbered_type, renumbered, all_renumbered, renumbered_step, renumbered_steps, renumbered_item}
use Rattle.typed_programs.specs.Parts.{element_types, all_element_types, front_elements}
use Rattle.well_formed_legs.specs.Fit.{IsFitClaim, IsFitStep, AreFitSteps, IsFitItem, AreFit}
use Rattle.well_formed_legs.proofs.NewAppearances.{new_appearance}
use Rattle.well_formed_legs.proofs.Expressions.{HaveElements, parted}

-- ---- other names change no height and no type

module _ {A B : Type 0} (r : A → B) where
  mutual
    pub same_height : (t : Tree A) → height (rename r t) ≡ height t
    same_height (literal z) = refl
    same_height (truth_literal b) = refl
    same_height (name a) = refl
    same_height (bound n) = refl
    same_height (unary op a) = ap (λ k. k + 1) (same_height a)
    same_height (binary op a b) = ap₂ (λ x y. max x y + 1) (same_height a) (same_height b)
    same_height (update a i x) = λ j. max (max (same_height a j) (same_height i j)) (same_height x j) + 1
    same_height (quantified q low high body) = λ j. max (max (same_height low j) (same_height high j)) (same_height body j) + 1
    same_height (listed l ts) = ap (λ k. k + 1) (same_heights ts)

    same_heights : (ts : Trees A) → greatest_height (bind_all (λ a. name (r a)) ts) ≡ greatest_height ts
    same_heights no_trees = refl
    same_heights (tree_then t ts) = ap₂ max (same_height t) (same_heights ts)

  mutual
    same_elements : (t : Tree A) → element_types (rename r t) ≡ element_types t
    same_elements (literal z) = refl
    same_elements (truth_literal b) = refl
    same_elements (name a) = refl
    same_elements (bound n) = refl
    same_elements (unary op a) = same_elements a
    same_elements (binary op a b) = ap₂ (λ x y. x ++ y) (same_elements a) (same_elements b)
    same_elements (update a i x) = λ j. same_elements a j ++ (same_elements i j ++ same_elements x j)
    same_elements (quantified q low high body) = λ j. same_elements low j ++ (same_elements high j ++ same_elements body j)
    same_elements (listed l ts) = ap (λ x. front_elements l ++ x) (same_element_lists ts)

    same_element_lists : (ts : Trees A) → all_element_types (bind_all (λ a. name (r a)) ts) ≡ all_element_types ts
    same_element_lists no_trees = refl
    same_element_lists (tree_then t ts) = ap₂ (λ x y. x ++ y) (same_elements t) (same_element_lists ts)

module _ {A B : Type 0} (f : A → B) where
  pub fit_renamed : (claim : ClaimTree A) → IsFitClaim claim → IsFitClaim (renamed_claim f claim)
  fit_renamed claim h = record {
    elements = ap (list_all is_element_type) (same_elements (renamed_name f) claim) ∙ h.elements;
    low = subst (λ n. n ≤ 2000) (sym (same_height (renamed_name f) claim)) h.low;
  }

  empty_renamed : (steps : ProofStepTrees A) → is_empty steps ≡ true → is_empty (renamed_steps f steps) ≡ true
  empty_renamed no_steps h = h
  empty_renamed (step_then step steps) h = h

  mutual
    same_step_labels : (step : ProofStepTree A) → step_labels (renamed_step f step) ≡ step_labels step
    same_step_labels (line label claim rule cites) = refl
    same_step_labels (block label has_symbol assumed given steps) = ap (λ l. label ∷ assumed ∷ l) (same_labels steps)

    pub same_labels : (steps : ProofStepTrees A) → labels (renamed_steps f steps) ≡ labels steps
    same_labels no_steps = refl
    same_labels (step_then step steps) = ap₂ (λ x y. x ++ y) (same_step_labels step) (same_labels steps)

  mutual
    step_renamed : (step : ProofStepTree A) (depth : ℕ) → IsFitStep depth step → IsFitStep depth (renamed_step f step)
    step_renamed (line label claim rule cites) zero h = (fit_renamed claim h.0, h.1)
    step_renamed (line label claim rule cites) (suc depth) h = (fit_renamed claim h.0, h.1)
    step_renamed (block label has_symbol assumed given steps) zero h = (fit_renamed given h.0, empty_renamed steps h.1)
    step_renamed (block label has_symbol assumed given steps) (suc depth) h = (fit_renamed given h.0, steps_renamed steps depth h.1)

    pub steps_renamed : (steps : ProofStepTrees A) (depth : ℕ) → AreFitSteps depth steps → AreFitSteps depth (renamed_steps f steps)
    steps_renamed no_steps depth h = tt
    steps_renamed (step_then step steps) depth h = (step_renamed step depth h.0, steps_renamed steps depth h.1)

-- ---- other numbers of records change no height

module _ {A : Type 0} (f : ℕ → ℕ) where
  mutual
    height_renumbered : (t : Tree A) → height (renumbered f t) ≡ height t
    height_renumbered (literal z) = refl
    height_renumbered (truth_literal b) = refl
    height_renumbered (name a) = refl
    height_renumbered (bound n) = refl
    height_renumbered (unary op a) = ap (λ k. k + 1) (height_renumbered a)
    height_renumbered (binary op a b) = ap₂ (λ x y. max x y + 1) (height_renumbered a) (height_renumbered b)
    height_renumbered (update a i x) = λ j. max (max (height_renumbered a j) (height_renumbered i j)) (height_renumbered x j) + 1
    height_renumbered (quantified q low high body) = λ j. max (max (height_renumbered low j) (height_renumbered high j)) (height_renumbered body j) + 1
    height_renumbered (listed l ts) = ap (λ k. k + 1) (heights_renumbered ts)

    heights_renumbered : (ts : Trees A) → greatest_height (all_renumbered f ts) ≡ greatest_height ts
    heights_renumbered no_trees = refl
    heights_renumbered (tree_then t ts) = ap₂ max (height_renumbered t) (heights_renumbered ts)

  mutual
    step_labels_renumbered : (step : ProofStepTree A) → step_labels (renumbered_step f step) ≡ step_labels step
    step_labels_renumbered (line label claim rule cites) = refl
    step_labels_renumbered (block label has_symbol assumed given steps) = ap (λ l. label ∷ assumed ∷ l) (labels_renumbered steps)

    labels_renumbered : (steps : ProofStepTrees A) → labels (renumbered_steps f steps) ≡ labels steps
    labels_renumbered no_steps = refl
    labels_renumbered (step_then step steps) = ap₂ (λ x y. x ++ y) (step_labels_renumbered step) (labels_renumbered steps)

  empty_renumbered : (steps : ProofStepTrees A) → is_empty steps ≡ true → is_empty (renumbered_steps f steps) ≡ true
  empty_renumbered no_steps h = h
  empty_renumbered (step_then step steps) h = h

-- ---- over numbers

module _ (f : ℕ → ℕ) where
  low_new : (claim : ClaimTree ℕ) → IsFitClaim claim → height (renumbered f claim) ≤ 2000
  low_new claim h = subst (λ n. n ≤ 2000) (sym (height_renumbered f claim)) h.low

  mutual
    step_new : (step : ProofStepTree ℕ) (depth : ℕ) → IsFitStep depth step → IsWellFormedStep depth (renumbered_step f step)
    step_new (line label claim rule cites) zero h = (low_new claim h.0, h.1)
    step_new (line label claim rule cites) (suc depth) h = (low_new claim h.0, h.1)
    step_new (block label has_symbol assumed given steps) zero h = (low_new given h.0, empty_renumbered f steps h.1)
    step_new (block label has_symbol assumed given steps) (suc depth) h = (low_new given h.0, steps_new steps depth h.1)

    steps_new : (steps : ProofStepTrees ℕ) (depth : ℕ) → AreFitSteps depth steps → AreWellFormedSteps depth (renumbered_steps f steps)
    steps_new no_steps depth h = tt
    steps_new (step_then step steps) depth h = (step_new step depth h.0, steps_new steps depth h.1)

  module _ (number : LegName → ℕ) where
    item_new : (item : ItemTree LegName) → IsFitItem item → IsWellFormedItem (renumbered_item f (renamed_item number item))
    item_new (assume claim) h = low_new (renamed_claim number claim) (fit_renamed number claim h)
    item_new (check kind claim) h = (h.0, low_new (renamed_claim number claim) (fit_renamed number claim h.1))
    item_new (set x claim) h = low_new (renamed_claim number claim) (fit_renamed number claim h)
    item_new (fresh xs) h = tt
    item_new (proof steps) h = (
      steps_new (renamed_steps number steps) 200 (steps_renamed number steps 200 h.0),
      subst (IsDistinct nat_eq) (sym (labels_renumbered f (renamed_steps number steps) ∙ same_labels number steps)) h.1,
    )

    pub items_new : (items : Items) → AreFit items → AllByRecursion IsWellFormedItem (map (λ noted. renumbered_item f (renamed_item number noted.item)) items)
    items_new [] h = tt
    items_new (noted ∷ items) h = (item_new noted.item h.0, items_new items h.1)

    -- ---- what stands in front of lists

    abbrev AreFronts : List Appearance → Type 0
    AreFronts as' = list_all is_front as' ≡ true

    fronts_append : (xs ys : List Appearance) → AreFronts xs → AreFronts ys → AreFronts (xs ++ ys)
    fronts_append xs ys h k = list_all-append is_front xs ys ∙ and_from (list_all is_front xs) (list_all is_front ys) h k

    mutual
      claim_fronts : (c : ClaimTree LegName) → HaveElements (element_types c) → AreFronts (claim_appears c)
      claim_fronts (literal z) h = refl
      claim_fronts (truth_literal b) h = refl
      claim_fronts (name (variable x)) h = refl
      claim_fronts (name (old_variable x)) h = refl
      claim_fronts (name (let_symbol label)) h = refl
      claim_fronts (bound n) h = refl
      claim_fronts (unary op a) h = claim_fronts a h
      claim_fronts (binary op a b) h =
          let p = parted (element_types a) (element_types b) h in fronts_append (claim_appears a) (claim_appears b) (claim_fronts a p.0) (claim_fronts b p.1)
      claim_fronts (update a i x) h =
          let p = parted (element_types a) (element_types i ++ element_types x) h in
          let q = parted (element_types i) (element_types x) p.1 in
          fronts_append (claim_appears a) (claim_appears i ++ claim_appears x) (claim_fronts a p.0)
          (fronts_append (claim_appears i) (claim_appears x) (claim_fronts i q.0) (claim_fronts x q.1))
      claim_fronts (quantified k low high body) h =
          let p = parted (element_types low) (element_types high ++ element_types body) h in
          let q = parted (element_types high) (element_types body) p.1 in
          fronts_append (claim_appears low) (claim_appears high ++ claim_appears body) (claim_fronts low p.0)
          (fronts_append (claim_appears high) (claim_appears body) (claim_fronts high q.0) (claim_fronts body q.1))
      claim_fronts (listed (sequence_of t) ts) h =
          let p = and_parts (is_element_type t) (list_all is_element_type (all_element_types ts)) h in
          and_from (is_element_type t) (list_all is_front (parts_appear ts)) p.0 (parts_fronts ts p.1)
      claim_fronts (listed (record_of n) ts) h = parts_fronts ts h

      parts_fronts : (ts : Trees (ClaimName LegName)) → HaveElements (all_element_types ts) → AreFronts (parts_appear ts)
      parts_fronts no_trees h = refl
      parts_fronts (tree_then t ts) h =
          let p = parted (element_types t) (all_element_types ts) h in fronts_append (claim_appears t) (parts_appear ts) (claim_fronts t p.0)
          (parts_fronts ts p.1)

    mutual
      step_fronts : (step : ProofStepTree LegName) (depth : ℕ) → IsFitStep depth step → AreFronts (step_appears step)
      step_fronts (line label claim rule cites) zero h = claim_fronts claim h.0.elements
      step_fronts (line label claim rule cites) (suc depth) h = claim_fronts claim h.0.elements
      step_fronts (block label has_symbol assumed given steps) zero h =
          fronts_append (claim_appears given) (steps_appear steps) (claim_fronts given h.0.elements) (no_fronts steps h.1)
      step_fronts (block label has_symbol assumed given steps) (suc depth) h =
          fronts_append (claim_appears given) (steps_appear steps) (claim_fronts given h.0.elements) (steps_fronts steps depth h.1)

      no_fronts : (steps : ProofStepTrees LegName) → is_empty steps ≡ true → AreFronts (steps_appear steps)
      no_fronts no_steps h = refl
      no_fronts (step_then step steps) h = absurd (false≢true h)

      steps_fronts : (steps : ProofStepTrees LegName) (depth : ℕ) → AreFitSteps depth steps → AreFronts (steps_appear steps)
      steps_fronts no_steps depth h = refl
      steps_fronts (step_then step steps) depth h =
          fronts_append (step_appears step) (steps_appear steps) (step_fronts step depth h.0) (steps_fronts steps depth h.1)

    fresh_fronts : (xs : List LegName) → AreFronts (map of_variable xs)
    fresh_fronts [] = refl
    fresh_fronts (x ∷ xs) = fresh_fronts xs

    item_fronts : (item : ItemTree LegName) → IsFitItem item → AreFronts (item_appears item)
    item_fronts (assume claim) h = claim_fronts claim h.elements
    item_fronts (check kind claim) h = claim_fronts claim h.1.elements
    item_fronts (set x claim) h = claim_fronts claim h.elements
    item_fronts (fresh xs) h = fresh_fronts xs
    item_fronts (proof steps) h = steps_fronts steps 200 h.0

    leg_fronts : (items : Items) → AreFit items → AreFronts (leg_appears items)
    leg_fronts [] h = refl
    leg_fronts (noted ∷ items) h = fronts_append (item_appears noted.item) (leg_appears items) (item_fronts noted.item h.0) (leg_fronts items h.1)

    same_element_type : (t : ValueType) → is_element_type (renumbered_type f t) ≡ is_element_type t
    same_element_type unit_type = refl
    same_element_type number_type = refl
    same_element_type truth_type = refl
    same_element_type (sequence_type t) = refl
    same_element_type (record_type n) = refl

    same_front : (a : Appearance) → is_front (new_appearance number f a) ≡ is_front a
    same_front (of_variable x) = refl
    same_front (of_type t) = same_element_type t

    new_fronts : (as' : List Appearance) → AreFronts as' → AreFronts (map (new_appearance number f) as')
    new_fronts [] h = refl
    new_fronts (a ∷ as') h =
        let p = and_parts (is_front a) (list_all is_front as') h in
        and_from (is_front (new_appearance number f a)) (list_all is_front (map (new_appearance number f) as')) (same_front a ∙ p.0) (new_fronts as' p.1)

    pub fronts_new : (items : Items) → AreFit items → list_all is_front (map (new_appearance number f) (leg_appears items)) ≡ true
    fronts_new items h = new_fronts (leg_appears items) (leg_fronts items h)

  -- ---- types of values

  pub same_value_type : (t : ValueType) → is_value_type (renumbered_type f t) ≡ is_value_type t
  same_value_type unit_type = refl
  same_value_type number_type = refl
  same_value_type truth_type = refl
  same_value_type (sequence_type unit_type) = refl
  same_value_type (sequence_type number_type) = refl
  same_value_type (sequence_type truth_type) = refl
  same_value_type (sequence_type (sequence_type t)) = refl
  same_value_type (sequence_type (record_type n)) = refl
  same_value_type (record_type n) = refl

  pub same_value_types : (ts : List ValueType) → list_all is_value_type (map (renumbered_type f) ts) ≡ list_all is_value_type ts
  same_value_types [] = refl
  same_value_types (t ∷ ts) = ap₂ (λ x y. x && y) (same_value_type t) (same_value_types ts)
