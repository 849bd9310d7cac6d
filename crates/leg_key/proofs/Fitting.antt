-- What has bytes, one member after the other.
use Rattle.std.proofs.Common.{◌≡◌, List, [], ◌∷◌, length, map, sym, subst}
use Rattle.std.specs.List.{AllByRecursion}
use Rattle.std.proofs.lemmas.List.{length-map}
use Rattle.slang_values.specs.Tree.{listed, Listed}
use Rattle.program_trees.specs.Legs.{proof}
use Rattle.key_rules.specs.Fits.{FitsNumber, FitsList, FitsType, FitsClaim, FitParts, FitsFront, FitsStep, FitSteps, FitsItem, FitsLeg}
use Rattle.key_rules.specs.Writing.{step_list}
use Rattle.lk_claims.specs.declared.claim.Claim.{Claim}
use Rattle.lk_claims.specs.declared.step.ProofStep.{ProofStep}
use Rattle.lk_claims.specs.declared.ty.Ty.{Ty}
use Rattle.lk_claims.specs.Claim.{value_type, claim_tree, claim_trees}
use Rattle.lk_claims.specs.Step.{step_tree, step_trees}
use Rattle.lk_programs.specs.declared.leg.Item.{Item}
use Rattle.lk_programs.specs.declared.leg.Leg.{Leg}
use Rattle.lk_programs.specs.LegData.{item_tree, leg_tree}
use Rattle.leg_key.specs.Parts.{FitLists}
use Rattle.leg_key.proofs.Joining.{parts_count, steps_count}

-- ---- lists

all_mapped : {A B : Type 0} (fits : B → Type 0) (f : A → B) (xs : List A) → AllByRecursion (λ x. fits (f x)) xs → AllByRecursion fits (map f xs)
all_mapped fits f [] h = tt
all_mapped fits f (x ∷ xs) h = (h.0, all_mapped fits f xs h.1)

list_mapped : {A B : Type 0} (fits : B → Type 0) (f : A → B) (xs : List A) → FitsList (λ x. fits (f x)) xs → FitsList fits (map f xs)
list_mapped fits f xs h = (subst FitsNumber (sym (length-map xs f)) h.0, all_mapped fits f xs h.1)

all_same : {A : Type 0} (fits other : A → Type 0) (xs : List A) → ((x : A) → fits x → other x) → AllByRecursion fits xs → AllByRecursion other xs
all_same fits other [] f h = tt
all_same fits other (x ∷ xs) f h = (f x h.0, all_same fits other xs f h.1)

-- ---- parts of claims, steps of blocks

parts_fit : (claims : List Claim) → AllByRecursion (λ part. FitsClaim (claim_tree part)) claims → FitParts (claim_trees claims)
parts_fit [] h = tt
parts_fit (c ∷ cs) h = (h.0, parts_fit cs h.1)

pub listed_fits : (front : Listed) (claims : List Claim) → FitsFront front → FitsList (λ part. FitsClaim (claim_tree part)) claims
    → FitsClaim (listed front (claim_trees claims))
listed_fits front claims f h = (f, subst FitsNumber (parts_count claims) h.0, parts_fit claims h.1)

steps_fit : (steps : List ProofStep) → AllByRecursion (λ step. FitsStep (step_tree step)) steps → FitSteps (step_trees steps)
steps_fit [] h = tt
steps_fit (step ∷ steps) h = (h.0, steps_fit steps h.1)

pub steps_are_few : (steps : List ProofStep) → FitsList (λ step. FitsStep (step_tree step)) steps → FitsNumber (length (step_list (step_trees steps)))
steps_are_few steps h = subst FitsNumber (steps_count steps) h.0

pub steps_all_fit : (steps : List ProofStep) → FitsList (λ step. FitsStep (step_tree step)) steps → FitSteps (step_trees steps)
steps_all_fit steps h = steps_fit steps h.1

pub proof_fits : (steps : List ProofStep) → FitsList (λ step. FitsStep (step_tree step)) steps → FitsItem (proof (step_trees steps))
proof_fits steps h = (steps_are_few steps h, steps_all_fit steps h)

-- ---- legs

records_fit : (records : List (List Ty)) → FitsList (FitsList (λ ty. FitsType (value_type ty))) records
    → FitsList (FitsList FitsType) (map (map value_type) records)
records_fit records h =
    list_mapped (FitsList FitsType) (map value_type) records (
      h.0,
      all_same (FitsList (λ ty. FitsType (value_type ty))) (λ types. FitsList FitsType (map value_type types)) records
          (list_mapped FitsType value_type) h.1,
    )

pub leg_fits : (leg : Leg) (records : List (List Ty)) (types : List Ty) (items : List Item) → records ≡ leg.records → types ≡ leg.vars → items ≡ leg.items
    → FitLists records types items → FitsLeg (leg_tree leg)
leg_fits leg records types items e f g h = record {
  records = records_fit leg.records (subst (FitsList (FitsList (λ ty. FitsType (value_type ty)))) e h.0);
  variables = list_mapped FitsType value_type leg.vars (subst (FitsList (λ ty. FitsType (value_type ty))) f h.1);
  items = list_mapped FitsItem item_tree leg.items (subst (FitsList (λ item. FitsItem (item_tree item))) g h.2);
}
