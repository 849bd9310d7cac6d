-- Lists of claims and of steps over numbers, and what a leg is over an order.
use Rattle.std.proofs.Common.{◌≡◌, ℕ, List, [], ◌∷◌, map, Some, None, refl, ap, ap₂, sym, ◌∙◌}
use Rattle.std.specs.Prelude.{slice_get}
use Rattle.slang_values.specs.Value.{ValueType, fields}
use Rattle.slang_values.specs.Tree.{name, listed, sequence_of, record_of, tree_then}
use Rattle.validity.specs.Bind.{bind_all}
use Rattle.program_trees.specs.Claims.{ClaimTree, renamed_name, renamed_step, renamed_steps, step_then}
use Rattle.program_trees.specs.Programs.{MethodTree, ProgramTree}
use Rattle.program_trees.specs.Variables.{Variable}
use Rattle.lk_claims.specs.declared.claim.Claim.{Claim}
use Rattle.lk_claims.specs.declared.step.ProofStep.{ProofStep}
use Rattle.lk_claims.specs.Claim.{claim_tree, claim_trees, trees_of, value_type}
use Rattle.lk_claims.specs.Step.{step_tree, step_trees, steps_of}
use Rattle.lk_programs.specs.declared.program.RecordTy.{RecordTy}
use Rattle.lk_programs.specs.Program.{record_types}
use Rattle.lk_programs.specs.declared.leg.Leg.{Leg}
use Rattle.lk_programs.specs.LegData.{item_tree, leg_tree}
use Rattle.leg_rules.specs.Numbering.{all_renumbered, leg_name_type, numbered, renumbered_steps}
use Rattle.leg_items.specs.declared.name.Frame.{Frame}
use Rattle.leg_items.specs.declared.draft.DraftItem.{DraftItem}
use Rattle.leg_items.specs.Names.{frame_name, leg_name}
use Rattle.leg_items.specs.Drafts.{draft_item, framed, items_of, noted_item}
use Rattle.leg_orders.specs.declared.order.Order.{Order}
use Rattle.leg_orders.proofs.FoundTypes.{fields_found, fields_missing}
use Rattle.leg_numbers.specs.Numbered.{name_number, record_number, numbered_type, numbered_claim, numbered_item, numbered_step}

module _ (order : Order) (frame : Frame) where
  abbrev over : Claim → ClaimTree ℕ
  over c = numbered_claim order (framed frame (claim_tree c))

  all_over : (cs : List Claim) → trees_of (map (λ c. numbered_claim order (framed frame (claim_tree c))) cs)
      ≡ all_renumbered (record_number order) (bind_all (λ a. name (renamed_name (name_number order) a)) (bind_all (λ a. name (renamed_name (frame_name frame) a)) (claim_trees cs)))
  all_over [] = refl
  all_over (c ∷ cs) = ap (tree_then (over c)) (all_over cs)

  pub sequence_numbered : (t : ClaimTree ℕ) (u element : ValueType) (cs new : List Claim) → t ≡ listed (sequence_of element) (claim_trees cs) → u ≡ numbered_type order element →
      map claim_tree new ≡ map (λ c. numbered_claim order (framed frame (claim_tree c))) cs → listed (sequence_of u) (claim_trees new) ≡ numbered_claim order (framed frame t)
  sequence_numbered t u element cs new e a b =
      ap₂ (λ v ts. listed (sequence_of v) ts) a (ap trees_of b ∙ all_over cs) ∙ sym (ap (λ x. numbered_claim order (framed frame x)) e)

  pub record_numbered : (t : ClaimTree ℕ) (m n : ℕ) (cs new : List Claim) → t ≡ listed (record_of n) (claim_trees cs) → m ≡ record_number order n →
      map claim_tree new ≡ map (λ c. numbered_claim order (framed frame (claim_tree c))) cs → listed (record_of m) (claim_trees new) ≡ numbered_claim order (framed frame t)
  record_numbered t m n cs new e a b =
      ap₂ (λ v ts. listed (record_of v) ts) a (ap trees_of b ∙ all_over cs) ∙ sym (ap (λ x. numbered_claim order (framed frame x)) e)

  steps_over : (ss : List ProofStep) → steps_of (map (λ s. numbered_step order (renamed_step (frame_name frame) (step_tree s))) ss)
      ≡ renumbered_steps (record_number order) (renamed_steps (name_number order) (renamed_steps (frame_name frame) (step_trees ss)))
  steps_over [] = refl
  steps_over (s ∷ ss) = ap (step_then (numbered_step order (renamed_step (frame_name frame) (step_tree s)))) (steps_over ss)

  pub steps_numbered : (new ss : List ProofStep) → map step_tree new ≡ map (λ s. numbered_step order (renamed_step (frame_name frame) (step_tree s))) ss →
      step_trees new ≡ renumbered_steps (record_number order) (renamed_steps (name_number order) (renamed_steps (frame_name frame) (step_trees ss)))
  steps_numbered new ss e = ap steps_of e ∙ steps_over ss

pub ruleset numbered_lines = (sequence_numbered, record_numbered)

pub ruleset step_lists = (steps_numbered)

-- ---- lists of what stands in a leg

pub map-map : {X Y Z : Type 0} (f : Y → Z) (g : X → Y) (xs : List X) → map f (map g xs) ≡ map (λ x. f (g x)) xs
map-map f g [] = refl
map-map f g (x ∷ xs) = ap (λ l. f (g x) ∷ l) (map-map f g xs)

pub fields_over : (order : Order) (records : List RecordTy) (n : ℕ) (found : RecordTy) (types : List ValueType) → slice_get records n ≡ Some found →
    types ≡ map (λ field. numbered_type order (value_type field.ty)) found.fields → types ≡ map (numbered_type order) (fields (record_types records) n)
fields_over order records n found types e h =
    h ∙ sym (ap (map (numbered_type order)) (fields_found records n found e) ∙ map-map (numbered_type order) (λ field. value_type field.ty) found.fields)

pub no_fields_over : (order : Order) (records : List RecordTy) (n : ℕ) → slice_get records n ≡ None → [] ≡ map (numbered_type order) (fields (record_types records) n)
no_fields_over order records n e = sym (ap (map (numbered_type order)) (fields_missing records n e))

pub ruleset field_lines = (fields_over, no_fields_over)

-- the leg, by its three lists
pub leg_is : (program : ProgramTree Variable) (method : MethodTree Variable) (order : Order) (drafts : List DraftItem) (leg : Leg) →
    map (map value_type) leg.records ≡ map (λ n. map (numbered_type order) (fields program.records n)) order.records →
    map value_type leg.vars ≡ map (λ x. numbered_type order (leg_name_type program method (leg_name x))) order.names →
    map item_tree leg.items ≡ map (λ item. numbered_item order (draft_item item.draft)) drafts →
    leg_tree leg ≡ numbered program method (items_of drafts) (map leg_name order.names) order.records
leg_is program method order drafts leg a b c = λ i. record {
  records = a i;
  variables = (b ∙ sym (map-map (λ x. numbered_type order (leg_name_type program method x)) leg_name order.names)) i;
  items = (c ∙ sym (map-map (λ noted. numbered_item order noted.item) noted_item drafts)) i;
}
