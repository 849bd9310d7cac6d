-- The verdict from the answers for the legs.
use Rattle.std.proofs.Common.{◌≡◌, ℕ, ◌+◌, ◌<◌, ◌≤◌, Bool, true, false, cond, List, [], ◌∷◌, ◌++◌}
use Rattle.std.proofs.Common.{map, take, length, get_or, Option, refl, sym, ap, ◌∙◌, subst, arith, append_assoc}
use Rattle.std.specs.Prelude.{nat_lt}
use Rattle.std.specs.List.{AllByRecursion}
use Rattle.std.proofs.lemmas.List.{map_more}
use Rattle.std.proofs.lemmas.List.Elements.{All-from_recursion}
use Rattle.validity.specs.Validity.{SequentTree}
use Rattle.deduction_rules.specs.Step.{StepTrees}
use Rattle.program_trees.specs.declared.answer.Reason.{Reason}
use Rattle.program_trees.specs.declared.answer.Answer.{Answer}
use Rattle.lk_programs.specs.declared.leg.Leg.{Leg}
use Rattle.lk_programs.specs.declared.leg.Legs.{Legs as LegsData}
use Rattle.lk_programs.specs.declared.typed.Typed.{Typed}
use Rattle.lk_programs.specs.LegData.{leg_tree}
use Rattle.leg_forms.specs.WellFormed.{IsWellFormedLeg}
use Rattle.leg_rules.specs.Legs.{Items, leg_count}
use Rattle.leg_rules.specs.Numbering.{leg_tree as numbered_leg}
use Rattle.leg_rules.specs.Answers as plain
use Rattle.leg_rules.specs.Answers.{leg_answer, leg_limit, verdict, first_leg, many_legs}
use Rattle.leg_rules.proofs.Counts.{legs_counted}
use Rattle.leg_orders.specs.Places.{program_of, method_of}
use Rattle.legs.specs.Legs.{AreLegs, legs_at}
use Rattle.verdicts.specs.Choice.{chosen}
use Rattle.verdicts.proofs.Choices.{choice_by_the_legs}

not_past : (m n : ℕ) → n ≤ m → nat_lt m n ≡ false
not_past m n h = grind (arith, h)

past : (m n : ℕ) → m < n → nat_lt m n ≡ true
past m n h = grind (arith, h)

map-map : {A B C : Type 0} (f : B → C) (g : A → B) (xs : List A) → map f (map g xs) ≡ map (λ x. f (g x)) xs
map-map f g [] = refl
map-map f g (x ∷ xs) = ap (λ l. f (g x) ∷ l) (map-map f g xs)

-- ---- the legs one after the other

-- the leg at a place is well formed
pub formed_at : (legs : List Leg) (i : ℕ) (leg : Leg) → AllByRecursion (λ l. IsWellFormedLeg (leg_tree l)) legs → i < length legs → leg ≡ get_or legs i leg
    → IsWellFormedLeg (leg_tree leg)
formed_at legs i leg h inside is =
    subst (λ l. IsWellFormedLeg (leg_tree l)) (sym is) (All-from_recursion (λ l. IsWellFormedLeg (leg_tree l)) legs h i leg inside)

pub one_more : (f : Leg → Answer) (legs : List Leg) (i : ℕ) (leg : Leg) (first old new : List Answer) → i < length legs → leg ≡ get_or legs i leg
    → old ≡ first ++ map f (take i legs) → new ≡ old ++ f leg ∷ [] → new ≡ first ++ map f (take (i + 1) legs)
one_more f legs i leg first old new inside is so_far more =
    more ∙ ap (λ xs. xs ++ f leg ∷ []) so_far ∙ append_assoc first (map f (take i legs)) (f leg ∷ [])
    ∙ ap (λ xs. first ++ xs) (ap (λ x. map f (take i legs) ++ f x ∷ []) is ∙ sym (map_more f legs i leg inside))

-- ---- the verdict

module _ (reason : SequentTree → Option Reason) (accepting : SequentTree → StepTrees → Option ℕ) (typed : Typed) (number : ℕ) where
  abbrev all_legs : plain.Verdict
  all_legs = first_leg reason accepting (program_of typed) (method_of typed number) (legs_at typed number)

  by_count : (b : Bool) → nat_lt leg_limit (leg_count (method_of typed number)) ≡ b
      → verdict reason accepting (program_of typed) (method_of typed number) ≡ cond b many_legs all_legs
  by_count b e = ap (λ c. cond c many_legs all_legs) e

  counted : length (legs_at typed number) ≡ leg_count (method_of typed number)
  counted = legs_counted (program_of typed) (method_of typed number)

  -- where there are too many
  pub verdict_many : 256 < length (legs_at typed number) → many_legs ≡ verdict reason accepting (program_of typed) (method_of typed number)
  verdict_many h = sym (by_count true (past 256 (leg_count (method_of typed number)) (omega (arith, h, counted))))

  answers_told : (told : LegsData) → AreLegs typed number told
      → map (λ leg. leg_answer reason accepting (leg_tree leg)) told.legs
      ≡ map (λ items. leg_answer reason accepting (numbered_leg (program_of typed) (method_of typed number) items)) (legs_at typed number)
  answers_told told are =
      sym (map-map (leg_answer reason accepting) leg_tree told.legs) ∙ ap (map (leg_answer reason accepting)) are.all.numbered_legs
      ∙ map-map (leg_answer reason accepting) (numbered_leg (program_of typed) (method_of typed number)) (legs_at typed number)

  -- what is chosen from the answers for all legs
  pub verdict_few : (told : LegsData) (answers : List Answer) (v : plain.Verdict) → AreLegs typed number told
      → answers ≡ map (λ leg. leg_answer reason accepting (leg_tree leg)) told.legs → v ≡ chosen told.nodes answers
      → v ≡ verdict reason accepting (program_of typed) (method_of typed number)
  verdict_few told answers v are all is =
      is ∙ ap (chosen told.nodes) (all ∙ answers_told told are)
      ∙ choice_by_the_legs reason accepting (program_of typed) (method_of typed number) (legs_at typed number) told.nodes are.all.item_nodes
      ∙ sym (by_count false (not_past 256 (leg_count (method_of typed number)) (omega (arith, are.few, counted))))
