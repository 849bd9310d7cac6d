-- No two legs have one key, so no key has two answers.
use Rattle.std.proofs.Common.{◌≡◌, ℕ, List, [], ◌∷◌, Option, cond, refl, sym, ap, ◌∙◌}
use Rattle.std.specs.Prelude.{nat_lt}
use Rattle.std.specs.Option.{option_map_or}
use Rattle.validity.specs.Validity.{SequentTree}
use Rattle.deduction_rules.specs.Step.{StepTrees}
use Rattle.program_trees.specs.declared.answer.Reason.{Reason}
use Rattle.program_trees.specs.declared.answer.Answer.{Answer}
use Rattle.program_trees.specs.declared.answer.Answer.TheVariants as answers
use Rattle.program_trees.specs.Programs.{MethodTree, ProgramTree}
use Rattle.program_trees.specs.Variables.{Variable}
use Rattle.leg_rules.specs.Legs.{Items, legs, leg_count}
use Rattle.leg_rules.specs.Numbering.{leg_tree}
use Rattle.leg_rules.specs.Answers.{Verdict, many_legs, leg_limit, leg_answer, at_item, first_leg}
use Rattle.key_rules.specs.Writing.{encode}
use Rattle.key_rules.specs.Reading.{decode}
use Rattle.key_rules.proofs.Keys.{keys_are_read, keys_tell_legs_apart}
use Rattle.key_answers.specs.Answers.{AnswersKeys, HaveKeys, at_its_node, first_by_keys}
use Rattle.key_answers.specs.Laws.{KeysHaveOneAnswer, KeysAreAnswered, VerdictsAreThoseOfKeys}

pub keys_have_one_answer : KeysHaveOneAnswer
keys_have_one_answer closing accepting key a b h k =
    let same = keys_tell_legs_apart h.leg k.leg h.is_key.fits k.is_key.fits (h.is_key.written ∙ sym k.is_key.written) in
    sym h.answered ∙ ap (leg_answer closing accepting) same ∙ k.answered

pub keys_are_answered : KeysAreAnswered
keys_are_answered closing accepting other key given h =
    ap (λ o. option_map_or (leg_answer closing accepting) o other) (ap decode (sym h.is_key.written) ∙ keys_are_read h.leg h.is_key.fits) ∙ h.answered

module _ (closing : SequentTree → Option Reason) (accepting : SequentTree → StepTrees → Option ℕ) (answer : List ℕ → Answer)
    (right : AnswersKeys closing accepting answer) (program : ProgramTree Variable) (method : MethodTree Variable) where
  same_at : (items : Items) (a : Answer) (later : Verdict) → at_its_node items a later ≡ at_item closing accepting items a later
  same_at items answers.Proved later = refl
  same_at items (answers.Unproved item kind reason) later = refl

  first_same : (found : List Items) → HaveKeys program method found
      → first_by_keys answer program method found ≡ first_leg closing accepting program method found
  first_same [] h = refl
  first_same (items ∷ later) h =
      let leg = leg_tree program method items in
      let same : answer (encode leg) ≡ leg_answer closing accepting leg =
      right (encode leg) (leg_answer closing accepting leg)
      (record { leg = leg; is_key = record { well_formed = h.0.0; fits = h.0.1; written = refl }; answered = refl }) in
      ap (λ a. at_its_node items a (first_by_keys answer program method later)) same
      ∙ ap (at_its_node items (leg_answer closing accepting leg)) (first_same later h.1)
      ∙ same_at items (leg_answer closing accepting leg) (first_leg closing accepting program method later)

pub verdicts_are_those_of_keys : VerdictsAreThoseOfKeys
verdicts_are_those_of_keys closing accepting answer right program method keys =
    ap (cond (nat_lt leg_limit (leg_count method)) many_legs) (first_same closing accepting answer right program method (legs program method) keys)
