-- What the rules close is valid, and what they accept is.
use Rattle.std.proofs.Common.{◌≡◌, is_none, true, Option, Some, None, refl, sym, subst}
use Rattle.std.specs.List.{AllByRecursion}
use Rattle.std.proofs.lemmas.Bool.{false≢true}
use Rattle.std.proofs.lemmas.List.Elements.{recursion_from_All}
use Rattle.validity.specs.Validity.{IsValid}
use Rattle.deduction_rules.specs.Deduction.{Deduction, accepted, refused, deduction}
use Rattle.deduction_rules.specs.Laws.{ClosesValid}
use Rattle.deduction_rules.proofs.Soundness.{accepted_is_valid}
use Rattle.whole_closing.specs.Closing.{Closing, closed, left_open, too_many, too_large, too_many_cases, too_many_rows, too_wide, closing}
use Rattle.whole_closing.proofs.Soundness.{closed_is_valid}
use Rattle.leg_rules.specs.Sequents.{outermost}
use Rattle.program_trees.specs.declared.answer.Reason.{Reason}
use Rattle.answer_laws.specs.Laws.{ClosesOnlyValid, AcceptsOnlyValid}
use Rattle.verdict_laws.specs.Rules.{told, unclosed, is_closed, refused_label, unaccepted}
use Rattle.verdict_laws.proofs.Outermost.{accepted_outermost}

closed_of : (c : Closing) → told c ≡ None → c ≡ closed
closed_of closed h = refl
closed_of left_open h = absurd (cc)
closed_of too_many h = absurd (cc)
closed_of too_large h = absurd (cc)
closed_of too_many_cases h = absurd (cc)
closed_of too_many_rows h = absurd (cc)
closed_of too_wide h = absurd (cc)

pub closes_only_valid : ClosesOnlyValid unclosed
closes_only_valid s sorted h = closed_is_valid s sorted (closed_of (closing s) h)

none_of : (o : Option Reason) → is_none o ≡ true → o ≡ None
none_of None h = refl
none_of (Some reason) h = absurd (false≢true h)

closes_valid : ClosesValid is_closed
closes_valid s sorted h = closes_only_valid s sorted (none_of (unclosed s) h)

pub accepts_only_valid : AcceptsOnlyValid unaccepted
accepts_only_valid base sorted steps typed h = by (deduction is_closed base steps) refl h
  where
    by : (d : Deduction) → deduction is_closed base steps ≡ d → refused_label d ≡ None
        → AllByRecursion (λ claim. IsValid (record base { goal = claim })) (outermost steps)
    by (accepted claims) e none =
        subst (AllByRecursion (λ claim. IsValid (record base { goal = claim }))) (sym (accepted_outermost is_closed base steps claims e))
        (recursion_from_All (λ claim. IsValid (record base { goal = claim })) claims
        (accepted_is_valid is_closed closes_valid base sorted steps typed claims e))
    by (refused label why) e none = absurd (cc)
