use Rattle.std.proofs.Common.{◌==◌, ℕ, List, sym, ap, ◌∙◌}
use Rattle.std.specs.Prelude.{slice_index}
use Rattle.argument_rules.specs.Arguments.{is_below_zero}
use Rattle.argument_fronts.proofs.NumberFronts.{no_plus, below_err}
use Rattle.argument_forms.proofs.DigitLaws.{false_unless, parsed_below}
use Rattle.argument_forms.proofs.numbers.is_below_zero.Goals as goal

pub returns-then-begins_with_plus : goal.returns-then-begins_with_plus
returns-then-begins_with_plus c =
    false_unless (is_below_zero c.args.digits.now) (λ b. no_plus c.args.digits.now b
    (ap (λ (bytes : List ℕ). slice_index bytes 0 == 43) (sym c.as_bytes.ensures.value) ∙ sym c.begins_with_plus.ensures ∙ c.if-begins_with_plus.true))

pub returns-in-Err : goal.returns-in-Err
returns-in-Err c =
    false_unless (is_below_zero c.args.digits.now) (below_err c.args.digits.now c.in-Err.ensures.value.0
    (ap (λ (bytes : List ℕ). slice_index bytes 0 == 43) (sym c.as_bytes.ensures.value) ∙ sym c.begins_with_plus.ensures ∙ c.if-begins_with_plus.false))

pub returns-in-Ok : goal.returns-in-Ok
returns-in-Ok c =
    parsed_below c.args.digits.now c.in-Ok.number c.in-Ok.ensures.value.0
    (ap (λ (bytes : List ℕ). slice_index bytes 0 == 43) (sym c.as_bytes.ensures.value) ∙ sym c.begins_with_plus.ensures ∙ c.if-begins_with_plus.false)
