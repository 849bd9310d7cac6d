use Rattle.std.proofs.Common.{ℕ, ◌<◌, ◌/◌, pos, sym, ap, ◌∙◌, subst}
use Rattle.lin_rows.specs.Sum.{is_multiplier}
use Rattle.whole_numbers.proofs.Divisors.{gcd_positive}
use Rattle.lin_solve.proofs.SideLemmas.{quotient_multiplier, quotient_multiplier', multiplier_passed}
use Rattle.lin_solve.proofs.turning.cancelling.Goals as goal

pub nonzero_div-result : goal.nonzero_div-result
nonzero_div-result c =
    subst (λ (n : ℕ). 0 < n) (sym c.greatest_common_divisor-common.ensures.value) (gcd_positive c.args.lower c.args.upper c.requires.lower)

pub nonzero_div-result-2 : goal.nonzero_div-result-2
nonzero_div-result-2 c =
    subst (λ (n : ℕ). 0 < n) (sym c.greatest_common_divisor-common.ensures.value) (gcd_positive c.args.lower c.args.upper c.requires.lower)

pub returns-clause-lower_multiplier : goal.returns-clause-lower_multiplier
returns-clause-lower_multiplier c =
    let e = ap (λ (g : ℕ). is_multiplier (pos (c.args.upper / g))) c.greatest_common_divisor-common.ensures.value ∙ quotient_multiplier' c.args.lower c.args.upper c.requires.upper c.requires.upper_small in
    multiplier_passed c.args.upper c.greatest_common_divisor-common.result e c.requires.upper_small

pub returns-clause-upper_multiplier : goal.returns-clause-upper_multiplier
returns-clause-upper_multiplier c =
    let e = ap (λ (g : ℕ). is_multiplier (pos (c.args.lower / g))) c.greatest_common_divisor-common.ensures.value ∙ quotient_multiplier c.args.lower c.args.upper c.requires.lower c.requires.lower_small in
    multiplier_passed c.args.lower c.greatest_common_divisor-common.result e c.requires.lower_small
