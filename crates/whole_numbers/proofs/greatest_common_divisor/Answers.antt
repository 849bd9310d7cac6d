use Rattle.std.proofs.Common.{arith}
use Rattle.std.proofs.lemmas.Nat.Gcd.{IsGcd-from_mod, IsGcd-from_zero, same_from_IsGcd}
use Rattle.whole_numbers.proofs.Divisors.{IsGcd-gcd}
use Rattle.whole_numbers.proofs.greatest_common_divisor.Goals as goal

pub steps-preserved : goal.steps-preserved
steps-preserved c = λ g h. c.steps.invariant g (IsGcd-from_mod c.steps.x c.steps.y g h)

pub returns-clause-greatest : goal.returns-clause-greatest
returns-clause-greatest c = c.steps.invariant c.steps.x (IsGcd-from_zero c.steps.x c.steps.y (omega arith))

pub returns-clause-value : goal.returns-clause-value
returns-clause-value c =
    same_from_IsGcd c.args.a c.args.b _ _ (c.steps.invariant c.steps.x (IsGcd-from_zero c.steps.x c.steps.y (omega arith))) (IsGcd-gcd c.args.a c.args.b)
