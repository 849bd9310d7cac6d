use Rattle.std.proofs.Common.{◌≡◌, ℕ, ◌<◌, false}
use Rattle.closing.specs.Literals.{is_false}
use Rattle.store_literals.specs.Places.{literal_at}
use Rattle.store_literals.proofs.finding.false_literal.Given as goal

abbrev pub invariant-loop-place : goal.invariant-loop-place
invariant-loop-place l = (k : ℕ) → k < l.place → is_false (literal_at l.store l.literals k) ≡ false
