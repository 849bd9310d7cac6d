use Rattle.std.proofs.Common.{◌<◌, length, arith}
use Rattle.store_literals.proofs.Literals.{within_at, none_false}
use Rattle.store_literals.proofs.finding.false_literal.Goals as goal

pub is_false-requires : goal.is_false-requires
is_false-requires c = within_at (λ k. k < length c.args.store.now) c.args.literals.now c.loop-place.place c.requires c.loop-place-test.true

pub returns : goal.returns
returns c = none_false c.args.store.now c.args.literals.now (λ place l. c.loop-place.invariant place (omega (arith, l)))
