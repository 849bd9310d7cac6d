-- How calls one after another leave a prover.
use Rattle.std.proofs.Common.{ℕ, Option, None, ◌∙◌, arith}
use Rattle.proof_closing.specs.Prover.{Work, Leaves}

pub leaves_then : (a b c : Work) (stop : Option ℕ) → Leaves a b None → Leaves b c stop → Leaves a c stop
leaves_then a b c stop p q = record {
  mine = q.mine ∙ p.mine;
  told = let e = p.told in let f = q.told in omega arith;
  stopped = q.stopped;
}
