use Rattle.proof_judging.proofs.Labels.{numbers_at, repeated_at}
use Rattle.proof_judging.proofs.repeating.repeated.Goals as goal

pub loop-label-preserved : goal.loop-label-preserved
loop-label-preserved c = record {
  told = repeated_at c.args.told.now.found c.loop-label.told.found c.tell_unless.new.self.found c.loop-label.numbers c.args.labels.now c.loop-label.label-index _
      c.in_ok-new.new c.loop-label-test.true c.loop-label.invariant.told c.loop-label.invariant.has c.in_ok-new.ensures.added c.tell_unless.ensures;
  has = numbers_at c.loop-label.numbers c.insert.new.self c.args.labels.now c.loop-label.label-index _
      c.loop-label-test.true c.loop-label.invariant.has c.in_ok-new.ensures.updates;
}
