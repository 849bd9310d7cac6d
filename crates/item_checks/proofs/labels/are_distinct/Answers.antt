use Rattle.std.proofs.Common.{◌+◌, [], ◌&&◌, take, drop, sym, ap, ◌∙◌}
use Rattle.item_checks.specs.Tests.{are_new}
use Rattle.item_checks.proofs.StepLabels.{behind, new_at, numbers_at}
use Rattle.item_checks.proofs.labels.are_distinct.Goals as goal

pub returns-then-not-new : goal.returns-then-not-new
returns-then-not-new c =
    let i = c.loop-number.number-index in
    let numbers = c.args.numbers.now in
    sym (c.loop-number.invariant.told
    ∙ new_at c.loop-number.seen numbers i 0 c.in_ok-new.new c.loop-number-test.true c.loop-number.invariant.has c.in_ok-new.ensures.added
    ∙ ap (λ b. b && are_new (behind [] (take (i + 1) numbers)) (drop (i + 1) numbers)) c.if-not-new.true)

pub loop-number-preserved : goal.loop-number-preserved
loop-number-preserved c =
    let i = c.loop-number.number-index in
    let numbers = c.args.numbers.now in
    record {
      told = c.loop-number.invariant.told
          ∙ new_at c.loop-number.seen numbers i 0 c.in_ok-new.new c.loop-number-test.true c.loop-number.invariant.has c.in_ok-new.ensures.added
          ∙ ap (λ b. b && are_new (behind [] (take (i + 1) numbers)) (drop (i + 1) numbers)) c.if-not-new.false;
      has = numbers_at c.loop-number.seen c.insert.new.self numbers i 0 c.loop-number-test.true c.loop-number.invariant.has c.in_ok-new.ensures.updates;
    }
