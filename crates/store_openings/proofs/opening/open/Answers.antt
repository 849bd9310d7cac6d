use Rattle.std.proofs.Common.{◌≡◌, ◌+◌, ◌<◌, ◌≤◌, ◌^◌, length, sym, ◌∙◌, arith}
use Rattle.slang_values.specs.Measure.{node_count}
use Rattle.term_store.specs.Sequent.{sequent_at}
use Rattle.term_store.specs.Store.{tree_at}
use Rattle.term_store.proofs.Stores.{Grows-Grows}
use Rattle.instance_laws.proofs.Openings.{opens_step_by_step}
use Rattle.store_openings.proofs.OpenedOnce.{smaller, opened_more, no_range}
use Rattle.store_openings.proofs.opening.open.Goals as goal

pub loop-range-smaller : goal.loop-range-smaller
loop-range-smaller c = smaller c.loop-range.store c.open_once.new.store c.loop-range.sequent c.open_once.new.sequent c.in-Some.range c.in-Some.ensures c.in_ok-open_once.ensures.opened

pub loop-range-preserved : goal.loop-range-preserved
loop-range-preserved c =
    let old = c.loop-range.store in
    let new = c.open_once.new.store in
    let done = c.in_ok-open_once.ensures in
    let fewer : node_count (tree_at new c.open_once.new.sequent.goal) < node_count (tree_at old c.loop-range.sequent.goal) = smaller old new c.loop-range.sequent c.open_once.new.sequent c.in-Some.range c.in-Some.ensures done.opened in
    let room : length c.loop-range.sequent.sorts + node_count (tree_at old c.loop-range.sequent.goal) ≤ 2 ^ 32 = c.loop-range.invariant.4 in
    let count : length c.open_once.new.sequent.sorts ≡ length c.loop-range.sequent.sorts + 1 = done.sorts in (
      opened_more c.args.store.now old new c.args.sequent.now c.loop-range.sequent c.open_once.new.sequent c.in-Some.range c.in-Some.ensures c.loop-range.invariant.0 done.opened,
      done.within,
      Grows-Grows c.args.store.now old new c.loop-range.invariant.2 done.grows,
      done.tables,
      omega (arith, fewer, room, count),
    )

pub returns-clause-opened : goal.returns-clause-opened
returns-clause-opened c =
    sym (opens_step_by_step.last (sequent_at c.loop-range.store c.loop-range.sequent) (no_range c.loop-range.store c.loop-range.sequent.goal c.range_at.result c.in_default.is c.range_at.ensures)) ∙ c.loop-range.invariant.0
