use Rattle.std.proofs.Common.{◌+◌, take, get_or}
use Rattle.std.specs.Ordering.{nat_cmp}
use Rattle.std.specs.BTreeSet.{contains}
use Rattle.std.proofs.lemmas.List.{take_more}
use Rattle.leg_states.specs.State.{lists_of}
use Rattle.leg_states.proofs.Begun.{begun_more}
use Rattle.leg_states.proofs.state.LegState.begin_versions.Goals as goal

pub loop-x-preserved : goal.loop-x-preserved
loop-x-preserved c =
    let xs = c.args.xs.now in
    let i = c.loop-x.x-index in
    let x = get_or xs i 0 in
    record {
      begun = begun_more c.args.count (take i xs) (take (i + 1) xs) x (lists_of c.args.self.now.versions) (lists_of c.loop-x.self.versions)
          (lists_of c.begin_version.new.versions) (contains nat_cmp c.loop-x.seen) (contains nat_cmp c.insert.new.self) c.in_ok-is_new.is_new
          c.loop-x.invariant.begun (take_more xs i 0 c.loop-x-test.true) (c.requires.variables i 0 c.loop-x-test.true) c.in_ok-is_new.ensures.added
          c.in_ok-is_new.ensures.updates.0 c.in_ok-begin_version.ensures;
      sorts = c.loop-x.invariant.sorts;
      lets = c.loop-x.invariant.lets;
      facts = c.loop-x.invariant.facts;
    }
