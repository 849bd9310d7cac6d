use Rattle.std.proofs.Common.{map, length, get_or, ap, sym, ◌∙◌, arith}
use Rattle.std.proofs.lemmas.List.Sums.{fold_more}
use Rattle.slang_values.specs.Value.{unit_type}
use Rattle.term_trees.specs.Term.{sort_type}
use Rattle.term_store.proofs.Gains.{GainsAmong-itself, GainsAmong-more}
use Rattle.leg_rules.specs.Store.{with_symbol, take_symbol}
use Rattle.leg_states.specs.State.{state_of, with_versions_of, taken_by_each}
use Rattle.leg_states.proofs.Taken.{gains_symbol}
use Rattle.leg_states.proofs.state.LegState.make_fresh.Goals as goal

pub loop-x-init : goal.loop-x-init
loop-x-init c =
    let begun = c.in_ok-begin_versions.ensures in
    record {
      state = begun.state c.args.store.now;
      over = begun.over c.args.store.now c.requires.over;
      count = omega (arith, ap length begun.sorts);
      gains = GainsAmong-itself c.args.store.now (taken_by_each c.args.xs.now (length c.args.self.now.sorts));
    }

pub returns-in_err-take_symbol-clause-gains : goal.returns-in_err-take_symbol-clause-gains
returns-in_err-take_symbol-clause-gains c =
    let xs = c.args.xs.now in
    let first = length c.args.self.now.sorts in
    GainsAmong-more c.args.store.now c.loop-x.store c.take_symbol.new.store (taken_by_each xs first) c.loop-x.invariant.gains
    (gains_symbol c.loop-x.store c.take_symbol.new.store xs first c.loop-x.x-index (length c.loop-x.self.sorts) c.loop-x-test.true c.loop-x.invariant.count
    c.in_err-take_symbol.ensures.gains)

pub loop-x-preserved : goal.loop-x-preserved
loop-x-preserved c =
    let xs = c.args.xs.now in
    let i = c.loop-x.x-index in
    let x = get_or xs i 0 in
    let types = map sort_type c.args.sorts.now in
    let now = state_of c.loop-x.store c.loop-x.self in
    let begun = with_versions_of xs (state_of c.args.store.now c.args.self.now) in
    let first = length c.args.self.now.sorts in
    let more = c.in_ok-take_symbol.ensures in
    record {
      state = more.state ∙ ap (λ k. with_symbol (get_or types x unit_type) x k now) c.last_version-last.ensures
          ∙ ap (λ s. take_symbol types s x) c.loop-x.invariant.state ∙ sym (fold_more (take_symbol types) begun xs i 0 c.loop-x-test.true);
      over = more.over;
      count = omega (arith, more.count, c.loop-x.invariant.count);
      gains = GainsAmong-more c.args.store.now c.loop-x.store c.take_symbol.new.store (taken_by_each xs first) c.loop-x.invariant.gains
          (gains_symbol c.loop-x.store c.take_symbol.new.store xs first i (length c.loop-x.self.sorts) c.loop-x-test.true c.loop-x.invariant.count more.gains);
    }
