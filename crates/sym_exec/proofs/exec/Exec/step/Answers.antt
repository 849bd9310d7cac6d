use Rattle.std.proofs.Common.{◌++◌, ap, ◌∙◌}
use Rattle.term_store.proofs.Gains.{GainsAmong-more}
use Rattle.sym_exec.specs.Steps.{pending, gained_ahead, passed_obligations}
use Rattle.sym_exec.proofs.Items.{gains_ahead}
use Rattle.sym_exec.proofs.exec.Exec.step.Goals as goal

pub returns-in_err-next-clause-gains : goal.returns-in_err-next-clause-gains
returns-in_err-next-clause-gains c =
    let leg = c.args.leg.now in
    let all = gained_ahead c.args.store.now c.args.self.now leg in
    GainsAmong-more c.args.store.now c.items.store c.pass.new.store all c.items.invariant.gains
    (gains_ahead c.args.store.now c.items.store c.pass.new.store all (gained_ahead c.items.store c.items.self leg) c.in_err-next.ensures.gains
    c.items.invariant.ahead)

pub returns-in-Some-clause-gains : goal.returns-in-Some-clause-gains
returns-in-Some-clause-gains c =
    let leg = c.args.leg.now in
    let all = gained_ahead c.args.store.now c.args.self.now leg in
    GainsAmong-more c.args.store.now c.items.store c.pass.new.store all c.items.invariant.gains
    (gains_ahead c.args.store.now c.items.store c.pass.new.store all (gained_ahead c.items.store c.items.self leg) c.in_ok-next.ensures.gains
    c.items.invariant.ahead)

pub items-preserved : goal.items-preserved
items-preserved c =
    let leg = c.args.leg.now in
    let all = gained_ahead c.args.store.now c.args.self.now leg in
    let new = c.pass.new.store in
    let passed = c.in_ok-next.ensures in
    record {
      left = c.items.invariant.left ∙ passed.next.front ∙ ap (λ next. passed_obligations new next ++ pending new c.pass.new.self leg) c.in-None.is;
      ready = passed.ready;
      same = passed.same ∙ c.items.invariant.same;
      gains = GainsAmong-more c.args.store.now c.items.store new all c.items.invariant.gains
          (gains_ahead c.args.store.now c.items.store new all (gained_ahead c.items.store c.items.self leg) passed.gains c.items.invariant.ahead);
      ahead = λ u h. c.items.invariant.ahead u (passed.ahead u h);
    }
