use Rattle.std.proofs.Common.{map, subst, ◌∙◌, arith}
use Rattle.std.specs.List.{All}
use Rattle.lk_programs.specs.LegData.{item_tree}
use Rattle.leg_states.specs.State.{IsOver}
use Rattle.item_terms.specs.Items.{IsReadableItem}
use Rattle.sym_exec.proofs.Places.{as_many_sorts}
use Rattle.sym_exec.proofs.exec.Exec.new.Goals as goal

pub returns-clause-ready : goal.returns-clause-ready
returns-clause-ready c = λ store.
    let leg = c.args.leg.now in
    let same = as_many_sorts leg.vars c.as_slice.result.now c.in_ok-sorts.sorts c.as_slice.ensures c.in_ok-sorts.ensures in
    record {
      place = omega arith;
      over = subst (λ n. IsOver n store c.in_ok-state.state) (c.len.ensures ∙ same) (c.in_ok-state.ensures.over store);
      items = subst (λ n. All (IsReadableItem n) (map item_tree leg.items)) same c.requires.items;
    }
