use Rattle.std.proofs.Common.{◌≡◌, [], map, sym, subst, arith}
use Rattle.std.specs.List.{All}
use Rattle.lk_programs.specs.LegData.{item_tree}
use Rattle.leg_sorts.specs.Sorts.{HaveSorts}
use Rattle.item_terms.specs.Items.{IsReadableItem}
use Rattle.exec_tests.proofs.readable.is_readable.Goals as goal

pub returns : goal.returns
returns c = λ holds.
    let leg = c.args.leg.now in
    let none : leg.records ≡ [] = c.is_empty-none.ensures.0 (c.all_hold.ensures.first holds) in
    let plain = c.are_plain-plain.ensures (c.all_hold.ensures.second holds) in
    let readable = c.are_readable-readable.ensures (c.all_hold.ensures.third holds) in
    record {
      variables = subst HaveSorts c.as_slice.ensures plain;
      records = subst (All HaveSorts) (sym none) (λ k d h. absurd (omega (arith, h)));
      items = subst (λ n. All (IsReadableItem n) (map item_tree leg.items)) c.len.ensures
          (subst (λ items. All (IsReadableItem c.len.result) (map item_tree items)) c.as_slice-2.ensures readable);
    }
