use Rattle.std.proofs.Common.{map, sym, ap, ◌∙◌}
use Rattle.lk_claims.specs.Claim.{value_type}
use Rattle.lk_programs.specs.LegData.{item_tree}
use Rattle.leg_appearances.specs.Seen.{after_variables, all_seen, item_appearing}
use Rattle.leg_appearances.proofs.Joined.{variables_seen}
use Rattle.leg_appearances.proofs.items.with_item.Goals as goal

pub returns-in-Fresh : goal.returns-in-Fresh
returns-in-Fresh c =
    let table = c.args.table.now in
    let types = map value_type c.args.vars.now in
    c.with_variables.ensures
    ∙ ap (after_variables table types c.args.seen) c.as_slice.ensures
    ∙ sym (variables_seen table types c.args.seen c.in-Fresh.numbers)
    ∙ ap (λ item. all_seen table types c.args.seen (item_appearing (item_tree item))) (sym c.in-Fresh.is)
