use Rattle.std.proofs.Common.{◌≡◌, ◌++◌, ap, ap₂, ◌∙◌}
use Rattle.std.proofs.lemmas.List.{map-append}
use Rattle.leg_items.specs.Drafts.{items_of, noted_item}
use Rattle.leg_paths.specs.Initial.{all_fixed}
use Rattle.leg_paths.proofs.initial.with_initial_values.Goals as goal

pub returns : goal.returns
returns c =
    let drafts = c.args.drafts in
    let base : items_of c.add_all_fixed.new.out ≡ all_fixed c.args.scope c.args.node.0 (items_of drafts) 0 c.args.globals.now =
    c.in_ok-add_all_fixed.ensures ∙ ap₂ (λ l ds. items_of l ++ all_fixed c.args.scope c.args.node.0 (items_of ds) 0 c.args.globals.now) c.new-items.ensures c.as_slice.ensures in
    ap items_of c.in_ok-append.ensures ∙ map-append noted_item c.add_all_fixed.new.out drafts ∙ ap (λ l. l ++ items_of drafts) base
