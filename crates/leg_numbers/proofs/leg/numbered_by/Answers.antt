use Rattle.std.proofs.Common.{◌≡◌, map}
use Rattle.slang_values.specs.Value.{fields}
use Rattle.lk_claims.specs.Claim.{value_type}
use Rattle.lk_programs.specs.LegData.{item_tree}
use Rattle.lk_programs.specs.Program.{record_types}
use Rattle.leg_rules.specs.Numbering.{leg_name_type}
use Rattle.leg_items.specs.Names.{leg_name}
use Rattle.leg_items.specs.Drafts.{draft_item}
use Rattle.leg_orders.specs.Places.{method_of, program_of}
use Rattle.leg_numbers.specs.Numbered.{numbered_item, numbered_type}
use Rattle.leg_numbers.proofs.NumberedLines.{leg_is}
use Rattle.owned_results.proofs.Parts.{of_part}
use Rattle.leg_numbers.proofs.leg.numbered_by.Goals as goal

pub returns : goal.returns
returns c =
    let order = c.args.order.now in
    let typed = c.args.typed.now in
    let program = program_of typed in
    let own = method_of typed c.args.method in
    let w = c.in_ok-records in
    leg_is program own order c.args.drafts.now (record { records = w.records; vars = w.vars; items = w.items })
    (of_part (λ rs. map (map value_type) rs ≡ map (λ n. map (numbered_type order) (fields (record_types typed.records) n)) order.records) c.records_numbered.result w.records
    c.records_numbered.ensures w.ensures.parts.0)
    (of_part (λ ts. map value_type ts ≡ map (λ name. numbered_type order (leg_name_type program own (leg_name name))) order.names) c.variable_types.result w.vars
    c.variable_types.ensures w.ensures.parts.1)
    (of_part (λ items. map item_tree items ≡ map (λ item. numbered_item order (draft_item item.draft)) c.args.drafts.now) c.items_numbered.result w.items
    c.items_numbered.ensures w.ensures.parts.2)
