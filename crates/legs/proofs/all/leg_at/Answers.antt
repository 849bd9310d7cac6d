use Rattle.std.proofs.Common.{◌≡◌, map, ap, ◌∙◌}
use Rattle.lk_programs.specs.LegData.{leg_tree}
use Rattle.leg_rules.specs.Numbering.{leg_tree as numbered_leg}
use Rattle.leg_items.specs.Drafts.{items_of}
use Rattle.leg_orders.specs.Places.{method_of, program_of}
use Rattle.leg_paths.proofs.Walks.{if_ok_map}
use Rattle.owned_results.proofs.Parts.{of_part}
use Rattle.legs.proofs.all.leg_at.Goals as goal

pub returns : goal.returns
returns c =
    let typed = c.args.typed.now in
    let program = program_of typed in
    let own = method_of typed c.args.method in
    if_ok_map c.both.result _ _
    (λ p parts small there. record {
      told =
          of_part (λ leg. leg_tree leg ≡ numbered_leg program own (items_of c.as_slice.result.now)) c.numbered.result p.0 c.numbered.ensures parts.0
          ∙ ap (numbered_leg program own) (ap items_of c.as_slice.ensures ∙ c.in_ok-items.ensures small there);
      nodes_told =
          of_part (λ nodes. map (λ node. node.0) nodes ≡ map (λ noted. noted.node)
          (items_of c.as_slice-2.result.now)) c.nodes_of.result p.1 c.nodes_of.ensures parts.1
          ∙ ap (map (λ noted. noted.node)) (ap items_of c.as_slice-2.ensures ∙ c.in_ok-items.ensures small there);
    })
    c.both.ensures.parts
