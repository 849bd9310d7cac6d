use Rattle.std.proofs.Common.{map, get_or, sym, ap, ◌∙◌}
use Rattle.std.proofs.lemmas.Option.{same_Some}
use Rattle.term_sorts.specs.Types.{types_of, record_types}
use Rattle.term_nodes.specs.Node.{numbers}
use Rattle.store_canonical.proofs.Inside.{node_within, over_canonical}
use Rattle.store_canonical.proofs.terms.with_canonical_parts.Goals as goal

pub add-requires : goal.add-requires
add-requires c =
    let ids = c.args.ids.now in
    let same = same_Some c.view.result.now c.view-2.result.now (sym c.view.ensures.node ∙ c.view-2.ensures.node) in
    node_within (record_types c.args.records.now) (types_of c.args.symbols.now) c.args.store.now c.args.id c.view-2.result.now c.in_ok-node.node ids c.view-2.ensures.placed c.requires.next c.requires.canonical
    (c.in_ok-node.ensures.1 ∙ c.as_slice-2.ensures.value ∙ c.in_ok-numbers.ensures ∙ ap (map (λ k. get_or ids k 0)) (c.as_slice.ensures.value ∙ c.in_ok-parts.ensures ∙ ap numbers same))

pub returns-clause-number : goal.returns-clause-number
returns-clause-number c =
    let ids = c.args.ids.now in
    let same = same_Some c.view.result.now c.view-2.result.now (sym c.view.ensures.node ∙ c.view-2.ensures.node) in
    over_canonical (record_types c.args.records.now) (types_of c.args.symbols.now) c.add.result c.args.store.now c.add.new.store c.args.id c.view-2.result.now c.in_ok-node.node ids c.view-2.ensures.placed c.requires.next c.requires.canonical
    c.in_ok-node.ensures.0
    (c.in_ok-node.ensures.1 ∙ c.as_slice-2.ensures.value ∙ c.in_ok-numbers.ensures ∙ ap (map (λ k. get_or ids k 0)) (c.as_slice.ensures.value ∙ c.in_ok-parts.ensures ∙ ap numbers same))
    c.requires.other c.add.ensures.number
