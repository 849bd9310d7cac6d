use Rattle.std.proofs.Common.{Less, Greater}
use Rattle.store_order.proofs.Deciding.{same_number, tops_decide, as_many_parts, same_parts, first_parts}
use Rattle.store_order.proofs.comparing.compare_once.Goals as goal

pub returns-then-a-b : goal.returns-then-a-b
returns-then-a-b c = same_number c.args.store.now c.args.a c.args.b c.if-a-b.true

pub first_difference-requires : goal.first_difference-requires
first_difference-requires c =
    as_many_parts c.args.store.now c.args.a c.args.b c.view.result.now c.view-2.result.now c.shape-left.result c.shape-right.result c.view.ensures.placed c.view-2.ensures.placed c.shape-left.ensures c.shape-right.ensures c.in-Equal.ensures

pub returns-in-Some : goal.returns-in-Some
returns-in-Some c =
    first_parts c.args.store.now c.args.a c.args.b c.view.result.now c.view-2.result.now c.shape-left.result c.shape-right.result c.view.ensures.placed c.view-2.ensures.placed c.shape-left.ensures c.shape-right.ensures c.requires.is_store c.requires.a c.requires.b c.in-Equal.ensures _ _ c.in-Some.ensures

pub returns-in-None : goal.returns-in-None
returns-in-None c =
    same_parts c.args.store.now c.args.a c.args.b c.view.result.now c.view-2.result.now c.shape-left.result c.shape-right.result c.view.ensures.placed c.view-2.ensures.placed c.shape-left.ensures c.shape-right.ensures c.in-Equal.ensures c.in-None.ensures

pub returns-in-Less : goal.returns-in-Less
returns-in-Less c =
    tops_decide c.args.store.now c.args.a c.args.b c.view.result.now c.view-2.result.now c.shape-left.result c.shape-right.result c.view.ensures.placed c.view-2.ensures.placed c.shape-left.ensures c.shape-right.ensures Less c.in-Less.ensures (λ e. cc)

pub returns-in-Greater : goal.returns-in-Greater
returns-in-Greater c =
    tops_decide c.args.store.now c.args.a c.args.b c.view.result.now c.view-2.result.now c.shape-left.result c.shape-right.result c.view.ensures.placed c.view-2.ensures.placed c.shape-left.ensures c.shape-right.ensures Greater c.in-Greater.ensures (λ e. cc)
