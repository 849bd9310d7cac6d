use Rattle.std.proofs.Common.{negsuc}
use Rattle.tree_forms.specs.Form.{form, scaled}
use Rattle.term_store.specs.Store.{tree_at}
use Rattle.store_forms.proofs.Summing.{small_negative}
use Rattle.store_rows.proofs.Sides.{small_there, sum_is, negative_is}
use Rattle.store_rows.proofs.forms.difference_of.Goals as goal

pub times-requires-clause-small : goal.times-requires-clause-small
times-requires-clause-small c =
    let store = c.args.store.now in
    (small_there store (tree_at store c.args.b) c.form_there-right.result.now c.form_there-right.ensures).small

pub sum-requires-clause-first : goal.sum-requires-clause-first
sum-requires-clause-first c =
    let store = c.args.store.now in
    small_there store (tree_at store c.args.a) c.form_there-left.result.now c.form_there-left.ensures

pub sum-requires-clause-second : goal.sum-requires-clause-second
sum-requires-clause-second c =
    let store = c.args.store.now in
    let right = c.form_there-right.result.now in
    small_negative store right c.in_ok-negative.negative (small_there store (tree_at store c.args.b) right c.form_there-right.ensures)
    c.in_ok-negative.ensures

pub returns-clause-form : goal.returns-clause-form
returns-clause-form c =
    let store = c.args.store.now in
    let left = c.form_there-left.result.now in
    let right = c.form_there-right.result.now in
    let a = tree_at store c.args.a in
    let b = tree_at store c.args.b in
    sum_is c.sum.result store left c.in_ok-negative.negative (form a) (scaled (negsuc 0) (form b)) c.form_there-left.ensures.is
    (negative_is store b right c.in_ok-negative.negative c.form_there-right.ensures c.in_ok-negative.ensures) c.sum.ensures.form
