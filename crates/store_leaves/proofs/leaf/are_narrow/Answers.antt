use Rattle.std.proofs.Common.{◌<◌, length, sym, ◌∙◌, arith}
use Rattle.std.proofs.lemmas.List.Elements.{All-get_or}
use Rattle.tree_forms.specs.Form.{is_narrow}
use Rattle.term_store.specs.Store.{tree_at}
use Rattle.store_entries.proofs.Kept.{entry_there}
use Rattle.store_leaves.proofs.Closings.{one_is_wide, one_more_narrow}
use Rattle.store_leaves.proofs.leaf.are_narrow.Goals as goal

pub has_form-requires : goal.has_form-requires
has_form-requires c =
    let ids = c.args.ids.now in
    let id = c.id_there-id.result in
    let l : c.loop-at.at < length ids = omega arith in
    let there = All-get_or (λ k. k < length c.args.entries.now) ids c.loop-at.at id l c.requires.formed in
    entry_there c.args.store.now c.args.entries.now id c.index-entries-id.result c.requires.entries (omega (arith, there, c.id_there-id.ensures))
    c.index-entries-id.is

pub returns-then-not-has_form : goal.returns-then-not-has_form
returns-then-not-has_form c =
    let l : c.loop-at.at < length c.args.ids.now = omega arith in
    one_is_wide is_narrow (tree_at c.args.store.now) c.args.ids.now c.loop-at.at c.id_there-id.result l c.id_there-id.ensures
    (sym c.has_form.ensures ∙ c.if-not-has_form.true)

pub loop-at-preserved : goal.loop-at-preserved
loop-at-preserved c =
    let l : c.loop-at.at < length c.args.ids.now = omega arith in
    one_more_narrow is_narrow (tree_at c.args.store.now) c.args.ids.now c.loop-at.at c.id_there-id.result l c.id_there-id.ensures c.loop-at.invariant
    (sym c.has_form.ensures ∙ c.if-not-has_form.false)
