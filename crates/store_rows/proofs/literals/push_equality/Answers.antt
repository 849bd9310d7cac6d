use Rattle.std.proofs.Common.{pos}
use Rattle.term_store.specs.Store.{tree_at}
use Rattle.closing.specs.Rows.{difference, at_most, at_least}
use Rattle.store_rows.proofs.Tables.{two_more}
use Rattle.store_rows.proofs.literals.push_equality.Goals as goal

pub returns : goal.returns
returns c =
    let store = c.args.store.now in
    let d = difference (tree_at store c.args.a) (tree_at store c.args.b) in
    two_more store c.args.rows.now.items c.push.new.self.items c.push-2.new.self.items c.at_most.result c.in_ok-opposite.opposite
    (at_most d (pos 0)) (at_least d (pos 0)) c.requires.within c.in_ok-push.ensures.items c.in_ok-push-2.ensures.items
    (c.at_most.ensures store d c.in_ok-form.ensures.form) (c.in_ok-opposite.ensures store d c.in_ok-form.ensures.form)
