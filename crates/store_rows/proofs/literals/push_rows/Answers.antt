use Rattle.term_store.specs.Store.{tree_at}
use Rattle.closing.specs.Rows.{difference, at_most}
use Rattle.std.proofs.Common.{pos, negsuc, ◌++◌, sym, subst}
use Rattle.store_atoms.specs.Views.{rows_at, AreRows}
use Rattle.store_rows.specs.declared.literals.Relation.{Relation}
use Rattle.store_rows.specs.Said.{relation_rows}
use Rattle.store_rows.proofs.Tables.{one_more}
use Rattle.store_rows.proofs.literals.push_rows.Goals as goal

pub returns-in_ok-push-in-AtMost : goal.returns-in_ok-push-in-AtMost
returns-in_ok-push-in-AtMost c =
    let store = c.args.store.now in
    let d = difference (tree_at store c.in-AtMost.a) (tree_at store c.in-AtMost.b) in
    subst (λ (r : Relation). AreRows store c.push.new.self.items (rows_at store c.args.rows.now.items ++ relation_rows store r)) (sym c.in-AtMost.is)
    (one_more store c.args.rows.now.items c.push.new.self.items c.at_most.result (at_most d (pos 0)) c.requires.within c.in_ok-push-in-AtMost.ensures.items
    (c.at_most.ensures store d c.in_ok-form-in-AtMost.ensures.form))

pub returns-in_ok-push-in-Below : goal.returns-in_ok-push-in-Below
returns-in_ok-push-in-Below c =
    let store = c.args.store.now in
    let d = difference (tree_at store c.in-Below.a) (tree_at store c.in-Below.b) in
    subst (λ (r : Relation). AreRows store c.push-in-Below.new.self.items (rows_at store c.args.rows.now.items ++ relation_rows store r)) (sym c.in-Below.is)
    (one_more store c.args.rows.now.items c.push-in-Below.new.self.items c.at_most-in-Below.result (at_most d (negsuc 0)) c.requires.within
    c.in_ok-push-in-Below.ensures.items
    (c.at_most-in-Below.ensures store d c.in_ok-form-in-Below.ensures.form))
