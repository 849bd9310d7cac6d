use Rattle.std.proofs.Common.{true, false, sym, subst}
use Rattle.term_store.specs.Store.{Holds}
use Rattle.term_store.proofs.Gains.{number_of_tree}
use Rattle.term_store.proofs.Stores.{Holds-at}
use Rattle.store_alternatives.proofs.Numbers.{signed_sure, signed_denied}
use Rattle.store_alternatives.proofs.conditions.formula.Goals as goal

pub returns-then-signed-clause-number : goal.returns-then-signed-clause-number
returns-then-signed-clause-number c =
    let store = c.args.store.now in
    let signed = c.args.signed in
    Holds-at store signed.id _ c.requires (signed_sure store signed c.if-signed.true)

pub returns-else-signed-clause-number : goal.returns-else-signed-clause-number
returns-else-signed-clause-number c =
    let store = c.args.store.now in
    number_of_tree c.add_unary.result c.add_unary.new.store _ _ (signed_denied store c.args.signed c.if-signed.false) c.add_unary.ensures.number
