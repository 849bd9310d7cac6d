use Rattle.std.proofs.Common.{length}
use Rattle.term_store.proofs.Stores.{Holds-within}
use Rattle.item_terms.proofs.claims.set.Goals as goal

pub returns-clause-over : goal.returns-clause-over
returns-clause-over c =
    c.in_ok-set_variable.ensures.over (length c.args.sorts.now) c.read_small.new.store c.in_ok-id.ensures.over
    (Holds-within c.read_small.new.store c.in_ok-id.id _ c.in_ok-id.ensures.number)
