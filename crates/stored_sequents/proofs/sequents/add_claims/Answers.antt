use Rattle.term_trees.specs.Term.{tree}
use Rattle.term_store.proofs.Stores.{Grows-Holds}
use Rattle.stored_sequents.proofs.sequents.add_claims.Goals as goal

pub returns-clause-goal : goal.returns-clause-goal
returns-clause-goal c =
    Grows-Holds c.add.new.self c.add_terms.new.store c.in_ok-goal.goal (tree c.args.sequent.now.goal) c.in_ok-facts.ensures.grows c.in_ok-goal.ensures.number
