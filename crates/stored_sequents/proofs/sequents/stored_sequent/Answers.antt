use Rattle.std.proofs.Common.{IfOk, map, subst}
use Rattle.term_trees.specs.Term.{tree}
use Rattle.term_store.specs.Store.{Holds, AreTreesOf}
use Rattle.term_store.proofs.Stores.{Holds-within}
use Rattle.stored_sequents.proofs.sequents.stored_sequent.Goals as goal

pub returns-clause-within : goal.returns-clause-within
returns-clause-within c =
    let store = c.add_claims.new.store in
    let sequent = c.args.sequent.now in
    let made = c.in_ok-sorts.ensures.parts.2 in
    let facts : AreTreesOf store c.in_ok-sorts.facts (map tree sequent.facts) =
    subst (λ r. IfOk r (λ p. AreTreesOf store p.0 (map tree sequent.facts))) made c.add_claims.ensures.facts in
    let goal : Holds store c.in_ok-sorts.goal (tree sequent.goal) = subst (λ r. IfOk r (λ p. Holds store p.1 (tree sequent.goal))) made c.add_claims.ensures.goal in
    record { facts = facts.within; goal = Holds-within store c.in_ok-sorts.goal (tree sequent.goal) goal }
