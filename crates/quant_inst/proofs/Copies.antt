-- A copy of a sequent is that sequent.
use Rattle.std.proofs.Common.{◌≡◌}
use Rattle.term_store.specs.declared.sequent.IdSequent.{IdSequent}

pub same_sequent : (s t : IdSequent) → s.sorts ≡ t.sorts → s.records ≡ t.records → s.facts ≡ t.facts → s.goal ≡ t.goal → s ≡ t
same_sequent s t sorts records facts goal = λ i. record { sorts = sorts i; records = records i; facts = facts i; goal = goal i }
