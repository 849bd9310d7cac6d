use Rattle.term_sorts.specs.Types.{record_types, types_of}
use Rattle.store_literals.specs.Places.{NoneOpposite}
use Rattle.store_literals.proofs.finding.opposites.Given as goal

abbrev pub invariant-loop-second : goal.invariant-loop-second
invariant-loop-second l = NoneOpposite (record_types l.records) (types_of l.symbols) l.store l.literals l.second
