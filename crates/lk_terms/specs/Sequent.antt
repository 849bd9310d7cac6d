-- What a sequent is, as plain data.
use Rattle.lk_terms.specs.declared.sequent.Sequent.{Sequent}
use Rattle.lk_terms.specs.Validity.{SequentTree, sequent_tree}

abbrev pub sequent_of : Sequent → SequentTree
sequent_of s = sequent_tree s.sorts s.records s.facts s.goal
