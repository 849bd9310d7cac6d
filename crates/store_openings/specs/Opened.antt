-- A sequent whose goal was opened once, by the numbers of the new facts and of the new goal.
use Rattle.std.specs.Prelude.{◌≡◌, ℕ, ◌+◌, List, [], ◌∷◌, ◌++◌, map, length, ◌⊎◌}
use Rattle.slang_values.specs.Value.{number_type}
use Rattle.term_trees.specs.Term.{sort_type}
use Rattle.term_store.specs.declared.sequent.IdSequent.{IdSequent}

pub record IsOpenedBy (above below goal : ℕ) (old new : IdSequent) : Type 0 where
  pub sorts : map sort_type new.sorts ≡ map sort_type old.sorts ++ number_type ∷ []
  pub count : length new.sorts ≡ length old.sorts + 1
  pub records : new.records ≡ old.records
  pub facts : new.facts ≡ old.facts ++ above ∷ below ∷ []
  pub goal_is : new.goal ≡ goal

-- where memory ran out: some of the facts may be there
pub record IsLeftBy (above : ℕ) (old new : IdSequent) : Type 0 where
  pub facts : (new.facts ≡ old.facts) ⊎ (new.facts ≡ old.facts ++ above ∷ [])
  pub goal : new.goal ≡ old.goal
