-- What a prover answers.
use Rattle.std.specs.Prelude.{◌≡◌, ℕ, ◌≤◌, ◌<◌, map, Bool, true, false, Option, Some, None, Result, Ok, Err}
use Rattle.term_trees.specs.Term.{sort_type, tree}
use Rattle.lk_terms.specs.declared.sequent.Sequent.{Sequent}
use Rattle.validity.specs.Validity.{SequentTree}
use Rattle.proof_closing.specs.declared.prover.Closing.{Closing}
use Rattle.proof_closing.specs.declared.prover.CloseEnd.{CloseEnd}

-- the sequent as plain data
abbrev pub plain_sequent : Sequent → SequentTree
plain_sequent s = record { types = map sort_type s.sorts; records = map (map sort_type) s.records; facts = map tree s.facts; goal = tree s.goal }

abbrev pub IsAnswer : Closing → Bool → Type 0
IsAnswer Closing.Yes closed = closed ≡ true
IsAnswer Closing.No closed = closed ≡ false

-- ---- the work that a prover does

pub record Work : Type 0 where
  -- the number of the work
  pub mine : ℕ
  -- the greatest number that the prover was told
  pub told : ℕ

-- It was told of no later work.
abbrev pub IsCurrent : Work → Type 0
IsCurrent w = w.told ≤ w.mine

-- what a call that ended tells: it was stopped, and by which number
abbrev pub IsStopped : Work → Option ℕ → Type 0
IsStopped w None = IsCurrent w
IsStopped w (Some n) = (n ≡ w.told) × (w.mine < w.told)

-- How a call leaves its prover: the work is the same, what it was told has not fallen, and the call was stopped exactly where it is
-- now told of later work, whose number the end carries.
pub record Leaves (before after : Work) (stop : Option ℕ) : Type 0 where
  pub mine : after.mine ≡ before.mine
  pub told : before.told ≤ after.told
  pub stopped : IsStopped after stop

abbrev pub stop_of_end : CloseEnd → Option ℕ
stop_of_end (CloseEnd.Stopped told) = Some told
stop_of_end CloseEnd.NoMemory = None

abbrev pub stop_of : {A : Type 0} → Result A CloseEnd → Option ℕ
stop_of (Ok x) = None
stop_of (Err end) = stop_of_end end
