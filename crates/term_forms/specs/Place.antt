-- Where a part goes.
use Rattle.std.specs.Prelude.{◌≡◌, ℕ, ◌+◌, ◌<◌, ◌≤◌, ℤ, List, ◌∷◌, ◌++◌, length, take, drop, slice_get, Some}
use Rattle.slang_values.specs.Tree.{Tree}
use Rattle.tree_forms.specs.Form.{FormPart, joined, inserted}
use Rattle.term_forms.specs.declared.parts.Place.{Place}
use Rattle.term_forms.specs.declared.parts.Place.TheVariants.{Joins, Stands}

-- a part with the atom, however often it is taken, is joined to the part there
pub record JoinsAt (ps : List FormPart) (atom : Tree ℕ) (at : ℕ) : Type 0 where
  pub there : at < length ps
  pub joins : (times : ℤ) (p : FormPart) → slice_get ps at ≡ Some p →
      inserted (record { atom = atom; times = times }) ps ≡ take at ps ++ joined p (record { atom = atom; times = times }) (drop (at + 1) ps)

-- it stands there, before the parts from there on
pub record StandsAt (ps : List FormPart) (atom : Tree ℕ) (at : ℕ) : Type 0 where
  pub there : at ≤ length ps
  pub stands : (times : ℤ) →
      inserted (record { atom = atom; times = times }) ps ≡ take at ps ++ record { atom = atom; times = times } ∷ drop at ps

abbrev pub IsPlaceIn : List FormPart → Tree ℕ → Place → Type 0
IsPlaceIn ps atom (Joins at) = JoinsAt ps atom at
IsPlaceIn ps atom (Stands at) = StandsAt ps atom at

-- the parts before that place have lesser atoms
pub record PassedTo (ps : List FormPart) (atom : Tree ℕ) (at : ℕ) : Type 0 where
  pub there : at ≤ length ps
  pub passes : (times : ℤ) →
      inserted (record { atom = atom; times = times }) ps ≡ take at ps ++ inserted (record { atom = atom; times = times }) (drop at ps)

-- the part there is taken so many times more
pub record IsJoined (ps : List FormPart) (at : ℕ) (times : ℤ) (qs : List FormPart) : Type 0 where
  pub joined_there : (p q : FormPart) → slice_get ps at ≡ Some p → q.times ≡ times →
      qs ≡ take at ps ++ joined p q (drop (at + 1) ps)
