-- Where a part goes among others.
use Rattle.std.specs.Prelude.{◌≡◌, ℕ, ◌+◌, ◌≤◌, ℤ, pos, ◌+ℤ◌, ◌*ℤ◌, unsigned_abs, List, ◌∷◌, ◌++◌, take, drop, slice_get, Some, Result, Ok, Err, if◌then◌else◌}
use Rattle.std.specs.List.{AllByRecursion}
use Rattle.std.specs.Ordering.{int_eq}
use Rattle.slang_values.specs.Tree.{Tree}
use Rattle.tree_forms.specs.Form.{FormPart}
use Rattle.term_forms.specs.Place.{JoinsAt, StandsAt}
use Rattle.store_forms.specs.declared.form.IdPart.{IdPart}

-- it joins the part there, or else comes to stand there
abbrev pub IsPlaceIn : List FormPart → Tree ℕ → Result ℕ ℕ → Type 0
IsPlaceIn ps atom (Ok at) = JoinsAt ps atom at
IsPlaceIn ps atom (Err at) = StandsAt ps atom at

-- the times of the parts are within n
abbrev pub TimesOfWithin : ℕ → List IdPart → Type 0
TimesOfWithin n ps = AllByRecursion (λ p. unsigned_abs p.times ≤ n) ps

-- the parts behind p, with p in front so many times more, unless nothing is left of it
abbrev pub part_more : IdPart → ℤ → List IdPart → List IdPart
part_more p times rest =
    if int_eq (p.times +ℤ times) (pos 0) then rest else record { atom = p.atom; times = p.times +ℤ times } ∷ rest

-- the part there is taken so many times more
pub record IsJoinedThere (ps : List IdPart) (at : ℕ) (times : ℤ) (qs : List IdPart) : Type 0 where
  pub there : (p : IdPart) → slice_get ps at ≡ Some p → qs ≡ take at ps ++ part_more p times (drop (at + 1) ps)

abbrev pub multiplied : ℤ → IdPart → IdPart
multiplied k p = record { atom = p.atom; times = k *ℤ p.times }
