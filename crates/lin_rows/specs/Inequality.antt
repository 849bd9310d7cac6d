-- A row as contracts see it, and what it says of whole numbers.
use Rattle.std.specs.Prelude.{◌≢◌, ℕ, suc, ◌^◌, ◌≤◌, ℤ, pos, ◌+ℤ◌, ◌*ℤ◌, ◌≤ℤ◌, List, [], ◌∷◌, Bool, true, false, ◌&&◌, nat_le, unsigned_abs, int_lt}
use Rattle.std.specs.List.{list_all, AllByRecursion}
use Rattle.lin_rows.specs.declared.row.RowPart.{RowPart}

-- the sum of the parts is at most the bound
pub record Inequality : Type 0 where
  pub parts : List RowPart
  pub bound : ℤ

-- the variables rise, from low on, and no part is 0 times
abbrev pub RisesFrom : ℕ → List RowPart → Type 0
RisesFrom low [] = Unit {0}
RisesFrom low (p ∷ ps) = (low ≤ p.var) × (p.times ≢ pos 0) × RisesFrom (suc p.var) ps

abbrev pub IsCanonical : List RowPart → Type 0
IsCanonical parts = RisesFrom 0 parts

-- ---- what a row says

-- the sum of the parts, where x has the value of each variable
abbrev pub sum_at : (ℕ → ℤ) → List RowPart → ℤ
sum_at x [] = pos 0
sum_at x (p ∷ ps) = p.times *ℤ x p.var +ℤ sum_at x ps

-- the row is true of these values
abbrev pub Holds : (ℕ → ℤ) → Inequality → Type 0
Holds x row = sum_at x row.parts ≤ℤ row.bound

-- the rows are not all true of any whole numbers
abbrev pub HaveNoSolution : List Inequality → Type 0
HaveNoSolution rows = (x : ℕ → ℤ) → AllByRecursion (Holds x) rows → ⊥

abbrev pub is_empty : List RowPart → Bool
is_empty [] = true
is_empty (p ∷ ps) = false

-- a row that is true of no numbers, as its looks tell: no parts, and a negative bound
abbrev pub is_contradiction : Inequality → Bool
is_contradiction row = is_empty row.parts && int_lt row.bound (pos 0)

-- ---- the limit on numbers

-- at most 2 ^ 60, without the sign
abbrev pub is_small : ℤ → Bool
is_small z = nat_le (unsigned_abs z) (2 ^ 60)

abbrev pub are_small : List RowPart → Bool
are_small parts = list_all (λ p. is_small p.times) parts

-- no coefficient is beyond the limit, nor is the bound
abbrev pub is_within : Inequality → Bool
is_within row = is_small row.bound && are_small row.parts
