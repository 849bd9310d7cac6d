-- Certificates: lists of rows, each of which is given, or follows from earlier ones. The last is a contradiction, so no whole numbers satisfy the given rows.
use Rattle.std.specs.Prelude.{◌≡◌, ℕ, ◌-◌, List, [], ◌∷◌, ◌++◌, Option, Some, None, option_map, slice_get, length, Bool, false, ◌&&◌, if◌then◌else◌, IsTrue, ℤ}
use Rattle.std.specs.List.{list_all}
use Rattle.lin_rows.specs.Inequality.{Inequality, is_contradiction, is_within}
use Rattle.lin_rows.specs.Sum.{combined, is_multiplier}
use Rattle.lin_rows.specs.Cut.{cut, divides}
use Rattle.lin_cert.specs.declared.CertStep.{CertStep}
use Rattle.lin_cert.specs.declared.CertStep.TheVariants.{Take, Comb, Cut}
use Rattle.lin_cert.specs.declared.CertLine.{CertLine}

-- the row of a line, none past the end
abbrev pub row_at : List CertLine → ℕ → Option Inequality
row_at lines i = option_map (λ line. line.row) (slice_get lines i)

abbrev pub sum_of : Option Inequality → ℤ → Option Inequality → ℤ → Option Inequality
sum_of None a y b = None
sum_of (Some x) a None b = None
sum_of (Some x) a (Some y) b = Some (combined x a y b)

abbrev pub cut_of : Option Inequality → ℤ → Option Inequality
cut_of None g = None
cut_of (Some x) g = if divides g x.parts then Some (cut x g) else None

-- the row that a step gives, none where the step is wrong
abbrev pub row_of : List Inequality → List CertLine → CertStep → Option Inequality
row_of rows earlier (Take i) = slice_get rows i
row_of rows earlier (Comb i a j b) =
    if is_multiplier a && is_multiplier b then sum_of (row_at earlier i) a (row_at earlier j) b else None
row_of rows earlier (Cut i g) = if is_multiplier g then cut_of (row_at earlier i) g else None

-- no number of a line's row is beyond the limit
abbrev pub are_within : List CertLine → Bool
are_within lines = list_all (λ line. is_within line.row) lines

-- the line has the row that its step gives, and no number of it is beyond the limit
pub record IsRight (rows : List Inequality) (earlier : List CertLine) (line : CertLine) : Type 0 where
  pub follows : row_of rows earlier line.step ≡ Some line.row
  pub within : IsTrue (is_within line.row)

-- each line is right over the lines before it
abbrev pub IsDerivationAfter : List Inequality → List CertLine → List CertLine → Type 0
IsDerivationAfter rows earlier [] = Unit {0}
IsDerivationAfter rows earlier (line ∷ lines) =
    IsRight rows earlier line × IsDerivationAfter rows (earlier ++ line ∷ []) lines

abbrev pub IsDerivation : List Inequality → List CertLine → Type 0
IsDerivation rows lines = IsDerivationAfter rows [] lines

abbrev pub is_contradiction_at : Option Inequality → Bool
is_contradiction_at None = false
is_contradiction_at (Some row) = is_contradiction row

-- the lines derive a contradiction from the rows
pub record IsAccepted (rows : List Inequality) (lines : List CertLine) : Type 0 where
  pub derives : IsDerivation rows lines
  pub refutes : IsTrue (is_contradiction_at (row_at lines (length lines - 1)))
