-- The rows of a turn by what they have of its variable, as lines, and their combinations.
use Rattle.std.specs.Prelude.{◌≡◌, ℕ, ◌<◌, ◌≤◌, ◌^◌, List, map, fold, filter, length, not, unsigned_abs}
use Rattle.std.specs.List.{AllByRecursion}
use Rattle.lin_rows.specs.Inequality.{Inequality}
use Rattle.lin_rows.specs.Sum.{coefficient}
use Rattle.lin_cert.specs.declared.CertLine.{CertLine}
use Rattle.elimination.specs.Elimination.{Progress, and_then, kept_with_sum, cancelled, is_lower, is_upper, has}
use Rattle.lin_solve.specs.declared.turning.Side.{Side}
use Rattle.lin_solve.specs.declared.turning.Parted.{Parted}
use Rattle.lin_solve.specs.Lines.{row_of, rows_of, Stands}

-- ---- combinations
-- a line with a coefficient that a multiplier can cancel
pub record IsCombinable (lines : List CertLine) (side : Side) : Type 0 where
  pub here : side.line < length lines
  pub positive : 0 < side.size
  pub small : side.size ≤ 2 ^ 60

abbrev pub AreCombinable : List CertLine → List Side → Type 0
AreCombinable lines sides = AllByRecursion (IsCombinable lines) sides

-- the sum in which the coefficients of these sizes cancel
abbrev pub sum_of : List CertLine → Side → Side → Inequality
sum_of lines lower upper =
    cancelled lower.size (row_of lines lower.line) upper.size (row_of lines upper.line)

abbrev pub combined_with : List CertLine → List Side → Progress → Side → Progress
combined_with lines uppers progress lower =
    fold (λ p upper. and_then p (λ rows. kept_with_sum rows (sum_of lines lower upper))) progress uppers

abbrev pub combined_with_all : List CertLine → List Side → Progress → List Side → Progress
combined_with_all lines uppers progress lowers = fold (combined_with lines uppers) progress lowers

-- ---- the rows of a turn
-- the size is that of the row's coefficient
pub record IsSide (lines : List CertLine) (v : ℕ) (side : Side) : Type 0 where
  pub combinable : IsCombinable lines side
  pub size : side.size ≡ unsigned_abs (coefficient (row_of lines side.line).parts v)

-- the rows of these lines, in order
pub record AreSides (lines : List CertLine) (v : ℕ) (rows : List Inequality) (sides : List Side) : Type 0 where
  pub rows_here : map (λ side. row_of lines side.line) sides ≡ rows
  pub each : AllByRecursion (IsSide lines v) sides

pub record IsParted (lines : List CertLine) (rows : List Inequality) (v : ℕ) (parted : Parted) : Type 0 where
  pub stands : Stands lines parted.without.items
  pub without : rows_of lines parted.without.items ≡ filter (λ row. not (has v row)) rows
  pub lower : AreSides lines v (filter (is_lower v) rows) parted.lower.items
  pub upper : AreSides lines v (filter (is_upper v) rows) parted.upper.items
