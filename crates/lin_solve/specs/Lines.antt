-- The rows that stand, as lines of a certificate that grows.
use Rattle.std.specs.Prelude.{◌≡◌, ℕ, ◌<◌, ◌≤◌, List, [], ◌∷◌, ◌++◌, map, length, slice_index_or, pos, IsTrue, is_some, nat_eq, Option, Some, None}
use Rattle.std.specs.HashMap.{get}
use Rattle.std.specs.List.{AllByRecursion}
use Rattle.lin_rows.specs.Inequality.{Inequality}
use Rattle.lin_rows.specs.Sum.{is_multiplier}
use Rattle.lin_rows.specs.Cut.{cut, divides, tightened}
use Rattle.lin_cert.specs.declared.CertStep.{CertStep}
use Rattle.lin_cert.specs.declared.CertStep.TheVariants.{Take}
use Rattle.lin_cert.specs.declared.CertLine.{CertLine}
use Rattle.lin_cert.specs.Certificate.{are_within, IsDerivation}
use Rattle.lin_cert.specs.Certificate as certificate
use Rattle.elimination.specs.Elimination.{Progress, Going, kept_with, most_rows}
use Rattle.lin_solve.specs.declared.keeping.Kept.{Kept}
use Rattle.lin_solve.specs.declared.keeping.Tightened.{Tightened}
use Rattle.lin_solve.specs.declared.keeping.Tightened.TheVariants.{Same, By}
use Rattle.lin_solve.specs.Print.{print_of}

-- the row of a line; past the end it does not matter which
abbrev pub row_of : List CertLine → ℕ → Inequality
row_of lines k = (slice_index_or lines k (record { step = Take 0; row = record { parts = []; bound = pos 0 } })).row

abbrev pub rows_of : List CertLine → List ℕ → List Inequality
rows_of lines ks = map (row_of lines) ks

abbrev pub AreLines : List CertLine → List ℕ → Type 0
AreLines lines ks = AllByRecursion (λ k. k < length lines) ks

-- the lines of old, and perhaps more
pub record Extends (old new : List CertLine) : Type 0 where
  pub more : List CertLine
  pub whole : new ≡ old ++ more

-- the print of each kept line's row is found
abbrev pub AreFound : List CertLine → Kept → Type 0
AreFound lines kept =
    AllByRecursion (λ k. IsTrue (is_some (get nat_eq kept.places (print_of (row_of lines k))))) kept.lines.items

-- these are lines, all lines are within the limit, and they are not too many
pub record Stands (lines : List CertLine) (ks : List ℕ) : Type 0 where
  pub within : IsTrue (are_within lines)
  pub are_lines : AreLines lines ks
  pub few : length ks ≤ most_rows

-- and the table has the print of each
pub record HasTable (lines : List CertLine) (kept : Kept) : Type 0 where
  pub stands : Stands lines kept.lines.items
  pub found : AreFound lines kept

-- what a row is tightened to: itself, or the row cut by a number that divides its coefficients
abbrev pub IsTightened : Inequality → Tightened → Type 0
IsTightened row Same = tightened row ≡ row
IsTightened row (By g cut_row) =
    (tightened row ≡ cut_row) × (cut_row ≡ cut row g) × IsTrue (divides g row.parts) × IsTrue (is_multiplier g)

-- no row is new where an equal one stands; a new one is kept at the end
abbrev pub IsNew : List Inequality → Inequality → Option Tightened → Type 0
IsNew rows row None = kept_with rows (tightened row) ≡ Going rows
IsNew rows row (Some new) =
    (kept_with rows (tightened row) ≡ Going (rows ++ tightened row ∷ [])) × (length rows < most_rows) × IsTightened row new

-- lines that end in what a row is tightened to, where the step gives the row
pub record HasLine (old new : List CertLine) (step : CertStep) (row : Inequality) (k : ℕ) : Type 0 where
  pub here : k < length new
  pub row_here : row_of new k ≡ tightened row
  pub extends : Extends old new
  pub within : IsTrue (are_within new)
  pub derives : (given : List Inequality) → certificate.row_of given old step ≡ Some row → IsDerivation given old → IsDerivation given new

-- such lines, of which the last is kept
pub record HasKept (old : List CertLine) (kept : Kept) (new : List CertLine) (next : Kept) (step : CertStep) (row : Inequality) : Type 0 where
  pub rows : rows_of new next.lines.items ≡ rows_of old kept.lines.items ++ tightened row ∷ []
  pub table : HasTable new next
  pub extends : Extends old new
  pub derives : (given : List Inequality) → certificate.row_of given old step ≡ Some row → IsDerivation given old → IsDerivation given new

-- the rows that stand are those of the definition, and from rows of this kind the lines are still derived
pub record Goes (old new : List CertLine) (next : Kept) (progress : Progress) (From : List Inequality → Type 0) : Type 0 where
  pub going : progress ≡ Going (rows_of new next.lines.items)
  pub table : HasTable new next
  pub extends : Extends old new
  pub derives : (given : List Inequality) → From given → IsDerivation given old → IsDerivation given new

-- the same, where the table is of no use any more
pub record Leaves (old new : List CertLine) (ks : List ℕ) (progress : Progress) (From : List Inequality → Type 0) : Type 0 where
  pub going : progress ≡ Going (rows_of new ks)
  pub stands : Stands new ks
  pub derives : (given : List Inequality) → From given → IsDerivation given old → IsDerivation given new
