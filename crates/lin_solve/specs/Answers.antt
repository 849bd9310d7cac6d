-- What the code answers, against what the definition has.
use Rattle.std.specs.Prelude.{◌≡◌, List}
use Rattle.lin_rows.specs.Inequality.{Inequality}
use Rattle.lin_cert.specs.Certificate.{IsAccepted}
use Rattle.elimination.specs.Elimination.{Progress, Ended, TooManyRows, TooWide, elimination}
use Rattle.elimination.specs.Elimination.{Closed as EndsClosed, Open as EndsOpen}
use Rattle.lin_rows.specs.declared.row.RowEnd.{RowEnd}
use Rattle.lin_rows.specs.declared.row.RowEnd.TheVariants.{Wide as TooWideRow, NoMemory as NoMemoryRow}
use Rattle.lin_solve.specs.declared.Solved.{Solved}
use Rattle.lin_solve.specs.declared.Solved.TheVariants.{Closed, Open}
use Rattle.lin_solve.specs.declared.SolveEnd.{SolveEnd}
use Rattle.lin_solve.specs.declared.SolveEnd.TheVariants.{Rows, Wide, NoMemory}

-- ---- of the whole elimination
-- the end is that of the elimination of the rows, and the certificate is accepted for these very rows
abbrev pub IsAnswer : List Inequality → Solved → Type 0
IsAnswer rows (Closed certificate) = (elimination rows ≡ EndsClosed) × IsAccepted rows certificate
IsAnswer rows Open = elimination rows ≡ EndsOpen

-- each end but want of memory is that of the elimination
abbrev pub IsEnd : List Inequality → SolveEnd → Type 0
IsEnd rows Rows = elimination rows ≡ TooManyRows
IsEnd rows Wide = elimination rows ≡ TooWide
IsEnd rows NoMemory = Unit {0}

abbrev pub IsClosed : Solved → Type 0
IsClosed (Closed certificate) = Unit {0}
IsClosed Open = ⊥

-- ---- on the way
-- each end but want of memory is that of the definition
abbrev pub EndsAs : SolveEnd → Progress → Type 0
EndsAs Rows progress = progress ≡ Ended TooManyRows
EndsAs Wide progress = progress ≡ Ended TooWide
EndsAs NoMemory progress = Unit {0}

-- the end of a sum, as an end of the elimination
abbrev pub end_of_row : RowEnd → SolveEnd
end_of_row TooWideRow = Wide
end_of_row NoMemoryRow = NoMemory
