-- What the end of a case says.
use Rattle.std.specs.Prelude.{◌≡◌, ⊤, Result, Ok, Err}
use Rattle.whole_closing.specs.Closing.{Closing, closed, left_open, too_many_rows, too_wide}
use Rattle.store_atoms.specs.declared.end.RowsEnd.{RowsEnd}
use Rattle.store_atoms.specs.declared.end.RowsEnd.TheVariants as row_ends
use Rattle.lin_solve.specs.declared.SolveEnd.{SolveEnd}
use Rattle.lin_solve.specs.declared.SolveEnd.TheVariants as solve_ends
use Rattle.store_leaves.specs.declared.proof.LeafProof.{LeafProof}
use Rattle.store_leaves.specs.declared.end.LeafEnd.{LeafEnd}
use Rattle.store_leaves.specs.declared.end.LeafEnd.TheVariants as ends

-- The case is closed, or it is not for this reason, or there is no memory.
abbrev pub IsLeafEnd : Closing → Result LeafProof LeafEnd → Type 0
IsLeafEnd c (Ok x) = c ≡ closed
IsLeafEnd c (Err ends.Open) = c ≡ left_open
IsLeafEnd c (Err ends.Rows) = c ≡ too_many_rows
IsLeafEnd c (Err ends.Wide) = c ≡ too_wide
IsLeafEnd c (Err ends.NoMemory) = ⊤

-- ---- ends of the calls below

abbrev pub end_of_rows : RowsEnd → LeafEnd
end_of_rows row_ends.Wide = ends.Wide
end_of_rows row_ends.NoMemory = ends.NoMemory

abbrev pub end_of_solve : SolveEnd → LeafEnd
end_of_solve solve_ends.Rows = ends.Rows
end_of_solve solve_ends.Wide = ends.Wide
end_of_solve solve_ends.NoMemory = ends.NoMemory
