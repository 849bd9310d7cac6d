use Rattle.closing.proofs.NarrowRows.{case_atoms_narrow}
use Rattle.closing.proofs.RowShape.{case_rows_canonical}
use Rattle.closing.proofs.Steps.{case_rows_complete, case_rows_end}
use Rattle.closing.proofs.laws.rows_are_rows.Goals as goal

pub returns : goal.returns
returns c = λ records types literals. record {
  complete = case_rows_complete records types literals;
  last = case_rows_end records types literals;
  canonical = case_rows_canonical records types literals;
  narrow = case_atoms_narrow records types literals;
}
