-- The rows of a case, tried on a small one: they are computed.
use Rattle.std.proofs.Common.{◌≡◌, ℕ, List, [], ◌∷◌, ℤ, pos, negsuc, None, refl}
use Rattle.slang_values.specs.Tree.{Tree, literal, name, binary}
use Rattle.slang_values.specs.declared.operators.Binary.{Binary}
use Rattle.lin_rows.specs.Inequality.{Inequality}
use Rattle.lin_rows.specs.declared.row.RowPart.{RowPart}
use Rattle.closing.specs.Rows.{rows_of_case}

abbrev x : Tree ℕ
x = name 0

abbrev row : List RowPart → ℤ → Inequality
row parts bound = record { parts = parts; bound = bound }

abbrev at : ℕ → ℤ → RowPart
at n times = record { var = n; times = times }

-- `x / 2 < 0`: x is atom 0, and the quotient is atom 1
rows_of_half : rows_of_case [] (λ n. None) (binary Binary.Lt (binary Binary.Div x (literal (pos 2))) (literal (pos 0)) ∷ []) ≡
    row (at 1 (pos 1) ∷ []) (negsuc 0) ∷ row (at 0 (negsuc 0) ∷ at 1 (pos 2) ∷ []) (pos 1) ∷ row (at 0 (pos 1) ∷ at 1 (negsuc 1) ∷ []) (pos 1) ∷ []
rows_of_half = refl
