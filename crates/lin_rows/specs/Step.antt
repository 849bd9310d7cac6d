-- One step of a merge of two lists of parts, which the code of `combine` and `is_sum` share.
use Rattle.std.specs.Prelude.{◌≡◌, ℕ, ◌+◌, ◌<◌, ◌≤◌, ℤ, List, drop, length}
use Rattle.lin_rows.specs.declared.row.RowPart.{RowPart}
use Rattle.lin_rows.specs.Sum.{with_part, sum_of_parts}

-- what is left of p times the one list and q times the other, from i and j on, is this part and then what is left from a and b on
pub record IsNextPart (left : List RowPart) (i : ℕ) (p : ℤ) (right : List RowPart) (j : ℕ) (q : ℤ) (part : RowPart) (a b : ℕ) : Type 0 where
  pub sum : sum_of_parts (drop i left) p (drop j right) q ≡ with_part part (sum_of_parts (drop a left) p (drop b right) q)
  pub onward : i + j < a + b
  pub in_left : a ≤ length left
  pub in_right : b ≤ length right
