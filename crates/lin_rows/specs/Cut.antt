-- Division of a row by a number that divides its coefficients. Its variables stand for whole numbers, so the bound may be rounded down.
use Rattle.std.specs.Prelude.{ℕ, ℤ, pos, List, [], ◌∷◌, map, Bool, if◌then◌else◌, unsigned_abs, int_div, int_rem}
use Rattle.std.specs.Int.{int_div_euclid}
use Rattle.std.specs.List.{list_all}
use Rattle.std.specs.Ordering.{int_eq}
use Rattle.whole_numbers.specs.Gcd.{gcd}
use Rattle.lin_rows.specs.declared.row.RowPart.{RowPart}
use Rattle.lin_rows.specs.Inequality.{Inequality, is_empty}

-- g divides each coefficient
abbrev pub divides : ℤ → List RowPart → Bool
divides g ps = list_all (λ p. int_eq (int_rem p.times g) (pos 0)) ps

abbrev pub cut_parts : ℤ → List RowPart → List RowPart
cut_parts g ps = map (λ p. record { var = p.var; times = int_div p.times g }) ps

-- the coefficients divided by g, and the floor of the bound's quotient
abbrev pub cut : Inequality → ℤ → Inequality
cut row g = record {
  parts = cut_parts g row.parts;
  bound = int_div_euclid row.bound g;
}

-- the greatest common divisor of the coefficients, 0 where there is none
abbrev pub divisor : List RowPart → ℕ
divisor [] = 0
divisor (p ∷ ps) = gcd (unsigned_abs p.times) (divisor ps)

-- cut by the greatest number that divides all coefficients. A row without parts stays as it is
abbrev pub tightened : Inequality → Inequality
tightened row = if is_empty row.parts then row else cut row (pos (divisor row.parts))
