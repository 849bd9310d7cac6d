-- Sums of rows: like terms are collected, and those that come to 0 are left out.
use Rattle.std.specs.Prelude.{ℕ, ℤ, pos, ◌+ℤ◌, ◌*ℤ◌, List, [], ◌∷◌, ◌++◌, map, Bool, ◌&&◌, if◌then◌else◌, ◌==◌, nat_lt, int_le, ◌^◌}
use Rattle.std.specs.Ordering.{int_eq}
use Rattle.lin_rows.specs.declared.row.RowPart.{RowPart}
use Rattle.lin_rows.specs.Inequality.{Inequality}

-- what a variable is multiplied by, all parts together
abbrev pub coefficient : List RowPart → ℕ → ℤ
coefficient [] v = pos 0
coefficient (p ∷ ps) v = if p.var == v then p.times +ℤ coefficient ps v else coefficient ps v

-- in front, unless it is 0 times
abbrev pub with_part : RowPart → List RowPart → List RowPart
with_part p ps = if int_eq p.times (pos 0) then ps else p ∷ ps

-- one more part among parts whose variables rise
abbrev pub plus : RowPart → List RowPart → List RowPart
plus p [] = with_part p []
plus p (q ∷ qs) =
    if nat_lt p.var q.var then with_part p (q ∷ qs)
    else (if p.var == q.var then with_part (record { var = p.var; times = p.times +ℤ q.times }) qs
    else q ∷ plus p qs)

-- the parts by rising variables, one for each whose coefficient is not 0
abbrev pub collected : List RowPart → List RowPart
collected [] = []
collected (p ∷ ps) = plus p (collected ps)

abbrev pub multiplied : ℤ → List RowPart → List RowPart
multiplied k ps = map (λ p. record { var = p.var; times = k *ℤ p.times }) ps

-- a row may be multiplied by the numbers from 1 to 2 ^ 60
abbrev pub is_multiplier : ℤ → Bool
is_multiplier k = int_le (pos 1) k && int_le k (pos (2 ^ 60))

-- p times the one and q times the other
abbrev pub sum_of_parts : List RowPart → ℤ → List RowPart → ℤ → List RowPart
sum_of_parts left p right q = collected (multiplied p left ++ multiplied q right)

abbrev pub combined : Inequality → ℤ → Inequality → ℤ → Inequality
combined a p b q = record {
  parts = sum_of_parts a.parts p b.parts q;
  bound = p *ℤ a.bound +ℤ q *ℤ b.bound;
}
