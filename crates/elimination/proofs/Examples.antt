-- The definition, tried on rows: each end is computed.
use Rattle.std.proofs.Common.{◌≡◌, List, [], ◌∷◌, ℤ, pos, negsuc, refl}
use Rattle.whole_numbers.specs.Gcd.{gcd}
use Rattle.lin_rows.specs.declared.row.RowPart.{RowPart}
use Rattle.lin_rows.specs.Inequality.{Inequality}
use Rattle.elimination.specs.Elimination.{Closed, Open, elimination}

of : List RowPart → ℤ → Inequality
of parts bound = record { parts = parts; bound = bound }

x : ℤ → RowPart
x times = record { var = 0; times = times }

y : ℤ → RowPart
y times = record { var = 1; times = times }

-- x <= -1 and -x <= 0
contrary : elimination (of (x (pos 1) ∷ []) (negsuc 0) ∷ of (x (negsuc 0) ∷ []) (pos 0) ∷ []) ≡ Closed
unfolding gcd of x
contrary = refl

-- 2x <= 1
half : elimination (of (x (pos 2) ∷ []) (pos 1) ∷ []) ≡ Open
unfolding gcd of x
half = refl

-- 2x - 2y <= 1 and -2x + 2y <= -1
odd : elimination (of (x (pos 2) ∷ y (negsuc 1) ∷ []) (pos 1) ∷ of (x (negsuc 1) ∷ y (pos 2) ∷ []) (negsuc 0) ∷ []) ≡ Closed
unfolding gcd of x y
odd = refl

-- 2x - 3y <= 0, -2x + 3y <= 0, y <= 1 and -y <= -1, which a fraction satisfies and no whole number
three_halves : elimination (of (x (pos 2) ∷ y (negsuc 2) ∷ []) (pos 0) ∷ of (x (negsuc 1) ∷ y (pos 3) ∷ []) (pos 0) ∷ of (y (pos 1) ∷ []) (pos 1) ∷ of (y (negsuc 0) ∷ []) (negsuc 0) ∷ []) ≡ Open
unfolding gcd of x y
three_halves = refl
