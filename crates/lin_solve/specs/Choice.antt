-- How many rows have each variable, and the first to go.
use Rattle.std.specs.Prelude.{ℕ, ◌+◌, ◌*◌, ◌==◌, nat_lt, nat_eq, Bool, ◌&&◌, ◌||◌, if◌then◌else◌, List, length, filter, fold, Option, Some, None, option_map, unwrap_or, ℤ, pos, int_lt}
use Rattle.std.specs.HashMap.{HashMap, get}
use Rattle.lin_rows.specs.Inequality.{Inequality}
use Rattle.elimination.specs.Elimination.{is_lower, is_upper}
use Rattle.lin_solve.specs.declared.choosing.Count.{Count}
use Rattle.lin_solve.specs.declared.choosing.Candidate.{Candidate}

-- ---- counts
abbrev pub no_rows : Count
no_rows = record { lower = 0; upper = 0 }

abbrev pub count_of : List Inequality → ℕ → Count
count_of rows v = record { lower = length (filter (is_lower v) rows); upper = length (filter (is_upper v) rows) }

-- one more row, with this coefficient
abbrev pub counted : Count → ℤ → Count
counted c z =
    if int_lt z (pos 0) then record { lower = c.lower + 1; upper = c.upper }
    else (if int_lt (pos 0) z then record { lower = c.lower; upper = c.upper + 1 } else c)

-- what a table has of a variable
abbrev pub count_at : {S : Type 0} → HashMap ℕ Count S → ℕ → Count
count_at counts v = unwrap_or (get nat_eq counts v) no_rows

-- ---- the first
-- v goes before w where it costs less, or as much and is less itself
abbrev pub goes_before : Candidate → Candidate → Bool
goes_before v w = nat_lt v.cost w.cost || ((v.cost == w.cost) && nat_lt v.variable w.variable)

abbrev pub earlier_of : Option Candidate → Candidate → Option Candidate
earlier_of None v = Some v
earlier_of (Some w) v = if goes_before v w then Some v else Some w

-- a variable that no row has is passed over
abbrev pub with_next : Option Candidate → ℕ → Count → Option Candidate
with_next best v c =
    if (c.lower == 0) && (c.upper == 0) then best
    else earlier_of best (record { variable = v; cost = c.lower * c.upper })

abbrev pub best_of : Option Candidate → List (ℕ × Count) → Option Candidate
best_of best entries = fold (λ b e. with_next b e.0 e.1) best entries

abbrev pub first_of : List (ℕ × Count) → Option ℕ
first_of entries = option_map (λ c. c.variable) (best_of None entries)
