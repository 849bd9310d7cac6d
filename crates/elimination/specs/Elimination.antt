-- The elimination of variables from a list of rows, turn by turn in a fixed order, so that its end is a function of the rows.
use Rattle.std.specs.Prelude.{ℕ, zero, suc, ◌*◌, ◌/◌, ◌==◌, nat_lt, Bool, not, ◌&&◌, ◌||◌, if◌then◌else◌, List, [], ◌∷◌, ◌++◌, length, map, filter, fold, flat_map, Option, Some, None, pos, int_lt, unsigned_abs}
use Rattle.std.specs.List.{list_any}
use Rattle.whole_numbers.specs.Gcd.{gcd}
use Rattle.lin_rows.specs.Inequality.{Inequality, is_contradiction, is_within}
use Rattle.lin_rows.specs.Same.{same}
use Rattle.lin_rows.specs.Sum.{coefficient, combined}
use Rattle.lin_rows.specs.Cut.{tightened}

-- ---- what ends it

pub data Ending : Type 0 where
  Closed : Ending  -- a row is a contradiction
  Open : Ending  -- none is, and no row has a variable
  TooManyRows : Ending  -- one more row than the limit was to be kept
  TooWide : Ending  -- a combination has a number beyond the limit

-- rows that stand, or an ending
pub data Progress : Type 0 where
  Going : List Inequality → Progress
  Ended : Ending → Progress

-- ---- keeping rows

-- at most so many rows are kept
abbrev pub most_rows : ℕ
most_rows = 2000

-- a row is kept at the end, unless an equal one is there. One more than the limit is too many
abbrev pub kept_with : List Inequality → Inequality → Progress
kept_with rows row =
    if list_any (λ r. same r row) rows then Going rows
    else (if nat_lt (length rows) most_rows then Going (rows ++ row ∷ []) else Ended TooManyRows)

-- an ending stays
abbrev pub and_then : Progress → (List Inequality → Progress) → Progress
and_then (Going rows) f = f rows
and_then (Ended e) f = Ended e

-- at the start each row is tightened, and of equal rows the first is kept
abbrev pub started : List Inequality → Progress
started rows = fold (λ progress row. and_then progress (λ kept. kept_with kept (tightened row))) (Going []) rows

-- ---- the choice of a variable

-- a lower row of a variable has a coefficient below 0 there, an upper row one above 0
abbrev pub is_lower : ℕ → Inequality → Bool
is_lower v row = int_lt (coefficient row.parts v) (pos 0)

abbrev pub is_upper : ℕ → Inequality → Bool
is_upper v row = int_lt (pos 0) (coefficient row.parts v)

-- the row has the variable
abbrev pub has : ℕ → Inequality → Bool
has v row = is_lower v row || is_upper v row

-- some row has it
abbrev pub occurs : ℕ → List Inequality → Bool
occurs v rows = list_any (has v) rows

-- how many combinations would take the place of the variable's rows
abbrev pub cost : List Inequality → ℕ → ℕ
cost rows v = length (filter (is_lower v) rows) * length (filter (is_upper v) rows)

-- v goes before w: it costs less, or as much and is less itself
abbrev pub is_before : List Inequality → ℕ → ℕ → Bool
is_before rows v w = nat_lt (cost rows v) (cost rows w) || ((cost rows v == cost rows w) && nat_lt v w)

abbrev pub earlier : List Inequality → ℕ → ℕ → ℕ
earlier rows v w = if is_before rows w v then w else v

-- of each number the first
abbrev pub distinct : List ℕ → List ℕ
distinct [] = []
distinct (v ∷ vs) = v ∷ filter (λ w. not (v == w)) (distinct vs)

abbrev pub variables_of : Inequality → List ℕ
variables_of row = filter (λ v. has v row) (map (λ p. p.var) row.parts)

-- the variables of the rows, each once
abbrev pub variables : List Inequality → List ℕ
variables rows = distinct (flat_map variables_of rows)

-- the first to go, of a list of variables
abbrev pub first_of : List Inequality → List ℕ → Option ℕ
first_of rows [] = None
first_of rows (v ∷ vs) = Some (fold (earlier rows) v vs)

abbrev pub chosen : List Inequality → Option ℕ
chosen rows = first_of rows (variables rows)

-- ---- the next rows

-- Two rows with the coefficients -a and b of one variable, so multiplied that it cancels: each by the other's, without its sign, both divided by what they have in common
abbrev pub cancelled : ℕ → Inequality → ℕ → Inequality → Inequality
cancelled a lower b upper = combined lower (pos (b / gcd a b)) upper (pos (a / gcd a b))

abbrev pub combination : ℕ → Inequality → Inequality → Inequality
combination v lower upper =
    cancelled (unsigned_abs (coefficient lower.parts v)) lower (unsigned_abs (coefficient upper.parts v)) upper

-- a combination within the limit is tightened and kept
abbrev pub kept_with_sum : List Inequality → Inequality → Progress
kept_with_sum rows sum = if is_within sum then kept_with rows (tightened sum) else Ended TooWide

-- each lower row with each upper row in order
abbrev pub with_uppers : ℕ → List Inequality → Progress → Inequality → Progress
with_uppers v uppers progress lower =
    fold (λ p upper. and_then p (λ rows. kept_with_sum rows (combination v lower upper))) progress uppers

-- First the rows without the variable, in order. They were kept before, so each is kept again. Then the combinations
abbrev pub next_rows : ℕ → List Inequality → Progress
next_rows v rows =
    fold (with_uppers v (filter (is_upper v) rows)) (Going (filter (λ row. not (has v row)) rows)) (filter (is_lower v) rows)

-- ---- turns

abbrev pub eliminated : Option ℕ → List Inequality → Progress
eliminated None rows = Ended Open
eliminated (Some v) rows = next_rows v rows

abbrev pub turn : List Inequality → Progress
turn rows = if list_any is_contradiction rows then Ended Closed else eliminated (chosen rows) rows

-- what n turns come to
abbrev pub turns : ℕ → Progress → Progress
turns zero progress = progress
turns (suc n) progress = turns n (and_then progress turn)

abbrev pub ending_of : Progress → Ending
ending_of (Ended e) = e
ending_of (Going rows) = Open

-- how many variables there are to eliminate
abbrev pub variable_count : Progress → ℕ
variable_count (Going rows) = length (variables rows)
variable_count (Ended e) = 0

-- How the elimination of the rows ends. Each turn takes a variable away and brings none, so it has ended after one turn more than there are variables; `every_elimination_ends` says so.
abbrev pub elimination : List Inequality → Ending
elimination rows = ending_of (turns (suc (variable_count (started rows))) (started rows))
