-- Rows that some whole numbers satisfy are not Closed: what holds of rows holds of the next ones.
use Rattle.std.proofs.Common.{◌≡◌, ◌≢◌, ℕ, zero, suc, ◌/◌, Bool, true, false, cond, List, [], ◌∷◌, Option, Some, None, ℤ, pos, unsigned_abs, ⊎_elim, refl, subst, arith}
use Rattle.std.specs.List.{list_any, AllByRecursion}
use Rattle.std.proofs.lemmas.Bool.{or_cases, false≢true}
use Rattle.std.proofs.lemmas.Int.{ints}
use Rattle.whole_numbers.specs.Gcd.{gcd}
use Rattle.lin_rows.specs.Inequality.{Inequality, IsCanonical, Holds, HaveNoSolution, is_contradiction}
use Rattle.lin_rows.specs.Sum.{coefficient}
use Rattle.lin_rows.specs.Cut.{tightened}
use Rattle.lin_rows.proofs.SumLaws.{Holds-combined, contradiction_fails}
use Rattle.lin_rows.proofs.CutLaws.{Holds-tightened}
use Rattle.elimination.specs.Elimination.{Closed, Open, TooManyRows, TooWide, Progress, Ended, and_then, started, combination, next_rows, chosen, eliminated, turn, turns, variable_count, elimination}
use Rattle.elimination.proofs.NextRows.{All-filter, All-map, Keeps, Keeps-and_then, Keeps-started, Keeps-next_rows, IsCanonical-combination}
use Rattle.elimination.proofs.Turns.{elimination-ends}

-- the rows that stand are true of these values, or they ended otherwise than Closed
abbrev Fine : (ℕ → ℤ) → Progress → Type 0
Fine x progress = Keeps (Holds x) (λ e. e ≢ Closed) progress

many : TooManyRows ≢ Closed
many e = cc

wide : TooWide ≢ Closed
wide e = cc

open_end : Open ≢ Closed
open_end e = cc

holds_combination : (x : ℕ → ℤ) (v : ℕ) (lower upper : Inequality) → Holds x lower → Holds x upper → Holds x (tightened (combination v lower upper))
holds_combination x v lower upper hl hu =
    let a = unsigned_abs (coefficient lower.parts v) in
    let b = unsigned_abs (coefficient upper.parts v) in
    (Holds-tightened x (combination v lower upper) (IsCanonical-combination v lower upper)).0
    (Holds-combined x lower (pos (b / gcd a b)) upper (pos (a / gcd a b)) (omega (arith, ints)) (omega (arith, ints)) hl hu)

fine_next : (x : ℕ → ℤ) (v : ℕ) (rows : List Inequality) → AllByRecursion (Holds x) rows → Fine x (next_rows v rows)
fine_next x v rows h =
    Keeps-next_rows (Holds x) (λ e. e ≢ Closed) many wide v rows
    (All-filter _ _ rows (All-map _ _ rows (λ r k _. k) h))
    (All-filter _ _ rows (All-map _ _ rows (λ l hl _. All-filter _ _ rows (All-map _ _ rows (λ u hu _. holds_combination x v l u hl hu) h)) h))

no_contradiction : (x : ℕ → ℤ) (rows : List Inequality) → AllByRecursion (Holds x) rows → list_any is_contradiction rows ≡ true → ⊥
no_contradiction x [] h e = false≢true e
no_contradiction x (row ∷ rows) h e =
    ⊎_elim (λ t. contradiction_fails x row t h.0) (λ t. no_contradiction x rows h.1 t) (or_cases (is_contradiction row) (list_any is_contradiction rows) e)

fine_turn : (x : ℕ → ℤ) (rows : List Inequality) → AllByRecursion (Holds x) rows → Fine x (turn rows)
fine_turn x rows h = by_tests (list_any is_contradiction rows) (chosen rows) refl
  where
    by_tests : (t : Bool) (o : Option ℕ) → list_any is_contradiction rows ≡ t → Fine x (cond t (Ended Closed) (eliminated o rows))
    by_tests true o e = absurd (no_contradiction x rows h e)
    by_tests false None e = open_end
    by_tests false (Some v) e = fine_next x v rows h

fine_turns : (x : ℕ → ℤ) (n : ℕ) (progress : Progress) → Fine x progress → Fine x (turns n progress)
fine_turns x zero progress h = h
fine_turns x (suc n) progress h = fine_turns x n (and_then progress turn) (Keeps-and_then (Holds x) (λ e. e ≢ Closed) many wide progress turn h (fine_turn x))

tightened_hold : (x : ℕ → ℤ) (rows : List Inequality) → AllByRecursion (λ row. IsCanonical row.parts) rows → AllByRecursion (Holds x) rows → AllByRecursion (λ row. Holds x (tightened row)) rows
tightened_hold x [] c h = tt
tightened_hold x (row ∷ rows) c h = ((Holds-tightened x row c.0).0 h.0, tightened_hold x rows c.1 h.1)

-- rows that some whole numbers satisfy end otherwise
pub Closed-refutes : (rows : List Inequality) → AllByRecursion (λ row. IsCanonical row.parts) rows → elimination rows ≡ Closed → HaveNoSolution rows
Closed-refutes rows c e x h =
    let n = suc (variable_count (started rows)) in
    let begun = Keeps-started (Holds x) (λ e. e ≢ Closed) many wide rows (tightened_hold x rows c h) in
    subst (Fine x) (elimination-ends rows) (fine_turns x n (started rows) begun) e
