-- Rows that stand: whether one equals a row, and what stays when lines are added.
use Rattle.std.proofs.Common.{◌≡◌, ℕ, zero, suc, ◌<◌, ◌≤◌, Bool, true, false, ◌||◌, List, [], ◌∷◌, ◌++◌, length, get_or, ⊎_elim, ap, sym, refl, ◌∙◌, arith, lt-ltb, le-ltb}
use Rattle.std.specs.List.{list_any, AllByRecursion}
use Rattle.std.proofs.lemmas.Bool.{cases_Bool, false≢true}
use Rattle.lin_rows.specs.Inequality.{Inequality}
use Rattle.lin_rows.specs.Same.{same, Decides-same}
use Rattle.lin_cert.specs.declared.CertLine.{CertLine}
use Rattle.elimination.specs.Elimination.{Going, Ended, TooManyRows, kept_with, most_rows}
use Rattle.lin_solve.specs.Lines.{row_of, rows_of, AreLines}
use Rattle.lin_solve.specs.Print.{print_of}

-- ---- whether a row stands
pub or_right : (a b : Bool) → b ≡ true → (a || b) ≡ true
or_right true b e = refl
or_right false b e = e

or_false : (a b : Bool) → a ≡ false → b ≡ false → (a || b) ≡ false
or_false true b e f = e
or_false false b e f = f

pub any_here : (lines : List CertLine) (ks : List ℕ) (i d : ℕ) (row : Inequality) → i < length ks → same (row_of lines (get_or ks i d)) row ≡ true → list_any (λ r. same r row) (rows_of lines ks) ≡ true
any_here lines [] i d row h e = absurd (omega arith)
any_here lines (k ∷ ks) zero d row h e = ap (λ b. b || list_any (λ r. same r row) (rows_of lines ks)) e
any_here lines (k ∷ ks) (suc i) d row h e = or_right (same (row_of lines k) row) _ (any_here lines ks i d row (omega arith) e)

-- no row has this print, so none equals the row
pub none_there : (places : ℕ → Bool) (lines : List CertLine) (ks : List ℕ) (row : Inequality) → AllByRecursion (λ k. places (print_of (row_of lines k)) ≡ true) ks → places (print_of row) ≡ false → list_any (λ r. same r row) (rows_of lines ks) ≡ false
none_there places lines [] row h e = refl
none_there places lines (k ∷ ks) row h e =
    or_false (same (row_of lines k) row) _
    (⊎_elim (λ t. absurd (false≢true (sym e ∙ ap (λ (r : Inequality). places (print_of r)) (sym ((Decides-same (row_of lines k) row).0 t)) ∙ h.0))) (λ f. f) (cases_Bool (same (row_of lines k) row)))
    (none_there places lines ks row h.1 e)

-- ---- one more row
pub kept_with-there : (rows : List Inequality) (row : Inequality) → list_any (λ r. same r row) rows ≡ true → kept_with rows row ≡ Going rows
kept_with-there rows row h = rw h refl

pub kept_with-new : (rows : List Inequality) (row : Inequality) → list_any (λ r. same r row) rows ≡ false → length rows < most_rows → kept_with rows row ≡ Going (rows ++ row ∷ [])
kept_with-new rows row h l = rw (h, lt-ltb (length rows) most_rows l) refl

pub kept_with-full : (rows : List Inequality) (row : Inequality) → list_any (λ r. same r row) rows ≡ false → most_rows ≤ length rows → kept_with rows row ≡ Ended TooManyRows
kept_with-full rows row h l = rw (h, le-ltb (length rows) most_rows l) refl

pub length-rows : (lines : List CertLine) (ks : List ℕ) → length (rows_of lines ks) ≡ length ks
length-rows lines [] = refl
length-rows lines (k ∷ ks) = ap suc (length-rows lines ks)

-- ---- what holds of each element holds at a place
pub all_at : {X : Type 0} (P : X → Type 0) (xs : List X) (i : ℕ) (d : X) → AllByRecursion P xs → i < length xs → P (get_or xs i d)
all_at P [] i d a h = absurd (omega arith)
all_at P (x ∷ xs) zero d a h = a.0
all_at P (x ∷ xs) (suc i) d a h = all_at P xs i d a.1 (omega arith)

pub line_here : (lines : List CertLine) (ks : List ℕ) (i d : ℕ) → AreLines lines ks → i < length ks → get_or ks i d < length lines
line_here lines ks i d a h = all_at (λ k. k < length lines) ks i d a h
