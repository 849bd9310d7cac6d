-- An accepted certificate refutes its rows.
use Rattle.std.proofs.Common.{◌≡◌, ℕ, zero, suc, ◌-◌, List, [], ◌∷◌, ◌++◌, Option, Some, None, slice_get, length, Bool, true, false, ◌&&◌, cond, ℤ, pos, ◌≤ℤ◌, refl, subst, arith, append_assoc, append-nil}
use Rattle.std.specs.List.{AllByRecursion}
use Rattle.std.proofs.lemmas.Bool.{and_parts}
use Rattle.std.proofs.lemmas.Int.{ints}
use Rattle.lin_rows.specs.Inequality.{Inequality, Holds, HaveNoSolution}
use Rattle.lin_rows.specs.Sum.{combined, is_multiplier}
use Rattle.lin_rows.specs.Cut.{cut, divides}
use Rattle.lin_rows.proofs.SumLaws.{Holds-combined, contradiction_fails}
use Rattle.lin_rows.proofs.CutLaws.{Holds-cut}
use Rattle.lin_rows.proofs.SizeLemmas.{multiplier_bounds}
use Rattle.lin_cert.specs.declared.CertStep.{CertStep}
use Rattle.lin_cert.specs.declared.CertStep.TheVariants.{Take, Comb, Cut}
use Rattle.lin_cert.specs.declared.CertLine.{CertLine}
use Rattle.lin_cert.specs.Certificate.{row_at, sum_of, cut_of, row_of, IsDerivationAfter, is_contradiction_at, IsAccepted}

-- the rows of all lines are true of these values
abbrev AllHold : (ℕ → ℤ) → List CertLine → Type 0
AllHold x lines = AllByRecursion (λ line. Holds x line.row) lines

holds_given : (x : ℕ → ℤ) (rows : List Inequality) (i : ℕ) (row : Inequality) → AllByRecursion (Holds x) rows → slice_get rows i ≡ Some row → Holds x row
holds_given x [] i row h e = cc
holds_given x (r ∷ rs) zero row h e = let same : r ≡ row = cc in subst (Holds x) same h.0
holds_given x (r ∷ rs) (suc i) row h e = holds_given x rs i row h.1 e

holds_earlier : (x : ℕ → ℤ) (lines : List CertLine) (i : ℕ) (row : Inequality) → AllHold x lines → row_at lines i ≡ Some row → Holds x row
holds_earlier x [] i row h e = cc
holds_earlier x (l ∷ ls) zero row h e = let same : l.row ≡ row = cc in subst (Holds x) same h.0
holds_earlier x (l ∷ ls) (suc i) row h e = holds_earlier x ls i row h.1 e

holds_sum : (x : ℕ → ℤ) (o : Option Inequality) (a : ℤ) (p : Option Inequality) (b : ℤ) (row : Inequality) → pos 0 ≤ℤ a → pos 0 ≤ℤ b → ((y : Inequality) → o ≡ Some y → Holds x y) → ((y : Inequality) → p ≡ Some y → Holds x y) → sum_of o a p b ≡ Some row → Holds x row
holds_sum x None a p b row ha hb l r e = cc
holds_sum x (Some y) a None b row ha hb l r e = cc
holds_sum x (Some y) a (Some z) b row ha hb l r e =
    let same : combined y a z b ≡ row = cc in
    subst (Holds x) same (Holds-combined x y a z b ha hb (l y refl) (r z refl))

holds_cut : (x : ℕ → ℤ) (o : Option Inequality) (g : ℤ) (row : Inequality) → pos 1 ≤ℤ g → ((y : Inequality) → o ≡ Some y → Holds x y) → cut_of o g ≡ Some row → Holds x row
holds_cut x None g row h l e = cc
holds_cut x (Some y) g row h l e = by_test (divides g y.parts) refl e
  where
    by_test : (t : Bool) → divides g y.parts ≡ t → cond t (Some (cut y g)) None ≡ Some row → Holds x row
    by_test true d f = let same : cut y g ≡ row = cc in subst (Holds x) same ((Holds-cut x y g (omega (arith, ints)) d).0 (l y refl))
    by_test false d f = cc

-- what a step gives holds where the given rows and the earlier lines do
holds_step : (x : ℕ → ℤ) (rows : List Inequality) (earlier : List CertLine) (step : CertStep) (row : Inequality) → AllByRecursion (Holds x) rows → AllHold x earlier → row_of rows earlier step ≡ Some row → Holds x row
holds_step x rows earlier (Take i) row h k e = holds_given x rows i row h e
holds_step x rows earlier (Comb i a j b) row h k e = by_test (is_multiplier a && is_multiplier b) refl e
  where
    by_test : (t : Bool) → (is_multiplier a && is_multiplier b) ≡ t → cond t (sum_of (row_at earlier i) a (row_at earlier j) b) None ≡ Some row → Holds x row
    by_test true m f =
        let t = and_parts (is_multiplier a) (is_multiplier b) m in
        let ba = multiplier_bounds a t.0 in
        let bb = multiplier_bounds b t.1 in
        holds_sum x (row_at earlier i) a (row_at earlier j) b row (omega (arith, ints)) (omega (arith, ints)) (λ y q. holds_earlier x earlier i y k q) (λ y q. holds_earlier x earlier j y k q) f
    by_test false m f = cc
holds_step x rows earlier (Cut i g) row h k e = by_test (is_multiplier g) refl e
  where
    by_test : (t : Bool) → is_multiplier g ≡ t → cond t (cut_of (row_at earlier i) g) None ≡ Some row → Holds x row
    by_test true m f = holds_cut x (row_at earlier i) g row (multiplier_bounds g m).0 (λ y q. holds_earlier x earlier i y k q) f
    by_test false m f = cc

AllHold-push : (x : ℕ → ℤ) (lines : List CertLine) (line : CertLine) → AllHold x lines → Holds x line.row → AllHold x (lines ++ line ∷ [])
AllHold-push x [] line h k = (k, tt)
AllHold-push x (l ∷ ls) line h k = (h.0, AllHold-push x ls line h.1 k)

all_hold : (x : ℕ → ℤ) (rows : List Inequality) (earlier lines : List CertLine) → AllByRecursion (Holds x) rows → AllHold x earlier → IsDerivationAfter rows earlier lines → AllHold x (earlier ++ lines)
all_hold x rows earlier [] h k d = rw append-nil k
all_hold x rows earlier (line ∷ lines) h k d =
    let here = holds_step x rows earlier line.step line.row h k d.0.follows in
    rw (← append_assoc earlier (line ∷ []) lines) (all_hold x rows (earlier ++ line ∷ []) lines h (AllHold-push x earlier line k here) d.1)

no_contradiction : (x : ℕ → ℤ) (o : Option Inequality) → ((y : Inequality) → o ≡ Some y → Holds x y) → is_contradiction_at o ≡ true → ⊥
no_contradiction x None l e = cc
no_contradiction x (Some y) l e = contradiction_fails x y e (l y refl)

pub refuted : (rows : List Inequality) (lines : List CertLine) → IsAccepted rows lines → HaveNoSolution rows
refuted rows lines a x h =
    no_contradiction x (row_at lines (length lines - 1)) (λ y q. holds_earlier x lines (length lines - 1) y (all_hold x rows [] lines h tt a.derives) q) a.refutes
