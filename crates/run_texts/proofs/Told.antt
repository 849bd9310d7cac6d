-- The lines of runs are told apart by their first letters.
use Rattle.std.proofs.Common.{◌≡◌, ℕ, List, [], ◌∷◌, refl, ap, arith}
use Rattle.run_rules.specs.Runs.{ended, going, fails}
use Rattle.stopped_runs.specs.Runs.{reached, wide, out_of_visits}
use Rattle.run_texts.specs.Laws.{FailuresAreTold}

-- the first letter
abbrev first_of : List ℕ → ℕ
first_of [] = 0
first_of (x ∷ xs) = x

not_e : ◌≡◌ {A = ℕ} 101 102 → ⊥
not_e h = omega (arith, h)

not_g : ◌≡◌ {A = ℕ} 103 102 → ⊥
not_g h = omega (arith, h)

not_w : ◌≡◌ {A = ℕ} 119 102 → ⊥
not_w h = omega (arith, h)

not_v : ◌≡◌ {A = ℕ} 118 102 → ⊥
not_v h = omega (arith, h)

pub failures_are_told : FailuresAreTold
failures_are_told names (reached (ended values)) rest h = absurd (not_e (ap first_of h))
failures_are_told names (reached (going stack values)) rest h = absurd (not_g (ap first_of h))
failures_are_told names (reached (fails kind node)) rest h = record { kind = kind; node = node; failed = refl }
failures_are_told names (wide node) rest h = absurd (not_w (ap first_of h))
failures_are_told names (out_of_visits node) rest h = absurd (not_v (ap first_of h))
