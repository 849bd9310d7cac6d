-- What an object outside the program tells at two moments, and what its counts say of the calls between them.
use Rattle.std.specs.Prelude.{◌≡◌, ℕ, ◌+◌, ◌-◌, ◌^◌, min}

-- What an object told before a call, or before several, and what it tells now.
pub record Run (State : Type 0) : Type 0 where
  pub before : State
  pub now : State

abbrev pub run : {State : Type 0} → State → State → Run State
run old new = record { before = old; now = new }

-- A count of 64 bits after one more. At its end it stands still.
abbrev pub one_more : ℕ → ℕ
one_more count = min (count + 1) (2 ^ 64 - 1)

-- Such a count has risen by one.
abbrev pub Rose : ℕ → ℕ → Type 0
Rose before now = now ≡ one_more before
