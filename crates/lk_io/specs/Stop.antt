-- What tells a long work that it is not wanted any more.
use Rattle.std.specs.Prelude.{◌≡◌, ℕ, max}

-- A poll: the greatest number that was polled is told from then on.
abbrev pub Polls : ℕ → ℕ → ℕ → Type 0
Polls before now answer = now ≡ max before answer
