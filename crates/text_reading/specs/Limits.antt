-- The limits of what is read, and the first byte past one.
use Rattle.std.specs.Prelude.{◌≡◌, ◌==◌, ℕ, ◌+◌, ◌≤◌, List, [], ◌∷◌, ◌++◌, length, count_by, Contains}
use Rattle.text_reading.specs.declared.limits.Limits.{Limits}

-- The limits of the source: 64 MiB, and 1 MiB in one line.
abbrev pub source_limits : Limits
source_limits = record { bytes = 67108864; line = 1048576 }

-- The byte of a newline.
abbrev pub newline : ℕ
newline = 10

-- The text has no more bytes than it may have, and no stretch of it without a newline is longer than a line may be.
pub record IsWithin (limits : Limits) (text : List ℕ) : Type 0 where
  pub bytes : length text ≤ limits.bytes
  pub lines : (before stretch after : List ℕ) → text ≡ before ++ stretch ++ after → ¬ Contains stretch newline → length stretch ≤ limits.line

-- The first byte past a limit: before it the text is within the limits, and with it no more. Its line is counted from 1.
pub record PassesIn (limits : Limits) (text : List ℕ) (line : ℕ) : Type 0 where
  pub front : List ℕ
  pub byte : ℕ
  pub rest : List ℕ
  pub whole : text ≡ front ++ byte ∷ rest
  pub within : IsWithin limits front
  pub past : ¬ IsWithin limits (front ++ byte ∷ [])
  pub line_is : line ≡ count_by (λ b. b == newline) front + 1
