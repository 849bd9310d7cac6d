-- What may stand before a token: blanks and comments. Places count bytes, and past its end a text reads as 0.
use Rattle.std.specs.Prelude.{◌≡◌, ◌≢◌, ℕ, ◌+◌, ◌<◌, ◌≤◌, Bool, false, ◌&&◌, ◌||◌, ◌==◌, List, length, slice_index, IsTrue}

-- space, tab and carriage return
abbrev pub is_blank : ℕ → Bool
is_blank b = b == 32 || b == 9 || b == 13

-- these two bytes stand at the place
abbrev pub has_pair : List ℕ → ℕ → ℕ → ℕ → Bool
has_pair text at a b = slice_index text at == a && slice_index text (at + 1) == b

-- `//` opens a line comment, `/*` a block comment, and `*/` closes that
abbrev pub opens_line : List ℕ → ℕ → Bool
opens_line text at = has_pair text at 47 47

abbrev pub opens_block : List ℕ → ℕ → Bool
opens_block text at = has_pair text at 47 42

abbrev pub closes_block : List ℕ → ℕ → Bool
closes_block text at = has_pair text at 42 47

-- a line comment begins at from and goes up to the newline at to, or up to the end of the text
pub record IsLineComment (text : List ℕ) (from to : ℕ) : Type 0 where
  pub opens : IsTrue (opens_line text from)
  pub behind : from + 2 ≤ to
  pub fits : to ≤ length text
  pub within : (k : ℕ) → from + 2 ≤ k → k < to → slice_index text k ≢ 10
  pub ends : to < length text → slice_index text to ≡ 10

-- a block comment begins at from, and the first `*/` behind its `/*` stands at close
pub record IsBlockComment (text : List ℕ) (from close : ℕ) : Type 0 where
  pub opens : IsTrue (opens_block text from)
  pub behind : from + 2 ≤ close
  pub closes : IsTrue (closes_block text close)
  pub within : (k : ℕ) → from + 2 ≤ k → k < close → closes_block text k ≡ false

-- a block comment begins at from and never ends
pub record IsOpenComment (text : List ℕ) (from : ℕ) : Type 0 where
  pub opens : IsTrue (opens_block text from)
  pub within : (k : ℕ) → from + 2 ≤ k → closes_block text k ≡ false

-- blanks and whole comments stand between two places, and nothing else
pub data Skips (text : List ℕ) : ℕ → ℕ → Type 0 where
  nothing : {at : ℕ} → Skips text at at
  blank : {at to : ℕ} → IsTrue (is_blank (slice_index text at)) → Skips text (at + 1) to → Skips text at to
  line : {at mid to : ℕ} → IsLineComment text at mid → Skips text mid to → Skips text at to
  block : {at close to : ℕ} → IsBlockComment text at close → Skips text (close + 2) to → Skips text at to

-- a blank or a comment begins at the place
abbrev pub begins_skip : List ℕ → ℕ → Bool
begins_skip text at = is_blank (slice_index text at) || opens_line text at || opens_block text at

-- the place to is the first from at on where neither a blank nor a comment stands
pub record Reaches (text : List ℕ) (at to : ℕ) : Type 0 where
  pub skips : Skips text at to
  pub stops : begins_skip text to ≡ false
