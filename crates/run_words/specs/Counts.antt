-- Words that are a number.
use Rattle.std.specs.Prelude.{◌≡◌, ◌≤◌, ◌<◌, ◌^◌, ℕ, List, length}
use Rattle.slang_lexer.specs.Spelling.{IsNumber}
use Rattle.slang_lexer.specs.Next.{value_of}

-- The word is one to twenty digits, and this is their value, below 2 ^ 64.
pub record IsCountOf (word : List ℕ) (count : ℕ) : Type 0 where
  pub digits : IsNumber word
  pub most : length word ≤ 20
  pub value : count ≡ value_of word
  pub small : count < 2 ^ 64

abbrev pub own : ℕ → ℕ
own n = n
