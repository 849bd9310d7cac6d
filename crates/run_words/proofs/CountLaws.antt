-- Words that are a number.
use Rattle.std.proofs.Common.{◌≤◌, ◌<◌, ◌^◌, ℕ, List, length, Option, Some, None, sym, subst, ◌∙◌}
use Rattle.std.specs.Option.{SomeIff}
use Rattle.slang_lexer.specs.Spelling.{IsNumber}
use Rattle.slang_lexer.specs.Next.{value_of}
use Rattle.argument_fronts.specs.Only.{IsOnly}
use Rattle.run_words.specs.Counts.{own, IsCountOf}

-- the number that was counted, where it is below 2 ^ 64
pub counted : (word : List ℕ) (answer : Option ℕ) → length word ≤ 20 → IsNumber word → SomeIff answer (value_of word < 2 ^ 64) (value_of word)
    → IsOnly own (IsCountOf word) answer
counted word None short digits h = λ n is. h (subst (λ k. k < 2 ^ 64) is.value is.small)
counted word (Some n) short digits h = (
  record { digits = digits; most = short; value = h.1; small = subst (λ k. k < 2 ^ 64) (sym h.1) h.0 },
  λ m is. is.value ∙ sym h.1,
)
