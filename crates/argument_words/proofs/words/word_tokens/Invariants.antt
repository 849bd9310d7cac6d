use Rattle.std.proofs.Common.{◌≡◌, ◌++◌, List, length}
use denote.Text.{Utf8}
use denote.Shadow.{shadow}
use Rattle.slang_tokens.specs.Tok.{Tok}
use Rattle.argument_words.specs.Words.{tokens_in, AreTokensOf}
use Rattle.argument_words.proofs.words.word_tokens.Given as goal

-- the tokens so far, in front of those of what is left, are those of the text, and the other way round
abbrev pub invariant-words : goal.invariant-words
invariant-words l = record {
  text : shadow (Utf8 l.left);
  sound : (more : List Tok) → AreTokensOf l.left more → AreTokensOf l.text (tokens_in l.tokens ++ more);
  complete : (all : List Tok) → AreTokensOf l.text all → (more : List Tok) × AreTokensOf l.left more × (all ≡ tokens_in l.tokens ++ more);
}

abbrev pub decreases-words : goal.decreases-words
decreases-words l = length l.left
