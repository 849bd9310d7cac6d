use Rattle.std.proofs.Common.{◌≡◌, ◌∙◌, to_z, of_z, arith}
use Rattle.std.proofs.lemmas.Int.{ints}
use mir.Syntax.{w128}
use Rattle.slang_lexer.specs.Next.{value_of}
use Rattle.run_words.proofs.CountLaws.{counted}
use Rattle.run_words.proofs.counts.count_of.Goals as goal

pub returns-in-Some : goal.returns-in-Some
returns-in-Some c =
    let word = c.args.word.now in
    let found = c.in-Some.ensures in
    let z = c.in-Some.number in
    let same : to_z w128 (of_z w128 z) ≡ z = omega (arith, ints, found.1, found.0.1) in
    counted word c.narrowed.result c.if-word-gt-MOST_DIGITS.false found.0.0 (c.narrowed.ensures (value_of word) (same ∙ found.1))
