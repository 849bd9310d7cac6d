use Rattle.std.proofs.Common.{◌≡◌, ℤ, List, to_z, of_z, sym, subst, arith}
use Rattle.std.proofs.lemmas.Int.{ints}
use mir.Syntax.{w128}
use Rattle.slang_lexer.specs.declared.token.TokenKind.TheVariants as kind
use Rattle.slang_tokens.specs.Tok.{Tok, toks}
use Rattle.argument_fronts.specs.Cursor.{StandBehindSign, tokens_in, front_of}
use Rattle.argument_fronts.specs.Numbers.{NumberFront, number_front, IsNumberFront, IsBelowFront}
use Rattle.argument_fronts.proofs.Only.{only_then}
use Rattle.argument_fronts.proofs.NumberFronts.{minus_split, minus_join, digits_split, digits_only}
use Rattle.argument_fronts.proofs.numbers.number_at.Goals as goal

pub returns-in-Some-clause-only : goal.returns-in-Some-clause-only
returns-in-Some-clause-only c =
    let before = toks c.args.tokens.now in
    only_then number_front tokens_in (IsNumberFront before) (StandBehindSign kind.Minus before)
    (λ (middle : List Tok) (a : NumberFront). IsBelowFront middle a) c.in-Some.rest c.in-Some.ensures.only
    (minus_split before (toks c.in-Some.rest.now) c.in-Some.ensures.only.0) (minus_join before) c.below_at.result c.below_at.ensures.only

pub returns-in-None-behind_text-clause-only : goal.returns-in-None-behind_text-clause-only
returns-in-None-behind_text-clause-only c =
    λ a h. let s = digits_split (toks c.args.tokens.now) c.in-None.ensures.only a h in c.in-None-behind_text.ensures.only s.0 s.1

pub returns-in-Some-number_value-clause-only : goal.returns-in-Some-number_value-clause-only
returns-in-Some-number_value-clause-only c =
    let before = toks c.args.tokens.now in
    let front = front_of c.in-Some-behind_text.digits in
    let z = c.in-Some-number_value.number in
    let found = c.in-Some-number_value.ensures in
    let same : to_z w128 (of_z w128 z) ≡ z = omega (arith, ints, found.1, found.0.1) in
    subst (λ (n : ℤ). IsNumberFront before (record { number = n; rest = front.rest })
    × ((a : NumberFront) → IsNumberFront before a → a ≡ record { number = n; rest = front.rest })) (sym same)
    (digits_only before c.in-None.ensures.only front z c.in-Some-behind_text.ensures.only found)
