-- From the front of a rest to a place in a text, and the values of numbers.
use Rattle.std.proofs.Common.{◌≡◌, ℕ, ◌+◌, ◌-◌, ◌<◌, ◌≤◌, ◌^◌, Bool, true, false, not, MatchBool, ⊎_elim, List, length, take, drop, get_or, slice_range, Option, None, Some, Result, Ok, Err, ℤ, pos, sym, ◌∙◌, ap, subst, arith, length-drop}
use Rattle.std.specs.Char.{is_ascii_digit}
use Rattle.std.specs.Option.{SomeIff, is_some}
use Rattle.std.specs.Result.{result_ok, OkIff}
use Rattle.std.specs.Int.{w128}
use Rattle.std.specs.Str.{IsUtf8, IsCharBoundary, all_ascii_digits}
use Rattle.std.specs.Str.Parse.{ParsesSigned}
use Rattle.std.proofs.lemmas.Bool.{cases_lt}
use Rattle.std.proofs.lemmas.Bool.Decides.{nat_tests}
use Rattle.std.proofs.lemmas.Str.{IsCharBoundary-from_rest}
use Rattle.std.proofs.lemmas.Str.Parse.{IsNumeralModel, numerals_by_value, tells_all_ascii_digits, parse_signed_plain}
use Rattle.slang_lexer.specs.declared.token.TokenKind.{TokenKind}
use Rattle.slang_lexer.specs.declared.token.TokenKind.TheVariants as kind
use Rattle.slang_lexer.specs.declared.token.Token.{Token}
use Rattle.slang_lexer.specs.Spelling.{kind_of, IsNumber}
use Rattle.slang_lexer.specs.Scan.{IsLongestFront}
use Rattle.slang_lexer.specs.Next.{IsLongest, IsTokenPlace, NextIsSpelled, bytes_of, value_of, IsWithinLimit}
use Rattle.slang_lexer.proofs.Fronts.{not_end, name_is, number_is, IsCharBoundary-token, number_parts, number_from}

-- the longest front of a rest is the longest token at its place
pub IsLongest-from_front : (text : List ℕ) (start : ℕ) (k : TokenKind) (n : ℕ) → IsLongestFront (drop start text) k n
    → IsLongest text (record { kind = k; start = start; end = start + n })
IsLongest-from_front text start k n front =
    let rest = length-drop start text in
    let nonempty : 0 < n = front.nonempty in
    let fits : n ≤ length (drop start text) = front.fits in
    let same : (start + n) - start ≡ n = omega arith in
    record {
      nonempty = omega arith;
      fits = omega arith;
      spells = ap (λ m. kind_of (take m (drop start text))) same ∙ front.spells;
      longest = λ m l end. front.longest (m - start) (omega arith) (omega arith);
    }

pub IsCharBoundary-front : (text : List ℕ) (start : ℕ) (k : TokenKind) (n : ℕ) → start ≤ length text → IsUtf8 (drop start text) → IsLongestFront (drop start text) k n → IsCharBoundary text (start + n)
IsCharBoundary-front text start k n l u front = IsCharBoundary-from_rest text start n l (IsCharBoundary-token (drop start text) k n u front)

-- what `parse` gives of digits
own : IsNumeralModel (λ ds. all_ascii_digits ds ≡ true) value_of
own = numerals_by_value _ tells_all_ascii_digits

pub parsed : {E : Type 0} (digits : List ℕ) (r : Result ℤ E) → is_ascii_digit (get_or digits 0 0) ≡ true → ParsesSigned w128 10 digits r
    → SomeIff (result_ok r) (IsNumber digits × IsWithinLimit digits) (pos (value_of digits))
parsed digits r digit h = from_parse r (parse_signed_plain own w128 digits r h (λ e. grind (arith, nat_tests)) (λ e. grind (arith, nat_tests)))
  where
    from_parse : {E : Type 0} (r : Result ℤ E) → OkIff r ((all_ascii_digits digits ≡ true) × (0 < length digits) × (value_of digits < 2 ^ 127)) (pos (value_of digits))
        → SomeIff (result_ok r) (IsNumber digits × IsWithinLimit digits) (pos (value_of digits))
    from_parse (Ok x) p = ((number_from digits p.0.1 p.0.0, p.0.2), p.1)
    from_parse (Err e) p = λ q. p ((number_parts digits q.0).1, (number_parts digits q.0).0, q.1)

-- what an `Option` that is `None` just where a bound is passed tells of it
pub too_large_is : {A : Type 0} (o : Option A) (t : Bool) (P : Type 0) (n limit : ℕ) (x : A) → SomeIff o (P × (n < limit)) x → is_some o ≡ not t → P → MatchBool t (limit ≤ n) (n < limit)
too_large_is None true P n limit x h e p = ⊎_elim (λ l. absurd (h (p, l))) (λ g. g) (cases_lt n limit)
too_large_is None false P n limit x h e p = absurd cc
too_large_is (Some y) true P n limit x h e p = absurd cc
too_large_is (Some y) false P n limit x h e p = h.0.1

pub IsTokenPlace-from : (text : List ℕ) (at start : ℕ) (token : Token) → at ≤ start → token.start ≡ start → IsCharBoundary text start → IsLongest text token → IsCharBoundary text token.end → IsTokenPlace text at token
IsTokenPlace-from text at start token l e cut long end = record {
  begins = omega arith;
  ordered = omega (arith, long.nonempty);
  fits = long.fits;
  cuts_start = subst (IsCharBoundary text) (sym e) cut;
  cuts_end = end;
  grows = λ k. long.nonempty;
  ends = λ k. absurd (not_end (slice_range text token.start token.end) (long.spells ∙ ap Some k));
}

name_not_end : kind.Name ≡ kind.End → ⊥
name_not_end e = cc

number_not_end : kind.Number ≡ kind.End → ⊥
number_not_end e = cc

pub next_is_spelled : NextIsSpelled
next_is_spelled text at token x = record {
  spells = λ k. ⊎_elim (λ e. absurd (k e.kind)) (λ l. l.spells) x.read;
  name = λ k. ⊎_elim (λ e. absurd (name_not_end (sym k ∙ e.kind))) (λ l. name_is (bytes_of text token) (l.spells ∙ ap Some k)) x.read;
  number = λ k. ⊎_elim (λ e. absurd (number_not_end (sym k ∙ e.kind))) (λ l. number_is (bytes_of text token) (l.spells ∙ ap Some k)) x.read;
}
