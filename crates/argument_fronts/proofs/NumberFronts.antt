-- Numbers and truth values at the front of tokens.
use Rattle.std.proofs.Common.{◌≡◌, ℕ, ℤ, pos, neg_ℤ, ◌<◌, ◌≤◌, ◌^◌, Bool, true, false, List, [], ◌∷◌, ◌++◌, Option, Some, None, IsTrue, refl, sym, ap}
use Rattle.std.proofs.Common.{ap₂, ◌∙◌, subst, arith}
use Rattle.std.specs.Prelude.{nat_le, nat_lt, slice_index, ◌==◌, ◌≢◌, get_or, length, Result, Ok, Err}
use Rattle.std.specs.Str.{all_ascii_digits}
use Rattle.std.specs.Str.Parse.{ParsesUnsigned}
use Rattle.std.proofs.lemmas.Str.Parse.{IsNumeralModel, numerals_by_value, tells_all_ascii_digits, not_in_digits, parse_plain}
use Rattle.slang_lexer.specs.Spelling.{is_number}
use Rattle.slang_lexer.proofs.Fronts.{number_parts, number_from}
use Rattle.std.specs.Option.{SomeIff}
use Rattle.std.proofs.lemmas.Bool.{and_parts, and_from}
use Rattle.std.proofs.lemmas.Bool.Decides.{nat_tests}
use Rattle.slang_lexer.specs.declared.token.TokenKind.TheVariants as kind
use Rattle.slang_lexer.specs.Spelling.{IsNumber}
use Rattle.slang_lexer.specs.Next.{IsWithinLimit, value_of as number_value}
use Rattle.slang_tree.specs.declared.place.Place.{Place}
use Rattle.slang_tokens.specs.Tok.{Tok, sign}
use Rattle.slang_grammar.specs.Parts.{is_numeral, number_token}
use Rattle.argument_rules.specs.Arguments.{is_below_zero}
use Rattle.argument_fronts.specs.Cursor.{StandBehindSign, Front, IsFrontOf}
use Rattle.argument_fronts.specs.Numbers.{NumberFront, IsBelowFront, IsNumberFront, digits, below_zero}
use Rattle.argument_fronts.proofs.Fronts.{heads_same}

some_inj : {A : Type 0} {x y : A} → Some x ≡ Some y → x ≡ y
some_inj e = cc

minus_no_number : (m : Place) (text : List ℕ) (place : Place) → sign kind.Minus m ≡ number_token text place → ⊥
minus_no_number m text place h = let e = ap (λ (t : Tok). t.kind) h in cc

le_from : (a b : ℕ) → nat_le a b ≡ true → a ≤ b
le_from a b h = grind (arith, nat_tests, h)

le_true : (a b : ℕ) → a ≤ b → nat_le a b ≡ true
le_true a b h = grind (arith, nat_tests, h)

less_true : (a b : ℕ) → a < b → nat_lt a b ≡ true
less_true a b h = grind (arith, nat_tests, h)

small : (a : ℕ) → a ≤ 2 ^ 127 → a < 2 ^ 128
small a h = omega (arith, h)

abbrev pub DigitsFront : Front → NumberFront → Type 0
DigitsFront front a = IsTrue (is_numeral front.text) × (a.rest ≡ front.rest) × (a.number ≡ pos (number_value front.text))

module _ (before : List Tok) where
  pub minus_split : (middle : List Tok) → StandBehindSign kind.Minus before middle → (a : NumberFront) → IsNumberFront before a
      → (b : List Tok) × StandBehindSign kind.Minus before b × IsBelowFront b a
  minus_split middle there a (digits text place formed spelled is) =
      absurd (minus_no_number there.0 text place (heads_same (sign kind.Minus there.0) (number_token text place) middle a.rest (sym there.1 ∙ spelled)))
  minus_split middle there a (below_zero minus after spelled h) = (after, (minus, spelled), h)

  pub minus_join : (b : List Tok) (a : NumberFront) → StandBehindSign kind.Minus before b → IsBelowFront b a → IsNumberFront before a
  minus_join b a there h = below_zero there.0 b there.1 h

  pub digits_split : ((a : List Tok) → StandBehindSign kind.Minus before a → ⊥) → (a : NumberFront) → IsNumberFront before a
      → (front : Front) × IsFrontOf kind.Number before front × DigitsFront front a
  digits_split none a (digits text place formed spelled is) = (record { text = text; rest = a.rest }, (place, spelled), (formed, refl, is))
  digits_split none a (below_zero minus after spelled h) = absurd (none after (minus, spelled))

  pub digits_join : (front : Front) (a : NumberFront) → IsFrontOf kind.Number before front → DigitsFront front a → IsNumberFront before a
  digits_join front a there h =
      digits front.text there.0 h.0 (there.1 ∙ ap (λ ts. number_token front.text there.0 ∷ ts) (sym h.1)) h.2

  pub below_split : (a : NumberFront) → IsBelowFront before a
      → (front : Front) × IsFrontOf kind.Number before front × IsTrue (is_below_zero front.text) × (a.rest ≡ front.rest) × (a.number ≡ neg_ℤ (pos
      (number_value front.text)))
  below_split a h = (record { text = h.text; rest = a.rest }, (h.place, h.spelled), h.well_formed, refl, h.is)

  pub digits_only : ((a : List Tok) → StandBehindSign kind.Minus before a → ⊥) → (front : Front) (z : ℤ)
      → IsFrontOf kind.Number before front × ((a : Front) → IsFrontOf kind.Number before a → a ≡ front)
      → (IsNumber front.text × IsWithinLimit front.text) × (z ≡ pos (number_value front.text))
      → IsNumberFront before (record { number = z; rest = front.rest }) × ((a : NumberFront) → IsNumberFront before a
      → a ≡ record { number = z; rest = front.rest })
  digits_only none front z found is =
      let within = less_true (number_value front.text) (2 ^ 127) is.0.1 in (
        digits front.text found.0.0 (and_from _ _ is.0.0 within) found.0.1 is.1,
        λ a h. let s = digits_split none a h in
            let same = found.1 s.0 s.1 in
            ap₂ (λ (n : ℤ) (rest : List Tok). record { number = n; rest = rest })
            (s.2.2 ∙ ap (λ (f : Front). pos (number_value f.text)) same ∙ sym is.1) (s.2.1 ∙ ap (λ (f : Front). f.rest) same),
      )

-- ---- the digits behind a minus

own : IsNumeralModel (λ ds. all_ascii_digits ds ≡ true) number_value
own = numerals_by_value _ tells_all_ascii_digits

pub no_plus : (ds : List ℕ) → IsTrue (is_below_zero ds) → (slice_index ds 0 == 43) ≡ true → ⊥
no_plus ds h plus =
    let parts = number_parts ds (and_parts (is_number ds) (nat_le (number_value ds) (2 ^ 127)) h).0 in
    let same : get_or ds 0 0 ≡ 43 = grind (arith, nat_tests) in
    not_in_digits own ds 43 parts.1 (λ r. omega (arith, r.0)) 0 parts.0 same

some_digits : (ds : List ℕ) → (slice_index ds 0 == 43) ≡ false → get_or ds 0 0 ≢ 43
some_digits ds h = λ e. grind (arith, nat_tests)

pub below_ok : (ds : List ℕ) (n : ℕ) (answer : Option ℤ) → ParsesUnsigned {E = ℕ} 128 10 ds (Ok n) → (slice_index ds 0 == 43) ≡ false
    → SomeIff answer (n ≤ 2 ^ 127) (neg_ℤ (pos n)) → SomeIff answer (IsTrue (is_below_zero ds)) (neg_ℤ (pos (number_value ds)))
below_ok ds n None parses plus h = λ b.
    let is = parse_plain own {E = ℕ} 128 ds (Ok n) parses (some_digits ds plus) in
    let least = (and_parts (is_number ds) (nat_le (number_value ds) (2 ^ 127)) b).1 in
    h (subst (λ k. k ≤ 2 ^ 127) (sym is.1) (le_from (number_value ds) (2 ^ 127) least))
below_ok ds n (Some z) parses plus h =
    let is = parse_plain own {E = ℕ} 128 ds (Ok n) parses (some_digits ds plus) in (
      and_from _ _ (number_from ds is.0.1 is.0.0) (le_true (number_value ds) (2 ^ 127) (subst (λ k. k ≤ 2 ^ 127) is.1 h.0)),
      h.1
          ∙ ap (λ k. neg_ℤ (pos k)) is.1,
    )

pub below_err : (ds : List ℕ) → ParsesUnsigned {E = ℕ} 128 10 ds (Err 0) → (slice_index ds 0 == 43) ≡ false → IsTrue (is_below_zero ds) → ⊥
below_err ds parses plus b =
    let both = and_parts (is_number ds) (nat_le (number_value ds) (2 ^ 127)) b in
    let parts = number_parts ds both.0 in
    let least = le_from (number_value ds) (2 ^ 127) both.1 in
    parse_plain own {E = ℕ} 128 ds (Err 0) parses (some_digits ds plus) (parts.1, parts.0, small (number_value ds) least)
