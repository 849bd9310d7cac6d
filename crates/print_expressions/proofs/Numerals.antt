-- The digits of a number.
use Rattle.std.proofs.Common.{◌≡◌, ℕ, suc, ◌+◌, ◌-◌, ◌^◌, ◌<◌, nat_eq, nat_lt, nat_le, Bool, true, false, ◌&&◌, cond, List, [], ◌∷◌, map, length, codes, IsTrue, refl, sym, ap, ap₂, ◌∙◌, arith, lt-ltb, eqb-true, le-leb}
use Rattle.std.specs.Int.Digits.{digits_of, number_from_digits, AllBelowBase}
use Rattle.std.specs.Str.{all_ascii_digits}
use Rattle.std.specs.Char.{digit_value, is_ascii_digit}
use Rattle.std.proofs.lemmas.Int.Digits.{digits_value_is, number_digits_of, all_below_base_digits_of}
use Rattle.std.proofs.lemmas.Bool.{le-ltb, eqb-false}
use Rattle.slang_lexer.specs.Spelling.{is_number}
use Rattle.slang_lexer.specs.Next.{value_of as number_value}
use Rattle.slang_grammar.specs.Parts.{is_numeral}
use Rattle.print_expressions.specs.Accounts.{numeral}
use Rattle.print_expressions.specs.Laws.{NumeralsReadBack}

abbrev digit : ℕ → ℕ
digit d = 48 + d

digit_is : (d : ℕ) → d < 10 → digit_value (digit d) ≡ d
digit_is d h =
    ap (λ b. cond b 36 (cond (nat_lt (digit d) 58) (digit d - 48) (rest (digit d)))) (le-ltb (digit d) 48 (omega arith))
    ∙ ap (λ b. cond b (digit d - 48) (rest (digit d))) (lt-ltb (digit d) 58 (omega arith))
    ∙ (let e : digit d - 48 ≡ d = omega arith in e)
  where
    rest : ℕ → ℕ
    rest c = cond (nat_lt c 65) 36 (cond (nat_lt c 91) (c - 55) (cond (nat_lt c 97) 36 (cond (nat_lt c 123) (c - 87) 36)))

digits_are : (ds : List ℕ) → AllBelowBase 10 ds → map digit_value (map digit ds) ≡ ds
digits_are [] h = refl
digits_are (d ∷ ds) h = ap₂ (λ x xs. x ∷ xs) (digit_is d h.0) (digits_are ds h.1)

digit_ascii : (d : ℕ) → d < 10 → is_ascii_digit (digit d) ≡ true
digit_ascii d h =
    ap (λ b. b && nat_le (digit d) 57) (le-leb 48 (digit d) (omega arith)) ∙ le-leb (digit d) 57 (omega arith)

all_ascii : (ds : List ℕ) → AllBelowBase 10 ds → all_ascii_digits (map digit ds) ≡ true
all_ascii [] h = refl
all_ascii (d ∷ ds) h = ap (λ b. b && all_ascii_digits (map digit ds)) (digit_ascii d h.0) ∙ all_ascii ds h.1

some_digit : (ds : List ℕ) (n : ℕ) → 0 < n → number_from_digits 10 ds ≡ n → nat_lt 0 (length (map digit ds)) ≡ true
some_digit [] n h e = absurd (let z : 0 ≡ n = e in omega arith)
some_digit (d ∷ ds) n h e = lt-ltb 0 (suc (length (map digit ds))) (omega arith)

positive_digits : (n : ℕ) → 0 < n → n < 2 ^ 127 → IsTrue (is_numeral (map digit (digits_of 10 n))) × (number_value (map digit (digits_of 10 n)) ≡ n)
unfolding is_number
positive_digits n h k =
    let below = all_below_base_digits_of 10 n (omega arith) in
    let value : number_value (map digit (digits_of 10 n)) ≡ n =
    digits_value_is 10 (map digit (digits_of 10 n)) ∙ ap (number_from_digits 10) (digits_are (digits_of 10 n) below) ∙ number_digits_of 10 n (omega arith) in (
      ap (λ b. (b && all_ascii_digits (map digit (digits_of 10 n))) && nat_lt (number_value (map digit (digits_of 10 n))) (2 ^ 127))
          (some_digit (digits_of 10 n) n h (number_digits_of 10 n (omega arith)))
          ∙ ap (λ b. b && nat_lt (number_value (map digit (digits_of 10 n))) (2 ^ 127)) (all_ascii (digits_of 10 n) below)
          ∙ ap (λ v. nat_lt v (2 ^ 127)) value
          ∙ lt-ltb n (2 ^ 127) k,
      value,
    )

zero_digits : IsTrue (is_numeral (codes "0")) × (number_value (codes "0") ≡ 0)
unfolding is_number
zero_digits = (refl, refl)

pub numerals_read_back : NumeralsReadBack
unfolding numeral
numerals_read_back n h = at (nat_eq n 0) refl
  where
    at : (b : Bool) → nat_eq n 0 ≡ b → IsTrue (is_numeral (cond b (codes "0") (map digit (digits_of 10 n))))
        × (number_value (cond b (codes "0") (map digit (digits_of 10 n))) ≡ n)
    at true e = (zero_digits.0, zero_digits.1 ∙ sym (eqb-true n 0 e))
    at false e = let k = eqb-false n 0 e in positive_digits n (omega arith) h
