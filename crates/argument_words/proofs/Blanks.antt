-- The blanks and the digits in front of a text.
use Rattle.std.proofs.Common.{◌≡◌, ℕ, zero, suc, ◌+◌, ◌<◌, Bool, true, false, List, [], ◌∷◌, length, take, drop, get_or, refl, sym, ◌∙◌, subst, ⊎_elim, arith}
use Rattle.std.specs.List.{prefix_len, list_all}
use Rattle.std.specs.Char.{is_ascii_digit}
use Rattle.std.specs.Str.{IsUtf8, IsCharBoundary}
use Rattle.std.proofs.lemmas.Bool.{and_from, and_parts, cond-true, cond-false, cases_Bool}
use Rattle.std.proofs.lemmas.Bool.Decides.{nat_tests}
use Rattle.std.proofs.lemmas.List.{take-append-drop}
use Rattle.std.proofs.lemmas.List.Sums.{prefix_len-le-length}
use Rattle.std.proofs.lemmas.Str.{IsUtf8-from_ascii, IsCharBoundary-from_take}
use Rattle.slang_lexer.specs.declared.token.TokenKind.TheVariants as kind
use Rattle.slang_lexer.specs.Scan.{IsLongestFront}
use Rattle.slang_lexer.proofs.Fronts.{number_is, number_parts, IsLongestFront-number}
use Rattle.argument_rules.specs.Words.{is_blank}
use Rattle.argument_words.specs.Words.{IsBehindBlanks}

front_passes : (p : ℕ → Bool) (xs : List ℕ) → list_all p (take (prefix_len p xs) xs) ≡ true
front_passes p [] = refl
front_passes p (x ∷ xs) =
    ⊎_elim
    (λ (e : p x ≡ true).
    let next : 1 + prefix_len p xs ≡ suc (prefix_len p xs) = omega arith in
    let more : prefix_len p (x ∷ xs) ≡ suc (prefix_len p xs) = cond-true (p x) (1 + prefix_len p xs) 0 e ∙ next in
    subst (λ n. list_all p (take n (x ∷ xs)) ≡ true) (sym more) (and_from _ _ e (front_passes p xs)))
    (λ e. let none : prefix_len p (x ∷ xs) ≡ 0 = cond-false _ _ _ e in subst (λ n. list_all p (take n (x ∷ xs)) ≡ true) (sym none) refl)
    (cases_Bool _)

rest_stops : (p : ℕ → Bool) → p 0 ≡ false → (xs : List ℕ) → p (get_or (drop (prefix_len p xs) xs) 0 0) ≡ false
rest_stops p none [] = none
rest_stops p none (x ∷ xs) =
    ⊎_elim
    (λ (e : p x ≡ true).
    let next : 1 + prefix_len p xs ≡ suc (prefix_len p xs) = omega arith in
    let more : prefix_len p (x ∷ xs) ≡ suc (prefix_len p xs) = cond-true (p x) (1 + prefix_len p xs) 0 e ∙ next in
    subst (λ n. p (get_or (drop n (x ∷ xs)) 0 0) ≡ false) (sym more) (rest_stops p none xs))
    (λ e. let zero_is : prefix_len p (x ∷ xs) ≡ 0 = cond-false _ _ _ e in subst (λ n. p (get_or (drop n (x ∷ xs)) 0 0) ≡ false) (sym zero_is) e)
    (cases_Bool _)

blank_small : (b : ℕ) → is_blank b ≡ true → b < 128
blank_small b h = grind (arith, nat_tests)

blanks_ascii : (xs : List ℕ) → list_all is_blank xs ≡ true → (i : ℕ) → get_or xs i 0 < 128
blanks_ascii [] h i = omega arith
blanks_ascii (x ∷ xs) h zero = blank_small x (and_first x xs h)
  where
    and_first : (x : ℕ) (xs : List ℕ) → list_all is_blank (x ∷ xs) ≡ true → is_blank x ≡ true
    and_first x xs h = grind (arith, nat_tests)
blanks_ascii (x ∷ xs) h (suc i) = blanks_ascii xs (and_rest x xs h) i
  where
    and_rest : (x : ℕ) (xs : List ℕ) → list_all is_blank (x ∷ xs) ≡ true → list_all is_blank xs ≡ true
    and_rest x xs h = grind (arith, nat_tests)

pub blanks_cut : (text : List ℕ) (n : ℕ) → IsUtf8 text → n ≡ prefix_len is_blank text → IsCharBoundary text n
blanks_cut text n utf8 is =
    subst (IsCharBoundary text) (sym is)
    (IsCharBoundary-from_take text (prefix_len is_blank text) utf8 (prefix_len-le-length is_blank text)
    (IsUtf8-from_ascii (take (prefix_len is_blank text) text) (blanks_ascii _ (front_passes is_blank text))))

pub behind_there : (text : List ℕ) (n : ℕ) → n ≡ prefix_len is_blank text → IsBehindBlanks text (drop n text)
behind_there text n is =
    subst (λ k. IsBehindBlanks text (drop k text)) (sym is)
    (record {
      blanks = take (prefix_len is_blank text) text;
      are_blanks = front_passes is_blank text;
      spelled = sym (take-append-drop (prefix_len is_blank text) text);
      stops = rest_stops is_blank refl text;
    })

-- the longest front that is a number is the digits in front
pub digits_front : (text : List ℕ) (n : ℕ) → IsLongestFront text kind.Number n → IsLongestFront text kind.Number (prefix_len is_ascii_digit text)
digits_front text n front = IsLongestFront-number text (some text n front.nonempty (number_parts (take n text) (number_is (take n text) front.spells)))
  where
    some : (xs : List ℕ) (m : ℕ) → 0 < m → (0 < length (take m xs)) × (list_all is_ascii_digit (take m xs) ≡ true) → 0 < prefix_len is_ascii_digit xs
    some xs zero l h = absurd (omega (arith, l))
    some [] (suc m) l h = absurd (omega (arith, h.0))
    some (x ∷ xs) (suc m) l h =
        let more : prefix_len is_ascii_digit (x ∷ xs) ≡ 1 + prefix_len is_ascii_digit xs =
        cond-true (is_ascii_digit x) _ _ (and_parts (is_ascii_digit x) (list_all is_ascii_digit (take m xs)) h.1).0 in omega (arith, more)
