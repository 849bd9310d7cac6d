-- Which token a piece of text is, and which longest token a text begins with.
use Rattle.std.proofs.Common.{◌≡◌, ℕ, zero, suc, ◌+◌, ◌<◌, ◌≤◌, Bool, true, false, not, List, [], ◌∷◌, length, take, get_or, Option, None, Some, refl, sym, ◌∙◌, ap, subst, inl, inr, ◌⊎◌, ⊎_elim, arith, length-take-le}
use Rattle.std.specs.Char.{is_ascii_digit, encode_utf8}
use Rattle.std.specs.List.{list_all, prefix_len}
use Rattle.std.specs.Option.{option_or, unwrap_or}
use Rattle.std.specs.Str.{is_utf8, chars, all_ascii_digits, IsUtf8, IsCharBoundary, encode_utf8_all}
use Rattle.std.proofs.lemmas.Bool.{both_ways, and_parts, and_from, not-true, false_from_ne_true, cond-true, cond-false, cases_Bool, cases_lt, lt-ltb, ltb-true}
use Rattle.std.proofs.lemmas.Bool.Decides.{nat_tests}
use Rattle.std.proofs.lemmas.Str.{IsUtf8-from_is_utf8, IsUtf8-from_ascii, IsCharBoundary-from_take, char_from_byte}
use Rattle.std.proofs.lemmas.List.{get_or_past, get_or-take, take_all}
use Rattle.std.proofs.lemmas.List.Sums.{prefix_len-le-length}
use Rattle.slang_lexer.specs.declared.token.TokenKind.{TokenKind}
use Rattle.slang_lexer.specs.declared.token.TokenKind.TheVariants as kind
use Rattle.slang_lexer.specs.Spelling.{signs, words, kind_in, kind_of, make_name, begins_name, is_name, is_number}
use Rattle.slang_lexer.specs.Scan.{first_at, NoLongerFront, IsLongestFront, IsLongestName}
use Rattle.slang_lexer.proofs.Names.{is_name_parts, IsUtf8-name}
use Rattle.slang_lexer.proofs.Rows.{in_order, IsFirst-from, kind_in-none, of_spellings, of_kinds, some_same, some≢none}

pub signs_in_order : in_order signs ≡ true
unfolding signs
signs_in_order = refl

-- words are names
words_named : list_all (λ row. is_name row.0) words ≡ true
unfolding words is_name is_utf8 chars encode_utf8
words_named = refl

pub word_is_name : (bytes : List ℕ) (k : TokenKind) → kind_in words bytes ≡ Some k → is_name bytes ≡ true
word_is_name bytes k h = of_spellings is_name words bytes k words_named h

signs_not_empty : kind_in signs [] ≡ None
unfolding signs
signs_not_empty = refl

signs_undigited : list_all (λ row. not (is_ascii_digit (get_or row.0 0 0))) signs ≡ true
unfolding signs
signs_undigited = refl

signs_utf8 : list_all (λ row. is_utf8 row.0) signs ≡ true
unfolding signs is_utf8 chars encode_utf8
signs_utf8 = refl

-- a table has rows for signs and words alone
abbrev is_fixed : TokenKind → Bool
is_fixed kind.End = false
is_fixed kind.Name = false
is_fixed kind.Number = false
is_fixed _ = true

signs_fixed : list_all (λ row. is_fixed row.1) signs ≡ true
unfolding signs
signs_fixed = refl

words_fixed : list_all (λ row. is_fixed row.1) words ≡ true
unfolding words
words_fixed = refl

-- ---- digits

abbrev starts_digit : List ℕ → Bool
starts_digit bytes = is_ascii_digit (get_or bytes 0 0)

digits_front : (bytes : List ℕ) (n : ℕ) → n ≤ prefix_len is_ascii_digit bytes → all_ascii_digits (take n bytes) ≡ true
digits_front bytes zero l = refl
digits_front [] (suc n) l = refl
digits_front (b ∷ bytes) (suc n) l =
    ⊎_elim
    (λ (e : is_ascii_digit b ≡ true).
    let more : prefix_len is_ascii_digit (b ∷ bytes) ≡ 1 + prefix_len is_ascii_digit bytes = cond-true _ _ _ e in
    and_from _ _ e (digits_front bytes n (omega (arith, more))))
    (λ e. let none : prefix_len is_ascii_digit (b ∷ bytes) ≡ 0 = cond-false _ _ _ e in absurd (omega (arith, none)))
    (cases_Bool _)

front_digits : (bytes : List ℕ) (n : ℕ) → n ≤ length bytes → all_ascii_digits (take n bytes) ≡ true → n ≤ prefix_len is_ascii_digit bytes
front_digits bytes zero l h = omega arith
front_digits [] (suc n) l h = absurd (omega arith)
front_digits (b ∷ bytes) (suc n) l h =
    let both = and_parts (is_ascii_digit b) (all_ascii_digits (take n bytes)) h in
    let more : prefix_len is_ascii_digit (b ∷ bytes) ≡ 1 + prefix_len is_ascii_digit bytes = cond-true (is_ascii_digit b) _ _ both.0 in
    let fits : n ≤ length bytes = omega arith in
    omega (arith, more, front_digits bytes n fits both.1)

pub number_from : (bytes : List ℕ) → 0 < length bytes → all_ascii_digits bytes ≡ true → is_number bytes ≡ true
unfolding is_number
number_from bytes some h = and_from _ _ (lt-ltb 0 (length bytes) some) h

pub number_parts : (bytes : List ℕ) → is_number bytes ≡ true → (0 < length bytes) × (all_ascii_digits bytes ≡ true)
unfolding is_number
number_parts bytes h =
    let both = and_parts _ _ h in
    (ltb-true 0 (length bytes) both.0, both.1)

-- a front longer than the digits is no number
no_number : (bytes : List ℕ) (m : ℕ) → prefix_len is_ascii_digit bytes < m → m ≤ length bytes → is_number (take m bytes) ≡ false
no_number bytes m l fits = false_from_ne_true _ (λ h. omega (arith, front_digits bytes m fits (number_parts (take m bytes) h).1))

-- digits begin a text just where its first byte is one
pub first_digit : (bytes : List ℕ) → 0 < prefix_len is_ascii_digit bytes → starts_digit bytes ≡ true
first_digit [] l = absurd (omega arith)
first_digit (b ∷ bytes) l =
    ⊎_elim (λ e. e) (λ (e : is_ascii_digit b ≡ false). let none : prefix_len is_ascii_digit (b ∷ bytes) ≡ 0 = cond-false _ _ _ e in absurd (omega (arith, none))) (cases_Bool _)

pub no_digits : (bytes : List ℕ) → prefix_len is_ascii_digit bytes ≡ 0 → is_number bytes ≡ true → ⊥
no_digits bytes none h =
    let parts = number_parts bytes h in
    let all = ap all_ascii_digits (take_all (length bytes) bytes (omega arith)) ∙ parts.1 in
    omega (arith, front_digits bytes (length bytes) (omega arith) all, parts.0)

digit_begins_none : (c : ℕ) → is_ascii_digit c ≡ true → begins_name c ≡ true → ⊥
digit_begins_none c h b = grind (arith, nat_tests)

-- a name begins with no digit
named_undigited : (bytes : List ℕ) → is_name bytes ≡ true → starts_digit bytes ≡ false
named_undigited bytes h =
    let parts = is_name_parts bytes h in
    undigited bytes parts.0 parts.1 parts.2
  where
    undigited : (bytes cs : List ℕ) → encode_utf8_all cs ≡ bytes → make_name cs ≡ true → starts_digit bytes ≡ false
    undigited bytes [] e m = absurd cc
    undigited bytes (c ∷ cs) e m = false_from_ne_true _ (λ d.
        let small : get_or bytes 0 0 < 128 = grind (arith, nat_tests) in
        let some : 0 < length bytes = ⊎_elim (λ l. l) (λ past. absurd (let zero = get_or_past bytes 0 0 past in grind (arith, nat_tests))) (cases_lt 0 (length bytes)) in
        let same = char_from_byte bytes (encode_utf8_all cs) c (sym e) small some in
        digit_begins_none c (subst (λ x. is_ascii_digit x ≡ true) (sym same) d) (and_parts _ _ m).0)

-- ---- which token

or_none : {A : Type 0} (o p : Option A) → o ≡ None → p ≡ None → option_or o p ≡ None
or_none None p n h = h
or_none (Some x) p n h = absurd (let e = n in cc)

or_first : {A : Type 0} (o p : Option A) (x : A) → o ≡ Some x → option_or o p ≡ Some x
or_first None p x h = absurd (let e = h in cc)
or_first (Some y) p x h = h

or_second : {A : Type 0} (o p q : Option A) → o ≡ None → p ≡ q → option_or o p ≡ q
or_second None p q n h = h
or_second (Some x) p q n h = absurd (let e = n in cc)

or_cases : {A : Type 0} (o p : Option A) (x : A) → option_or o p ≡ Some x → (o ≡ Some x) ⊎ (p ≡ Some x)
or_cases None p x h = inr h
or_cases (Some y) p x h = inl h

or_word : (o p : Option TokenKind) → p ≡ Some kind.Name → option_or o p ≡ Some (unwrap_or o kind.Name)
or_word None p h = h
or_word (Some x) p h = refl

none_from_ne_some : {A : Type 0} {o : Option A} → ((x : A) → o ≡ Some x → ⊥) → o ≡ None
none_from_ne_some {o = None} h = refl
none_from_ne_some {o = Some x} h = absurd (h x refl)

kind_none : (bytes : List ℕ) → kind_in signs bytes ≡ None → is_name bytes ≡ false → is_number bytes ≡ false → kind_of bytes ≡ None
unfolding kind_of
kind_none bytes s n d =
    or_none _ _ s (or_none _ _ (none_from_ne_some (λ k h. both_ways _ n (word_is_name bytes k h)))
    (cond-false _ _ _ n ∙ cond-false _ _ _ d))

kind_sign : (bytes : List ℕ) (k : TokenKind) → kind_in signs bytes ≡ Some k → kind_of bytes ≡ Some k
unfolding kind_of
kind_sign bytes k h = or_first _ _ k h

kind_name : (bytes : List ℕ) → kind_in signs bytes ≡ None → is_name bytes ≡ true → kind_of bytes ≡ Some (unwrap_or (kind_in words bytes) kind.Name)
unfolding kind_of
kind_name bytes s n = or_second _ _ _ s (or_word _ _ (cond-true _ _ _ n))

kind_number : (bytes : List ℕ) → kind_in signs bytes ≡ None → is_name bytes ≡ false → is_number bytes ≡ true → kind_of bytes ≡ Some kind.Number
unfolding kind_of
kind_number bytes s n d =
    or_second _ _ _ s (or_second _ _ _ (none_from_ne_some (λ k h. both_ways _ n (word_is_name bytes k h))) (cond-false _ _ _ n ∙ cond-true _ _ _ d))

-- how a token's kind comes about
pub data IsKind (bytes : List ℕ) (k : TokenKind) : Type 0 where
  sign : kind_in signs bytes ≡ Some k → IsKind bytes k
  word : kind_in words bytes ≡ Some k → IsKind bytes k
  name : k ≡ kind.Name → is_name bytes ≡ true → IsKind bytes k
  number : k ≡ kind.Number → is_number bytes ≡ true → IsKind bytes k

pub IsKind-from : (bytes : List ℕ) (k : TokenKind) → kind_of bytes ≡ Some k → IsKind bytes k
unfolding kind_of
IsKind-from bytes k h =
    ⊎_elim sign
    (λ rest. ⊎_elim word
    (λ last. ⊎_elim
    (λ (e : is_name bytes ≡ true). name (sym (some_same (sym (cond-true _ _ _ e) ∙ last))) e)
    (λ e. ⊎_elim
    (λ (d : is_number bytes ≡ true). number (sym (some_same (sym (cond-true _ _ _ d) ∙ (sym (cond-false _ _ _ e) ∙ last)))) d)
    (λ d. absurd (let n = sym (cond-false _ _ _ d) ∙ (sym (cond-false _ _ _ e) ∙ last) in cc))
    (cases_Bool _))
    (cases_Bool _))
    (or_cases _ _ k rest))
    (or_cases _ _ k h)

-- ---- the longest token at a front

le_zero : {n : ℕ} → n ≤ 0 → n ≡ 0
le_zero l = omega arith

-- where a digit stands first, no front is a sign or a name
module _ (bytes : List ℕ) (digit : starts_digit bytes ≡ true) where
  front_digit : (m : ℕ) → 0 < m → starts_digit (take m bytes) ≡ true
  front_digit m l = ap is_ascii_digit (get_or-take m bytes 0 0 l) ∙ digit

  no_sign : (m : ℕ) → 0 < m → kind_in signs (take m bytes) ≡ None
  no_sign m l = none_from_ne_some (λ k h.
      both_ways _ (not-true _ (of_spellings (λ z. not (starts_digit z)) signs (take m bytes) k signs_undigited h)) (front_digit m l))

  no_name : (m : ℕ) → 0 < m → is_name (take m bytes) ≡ false
  no_name m l = false_from_ne_true _ (λ h. both_ways _ (named_undigited (take m bytes) h) (front_digit m l))

pub IsLongestFront-number : (bytes : List ℕ) → 0 < prefix_len is_ascii_digit bytes → IsLongestFront bytes kind.Number (prefix_len is_ascii_digit bytes)
IsLongestFront-number bytes some =
    let n = prefix_len is_ascii_digit bytes in
    let fits : prefix_len is_ascii_digit bytes ≤ length bytes = prefix_len-le-length is_ascii_digit bytes in
    let digit = first_digit bytes some in
    record {
      nonempty = some;
      fits = fits;
      spells = kind_number (take n bytes) (no_sign bytes digit n some) (no_name bytes digit n some)
          (number_from (take n bytes) (omega (arith, length-take-le n bytes fits)) (digits_front bytes n (omega arith)));
      longest = λ m l end.
          let more : 0 < m = omega arith in
          kind_none (take m bytes) (no_sign bytes digit m more) (no_name bytes digit m more) (no_number bytes m l end);
    }

-- no front at least so long is a sign
abbrev pub NoSignFrom : List ℕ → ℕ → Type 0
NoSignFrom bytes len = (m : ℕ) → len ≤ m → m ≤ length bytes → kind_in signs (take m bytes) ≡ None

pub no_sign_none : (bytes : List ℕ) (len : ℕ) → first_at signs bytes ≡ None → NoSignFrom bytes len
no_sign_none bytes len h = λ m l end. kind_in-none signs bytes h m

pub no_sign_short : (bytes : List ℕ) (len : ℕ) (k : TokenKind) (n : ℕ) → first_at signs bytes ≡ Some (k, n) → n < len → NoSignFrom bytes len
no_sign_short bytes len k n h short = λ m l end. (IsFirst-from signs bytes k n signs_in_order h).longest m (omega arith) end

-- the other tokens, where no digit stands first and the longest name is known
module _ (bytes : List ℕ) (none : 0 < prefix_len is_ascii_digit bytes → ⊥) (len : ℕ) (named : IsLongestName bytes len) where
  not_number : (m : ℕ) → 0 < m → m ≤ length bytes → is_number (take m bytes) ≡ false
  not_number m l fits = no_number bytes m (⊎_elim (λ some. absurd (none some)) (λ z. omega arith) (cases_lt 0 (prefix_len is_ascii_digit bytes))) fits

  pub IsLongestFront-sign : (k : TokenKind) (n : ℕ) → first_at signs bytes ≡ Some (k, n) → len ≤ n → IsLongestFront bytes k n
  IsLongestFront-sign k n h l =
      let first = IsFirst-from signs bytes k n signs_in_order h in
      record {
        nonempty = ⊎_elim (λ some. some) (λ z. absurd (some≢none first.gives (ap (λ m. kind_in signs (take m bytes)) (le_zero z) ∙ signs_not_empty))) (cases_lt 0 n);
        fits = first.fits;
        spells = kind_sign (take n bytes) k first.gives;
        longest = λ m more end. kind_none (take m bytes) (first.longest m more end) (named.longest m (omega arith) end) (not_number m (omega arith) end);
      }

  pub IsLongestFront-name : NoSignFrom bytes len → 0 < len → IsLongestFront bytes (unwrap_or (kind_in words (take len bytes)) kind.Name) len
  IsLongestFront-name signs_end some = record {
    nonempty = some;
    fits = named.fits;
    spells = kind_name (take len bytes) (signs_end len (omega arith) named.fits) (named.name some);
    longest = λ m more end. kind_none (take m bytes) (signs_end m (omega arith) end) (named.longest m more end) (not_number m (omega arith) end);
  }

  pub NoLongerFront-none : NoSignFrom bytes len → (0 < len → ⊥) → NoLongerFront bytes 0
  NoLongerFront-none signs_end empty = λ m more end.
      let short : len ≤ 0 = ⊎_elim (λ some. absurd (empty some)) (λ z. z) (cases_lt 0 len) in
      kind_none (take m bytes) (signs_end m (omega arith) end) (named.longest m (omega arith) end) (not_number m more end)

-- ---- where a token may be cut

digits_ascii : (ds : List ℕ) → all_ascii_digits ds ≡ true → (i : ℕ) → get_or ds i 0 < 128
digits_ascii [] h i = omega arith
digits_ascii (d ∷ ds) h zero = let e = (and_parts (is_ascii_digit d) (all_ascii_digits ds) h).0 in grind (arith, nat_tests)
digits_ascii (d ∷ ds) h (suc i) = digits_ascii ds (and_parts (is_ascii_digit d) (all_ascii_digits ds) h).1 i

-- a token is text
pub IsUtf8-kind : (bytes : List ℕ) (k : TokenKind) → kind_of bytes ≡ Some k → IsUtf8 bytes
IsUtf8-kind bytes k h = of_kind (IsKind-from bytes k h)
  where
    of_kind : IsKind bytes k → IsUtf8 bytes
    of_kind (sign s) = IsUtf8-from_is_utf8 bytes (of_spellings is_utf8 signs bytes k signs_utf8 s)
    of_kind (word w) = IsUtf8-name bytes (word_is_name bytes k w)
    of_kind (name e n) = IsUtf8-name bytes n
    of_kind (number e d) = IsUtf8-from_ascii bytes (digits_ascii bytes (number_parts bytes d).1)

pub IsCharBoundary-token : (bytes : List ℕ) (k : TokenKind) (n : ℕ) → IsUtf8 bytes → IsLongestFront bytes k n → IsCharBoundary bytes n
IsCharBoundary-token bytes k n u front = IsCharBoundary-from_take bytes n u front.fits (IsUtf8-kind (take n bytes) k front.spells)

-- ---- kinds

fixed_is : (k : TokenKind) (bytes : List ℕ) → kind_of bytes ≡ Some k → (is_fixed k ≡ true) ⊎ (((k ≡ kind.Name) × (is_name bytes ≡ true)) ⊎ ((k ≡ kind.Number) × (is_number bytes ≡ true)))
fixed_is k bytes h = of_kind (IsKind-from bytes k h)
  where
    of_kind : IsKind bytes k → (is_fixed k ≡ true) ⊎ (((k ≡ kind.Name) × (is_name bytes ≡ true)) ⊎ ((k ≡ kind.Number) × (is_number bytes ≡ true)))
    of_kind (sign s) = inl (of_kinds is_fixed signs bytes k signs_fixed s)
    of_kind (word w) = inl (of_kinds is_fixed words bytes k words_fixed w)
    of_kind (name e n) = inr (inl (e, n))
    of_kind (number e d) = inr (inr (e, d))

-- the end is no piece of text
pub not_end : (bytes : List ℕ) → kind_of bytes ≡ Some kind.End → ⊥
not_end bytes h = ⊎_elim (λ f. both_ways _ refl f) (λ r. ⊎_elim (λ p. let e = p.0 in cc) (λ p. let e = p.0 in cc) r) (fixed_is kind.End bytes h)

-- a number is digits
pub number_is : (bytes : List ℕ) → kind_of bytes ≡ Some kind.Number → is_number bytes ≡ true
number_is bytes h = ⊎_elim (λ f. absurd (both_ways _ refl f)) (λ r. ⊎_elim (λ p. absurd (let e = p.0 in cc)) (λ p. p.1) r) (fixed_is kind.Number bytes h)

-- a name is letters
pub name_is : (bytes : List ℕ) → kind_of bytes ≡ Some kind.Name → is_name bytes ≡ true
name_is bytes h = ⊎_elim (λ f. absurd (both_ways _ refl f)) (λ r. ⊎_elim (λ p. p.1) (λ p. absurd (let e = p.0 in cc)) r) (fixed_is kind.Name bytes h)
