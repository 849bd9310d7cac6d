-- The longest token at the front of the bytes of pieces is that of the first piece, and neither a blank nor a comment begins there.
use Rattle.std.proofs.Common.{◌≡◌, ◌≢◌, ℕ, zero, suc, ◌+◌, ◌-◌, ◌<◌, ◌≤◌, Bool, true, false, not, ◌&&◌, ◌||◌, List, [], ◌∷◌, ◌++◌, length, take, get_or, Option, Some, None, refl, sym, ◌∙◌, ap, subst, inl, inr, ◌⊎◌, ⊎_elim, arith, true≢false, eqb-true, length-append, length-take-le}
use Rattle.std.specs.Prelude.{nat_eq, nat_lt, IsTrue, ◌^◌}
use Rattle.std.specs.List.{list_all, list_any, starts_with, prefix_len}
use Rattle.std.specs.Char.{is_ascii_alphanumeric, is_ascii_digit}
use Rattle.std.specs.Str.{is_utf8, chars, NonePass, NoCharPasses, all_ascii_digits}
use Rattle.std.proofs.Math.Seq.{take-append_seam, get_or-append_seam}
use Rattle.std.proofs.lemmas.Bool.{and_parts, or_cases, cases_lt, cond-true, eq-eqb, lt-ltb, ltb-true, not-true, not-false, false_from_ne_true}
use Rattle.std.proofs.lemmas.Bool.Decides.{nat_tests}
use Rattle.std.proofs.lemmas.List.{get_or-take, get_or_append_left, take-take, take_all, get_or_past}
use Rattle.std.proofs.lemmas.Slice.Eq.{bytes_eq-Decides}
use Rattle.std.proofs.lemmas.Str.{NoCharPasses-byte}
use Rattle.slang_lexer.specs.declared.token.TokenKind.{TokenKind}
use Rattle.slang_lexer.specs.declared.token.TokenKind.TheVariants as kind
use Rattle.slang_lexer.specs.Spelling.{signs, words, kind_in, kind_of, is_name, is_number, continues_name}
use Rattle.slang_lexer.specs.Next.{value_of}
use Rattle.slang_lexer.specs.Scan.{IsLongestFront}
use Rattle.slang_lexer.specs.Comment.{is_blank, begins_skip}
use Rattle.slang_lexer.proofs.Rows.{of_spellings}
use Rattle.slang_lexer.proofs.Names.{is_name_parts, all_continue, stops_name}
use Rattle.slang_lexer.proofs.Places.{blank_is, pair_is}
use Rattle.slang_lexer.proofs.Fronts.{IsLongestFront-number, IsKind, sign, word, name, number, IsKind-from, word_is_name, number_parts, name_is}
use Rattle.slang_tokens.specs.Tok.{Tok, same_kind}
use Rattle.slang_grammar.specs.Parts.{is_numeral}
use Rattle.print_layout.specs.Pieces.{spelling}
use Rattle.laid_tokens.specs.Kinds.{has, closed_kinds, prefix_kinds, is_textual}
use Rattle.laid_tokens.specs.Laid.{IsSpelled}
use Rattle.laid_tokens.specs.Laid as laid
use Rattle.laid_tokens.proofs.Tables.{same_kinds, any_at, spelled, sign_kind, word_kind, word_named, sign_text, word_text, spelling_fixed, stops, sign_stops, no_longer, closed_is_longest, closed_sign, prefix_sign, sign_not_textual, no_blank, signs_no_blank, is_letter, cut, is_stop_byte, stop_cuts, stop_stops, bang_alone, minus_alone, signs_bang, signs_minus, begins_well, sign_begins}

-- ---- names and digits, byte by byte

continue_all : (cs : List ℕ) → list_all continues_name cs ≡ true → NonePass stops_name cs
continue_all [] h = tt
continue_all (c ∷ cs) h =
    let both = and_parts (continues_name c) (list_all continues_name cs) h in
    (ap not both.0, continue_all cs both.1)

name_chars : (bytes : List ℕ) → is_name bytes ≡ true → NoCharPasses stops_name bytes
name_chars bytes h = let parts = is_name_parts bytes h in (parts.0, parts.1, continue_all parts.0 (all_continue parts.0 parts.2))

digit_continues : (c : ℕ) → is_ascii_digit c ≡ true → continues_name c ≡ false → ⊥
digit_continues c h b = grind (arith, nat_tests)

digits_at : (ds : List ℕ) → all_ascii_digits ds ≡ true → (i : ℕ) → i < length ds → is_ascii_digit (get_or ds i 0) ≡ true
digits_at [] h i l = absurd (omega arith)
digits_at (d ∷ ds) h zero l = (and_parts (is_ascii_digit d) (all_ascii_digits ds) h).0
digits_at (d ∷ ds) h (suc i) l = digits_at ds (and_parts (is_ascii_digit d) (all_ascii_digits ds) h).1 i (omega arith)

-- bytes with one that no name goes on with are neither a name nor a number
module _ (bytes : List ℕ) (i : ℕ) (within : i < length bytes) (stop : stops (get_or bytes i 0) ≡ true) where
  parts : (nat_lt (get_or bytes i 0) 128 ≡ true) × (not (continues_name (get_or bytes i 0)) ≡ true)
  parts = and_parts (nat_lt (get_or bytes i 0) 128) (not (continues_name (get_or bytes i 0))) stop

  no_name : is_name bytes ≡ true → ⊥
  no_name h =
      true≢false (sym parts.1 ∙ NoCharPasses-byte stops_name bytes i (name_chars bytes h) within (ltb-true (get_or bytes i 0) 128 parts.0))

  no_number : is_number bytes ≡ true → ⊥
  no_number h =
      digit_continues (get_or bytes i 0) (digits_at bytes (number_parts bytes h).1 i within) (not-true (continues_name (get_or bytes i 0)) parts.1)

no_token : (bytes : List ℕ) → ((k : TokenKind) → kind_in signs bytes ≡ Some k → ⊥) → (is_name bytes ≡ true → ⊥) → (is_number bytes ≡ true → ⊥)
    → kind_of bytes ≡ None
no_token bytes no_sign no_name no_number = by (kind_of bytes) refl
  where
    of_kind : (k : TokenKind) → IsKind bytes k → ⊥
    of_kind k (sign s) = no_sign k s
    of_kind k (word w) = no_name (word_is_name bytes k w)
    of_kind k (name e n) = no_name n
    of_kind k (number e d) = no_number d

    by : (o : Option TokenKind) → kind_of bytes ≡ o → o ≡ None
    by None e = refl
    by (Some k) e = absurd (of_kind k (IsKind-from bytes k e))

-- ---- letters

letter_of_name : (bytes : List ℕ) (i : ℕ) → is_name bytes ≡ true → i < length bytes → is_letter (get_or bytes i 0) ≡ true
letter_of_name bytes i h l = by (cases_lt (get_or bytes i 0) 128)
  where
    b : ℕ
    b = get_or bytes i 0

    by : (b < 128) ⊎ (128 ≤ b) → is_letter b ≡ true
    by (inl small) =
        let continues = not-false (continues_name b) (NoCharPasses-byte stops_name bytes i (name_chars bytes h) l small) in
        let ascii : (is_ascii_alphanumeric b || nat_eq b 95) ≡ true = sym (cond-true (nat_lt b 128) _ _ (lt-ltb b 128 small)) ∙ continues in
        ap (λ c. nat_lt 127 b || c) ascii ∙ or_true (nat_lt 127 b)
      where
        or_true : (c : Bool) → (c || true) ≡ true
        or_true true = refl
        or_true false = refl
    by (inr large) = ap (λ c. c || (is_ascii_alphanumeric b || nat_eq b 95)) (lt-ltb 127 b (omega (arith, large)))

digit_is_letter : (b : ℕ) → is_ascii_digit b ≡ true → is_letter b ≡ true
digit_is_letter b h = grind (arith, nat_tests)

-- a byte that stands nowhere behind a letter
cut_at : (c : ℕ) (bytes : List ℕ) (i : ℕ) → cut c bytes ≡ true → suc i < length bytes → is_letter (get_or bytes i 0) ≡ true → get_or bytes (suc i) 0 ≡ c → ⊥
cut_at c [] i h l letter is = omega arith
cut_at c (a ∷ []) i h l letter is = omega arith
cut_at c (a ∷ b ∷ more) zero h l letter is =
    let first = (and_parts (not (nat_eq b c) || not (is_letter a)) (cut c (b ∷ more)) h).0 in
    ⊎_elim (λ (e : not (nat_eq b c) ≡ true). true≢false (sym (eq-eqb b c is) ∙ not-true (nat_eq b c) e))
    (λ (e : not (is_letter a) ≡ true). true≢false (sym letter ∙ not-true (is_letter a) e)) (or_cases (not (nat_eq b c)) (not (is_letter a)) first)
cut_at c (a ∷ b ∷ more) (suc i) h l letter is =
    cut_at c (b ∷ more) i (and_parts (not (nat_eq b c) || not (is_letter a)) (cut c (b ∷ more)) h).1 (omega arith) letter is

blank_at : (bytes : List ℕ) (i : ℕ) → no_blank bytes ≡ true → i < length bytes → get_or bytes i 0 ≡ 32 → ⊥
blank_at [] i h l is = omega arith
blank_at (b ∷ bytes) zero h l is =
    true≢false (sym (eq-eqb b 32 is) ∙ not-true (nat_eq b 32) (and_parts (not (nat_eq b 32)) (no_blank bytes) h).0)
blank_at (b ∷ bytes) (suc i) h l is = blank_at bytes i (and_parts (not (nat_eq b 32)) (no_blank bytes) h).1 (omega arith) is

-- ---- what may stand behind a token

-- bytes behind a token of this kind, with which none that begins there is longer
pub data Behind (k : TokenKind) (rest : List ℕ) : Type 0 where
  nothing : rest ≡ [] → Behind k rest
  blank : (more : List ℕ) → rest ≡ 32 ∷ more → Behind k rest
  closed : has closed_kinds k ≡ true → Behind k rest
  stop : (c : ℕ) (more : List ℕ) → is_textual k ≡ true → is_stop_byte c ≡ true → rest ≡ c ∷ more → Behind k rest
  prefix : has prefix_kinds k ≡ true → get_or rest 0 0 ≢ 61 → get_or rest 0 0 ≢ 62 → (get_or rest 0 0 ≡ 45 → get_or rest 1 0 ≢ 62) → Behind k rest

-- ---- the longest token

module _ (s rest : List ℕ) (m : ℕ) (longer : length s < m) (fits : m ≤ length (s ++ rest)) where
  whole : List ℕ
  whole = s ++ rest

  width : length (take m (s ++ rest)) ≡ m
  width = length-take-le m (s ++ rest) fits

  at_front : (i : ℕ) → i < length s → get_or (take m (s ++ rest)) i 0 ≡ get_or s i 0
  at_front i l = get_or-take m (s ++ rest) i 0 (omega (arith, longer, l)) ∙ get_or_append_left s rest 0 i l

  at_seam : (c : ℕ) (more : List ℕ) → rest ≡ c ∷ more → get_or (take m (s ++ rest)) (length s) 0 ≡ c
  at_seam c more e =
      get_or-take m (s ++ rest) (length s) 0 longer ∙ ap (λ r. get_or (s ++ r) (length s) 0) e ∙ get_or-append_seam s c more 0

  starts : starts_with nat_eq (take m (s ++ rest)) s ≡ true
  starts =
      (bytes_eq-Decides s (take (length s) (take m (s ++ rest)))).1
      (sym (take-take (length s) m (s ++ rest) (omega (arith, longer)) ∙ take-append_seam s rest))

  none_behind_blank : (more : List ℕ) → rest ≡ 32 ∷ more → kind_of (take m (s ++ rest)) ≡ None
  none_behind_blank more e =
      let is = at_seam 32 more e in
      let within : length s < length (take m (s ++ rest)) = omega (arith, width, longer) in
      no_token (take m (s ++ rest))
      (λ k h. blank_at (take m (s ++ rest)) (length s) (of_spellings no_blank signs (take m (s ++ rest)) k signs_no_blank h) within is)
      (no_name (take m (s ++ rest)) (length s) within (ap stops is)) (no_number (take m (s ++ rest)) (length s) within (ap stops is))

  none_behind_stop : (c : ℕ) (more : List ℕ) (last : ℕ) → rest ≡ c ∷ more → is_stop_byte c ≡ true → length s ≡ suc last → is_letter (get_or s last 0) ≡ true
      → kind_of (take m (s ++ rest)) ≡ None
  none_behind_stop c more last e stopping is_last letter =
      let is = at_seam c more e in
      let within : length s < length (take m (s ++ rest)) = omega (arith, width, longer) in
      let stops_there = ap stops is ∙ stop_stops c stopping in
      let behind : suc last < length (take m (s ++ rest)) = omega (arith, within, is_last) in
      no_token (take m (s ++ rest))
      (λ k h. cut_at c (take m (s ++ rest)) last (of_spellings (cut c) signs (take m (s ++ rest)) k (stop_cuts c stopping) h) behind
      (ap is_letter (at_front last (omega (arith, is_last))) ∙ letter) (ap (λ i. get_or (take m (s ++ rest)) i 0) (sym is_last) ∙ is))
      (no_name (take m (s ++ rest)) (length s) within stops_there) (no_number (take m (s ++ rest)) (length s) within stops_there)

  -- with a byte that no name goes on with, no longer front is a name or a number
  none_with : (p : List ℕ → Bool) → list_all (λ row. p row.0) signs ≡ true → (p (take m (s ++ rest)) ≡ true → ⊥) → list_any stops s ≡ true
      → kind_of (take m (s ++ rest)) ≡ None
  none_with p all none halts =
      let at = any_at stops s halts in
      let within : at.0 < length (take m (s ++ rest)) = omega (arith, width, longer, at.1) in
      let stops_there = ap stops (at_front at.0 at.1) ∙ at.2 in
      no_token (take m (s ++ rest)) (λ k h. none (of_spellings p signs (take m (s ++ rest)) k all h))
      (no_name (take m (s ++ rest)) at.0 within stops_there) (no_number (take m (s ++ rest)) at.0 within stops_there)

  none_behind_closed : (p : list_all (λ row. no_longer s row.0) signs ≡ true) → list_any stops s ≡ true → kind_of (take m (s ++ rest)) ≡ None
  none_behind_closed all halts =
      none_with (no_longer s) all
      (λ h. ⊎_elim (λ (e : not (starts_with nat_eq (take m (s ++ rest)) s) ≡ true). true≢false (sym starts ∙ not-true _ e))
      (λ (e : nat_eq (length (take m (s ++ rest))) (length s) ≡ true). let same = eqb-true _ _ e in omega (arith, same, width, longer))
      (or_cases (not (starts_with nat_eq (take m (s ++ rest)) s)) (nat_eq (length (take m (s ++ rest))) (length s)) h)) halts

-- behind a `!` or a minus
module _ (rest : List ℕ) (m : ℕ) (longer : 1 < m) where
  second : (b : ℕ) → get_or (take m (b ∷ rest)) 1 0 ≡ get_or rest 0 0
  second b = get_or-take m (b ∷ rest) 1 0 longer

  first : (b : ℕ) → get_or (take m (b ∷ rest)) 0 0 ≡ b
  first b = get_or-take m (b ∷ rest) 0 0 (omega (arith, longer))

  not_bang : m ≤ suc (length rest) → get_or rest 0 0 ≢ 61 → bang_alone (take m (33 ∷ rest)) ≡ true → ⊥
  not_bang fits apart h =
      ⊎_elim (λ (e : not (nat_eq (get_or (take m (33 ∷ rest)) 0 0) 33) ≡ true). true≢false (sym (eq-eqb _ _ (first 33)) ∙ not-true _ e))
      (λ more. ⊎_elim (λ (e : nat_eq (length (take m (33 ∷ rest))) 1 ≡ true). let same = eqb-true _ _ e in let w = length-take-le m
      (33 ∷ rest) fits in omega (arith, same, w, longer))
      (λ (e : nat_eq (get_or (take m (33 ∷ rest)) 1 0) 61 ≡ true). apart (sym (second 33) ∙ eqb-true _ _ e))
      (or_cases (nat_eq (length (take m (33 ∷ rest))) 1) (nat_eq (get_or (take m (33 ∷ rest)) 1 0) 61) more))
      (or_cases (not (nat_eq (get_or (take m (33 ∷ rest)) 0 0) 33)) (nat_eq (length (take m (33 ∷ rest))) 1 || nat_eq (get_or (take m (33 ∷ rest)) 1 0) 61) h)

  not_minus : m ≤ suc (length rest) → get_or rest 0 0 ≢ 62 → (get_or rest 0 0 ≡ 45 → get_or rest 1 0 ≢ 62) → minus_alone (take m (45 ∷ rest)) ≡ true → ⊥
  not_minus fits apart twice h =
      ⊎_elim (λ (e : not (nat_eq (get_or x 0 0) 45) ≡ true). true≢false (sym (eq-eqb _ _ (first 45)) ∙ not-true _ e))
      (λ more. ⊎_elim (λ (e : nat_eq (length x) 1 ≡ true). let same = eqb-true _ _ e in omega (arith, same, w, longer))
      (λ last. ⊎_elim (λ (e : nat_eq (get_or x 1 0) 62 ≡ true). apart (sym (second 45) ∙ eqb-true _ _ e))
      (λ both.
      let parts = and_parts (nat_eq (get_or x 1 0) 45) (nat_eq (get_or x 2 0) 62) both in
      let is_third = eqb-true (get_or x 2 0) 62 parts.1 in
      twice (sym (second 45) ∙ eqb-true _ _ parts.0) (sym (third (cases_lt 2 m) is_third) ∙ is_third))
      (or_cases (nat_eq (get_or x 1 0) 62) (nat_eq (get_or x 1 0) 45 && nat_eq (get_or x 2 0) 62) last))
      (or_cases (nat_eq (length x) 1) (nat_eq (get_or x 1 0) 62 || (nat_eq (get_or x 1 0) 45 && nat_eq (get_or x 2 0) 62)) more))
      (or_cases (not (nat_eq (get_or x 0 0) 45)) (nat_eq (length x) 1 ||
      (nat_eq (get_or x 1 0) 62 || (nat_eq (get_or x 1 0) 45 && nat_eq (get_or x 2 0) 62))) h)
    where
      x : List ℕ
      x = take m (45 ∷ rest)

      w : length x ≡ m
      w = length-take-le m (45 ∷ rest) fits

      third : (2 < m) ⊎ (m ≤ 2) → get_or x 2 0 ≡ 62 → get_or x 2 0 ≡ get_or rest 1 0
      third (inl l) is = get_or-take m (45 ∷ rest) 2 0 l
      third (inr g) is = absurd (let past = get_or_past x 2 0 (omega (arith, w, g)) in omega (arith, past, is))

-- ---- the token of a piece

all_prefix : (ds : List ℕ) → all_ascii_digits ds ≡ true → prefix_len is_ascii_digit ds ≡ length ds
all_prefix [] h = refl
all_prefix (d ∷ ds) h =
    let both = and_parts (is_ascii_digit d) (all_ascii_digits ds) h in
    let more : prefix_len is_ascii_digit (d ∷ ds) ≡ 1 + prefix_len is_ascii_digit ds = cond-true (is_ascii_digit d) _ _ both.0 in
    let rest = all_prefix ds both.1 in
    omega (arith, more, rest)

number_kind : (ds : List ℕ) → is_number ds ≡ true → kind_of ds ≡ Some kind.Number
number_kind ds h =
    let parts = number_parts ds h in
    let all = all_prefix ds parts.1 in
    let front = IsLongestFront-number ds (omega (arith, all, parts.0)) in
    ap kind_of (sym (ap (λ n. take n ds) all ∙ take_all (length ds) ds (omega arith))) ∙ front.spells

numeral_number : (ds : List ℕ) → IsTrue (is_numeral ds) → is_number ds ≡ true
numeral_number ds h = (and_parts (is_number ds) (nat_lt (value_of ds) (2 ^ 127)) h).0

text_is : (token : Tok) → (same_kind token.kind kind.Name || same_kind token.kind kind.Number) ≡ true → spelling token ≡ token.text
text_is token h = cond-true (same_kind token.kind kind.Name || same_kind token.kind kind.Number) token.text (spelled token.kind) h

pub name_text : (token : Tok) → token.kind ≡ kind.Name → spelling token ≡ token.text
name_text token e = text_is token (ap (λ k. same_kind k kind.Name || same_kind k kind.Number) e)

pub number_text : (token : Tok) → token.kind ≡ kind.Number → spelling token ≡ token.text
number_text token e = text_is token (ap (λ k. same_kind k kind.Name || same_kind k kind.Number) e)

-- the token's own spelling
pub spelled_kind : (token : Tok) → IsSpelled token → kind_of (spelling token) ≡ Some token.kind
spelled_kind token (laid.name e h) = ap kind_of (name_text token e) ∙ h ∙ ap Some (sym e)
spelled_kind token (laid.number e h) = ap kind_of (number_text token e) ∙ number_kind token.text (numeral_number token.text h) ∙ ap Some (sym e)
spelled_kind token (laid.word w empty) = ap kind_of (spelling_fixed token (word_text token.kind w)) ∙ word_kind token.kind w
spelled_kind token (laid.sign w empty) = ap kind_of (spelling_fixed token (sign_text token.kind w)) ∙ sign_kind token.kind w

nothing_is_none : kind_of [] ≡ None
unfolding kind_of signs words is_name is_number is_utf8 chars
nothing_is_none = refl

pub some_spelled : (s : List ℕ) (k : TokenKind) → kind_of s ≡ Some k → 0 < length s
some_spelled [] k h = absurd (let e = sym nothing_is_none ∙ h in cc)
some_spelled (b ∷ s) k h = omega arith

-- all bytes of a name, a number or a word are letters
pub letters : (token : Tok) → IsSpelled token → is_textual token.kind ≡ true → (i : ℕ) → i < length (spelling token) → is_letter
    (get_or (spelling token) i 0) ≡ true
letters token (laid.name e h) textual i l =
    letter_of_name (spelling token) i (ap is_name (name_text token e) ∙ name_is token.text h) l
letters token (laid.number e h) textual i l =
    digit_is_letter (get_or (spelling token) i 0) (digits_at (spelling token)
    (ap all_ascii_digits (number_text token e) ∙ (number_parts token.text (numeral_number token.text h)).1) i l)
letters token (laid.word w empty) textual i l =
    letter_of_name (spelling token) i (ap is_name (spelling_fixed token (word_text token.kind w)) ∙ word_named token.kind w) l
letters token (laid.sign w empty) textual i l = absurd (true≢false (sym textual ∙ sign_not_textual token.kind w))

-- ---- its longest token

abbrev None-longer : List ℕ → List ℕ → Type 0
None-longer s rest = (m : ℕ) → length s < m → m ≤ length (s ++ rest) → kind_of (take m (s ++ rest)) ≡ None

closed_none : (k : TokenKind) (s rest : List ℕ) → s ≡ spelled k → has closed_kinds k ≡ true → None-longer s rest
closed_none k s rest e c m longer fits =
    none_behind_closed s rest m longer fits (subst (λ x. list_all (λ row. no_longer x row.0) signs ≡ true) (sym e) (closed_is_longest k c))
    (subst (λ x. list_any stops x ≡ true) (sym e) (sign_stops k (closed_sign k c)))

bang_none : (rest : List ℕ) → get_or rest 0 0 ≢ 61 → None-longer (33 ∷ []) rest
bang_none rest apart m longer fits =
    none_with (33 ∷ []) rest m longer fits bang_alone signs_bang (λ h. not_bang rest m longer fits apart h) refl

minus_none : (rest : List ℕ) → get_or rest 0 0 ≢ 62 → (get_or rest 0 0 ≡ 45 → get_or rest 1 0 ≢ 62) → None-longer (45 ∷ []) rest
minus_none rest apart twice m longer fits =
    none_with (45 ∷ []) rest m longer fits minus_alone signs_minus (λ h. not_minus rest m longer fits apart twice h) refl

bang_spelled : spelled kind.Bang ≡ 33 ∷ []
unfolding signs words
bang_spelled = refl

minus_spelled : spelled kind.Minus ≡ 45 ∷ []
unfolding signs words
minus_spelled = refl

slash_spelled : spelled kind.Slash ≡ 47 ∷ []
unfolding signs words
slash_spelled = refl

prefix_none : (k : TokenKind) (s rest : List ℕ) → s ≡ spelled k → has prefix_kinds k ≡ true → get_or rest 0 0 ≢ 61 → get_or rest 0 0 ≢ 62
    → (get_or rest 0 0 ≡ 45 → get_or rest 1 0 ≢ 62) → None-longer s rest
prefix_none k s rest e p equals above twice =
    ⊎_elim
    (λ (h : same_kind kind.Bang k ≡ true). subst (λ x. None-longer x rest) (sym (e ∙ ap spelled (sym (same_kinds kind.Bang k h)) ∙ bang_spelled))
    (bang_none rest equals))
    (λ more. ⊎_elim
    (λ (h : same_kind kind.Minus k ≡ true).
    subst (λ x. None-longer x rest) (sym (e ∙ ap spelled (sym (same_kinds kind.Minus k h)) ∙ minus_spelled)) (minus_none rest above twice))
    (λ (h : false ≡ true). absurd (true≢false (sym h))) (or_cases (same_kind kind.Minus k) false more))
    (or_cases (same_kind kind.Bang k) (same_kind kind.Minus k || false) p)

none_longer : (token : Tok) (rest : List ℕ) → IsSpelled token → Behind token.kind rest → None-longer (spelling token) rest
none_longer token rest is (nothing e) m longer fits =
    absurd (let l = length-append (spelling token) rest in let z = ap length e in omega (arith, longer, fits, l, z))
none_longer token rest is (blank more e) m longer fits = none_behind_blank (spelling token) rest m longer fits more e
none_longer token rest is (closed c) m longer fits =
    closed_none token.kind (spelling token) rest (spelling_fixed token (sign_text token.kind (closed_sign token.kind c))) c m longer fits
none_longer token rest is (stop c more textual halts e) m longer fits =
    let some = some_spelled (spelling token) token.kind (spelled_kind token is) in
    let last = length (spelling token) - 1 in
    let is_last : length (spelling token) ≡ suc (length (spelling token) - 1) = omega (arith, some) in
    none_behind_stop (spelling token) rest m longer fits c more last e halts is_last (letters token is textual last (omega (arith, some)))
none_longer token rest is (prefix p equals above twice) m longer fits =
    prefix_none token.kind (spelling token) rest (spelling_fixed token (sign_text token.kind (prefix_sign token.kind p))) p equals above twice m
    longer fits

pub front : (token : Tok) (rest : List ℕ) → IsSpelled token → Behind token.kind rest
    → IsLongestFront (spelling token ++ rest) token.kind (length (spelling token))
front token rest is behind = record {
  nonempty = some_spelled (spelling token) token.kind (spelled_kind token is);
  fits = let l = length-append (spelling token) rest in omega (arith, l);
  spells = ap kind_of (take-append_seam (spelling token) rest) ∙ spelled_kind token is;
  longest = none_longer token rest is behind;
}

-- ---- nothing that is skipped begins there

skip_from : (text : List ℕ) → is_blank (get_or text 0 0) ≡ false → (get_or text 0 0 ≢ 47) ⊎ ((get_or text 1 0 ≢ 47) × (get_or text 1 0 ≢ 42))
    → begins_skip text 0 ≡ false
skip_from text b h = false_from_ne_true _ (λ s.
    ⊎_elim (λ first. ⊎_elim (λ is. true≢false (sym is ∙ b)) (λ line. let pair = pair_is text 0 47 47 line in by_line pair.0 pair.1 h) (or_cases _ _ first))
    (λ block. let pair = pair_is text 0 47 42 block in by_block pair.0 pair.1 h) (or_cases _ _ s))
  where
    by_line : get_or text 0 0 ≡ 47 → get_or text 1 0 ≡ 47 → (get_or text 0 0 ≢ 47) ⊎ ((get_or text 1 0 ≢ 47) × (get_or text 1 0 ≢ 42)) → ⊥
    by_line p q (inl n) = n p
    by_line p q (inr n) = n.0 q

    by_block : get_or text 0 0 ≡ 47 → get_or text 1 0 ≡ 42 → (get_or text 0 0 ≢ 47) ⊎ ((get_or text 1 0 ≢ 47) × (get_or text 1 0 ≢ 42)) → ⊥
    by_block p q (inl n) = n p
    by_block p q (inr n) = n.1 q

letter_not_blank : (b : ℕ) → is_letter b ≡ true → is_blank b ≡ false
letter_not_blank b h = false_from_ne_true _ (λ e.
    ⊎_elim (λ is. true≢false (sym (ap is_letter (sym is) ∙ h)))
    (⊎_elim (λ is. true≢false (sym (ap is_letter (sym is) ∙ h))) (λ is. true≢false (sym (ap is_letter (sym is) ∙ h)))) (blank_is b e))

letter_not_slash : (b : ℕ) → is_letter b ≡ true → b ≢ 47
letter_not_slash b h = λ is. true≢false (sym (ap is_letter (sym is) ∙ h))

behind_slash : (s rest : List ℕ) → s ≡ 47 ∷ [] → Behind kind.Slash rest → (get_or (s ++ rest) 1 0 ≢ 47) × (get_or (s ++ rest) 1 0 ≢ 42)
unfolding words
behind_slash s rest e (nothing h) = (λ is. by (at s rest e ∙ ap (λ r. get_or r 0 0) h) is, λ is. by' (at s rest e ∙ ap (λ r. get_or r 0 0) h) is)
  where
    at : (s rest : List ℕ) → s ≡ 47 ∷ [] → get_or (s ++ rest) 1 0 ≡ get_or rest 0 0
    at s rest e = ap (λ x. get_or (x ++ rest) 1 0) e

    by : get_or (s ++ rest) 1 0 ≡ 0 → get_or (s ++ rest) 1 0 ≡ 47 → ⊥
    by z is = omega (arith, z, is)

    by' : get_or (s ++ rest) 1 0 ≡ 0 → get_or (s ++ rest) 1 0 ≡ 42 → ⊥
    by' z is = omega (arith, z, is)
behind_slash s rest e (blank more h) =
    let z : get_or (s ++ rest) 1 0 ≡ 32 = ap (λ x. get_or (x ++ rest) 1 0) e ∙ ap (λ r. get_or r 0 0) h in
    (λ is. omega (arith, z, is), λ is. omega (arith, z, is))
behind_slash s rest e (closed c) = absurd (true≢false (sym c))
behind_slash s rest e (stop c more textual is h) = absurd (true≢false (sym textual))
behind_slash s rest e (prefix p equals above twice) = absurd (true≢false (sym p))

pub no_skip : (token : Tok) (rest : List ℕ) → IsSpelled token → Behind token.kind rest → begins_skip (spelling token ++ rest) 0 ≡ false
no_skip token rest is behind = by is
  where
    s : List ℕ
    s = spelling token

    some : 0 < length s
    some = some_spelled s token.kind (spelled_kind token is)

    head : get_or (s ++ rest) 0 0 ≡ get_or s 0 0
    head = get_or_append_left s rest 0 0 some

    textual : is_letter (get_or s 0 0) ≡ true → begins_skip (s ++ rest) 0 ≡ false
    textual letter =
        skip_from (s ++ rest) (ap is_blank head ∙ letter_not_blank (get_or s 0 0) letter) (inl (λ e. letter_not_slash (get_or s 0 0) letter (sym head ∙ e)))

    fixed : s ≡ spelled token.kind → begins_well token.kind ≡ true → begins_skip (s ++ rest) 0 ≡ false
    fixed e h =
        let both = and_parts (not (is_blank (get_or (spelled token.kind) 0 0)))
        (not (nat_eq (get_or (spelled token.kind) 0 0) 47) || same_kind token.kind kind.Slash) h in
        let same : get_or (s ++ rest) 0 0 ≡ get_or (spelled token.kind) 0 0 = head ∙ ap (λ x. get_or x 0 0) e in
        skip_from (s ++ rest) (ap is_blank same ∙ not-true (is_blank (get_or (spelled token.kind) 0 0)) both.0)
        (⊎_elim
        (λ (n : not (nat_eq (get_or (spelled token.kind) 0 0) 47) ≡ true).
        inl (λ is. true≢false (sym (eq-eqb (get_or (spelled token.kind) 0 0) 47 (sym same ∙ is)) ∙ not-true (nat_eq (get_or (spelled token.kind) 0 0) 47) n)))
        (λ (k : same_kind token.kind kind.Slash ≡ true).
        let slash = same_kinds token.kind kind.Slash k in
        inr (behind_slash s rest (e ∙ ap spelled slash ∙ slash_spelled) (subst (λ j. Behind j rest) slash behind)))
        (or_cases (not (nat_eq (get_or (spelled token.kind) 0 0) 47)) (same_kind token.kind kind.Slash) both.1))

    by : IsSpelled token → begins_skip (s ++ rest) 0 ≡ false
    by (laid.name e h) = textual (letter_of_name s 0 (ap is_name (name_text token e) ∙ name_is token.text h) some)
    by (laid.number e h) =
        textual (digit_is_letter (get_or s 0 0) (digits_at s (ap all_ascii_digits (number_text token e) ∙
        (number_parts token.text (numeral_number token.text h)).1) 0 some))
    by (laid.word w empty) =
        textual (letter_of_name s 0 (ap is_name (spelling_fixed token (word_text token.kind w)) ∙ word_named token.kind w) some)
    by (laid.sign w empty) = fixed (spelling_fixed token (sign_text token.kind w)) (sign_begins token.kind w)

-- a token begins with a letter, or has the spelling of its kind
pub spelled_fixed : (token : Tok) → IsSpelled token → (is_letter (get_or (spelling token) 0 0) ≡ true) ⊎ (spelling token ≡ spelled token.kind)
spelled_fixed token (laid.name e h) =
    inl (letter_of_name (spelling token) 0 (ap is_name (name_text token e) ∙ name_is token.text h)
    (some_spelled (spelling token) token.kind (spelled_kind token (laid.name e h))))
spelled_fixed token (laid.number e h) =
    inl (digit_is_letter (get_or (spelling token) 0 0) (digits_at (spelling token)
    (ap all_ascii_digits (number_text token e) ∙ (number_parts token.text (numeral_number token.text h)).1) 0
    (some_spelled (spelling token) token.kind (spelled_kind token (laid.number e h)))))
spelled_fixed token (laid.word w empty) = inr (spelling_fixed token (word_text token.kind w))
spelled_fixed token (laid.sign w empty) = inr (spelling_fixed token (sign_text token.kind w))
