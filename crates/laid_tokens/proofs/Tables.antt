-- The spellings of signs and words, by the kinds of tokens.
use Rattle.std.proofs.Common.{◌≡◌, ℕ, suc, ◌<◌, Bool, true, false, not, ◌&&◌, ◌||◌, List, [], ◌∷◌, ◌++◌, length, get_or, Option, Some, None, refl, sym, ◌∙◌, ap, subst, ⊎_elim, arith, true≢false, eqb-true}
use Rattle.std.specs.Prelude.{nat_eq, nat_lt}
use Rattle.std.specs.List.{list_all, list_any, starts_with}
use Rattle.std.specs.Char.{is_ascii_alphanumeric, encode_utf8}
use Rattle.std.specs.Str.{is_utf8, chars}
use Rattle.std.proofs.lemmas.Bool.{and_parts, or_cases, cond-false, not-true}
use denote.Enum.Bare.{same_true}
use Rattle.slang_lexer.specs.contracts.token.TokenKind.{the_type}
use Rattle.slang_lexer.specs.declared.token.TokenKind.{TokenKind}
use Rattle.slang_lexer.specs.declared.token.TokenKind.TheVariants as kind
use Rattle.slang_lexer.specs.Spelling.{Table, signs, words, kind_of, is_name, is_number, continues_name}
use Rattle.slang_lexer.specs.Comment.{is_blank}
use Rattle.slang_tokens.specs.Tok.{Tok, same_kind}
use Rattle.print_layout.specs.Pieces.{spelled_in, spelling}
use Rattle.laid_tokens.specs.Kinds.{has, closed_kinds, spaced_kinds, prefix_kinds, is_sign, is_word, is_textual}

pub same_kinds : (a b : TokenKind) → same_kind a b ≡ true → a ≡ b
same_kinds a b h = same_true the_type tt a b h

-- what holds of each kind of a list holds of a kind that it has
pub of_has : (p : TokenKind → Bool) (kinds : List TokenKind) (k : TokenKind) → list_all p kinds ≡ true → has kinds k ≡ true → p k ≡ true
of_has p [] k all h = absurd (true≢false (sym h))
of_has p (x ∷ xs) k all h =
    let both = and_parts (p x) (list_all p xs) all in
    ⊎_elim (λ (e : same_kind x k ≡ true). subst (λ y. p y ≡ true) (same_kinds x k e) both.0) (λ e. of_has p xs k both.1 e)
    (or_cases (same_kind x k) (has xs k) h)

of_table : (p : TokenKind → Bool) (table : Table) (k : TokenKind) → list_all (λ row. p row.1) table ≡ true → list_any (λ row. same_kind row.1 k) table ≡ true
    → p k ≡ true
of_table p [] k all h = absurd (true≢false (sym h))
of_table p (row ∷ table) k all h =
    let both = and_parts (p row.1) (list_all (λ r. p r.1) table) all in
    ⊎_elim (λ (e : same_kind row.1 k ≡ true). subst (λ y. p y ≡ true) (same_kinds row.1 k e) both.0) (λ e. of_table p table k both.1 e)
    (or_cases (same_kind row.1 k) (list_any (λ r. same_kind r.1 k) table) h)

-- what holds of each number of a list holds of one that it has
pub of_numbers : (p : ℕ → Bool) (numbers : List ℕ) (n : ℕ) → list_all p numbers ≡ true → list_any (λ it. nat_eq it n) numbers ≡ true → p n ≡ true
of_numbers p [] n all h = absurd (true≢false (sym h))
of_numbers p (x ∷ xs) n all h =
    let both = and_parts (p x) (list_all p xs) all in
    ⊎_elim (λ (e : nat_eq x n ≡ true). subst (λ y. p y ≡ true) (eqb-true x n e) both.0) (λ e. of_numbers p xs n both.1 e)
    (or_cases (nat_eq x n) (list_any (λ it. nat_eq it n) xs) h)

-- one that passes, by its place
pub any_at : (p : ℕ → Bool) (xs : List ℕ) → list_any p xs ≡ true → (i : ℕ) × (i < length xs) × (p (get_or xs i 0) ≡ true)
any_at p [] h = absurd (true≢false (sym h))
any_at p (x ∷ xs) h =
    ⊎_elim (λ (e : p x ≡ true). (0, omega arith, e)) (λ e. let at = any_at p xs e in (suc at.0, omega (arith, at.1), at.2))
    (or_cases (p x) (list_any p xs) h)

-- ---- kinds

abbrev pub spelled : TokenKind → List ℕ
spelled k = spelled_in (signs ++ words) k

abbrev pub sign_kinds : List TokenKind
sign_kinds = closed_kinds ++ (spaced_kinds ++ prefix_kinds)

abbrev is_kind : Option TokenKind → TokenKind → Bool
is_kind None k = false
is_kind (Some other) k = same_kind other k

kind_is : (o : Option TokenKind) (k : TokenKind) → is_kind o k ≡ true → o ≡ Some k
kind_is None k h = absurd (true≢false (sym h))
kind_is (Some other) k h = ap Some (same_kinds other k h)

has-append : (xs ys : List TokenKind) (k : TokenKind) → (has xs k || has ys k) ≡ true → has (xs ++ ys) k ≡ true
has-append [] ys k h = h
has-append (x ∷ xs) ys k h = by (same_kind x k) h (λ g. has-append xs ys k g)
  where
    by : (b : Bool) → ((b || has xs k) || has ys k) ≡ true → ((has xs k || has ys k) ≡ true → has (xs ++ ys) k ≡ true) → (b || has (xs ++ ys) k) ≡ true
    by true h g = refl
    by false h g = g h

pub sign_has : (k : TokenKind) → is_sign k ≡ true → has sign_kinds k ≡ true
sign_has k h = has-append closed_kinds (spaced_kinds ++ prefix_kinds) k (join (has closed_kinds k) refl h)
  where
    join : (b : Bool) → has closed_kinds k ≡ b → (b || (has spaced_kinds k || has prefix_kinds k)) ≡ true
        → (has closed_kinds k || has (spaced_kinds ++ prefix_kinds) k) ≡ true
    join true e h = ap (λ d. d || has (spaced_kinds ++ prefix_kinds) k) e
    join false e h = ap (λ d. d || has (spaced_kinds ++ prefix_kinds) k) e ∙ has-append spaced_kinds prefix_kinds k h

signs_spelled : list_all (λ k. is_kind (kind_of (spelled k)) k) sign_kinds ≡ true
unfolding signs words kind_of is_name is_number is_utf8 chars encode_utf8
signs_spelled = refl

words_spelled : list_all (λ row. is_kind (kind_of (spelled row.1)) row.1) words ≡ true
unfolding signs words kind_of is_name is_number is_utf8 chars encode_utf8
words_spelled = refl

words_named : list_all (λ row. is_name (spelled row.1)) words ≡ true
unfolding signs words is_name is_utf8 chars encode_utf8
words_named = refl

abbrev has_text : TokenKind → Bool
has_text k = same_kind k kind.Name || same_kind k kind.Number

signs_have_none : list_all (λ k. not (has_text k)) sign_kinds ≡ true
signs_have_none = refl

words_have_none : list_all (λ row. not (has_text row.1)) words ≡ true
unfolding words
words_have_none = refl

pub sign_kind : (k : TokenKind) → is_sign k ≡ true → kind_of (spelled k) ≡ Some k
sign_kind k h = kind_is (kind_of (spelled k)) k (of_has (λ j. is_kind (kind_of (spelled j)) j) sign_kinds k signs_spelled (sign_has k h))

pub word_kind : (k : TokenKind) → is_word k ≡ true → kind_of (spelled k) ≡ Some k
word_kind k h = kind_is (kind_of (spelled k)) k (of_table (λ j. is_kind (kind_of (spelled j)) j) words k words_spelled h)

pub word_named : (k : TokenKind) → is_word k ≡ true → is_name (spelled k) ≡ true
word_named k h = of_table (λ j. is_name (spelled j)) words k words_named h

pub sign_text : (k : TokenKind) → is_sign k ≡ true → has_text k ≡ false
sign_text k h = not-true (has_text k) (of_has (λ j. not (has_text j)) sign_kinds k signs_have_none (sign_has k h))

pub word_text : (k : TokenKind) → is_word k ≡ true → has_text k ≡ false
word_text k h = not-true (has_text k) (of_table (λ j. not (has_text j)) words k words_have_none h)

pub spelling_fixed : (token : Tok) → has_text token.kind ≡ false → spelling token ≡ spelled token.kind
spelling_fixed token h = cond-false (has_text token.kind) token.text (spelled token.kind) h

-- ---- bytes

-- an ASCII byte with which a name does not go on
abbrev pub stops : ℕ → Bool
stops b = nat_lt b 128 && not (continues_name b)

signs_stop : list_all (λ k. list_any stops (spelled k)) sign_kinds ≡ true
unfolding signs words
signs_stop = refl

pub sign_stops : (k : TokenKind) → is_sign k ≡ true → list_any stops (spelled k) ≡ true
sign_stops k h = of_has (λ j. list_any stops (spelled j)) sign_kinds k signs_stop (sign_has k h)

-- the bytes begin no longer than a spelling
abbrev pub no_longer : List ℕ → List ℕ → Bool
no_longer short bytes = not (starts_with nat_eq bytes short) || nat_eq (length bytes) (length short)

closed_longest : list_all (λ k. list_all (λ row. no_longer (spelled k) row.0) signs) closed_kinds ≡ true
unfolding signs words
closed_longest = refl

pub closed_is_longest : (k : TokenKind) → has closed_kinds k ≡ true → list_all (λ row. no_longer (spelled k) row.0) signs ≡ true
closed_is_longest k h = of_has (λ j. list_all (λ row. no_longer (spelled j) row.0) signs) closed_kinds k closed_longest h

abbrev pub no_blank : List ℕ → Bool
no_blank bytes = list_all (λ b. not (nat_eq b 32)) bytes

pub signs_no_blank : list_all (λ row. no_blank row.0) signs ≡ true
unfolding signs
signs_no_blank = refl

-- a byte of a name or of digits, or one of a character that is not ASCII
abbrev pub is_letter : ℕ → Bool
is_letter b = nat_lt 127 b || (is_ascii_alphanumeric b || nat_eq b 95)

-- the byte stands nowhere behind a letter
abbrev pub cut : ℕ → List ℕ → Bool
cut c [] = true
cut c (a ∷ []) = true
cut c (a ∷ b ∷ more) = (not (nat_eq b c) || not (is_letter a)) && cut c (b ∷ more)

-- the bytes that end a name: newline `( ) , . : [ ]`
abbrev pub stop_bytes : List ℕ
stop_bytes = 10 ∷ 40 ∷ 41 ∷ 44 ∷ 46 ∷ 58 ∷ 91 ∷ 93 ∷ []

signs_cut : list_all (λ c. list_all (λ row. cut c row.0) signs) stop_bytes ≡ true
unfolding signs
signs_cut = refl

stop_bytes_stop : list_all stops stop_bytes ≡ true
stop_bytes_stop = refl

abbrev pub is_stop_byte : ℕ → Bool
is_stop_byte c = list_any (λ it. nat_eq it c) stop_bytes

pub stop_cuts : (c : ℕ) → is_stop_byte c ≡ true → list_all (λ row. cut c row.0) signs ≡ true
stop_cuts c h = of_numbers (λ d. list_all (λ row. cut d row.0) signs) stop_bytes c signs_cut h

pub stop_stops : (c : ℕ) → is_stop_byte c ≡ true → stops c ≡ true
stop_stops c h = of_numbers stops stop_bytes c stop_bytes_stop h

-- what no sign behind a `!` or a minus begins with
abbrev pub bang_alone : List ℕ → Bool
bang_alone bytes = not (nat_eq (get_or bytes 0 0) 33) || (nat_eq (length bytes) 1 || nat_eq (get_or bytes 1 0) 61)

abbrev pub minus_alone : List ℕ → Bool
minus_alone bytes =
    not (nat_eq (get_or bytes 0 0) 45) || (nat_eq (length bytes) 1 || (nat_eq (get_or bytes 1 0) 62 ||
    (nat_eq (get_or bytes 1 0) 45 && nat_eq (get_or bytes 2 0) 62)))

pub signs_bang : list_all (λ row. bang_alone row.0) signs ≡ true
unfolding signs
signs_bang = refl

pub signs_minus : list_all (λ row. minus_alone row.0) signs ≡ true
unfolding signs
signs_minus = refl

-- a token begins with no blank, and only `/` with a slash
abbrev pub begins_well : TokenKind → Bool
begins_well k = not (is_blank (get_or (spelled k) 0 0)) && (not (nat_eq (get_or (spelled k) 0 0) 47) || same_kind k kind.Slash)

signs_begin : list_all begins_well sign_kinds ≡ true
unfolding signs words
signs_begin = refl

pub sign_begins : (k : TokenKind) → is_sign k ≡ true → begins_well k ≡ true
sign_begins k h = of_has begins_well sign_kinds k signs_begin (sign_has k h)

-- ---- kinds of several lists

pub closed_sign : (k : TokenKind) → has closed_kinds k ≡ true → is_sign k ≡ true
closed_sign k h = ap (λ b. b || (has spaced_kinds k || has prefix_kinds k)) h

pub prefix_sign : (k : TokenKind) → has prefix_kinds k ≡ true → is_sign k ≡ true
prefix_sign k h = of_has is_sign prefix_kinds k prefixes_are h
  where
    prefixes_are : list_all is_sign prefix_kinds ≡ true
    prefixes_are = refl

signs_not_textual : list_all (λ k. not (is_textual k)) sign_kinds ≡ true
unfolding words
signs_not_textual = refl

pub sign_not_textual : (k : TokenKind) → is_sign k ≡ true → is_textual k ≡ false
sign_not_textual k h = not-true (is_textual k) (of_has (λ j. not (is_textual j)) sign_kinds k signs_not_textual (sign_has k h))
