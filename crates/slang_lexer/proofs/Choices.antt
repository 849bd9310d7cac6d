-- The rows of a table that can match: by their first byte, and by their length.
use Rattle.std.proofs.Common.{◌≡◌, ◌≢◌, ℕ, ◌<◌, Bool, true, false, not, ◌||◌, nat_eq, List, [], ◌∷◌, length, take, get_or, Option, Some, None, refl, sym, ◌∙◌, ap, subst, ⊎_elim, arith, cond}
use Rattle.std.specs.Prelude.{filter, nat_lt, slice_get}
use Rattle.std.specs.List.{list_all, list_any, starts_with}
use Rattle.std.specs.Str.{bytes_eq}
use Rattle.std.proofs.lemmas.Bool.{both_ways, and_parts, not-true, eq-eqb, eqb-true, ltb-true, false_from_ne_true, cond-true, cond-false, cases_Bool}
use Rattle.std.proofs.lemmas.List.{get_or-take}
use Rattle.std.proofs.lemmas.Slice.Eq.{bytes_eq-Decides}
use Rattle.slang_lexer.specs.declared.token.TokenKind.{TokenKind}
use Rattle.slang_lexer.specs.Spelling.{Table, signs, words, kind_in}
use Rattle.slang_lexer.specs.Scan.{first_at}
use Rattle.slang_lexer.proofs.Rows.{starts-true}

abbrev pub head : List ℕ × TokenKind → ℕ
head row = get_or row.0 0 0

abbrev pub width : List ℕ × TokenKind → ℕ
width row = length row.0

abbrev pub beginning : ℕ → Table → Table
beginning first table = filter (λ row. nat_eq (head row) first) table

abbrev pub of_length : ℕ → Table → Table
of_length len table = filter (λ row. nat_eq (width row) len) table

other_head : (bytes : List ℕ) (first : ℕ) (row : List ℕ × TokenKind) → get_or bytes 0 0 ≡ first → 0 < width row → nat_eq (head row) first ≡ false → starts_with nat_eq bytes row.0 ≡ false
other_head bytes first row same some apart = false_from_ne_true _ (λ s.
    let front = starts-true bytes row.0 s in
    both_ways _ apart (eq-eqb _ _ ((ap (λ z. get_or z 0 0) (sym front) ∙ get_or-take (width row) bytes 0 0 some) ∙ same)))

-- a sign that stands at the front of the bytes begins with their first
pub first_at-beginning : (table : Table) (bytes : List ℕ) (first : ℕ) → get_or bytes 0 0 ≡ first → list_all (λ row. nat_lt 0 (width row)) table ≡ true → first_at (beginning first table) bytes ≡ first_at table bytes
first_at-beginning [] bytes first same some = refl
first_at-beginning (row ∷ table) bytes first same some =
    let both = and_parts (nat_lt 0 (width row)) (list_all (λ r. nat_lt 0 (width r)) table) some in
    let rest = first_at-beginning table bytes first same both.1 in
    ⊎_elim
    (λ (e : nat_eq (head row) first ≡ true).
    ap (λ t. first_at t bytes) (cond-true _ (row ∷ beginning first table) (beginning first table) e) ∙ ap (λ z. cond (starts_with nat_eq bytes row.0) (Some (row.1, length row.0)) z) rest)
    (λ (e : nat_eq (head row) first ≡ false).
    ap (λ t. first_at t bytes) (cond-false _ (row ∷ beginning first table) (beginning first table) e)
    ∙ (rest ∙ sym (cond-false _ _ _ (other_head bytes first row same (ltb-true 0 (width row) both.0) e))))
    (cases_Bool _)

-- a word that is a name is as long
pub kind_in-of_length : (table : Table) (name : List ℕ) → kind_in (of_length (length name) table) name ≡ kind_in table name
kind_in-of_length [] name = refl
kind_in-of_length (row ∷ table) name =
    let rest = kind_in-of_length table name in
    let len = length name in
    ⊎_elim
    (λ (e : nat_eq (width row) (length name) ≡ true).
    ap (λ t. kind_in t name) (cond-true _ (row ∷ of_length len table) (of_length len table) e) ∙ ap (λ z. cond (bytes_eq row.0 name) (Some row.1) z) rest)
    (λ (e : nat_eq (width row) (length name) ≡ false).
    ap (λ t. kind_in t name) (cond-false _ (row ∷ of_length len table) (of_length len table) e)
    ∙ (rest ∙ sym (cond-false _ _ _ (false_from_ne_true _ (λ s. both_ways _ e (eq-eqb _ _ (ap length ((bytes_eq-Decides row.0 name).0 s))))))))
    (cases_Bool _)

pub signs_spelled : list_all (λ row. nat_lt 0 (width row)) signs ≡ true
unfolding signs
signs_spelled = refl

signs_of_nothing : first_at signs [] ≡ None
unfolding signs
signs_of_nothing = refl

pub no_sign_of_nothing : (bytes : List ℕ) → None ≡ slice_get bytes 0 → None ≡ first_at signs bytes
no_sign_of_nothing [] h = sym signs_of_nothing
no_sign_of_nothing (b ∷ bytes) h = absurd cc

pub first_is : (bytes : List ℕ) (first : ℕ) → Some first ≡ slice_get bytes 0 → get_or bytes 0 0 ≡ first
first_is [] first h = absurd cc
first_is (b ∷ bytes) first h = cc

-- ---- the bytes and the lengths that no row has

abbrev pub Apart : ℕ → List ℕ → Type 0
Apart n [] = Unit {0}
Apart n (m ∷ ms) = (n ≢ m) × Apart n ms

apart : (n m : ℕ) (ms : List ℕ) → Apart n ms → list_any (nat_eq m) ms ≡ true → nat_eq m n ≡ false
apart n m [] all h = absurd (let e = h in cc)
apart n m (k ∷ ms) all h =
    ⊎_elim
    (λ (e : nat_eq m k ≡ true). false_from_ne_true _ (λ s. all.0 (sym (eqb-true m n s) ∙ eqb-true m k e)))
    (λ (e : nat_eq m k ≡ false). apart n m ms all.1 (sym (ap (λ b. b || list_any (nat_eq m) ms) e) ∙ h))
    (cases_Bool _)

none_with : (f : List ℕ × TokenKind → ℕ) (n : ℕ) (ms : List ℕ) (table : Table) → Apart n ms → list_all (λ row. list_any (nat_eq (f row)) ms) table ≡ true → filter (λ row. nat_eq (f row) n) table ≡ []
none_with f n ms [] all h = refl
none_with f n ms (row ∷ table) all h =
    let both = and_parts (list_any (nat_eq (f row)) ms) (list_all (λ r. list_any (nat_eq (f r)) ms) table) h in
    cond-false _ (row ∷ filter (λ r. nat_eq (f r) n) table) (filter (λ r. nat_eq (f r) n) table) (apart n (f row) ms all both.0) ∙ none_with f n ms table all both.1

abbrev pub heads : List ℕ
heads =
    10 ∷ 40 ∷ 41 ∷ 44 ∷ 46 ∷ 123 ∷ 125 ∷ 91 ∷ 93 ∷ 59 ∷ 58 ∷ 61 ∷ 60 ∷ 62 ∷ 33 ∷ 38 ∷ 124 ∷ 43 ∷ 45 ∷ 42 ∷ 47 ∷ 37 ∷ 64 ∷ 126 ∷ 95 ∷ 83 ∷ 226 ∷ []

pub no_sign_begins : (n : ℕ) → Apart n heads → beginning n signs ≡ []
unfolding signs
no_sign_begins n all = none_with head n heads signs all refl

abbrev pub widths : List ℕ
widths = 1 ∷ 2 ∷ 3 ∷ 4 ∷ 5 ∷ 6 ∷ 7 ∷ 8 ∷ 9 ∷ []

pub no_word_of : (n : ℕ) → Apart n widths → of_length n words ≡ []
unfolding words
no_word_of n all = none_with width n widths words all refl
