-- The first byte of a token.
use denote.Enum.Bare.{same_true}
use Rattle.std.proofs.Common.{◌≡◌, ◌≢◌, ◌==◌, ℕ, ◌<◌, Bool, true, false, not, List, [], ◌∷◌}
use Rattle.std.proofs.Common.{length, take, get_or, if◌then◌else◌, Some, refl, sym, ◌∙◌, ap, subst, ⊎_elim, arith}
use Rattle.std.specs.Char.{is_ascii_digit}
use Rattle.std.specs.List.{list_all}
use Rattle.std.specs.Str.{bytes_eq, encode_utf8_all, all_ascii_digits}
use Rattle.std.proofs.lemmas.Bool.{both_ways, and_parts, not-true, false_from_ne_true, cond-true, cond-false, cases_Bool, cases_lt, cases_order}
use Rattle.std.proofs.lemmas.Bool.Decides.{nat_tests}
use Rattle.std.proofs.lemmas.List.{get_or_past, get_or-take}
use Rattle.std.proofs.lemmas.Slice.Eq.{bytes_eq-Decides}
use Rattle.std.proofs.lemmas.Str.{char_from_byte}
use Rattle.slang_lexer.specs.contracts.token.TokenKind.{the_type}
use Rattle.slang_lexer.specs.declared.token.TokenKind.{TokenKind}
use Rattle.slang_lexer.specs.declared.token.TokenKind.TheVariants as kind
use Rattle.slang_lexer.specs.Spelling.{Table, signs, words, kind_in, kind_of, make_name, begins_name, is_name, is_number}
use Rattle.slang_lexer.specs.Scan.{IsLongestFront, NoLongerFront}
use Rattle.slang_lexer.proofs.Names.{is_name_parts}
use Rattle.slang_lexer.proofs.Rows.{of_spellings, some_same, some≢none}
use Rattle.slang_lexer.proofs.Fronts.{IsKind, sign, word, name, number, IsKind-from, word_is_name, number_parts}
use Rattle.slang_tokens.specs.Tok.{same_kind}
use Rattle.argument_rules.specs.Words.{is_blank}

-- what holds of each row of a table holds of bytes and the kind that it gives them
of_rows : (p : List ℕ → TokenKind → Bool) (table : Table) (bytes : List ℕ) (k : TokenKind) → list_all (λ row. p row.0 row.1) table ≡ true
    → kind_in table bytes ≡ Some k → p bytes k ≡ true
of_rows p [] bytes k all h = absurd (let e = h in cc)
of_rows p (row ∷ table) bytes k all h =
    let both = and_parts _ _ all in
    ⊎_elim (λ (e : bytes_eq row.0 bytes ≡ true).
    let same : row.1 ≡ k = some_same (sym (cond-true _ _ _ e) ∙ h) in
    subst (λ j. p bytes j ≡ true) same (subst (λ z. p z row.1 ≡ true) ((bytes_eq-Decides row.0 bytes).0 e) both.0))
    (λ e. of_rows p table bytes k both.1 (sym (cond-false _ _ _ e) ∙ h))
    (cases_Bool _)

-- a name begins with no byte below 128 that begins none
named_first : (p : ℕ → Bool) → p 0 ≡ false → ((c : ℕ) → p c ≡ true → (c < 128) × (begins_name c ≡ true → ⊥)) → (bytes : List ℕ)
    → is_name bytes ≡ true → p (get_or bytes 0 0) ≡ false
named_first p none apart bytes h = let parts = is_name_parts bytes h in at bytes parts.0 parts.1 parts.2
  where
    at : (bytes cs : List ℕ) → encode_utf8_all cs ≡ bytes → make_name cs ≡ true → p (get_or bytes 0 0) ≡ false
    at bytes [] e m = absurd cc
    at bytes (c ∷ cs) e m = false_from_ne_true _ (λ d.
        let some : 0 < length bytes = ⊎_elim (λ l. l)
        (λ past. absurd (both_ways (p 0) none (subst (λ x. p x ≡ true) (get_or_past bytes 0 0 past) d))) (cases_lt 0 (length bytes)) in
        let same = char_from_byte bytes (encode_utf8_all cs) c (sym e) (apart _ d).0 some in
        (apart c (subst (λ x. p x ≡ true) (sym same) d)).1 (and_parts _ _ m).0)

-- a number begins with a digit
numbered_first : (p : ℕ → Bool) → ((c : ℕ) → p c ≡ true → is_ascii_digit c ≡ true → ⊥) → (bytes : List ℕ) → is_number bytes ≡ true
    → p (get_or bytes 0 0) ≡ false
numbered_first p apart bytes h = let parts = number_parts bytes h in at bytes parts.0 parts.1
  where
    at : (bytes : List ℕ) → 0 < length bytes → all_ascii_digits bytes ≡ true → p (get_or bytes 0 0) ≡ false
    at [] some all = absurd (omega (arith, some))
    at (b ∷ bytes) some all = false_from_ne_true _ (λ d. apart b d (and_parts (is_ascii_digit b) (all_ascii_digits bytes) all).0)

-- ---- blanks

blank_apart : (c : ℕ) → is_blank c ≡ true → (c < 128) × (begins_name c ≡ true → ⊥)
blank_apart c h = (grind (arith, nat_tests), λ b. grind (arith, nat_tests))

blank_no_digit : (c : ℕ) → is_blank c ≡ true → is_ascii_digit c ≡ true → ⊥
blank_no_digit c h d = grind (arith, nat_tests)

signs_unblank : list_all (λ row. not (is_blank (get_or row.0 0 0))) signs ≡ true
unfolding signs
signs_unblank = refl

-- no token begins with a blank
first_no_blank : (bytes : List ℕ) (k : TokenKind) → kind_of bytes ≡ Some k → is_blank (get_or bytes 0 0) ≡ false
first_no_blank bytes k h = of_kind (IsKind-from bytes k h)
  where
    of_kind : IsKind bytes k → is_blank (get_or bytes 0 0) ≡ false
    of_kind (sign s) = not-true _ (of_spellings (λ z. not (is_blank (get_or z 0 0))) signs bytes k signs_unblank s)
    of_kind (word w) = named_first is_blank refl blank_apart bytes (word_is_name bytes k w)
    of_kind (name e n) = named_first is_blank refl blank_apart bytes n
    of_kind (number e d) = numbered_first is_blank blank_no_digit bytes d

-- ---- the sign `/`

abbrev is_slash : ℕ → Bool
is_slash c = c == 47

abbrev slash_row : List ℕ → TokenKind → Bool
slash_row z k = if is_slash (get_or z 0 0) then same_kind k kind.Slash else not (same_kind k kind.Slash)

signs_slashed : list_all (λ row. slash_row row.0 row.1) signs ≡ true
unfolding signs
signs_slashed = refl

words_slashed : list_all (λ row. slash_row row.0 row.1) words ≡ true
unfolding words
words_slashed = refl

slash_apart : (c : ℕ) → is_slash c ≡ true → (c < 128) × (begins_name c ≡ true → ⊥)
slash_apart c h = (grind (arith, nat_tests), λ b. grind (arith, nat_tests))

slash_no_digit : (c : ℕ) → is_slash c ≡ true → is_ascii_digit c ≡ true → ⊥
slash_no_digit c h d = grind (arith, nat_tests)

row_to : (b : Bool) (k : TokenKind) → (if b then same_kind k kind.Slash else not (same_kind k kind.Slash)) ≡ true → b ≡ true → k ≡ kind.Slash
row_to true k h e = same_true the_type tt k kind.Slash h
row_to false k h e = absurd cc

row_from : (b : Bool) (k : TokenKind) → (if b then same_kind k kind.Slash else not (same_kind k kind.Slash)) ≡ true → k ≡ kind.Slash → b ≡ true
row_from true k h e = refl
row_from false k h e = absurd (both_ways (same_kind kind.Slash kind.Slash) (not-true _ (subst (λ j. not (same_kind j kind.Slash) ≡ true) e h)) refl)

-- a token that begins with `/` is that sign, and the other way round
pub first_slash : (bytes : List ℕ) (k : TokenKind) → kind_of bytes ≡ Some k → is_slash (get_or bytes 0 0) ≡ true → k ≡ kind.Slash
first_slash bytes k h e = of_kind (IsKind-from bytes k h)
  where
    of_kind : IsKind bytes k → k ≡ kind.Slash
    of_kind (sign s) = row_to (is_slash (get_or bytes 0 0)) k (of_rows slash_row signs bytes k signs_slashed s) e
    of_kind (word w) = row_to (is_slash (get_or bytes 0 0)) k (of_rows slash_row words bytes k words_slashed w) e
    of_kind (name i n) = absurd (both_ways _ (named_first is_slash refl slash_apart bytes n) e)
    of_kind (number i d) = absurd (both_ways _ (numbered_first is_slash slash_no_digit bytes d) e)

pub slash_first : (bytes : List ℕ) → kind_of bytes ≡ Some kind.Slash → is_slash (get_or bytes 0 0) ≡ true
slash_first bytes h = of_kind (IsKind-from bytes kind.Slash h)
  where
    of_kind : IsKind bytes kind.Slash → is_slash (get_or bytes 0 0) ≡ true
    of_kind (sign s) = row_from (is_slash (get_or bytes 0 0)) kind.Slash (of_rows slash_row signs bytes kind.Slash signs_slashed s) refl
    of_kind (word w) = row_from (is_slash (get_or bytes 0 0)) kind.Slash (of_rows slash_row words bytes kind.Slash words_slashed w) refl
    of_kind (name i n) = absurd (let e = i in cc)
    of_kind (number i d) = absurd (let e = i in cc)

-- ---- the longest front

module _ (text : List ℕ) (k : TokenKind) (n : ℕ) (front : IsLongestFront text k n) where
  first_same : get_or (take n text) 0 0 ≡ get_or text 0 0
  first_same = get_or-take n text 0 0 front.nonempty

  pub front_no_blank : is_blank (get_or text 0 0) ≡ false
  front_no_blank = subst (λ b. is_blank b ≡ false) first_same (first_no_blank (take n text) k front.spells)

  pub front_slash : get_or text 0 0 ≡ 47 → k ≡ kind.Slash
  front_slash h = first_slash (take n text) k front.spells (ap is_slash (first_same ∙ h))

  pub front_no_slash : get_or text 0 0 ≢ 47 → k ≢ kind.Slash
  front_no_slash h e = h (sym first_same ∙ is_from (get_or (take n text) 0 0) (slash_first (take n text) (front.spells ∙ ap Some e)))
    where
      is_from : (b : ℕ) → is_slash b ≡ true → b ≡ 47
      is_from b t = grind (arith, nat_tests, t)

  pub no_front : NoLongerFront text 0 → ⊥
  no_front none = some≢none front.spells (none n front.nonempty front.fits)

  pub longest_one : (j : TokenKind) (m : ℕ) → IsLongestFront text j m → (k ≡ j) × (n ≡ m)
  longest_one j m other =
      let same : n ≡ m = ⊎_elim (λ e. e) (⊎_elim (λ l. absurd (some≢none other.spells (front.longest m l other.fits)))
      (λ l. absurd (some≢none front.spells (other.longest n l front.fits)))) (cases_order n m) in
      (some_same (sym front.spells ∙ ap (λ i. kind_of (take i text)) same ∙ other.spells), same)
