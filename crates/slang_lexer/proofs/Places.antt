-- Where blanks and comments end is one place.
use Rattle.std.proofs.Common.{◌≡◌, ℕ, ◌+◌, ◌<◌, ◌≤◌, true, false, List, length, get_or, refl, sym, subst, inl, inr, ◌⊎◌, ⊎_elim, arith}
use Rattle.std.specs.Str.{IsUtf8, IsCharBoundary}
use Rattle.std.proofs.lemmas.Str.{IsCharBoundary-after_ascii, IsCharBoundary-before_ascii, IsCharBoundary-end}
use Rattle.std.proofs.lemmas.List.{get_or_past}
use Rattle.std.proofs.lemmas.Bool.{both_ways, cases_lt, false_from_ne_true, or_parts, or_cases, and_parts, eqb-true, cases_order}
use Rattle.slang_lexer.specs.Comment.{is_blank, has_pair, opens_line, IsLineComment, IsBlockComment, IsOpenComment, Skips, nothing, blank, line, block, begins_skip}

-- the two bytes of a pair
pub pair_is : (text : List ℕ) (at a b : ℕ) → has_pair text at a b ≡ true → (get_or text at 0 ≡ a) × (get_or text (at + 1) 0 ≡ b)
pair_is text at a b h =
    let both = and_parts _ _ h in
    (eqb-true _ _ both.0, eqb-true _ _ both.1)

-- which bytes a blank may be
pub blank_is : (b : ℕ) → is_blank b ≡ true → (b ≡ 32) ⊎ ((b ≡ 9) ⊎ (b ≡ 13))
blank_is b h =
    ⊎_elim (λ first. ⊎_elim (λ e. inl (eqb-true _ _ e)) (λ e. inr (inl (eqb-true _ _ e))) (or_cases _ _ first)) (λ e. inr (inr (eqb-true _ _ e))) (or_cases _ _ h)

-- nothing that may be skipped stands at the place
pub record IsStuck (text : List ℕ) (at : ℕ) : Type 0 where
  pub blank : is_blank (get_or text at 0) ≡ false
  pub line : opens_line text at ≡ false
  pub block : (close : ℕ) → IsBlockComment text at close → ⊥

pub IsStuck-from_stops : (text : List ℕ) (at : ℕ) → begins_skip text at ≡ false → IsStuck text at
IsStuck-from_stops text at h =
    let last = or_parts _ _ h in
    let first = or_parts _ _ last.0 in
    record { blank = first.0; line = first.1; block = λ close c. both_ways _ last.1 c.opens }

not_blank : (b : ℕ) → b ≡ 47 → is_blank b ≡ false
not_blank b e = subst (λ x. is_blank x ≡ false) (sym e) refl

pub IsStuck-from_open : (text : List ℕ) (at : ℕ) → IsOpenComment text at → IsStuck text at
IsStuck-from_open text at c =
    let pair = pair_is text at 47 42 c.opens in
    record {
      blank = not_blank _ pair.0;
      line = false_from_ne_true _ (λ l. omega (arith, pair.1, (pair_is text at 47 47 l).1));
      block = λ close b. both_ways _ (c.within close b.behind) b.closes;
    }

line_not_blank : {text : List ℕ} {at to : ℕ} → IsLineComment text at to → is_blank (get_or text at 0) ≡ true → ⊥
line_not_blank {text} {at} c h = both_ways _ (not_blank _ (pair_is text at 47 47 c.opens).0) h

block_not_blank : {text : List ℕ} {at close : ℕ} → IsBlockComment text at close → is_blank (get_or text at 0) ≡ true → ⊥
block_not_blank {text} {at} c h = both_ways _ (not_blank _ (pair_is text at 47 42 c.opens).0) h

line_not_block : {text : List ℕ} {at to close : ℕ} → IsLineComment text at to → IsBlockComment text at close → ⊥
line_not_block {text} {at} l b = omega (arith, (pair_is text at 47 47 l.opens).1, (pair_is text at 47 42 b.opens).1)

line_end_ge : {text : List ℕ} {from a b : ℕ} → IsLineComment text from a → IsLineComment text from b → a < b → ⊥
line_end_ge {a = a} x y l = y.within a x.behind l (x.ends (omega (arith, y.fits)))

line_end_same : {text : List ℕ} {from a b : ℕ} → IsLineComment text from a → IsLineComment text from b → a ≡ b
line_end_same {a = a} {b = b} x y =
    ⊎_elim (λ e. e) (⊎_elim (λ l. absurd (line_end_ge x y l)) (λ l. absurd (line_end_ge y x l))) (cases_order a b)

close_same : {text : List ℕ} {from a b : ℕ} → IsBlockComment text from a → IsBlockComment text from b → a ≡ b
close_same {a = a} {b = b} x y =
    ⊎_elim (λ e. e)
    (⊎_elim (λ l. absurd (both_ways _ (y.within a x.behind l) x.closes)) (λ l. absurd (both_ways _ (x.within b y.behind l) y.closes)))
    (cases_order a b)

-- from one place, blanks and comments lead to one place where no more stand
pub same_place : {text : List ℕ} {at a b : ℕ} → Skips text at a → Skips text at b → IsStuck text a → IsStuck text b → a ≡ b
same_place nothing nothing s t = refl
same_place nothing (blank h q) s t = absurd (both_ways _ s.blank h)
same_place nothing (line c q) s t = absurd (both_ways _ s.line c.opens)
same_place nothing (block c q) s t = absurd (s.block _ c)
same_place (blank h p) nothing s t = absurd (both_ways _ t.blank h)
same_place (blank h p) (blank k q) s t = same_place p q s t
same_place (blank h p) (line c q) s t = absurd (line_not_blank c h)
same_place (blank h p) (block c q) s t = absurd (block_not_blank c h)
same_place (line c p) nothing s t = absurd (both_ways _ t.line c.opens)
same_place (line c p) (blank h q) s t = absurd (line_not_blank c h)
same_place {text} {b = b} (line c p) (line d q) s t = same_place p (subst (λ m. Skips text m b) (line_end_same d c) q) s t
same_place (line c p) (block d q) s t = absurd (line_not_block c d)
same_place (block c p) nothing s t = absurd (t.block _ c)
same_place (block c p) (blank h q) s t = absurd (block_not_blank c h)
same_place (block c p) (line d q) s t = absurd (line_not_block d c)
same_place {text} {b = b} (block c p) (block d q) s t = same_place p (subst (λ m. Skips text (m + 2) b) (close_same d c) q) s t

-- a pair stands within the text
pub pair_fits : (text : List ℕ) (at a b : ℕ) → has_pair text at a b ≡ true → 0 < b → at + 2 ≤ length text
pair_fits text at a b h some =
    let read = (pair_is text at a b h).1 in
    ⊎_elim (λ l. omega arith) (λ past. absurd (omega (arith, get_or_past text (at + 1) 0 past))) (cases_lt (at + 1) (length text))

pub no_pair_past : (text : List ℕ) (at a b : ℕ) → length text ≤ at → 0 < a → has_pair text at a b ≡ false
no_pair_past text at a b past some =
    false_from_ne_true _ (λ h. omega (arith, (pair_is text at a b h).0, get_or_past text at 0 past))

-- blanks and comments, and then more of them
pub Skips-join : {text : List ℕ} {a b c : ℕ} → Skips text a b → Skips text b c → Skips text a c
Skips-join nothing q = q
Skips-join (blank h p) q = blank h (Skips-join p q)
Skips-join (line c p) q = line c (Skips-join p q)
Skips-join (block c p) q = block c (Skips-join p q)

blank_byte : (text : List ℕ) (at : ℕ) → is_blank (get_or text at 0) ≡ true → (0 < get_or text at 0) × (get_or text at 0 < 128)
blank_byte text at h =
    ⊎_elim (λ e. (omega arith, omega arith)) (⊎_elim (λ e. (omega arith, omega arith)) (λ e. (omega arith, omega arith))) (blank_is (get_or text at 0) h)

-- a place within a text, by its byte
read_within : (text : List ℕ) (at : ℕ) → 0 < get_or text at 0 → at < length text
read_within text at some = ⊎_elim (λ l. l) (λ past. absurd (omega (arith, get_or_past text at 0 past))) (cases_lt at (length text))

-- blanks and comments end between characters
pub IsCharBoundary-Skips : {text : List ℕ} {at to : ℕ} → IsUtf8 text → IsCharBoundary text at → Skips text at to → IsCharBoundary text to
IsCharBoundary-Skips u cut nothing = cut
IsCharBoundary-Skips {text} {at} u cut (blank h p) =
    let byte = blank_byte text at h in
    IsCharBoundary-Skips u (IsCharBoundary-after_ascii text at u (read_within text at byte.0) byte.1) p
IsCharBoundary-Skips {text} u cut (line {mid = mid} c p) =
    IsCharBoundary-Skips u
    (⊎_elim (λ l. IsCharBoundary-before_ascii text mid l (omega (arith, c.ends l)))
    (λ g. let e : length text ≡ mid = omega (arith, c.fits) in subst (λ m. IsCharBoundary text m) e (IsCharBoundary-end text))
    (cases_lt mid (length text)))
    p
IsCharBoundary-Skips {text} u cut (block {close = close} c p) =
    let byte = (pair_is text close 42 47 c.closes).1 in
    let e : (close + 1) + 1 ≡ close + 2 = omega arith in
    IsCharBoundary-Skips u
    (subst (λ m. IsCharBoundary text m) e (IsCharBoundary-after_ascii text (close + 1) u (read_within text (close + 1) (omega (arith, byte))) (omega (arith, byte))))
    p
