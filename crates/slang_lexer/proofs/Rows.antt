-- What a table gives, and that its first match is its longest.
use Rattle.std.proofs.Common.{◌≡◌, ℕ, ◌<◌, ◌≤◌, Bool, true, false, not, ◌&&◌, List, [], ◌∷◌, length, take, min, Option, None, Some, refl, sym, ◌∙◌, ap, subst, ⊎_elim, arith, nat_eq, length-take, length-take-le}
use Rattle.std.specs.List.{list_all, starts_with}
use Rattle.std.specs.Str.{bytes_eq}
use Rattle.std.proofs.lemmas.Bool.{both_ways, and_parts, not-true, false_from_ne_true, cond-true, cond-false, cases_Bool}
use Rattle.std.proofs.lemmas.List.{take-take, take_min}
use Rattle.std.proofs.lemmas.Slice.Eq.{bytes_eq-Decides}
use Rattle.slang_lexer.specs.declared.token.TokenKind.{TokenKind}
use Rattle.slang_lexer.specs.Spelling.{Table, kind_in}
use Rattle.slang_lexer.specs.Scan.{first_at}

-- no spelling of the table begins with this one
abbrev pub begins_none : List ℕ → Table → Bool
begins_none spelling table = list_all (λ row. not (starts_with nat_eq row.0 spelling)) table

-- each spelling begins none of those behind it
abbrev pub in_order : Table → Bool
in_order [] = true
in_order (row ∷ table) = begins_none row.0 table && in_order table

pub starts-true : (bytes spelling : List ℕ) → starts_with nat_eq bytes spelling ≡ true → take (length spelling) bytes ≡ spelling
starts-true bytes spelling h = sym ((bytes_eq-Decides spelling (take (length spelling) bytes)).0 h)

true-starts : (bytes spelling : List ℕ) → take (length spelling) bytes ≡ spelling → starts_with nat_eq bytes spelling ≡ true
true-starts bytes spelling e = (bytes_eq-Decides spelling (take (length spelling) bytes)).1 (sym e)

-- a front that is a spelling begins with it
front_starts : (bytes spelling : List ℕ) (m : ℕ) → spelling ≡ take m bytes → take (length spelling) bytes ≡ spelling
front_starts bytes spelling m e =
    let width : length spelling ≡ min m (length bytes) = ap length e ∙ length-take m bytes in
    (ap (λ n. take n bytes) width ∙ take_min m bytes) ∙ sym e

no_front : (bytes spelling : List ℕ) (m : ℕ) → starts_with nat_eq bytes spelling ≡ false → bytes_eq spelling (take m bytes) ≡ false
no_front bytes spelling m h =
    false_from_ne_true _ (λ e. both_ways _ h (true-starts bytes spelling (front_starts bytes spelling m ((bytes_eq-Decides spelling (take m bytes)).0 e))))

-- what a table gives to no front at all
pub kind_in-none : (table : Table) (bytes : List ℕ) → first_at table bytes ≡ None → (m : ℕ) → kind_in table (take m bytes) ≡ None
kind_in-none [] bytes h m = refl
kind_in-none (row ∷ table) bytes h m =
    ⊎_elim (λ (e : starts_with nat_eq bytes row.0 ≡ true). absurd (let s = sym (cond-true _ _ _ e) ∙ h in cc))
    (λ e. cond-false _ _ _ (no_front bytes row.0 m e) ∙ kind_in-none table bytes (sym (cond-false _ _ _ e) ∙ h) m)
    (cases_Bool _)

-- a longer front than a spelling that begins no other is not in the table
none_longer : (table : Table) (bytes spelling : List ℕ) (m : ℕ) → take (length spelling) bytes ≡ spelling → length spelling ≤ m → begins_none spelling table ≡ true → kind_in table (take m bytes) ≡ None
none_longer [] bytes spelling m e l h = refl
none_longer (row ∷ table) bytes spelling m e l h =
    let both = and_parts _ _ h in
    let apart : bytes_eq row.0 (take m bytes) ≡ false = false_from_ne_true _ (λ r.
    let same = (bytes_eq-Decides row.0 (take m bytes)).0 r in
    both_ways _ (not-true _ both.0) (true-starts row.0 spelling (ap (take (length spelling)) same ∙ (take-take (length spelling) m bytes l ∙ e)))) in
    cond-false _ _ _ apart ∙ none_longer table bytes spelling m e l both.1

pub some_same : {A : Type 0} {x y : A} → Some x ≡ Some y → x ≡ y
some_same e = cc

pub some≢none : {A : Type 0} {o : Option A} {x : A} → o ≡ Some x → o ≡ None → ⊥
some≢none e n = cc

same_pair : {A B : Type 0} {x u : A} {y v : B} → ◌≡◌ {A = A × B} (x, y) (u, v) → (x ≡ u) × (y ≡ v)
same_pair e = (ap (λ p. p.0) e, ap (λ p. p.1) e)

-- the first match
pub record IsFirst (table : Table) (bytes : List ℕ) (kind : TokenKind) (n : ℕ) : Type 0 where
  pub fits : n ≤ length bytes
  pub gives : kind_in table (take n bytes) ≡ Some kind
  pub longest : (m : ℕ) → n < m → m ≤ length bytes → kind_in table (take m bytes) ≡ None

-- in a table in order the first match is the longest
pub IsFirst-from : (table : Table) (bytes : List ℕ) (kind : TokenKind) (n : ℕ) → in_order table ≡ true → first_at table bytes ≡ Some (kind, n) → IsFirst table bytes kind n
IsFirst-from [] bytes kind n order h = absurd cc
IsFirst-from (row ∷ table) bytes kind n order h =
    let both = and_parts _ _ order in
    ⊎_elim
    (λ (e : starts_with nat_eq bytes row.0 ≡ true).
    let front = starts-true bytes row.0 e in
    let found : (row.1 ≡ kind) × (length row.0 ≡ n) = same_pair (some_same (sym (cond-true _ _ _ e) ∙ h)) in
    let width : length row.0 ≡ min (length row.0) (length bytes) = sym (ap length front) ∙ length-take (length row.0) bytes in
    record {
      fits = omega (arith, found.1);
      gives = cond-true _ _ _ ((bytes_eq-Decides row.0 (take n bytes)).1 (sym front ∙ ap (λ k. take k bytes) found.1)) ∙ ap Some found.0;
      longest = λ m l fits.
          let wide = length-take-le m bytes fits in
          cond-false _ _ _ (false_from_ne_true _ (λ r. let same = (bytes_eq-Decides row.0 (take m bytes)).0 r in omega (arith, found.1, ap length same)))
          ∙ none_longer table bytes row.0 m front (omega (arith, found.1)) both.0;
    })
    (λ e.
    let rest = IsFirst-from table bytes kind n both.1 (sym (cond-false _ _ _ e) ∙ h) in
    record {
      fits = rest.fits;
      gives = cond-false _ _ _ (no_front bytes row.0 n e) ∙ rest.gives;
      longest = λ m l fits. cond-false _ _ _ (no_front bytes row.0 m e) ∙ rest.longest m l fits;
    })
    (cases_Bool _)

-- what holds of each spelling of a table holds of bytes that it gives a kind
pub of_spellings : (p : List ℕ → Bool) (table : Table) (bytes : List ℕ) (kind : TokenKind) → list_all (λ row. p row.0) table ≡ true → kind_in table bytes ≡ Some kind → p bytes ≡ true
of_spellings p [] bytes kind all h = absurd (let e = h in cc)
of_spellings p (row ∷ table) bytes kind all h =
    let both = and_parts _ _ all in
    ⊎_elim (λ (e : bytes_eq row.0 bytes ≡ true). subst (λ z. p z ≡ true) ((bytes_eq-Decides row.0 bytes).0 e) both.0)
    (λ e. of_spellings p table bytes kind both.1 (sym (cond-false _ _ _ e) ∙ h))
    (cases_Bool _)

-- what holds of each kind of a table holds of the kind that it gives
pub of_kinds : (p : TokenKind → Bool) (table : Table) (bytes : List ℕ) (kind : TokenKind) → list_all (λ row. p row.1) table ≡ true → kind_in table bytes ≡ Some kind → p kind ≡ true
of_kinds p [] bytes kind all h = absurd (let e = h in cc)
of_kinds p (row ∷ table) bytes kind all h =
    let both = and_parts _ _ all in
    ⊎_elim (λ (e : bytes_eq row.0 bytes ≡ true). let same : row.1 ≡ kind = (let s = sym (cond-true _ _ _ e) ∙ h in cc) in subst (λ k. p k ≡ true) same both.0)
    (λ e. of_kinds p table bytes kind both.1 (sym (cond-false _ _ _ e) ∙ h))
    (cases_Bool _)
