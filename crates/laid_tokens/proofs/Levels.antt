-- The levels of newlines, and the brackets that are open.
use Rattle.std.proofs.Common.{◌≡◌, ◌+◌, ◌-◌, Bool, true, false, cond, List, [], ◌∷◌, ◌++◌, length, take, Some, refl, sym, ◌∙◌, ap, subst, ◌⊎◌, ⊎_elim, arith, length-append}
use Rattle.std.specs.Prelude.{slice_get}
use Rattle.std.proofs.Math.Seq.{take-append_seam}
use Rattle.std.proofs.lemmas.Bool.{or_cases, cond-true, cond-false}
use Rattle.slang_lexer.specs.declared.token.TokenKind.{TokenKind}
use Rattle.slang_lexer.specs.declared.token.TokenKind.TheVariants as kind
use Rattle.slang_tokens.specs.declared.lines.Level.{Level}
use Rattle.slang_tokens.specs.declared.lines.Level.TheVariants.{Grouped, Test}
use Rattle.slang_tokens.specs.Tok.{same_kind}
use Rattle.slang_tokens.specs.Kinds.{groups, opens, closes, heads_test}
use Rattle.slang_tokens.specs.Newlines.{opened, levels_with, innermost, is_grouped}
use Rattle.laid_tokens.specs.Laid.{inside}
use Rattle.laid_tokens.proofs.Tables.{same_kinds}

-- the levels, the outermost first, of brackets, the innermost first
pub data Matches : List Bool → List Level → Type 0 where
  none_open : Matches [] []
  more_open : {around : List Bool} (outer : List Level) (level : Level) → Matches around outer → Matches (is_grouped (Some level) ∷ around)
      (outer ++ level ∷ [])

innermost_is : (outer : List Level) (level : Level) → innermost (outer ++ level ∷ []) ≡ Some level
innermost_is outer level =
    let l = length-append outer (level ∷ []) in
    ap (λ n. slice_get (outer ++ level ∷ []) n) (let e : length (outer ++ level ∷ []) - 1 ≡ length outer = omega (arith, l) in e) ∙ at_seam outer
  where
    at_seam : (xs : List Level) → slice_get (xs ++ level ∷ []) (length xs) ≡ Some level
    at_seam [] = refl
    at_seam (x ∷ xs) = at_seam xs

pub inside_is : {around : List Bool} {levels : List Level} → Matches around levels → is_grouped (innermost levels) ≡ inside around
inside_is none_open = refl
inside_is (more_open outer level m) = ap is_grouped (innermost_is outer level)

outer_is : (outer : List Level) (level : Level) → take (length (outer ++ level ∷ []) - 1) (outer ++ level ∷ []) ≡ outer
outer_is outer level =
    let l = length-append outer (level ∷ []) in
    ap (λ n. take n (outer ++ level ∷ [])) (let e : length (outer ++ level ∷ []) - 1 ≡ length outer = omega (arith, l) in e) ∙ take-append_seam outer
    (level ∷ [])

-- a bracket opens a level as its kind says
opened_is : (k last : TokenKind) → opens k ≡ true → is_grouped (Some (opened k last)) ≡ groups k
opened_is k last h =
    ⊎_elim
    (λ round. ⊎_elim (λ (e : same_kind k kind.LeftParen ≡ true). subst (λ j. is_grouped (Some (opened j last)) ≡ groups j)
    (sym (same_kinds k kind.LeftParen e)) (paren (heads_test last)))
    (λ (e : same_kind k kind.LeftBracket ≡ true). subst (λ j. is_grouped (Some (opened j last)) ≡ groups j) (sym (same_kinds k kind.LeftBracket e)) refl)
    (or_cases (same_kind k kind.LeftParen) (same_kind k kind.LeftBracket) round))
    (λ (e : same_kind k kind.LeftBrace ≡ true). subst (λ j. is_grouped (Some (opened j last)) ≡ groups j) (sym (same_kinds k kind.LeftBrace e)) refl)
    (or_cases (groups k) (same_kind k kind.LeftBrace) h)
  where
    paren : (b : Bool) → is_grouped (Some (cond b Test Grouped)) ≡ true
    paren true = refl
    paren false = refl

pub matches_open : (around : List Bool) (levels : List Level) (k last : TokenKind) → Matches around levels → opens k ≡ true
    → Matches (groups k ∷ around) (levels_with levels k last)
matches_open around levels k last m h =
    subst (Matches (groups k ∷ around)) (sym (cond-true (opens k) _ _ h))
    (subst (λ g. Matches (g ∷ around) (levels ++ opened k last ∷ [])) (opened_is k last h) (more_open levels (opened k last) m))

pub matches_close : (group : Bool) (around : List Bool) (levels : List Level) (k last : TokenKind) → Matches (group ∷ around) levels → opens k ≡ false
    → closes k ≡ true
    → Matches around (levels_with levels k last)
matches_close group around levels k last (more_open outer level m) o c =
    subst (Matches around) (sym (cond-false (opens k) _ _ o ∙ cond-true (closes k) _ _ c ∙ outer_is outer level)) m

pub matches_plain : (around : List Bool) (levels : List Level) (k last : TokenKind) → Matches around levels → opens k ≡ false → closes k ≡ false
    → Matches around (levels_with levels k last)
matches_plain around levels k last m o c = subst (Matches around) (sym (cond-false (opens k) _ _ o ∙ cond-false (closes k) _ _ c)) m
