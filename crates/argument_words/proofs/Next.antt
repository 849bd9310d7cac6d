-- What the lexer tells where neither a blank nor a comment stands in front.
use Rattle.std.proofs.Common.{◌≡◌, ◌≢◌, ℕ, ◌-◌, ◌<◌, ◌≤◌, true, false, List, length, take, get_or, slice_range, None, refl, sym, ◌∙◌, ap, subst, ⊎_elim, arith}
use Rattle.std.proofs.lemmas.Bool.{both_ways}
use Rattle.std.proofs.lemmas.Bool.Decides.{nat_tests}
use Rattle.slang_lexer.specs.declared.token.Token.{Token}
use Rattle.slang_lexer.specs.declared.token.LexFault.{LexFault}
use Rattle.slang_lexer.specs.declared.token.TokenKind.{TokenKind}
use Rattle.slang_lexer.specs.declared.token.TokenKind.TheVariants as kind
use Rattle.slang_lexer.specs.Spelling.{kind_of}
use Rattle.slang_lexer.specs.Comment.{is_blank as is_lexer_blank, Skips, nothing, blank, line, block, opens_line, opens_block}
use Rattle.slang_lexer.specs.Scan.{IsLongestFront, NoLongerFront}
use Rattle.slang_lexer.specs.Next.{IsNext, IsEnd, IsLongest, IsLexFault, open_comment, bad_character, too_large}
use Rattle.slang_lexer.proofs.Places.{pair_is}
use Rattle.argument_rules.specs.Words.{is_blank}

-- both tests of blanks are one
blank_same : (b : ℕ) → is_lexer_blank b ≡ true → is_blank b ≡ true
blank_same b h = grind (arith, nat_tests, h)

pub no_minus : (n : ℕ) → n - 0 ≡ n
no_minus n = omega arith

module _ (text : List ℕ) (no_blank : is_blank (get_or text 0 0) ≡ false) (no_slash : get_or text 0 0 ≢ 47) where
  no_line : opens_line text 0 ≡ true → ⊥
  no_line h = no_slash (pair_is text 0 47 47 h).0

  no_block : opens_block text 0 ≡ true → ⊥
  no_block h = no_slash (pair_is text 0 47 42 h).0

  nothing_skipped : (from to : ℕ) → from ≡ 0 → Skips text from to → to ≡ 0
  nothing_skipped from to z nothing = z
  nothing_skipped from to z (blank h more) =
      absurd (both_ways _ no_blank (blank_same (get_or text 0 0) (subst (λ i. is_lexer_blank (get_or text i 0) ≡ true) z h)))
  nothing_skipped from to z (line h more) = absurd (no_line (subst (λ i. opens_line text i ≡ true) z h.opens))
  nothing_skipped from to z (block h more) = absurd (no_block (subst (λ i. opens_block text i ≡ true) z h.opens))

  longest_front : (start end : ℕ) (k : TokenKind) → start ≡ 0 → IsLongest text (record { kind = k; start = start; end = end }) → IsLongestFront text k end
  longest_front start end k z h =
      let zero = subst (λ s. IsLongest text (record { kind = k; start = s; end = end })) z h in
      record {
        nonempty = zero.nonempty;
        fits = zero.fits;
        spells = ap (λ i. kind_of (take i text)) (sym (no_minus end)) ∙ zero.spells;
        longest = λ m l fits. ap (λ i. kind_of (take i text)) (sym (no_minus m)) ∙ zero.longest m l fits;
      }

  pub token_is : 0 < length text → (token : Token) → IsNext text 0 token → IsLongestFront text token.kind token.end
  token_is some token h =
      let start = nothing_skipped 0 token.start refl h.reached.skips in
      ⊎_elim (λ (e : IsEnd text token). absurd (omega (arith, e.start, start, some)))
      (λ (l : IsLongest text token). longest_front token.start token.end token.kind start l) h.read

  pub fault_none : (fault : LexFault) → IsLexFault text 0 fault → fault.code ≢ 3 → NoLongerFront text 0
  fault_none fault (open_comment code skips comment) other =
      absurd (no_block (subst (λ i. opens_block text i ≡ true) (nothing_skipped 0 fault.at refl skips) comment.opens))
  fault_none fault (bad_character code reaches bad) other =
      let zero = nothing_skipped 0 fault.at refl reaches.skips in
      λ m l fits. ap (λ i. kind_of (take i text)) (sym (no_minus m))
      ∙ subst (λ i. (longer : ℕ) → i < longer → longer ≤ length text → kind_of (slice_range text i longer) ≡ None) zero bad.nothing m l fits
  fault_none fault (too_large code reaches large) other = absurd (other code)

  pub fault_number : (fault : LexFault) → IsLexFault text 0 fault → fault.code ≡ 3 → (n : ℕ) × IsLongestFront text kind.Number n
  fault_number fault (open_comment code skips comment) is = absurd (two fault.code code is)
    where
      two : (c : ℕ) → c ≡ 2 → c ≡ 3 → ⊥
      two c h e = omega (arith, h, e)
  fault_number fault (bad_character code reaches bad) is = absurd (two fault.code code is)
    where
      two : (c : ℕ) → c ≡ 2 → c ≡ 3 → ⊥
      two c h e = omega (arith, h, e)
  fault_number fault (too_large code reaches large) is =
      let zero = nothing_skipped 0 fault.at refl reaches.skips in
      (large.end, longest_front fault.at large.end kind.Number zero large.read)
