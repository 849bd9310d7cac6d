-- What stands next is one thing.
use Rattle.std.proofs.Common.{◌≡◌, ℕ, ◌<◌, ◌^◌, false, List, slice_range, None, refl, sym, ◌∙◌, subst, ap, ⊎_elim, arith}
use Rattle.std.proofs.lemmas.Bool.{cases_order, both_ways, or_parts}
use Rattle.slang_lexer.specs.declared.token.Token.{Token}
use Rattle.slang_lexer.specs.declared.token.LexFault.{LexFault}
use Rattle.slang_lexer.specs.declared.token.TokenKind.TheVariants as kind
use Rattle.slang_lexer.specs.Spelling.{kind_of}
use Rattle.slang_lexer.specs.Comment.{Skips, Reaches, IsOpenComment, begins_skip}
use Rattle.slang_lexer.specs.Next.{value_of, bytes_of, IsLongest, IsBadCharacter, IsTooLarge, IsLexFault, open_comment, bad_character, too_large, NextIsOne, FaultIsOne, NextIsNoFault}
use Rattle.slang_lexer.proofs.Rows.{some_same, some≢none}
use Rattle.slang_lexer.proofs.Places.{same_place, IsStuck, IsStuck-from_stops, IsStuck-from_open}

-- a place where blanks and comments end
pub record IsHalt (text : List ℕ) (at to : ℕ) : Type 0 where
  pub skips : Skips text at to
  pub stuck : IsStuck text to

IsHalt-from_Reaches : {text : List ℕ} {at to : ℕ} → Reaches text at to → IsHalt text at to
IsHalt-from_Reaches r = record { skips = r.skips; stuck = IsStuck-from_stops _ _ r.stops }

same_halt : {text : List ℕ} {at a b : ℕ} → IsHalt text at a → IsHalt text at b → a ≡ b
same_halt x y = same_place x.skips y.skips x.stuck y.stuck

open_begins : {text : List ℕ} {at : ℕ} → IsOpenComment text at → begins_skip text at ≡ false → ⊥
open_begins c h = both_ways _ (or_parts _ _ h).1 c.opens

-- from one place begins one longest token
longest_end : {text : List ℕ} {a b : Token} → IsLongest text a → IsLongest text b → a.start ≡ b.start → a.end < b.end → ⊥
longest_end {text} {a} {b} x y e l =
    some≢none y.spells (subst (λ s. kind_of (slice_range text s b.end) ≡ None) e (x.longest b.end l y.fits))

token_same : (a b : Token) → a.kind ≡ b.kind → a.start ≡ b.start → a.end ≡ b.end → a ≡ b
token_same a b k s e = λ i. record { kind = k i; start = s i; end = e i }

pub longest_is_one : {text : List ℕ} {a b : Token} → IsLongest text a → IsLongest text b → a.start ≡ b.start → a ≡ b
longest_is_one {text} {a} {b} x y s =
    let e = ⊎_elim (λ e. e) (⊎_elim (λ l. absurd (longest_end x y s l)) (λ l. absurd (longest_end y x (sym s) l))) (cases_order a.end b.end) in
    let same : slice_range text a.start a.end ≡ slice_range text b.start b.end = λ i. slice_range text (s i) (e i) in
    token_same a b (some_same (sym x.spells ∙ (ap kind_of same ∙ y.spells))) s e

pub next_is_one : NextIsOne
next_is_one text at a b x y =
    let s = same_halt (IsHalt-from_Reaches x.reached) (IsHalt-from_Reaches y.reached) in
    ⊎_elim
    (λ p. ⊎_elim (λ q. token_same a b (p.kind ∙ sym q.kind) s (p.end ∙ sym q.end)) (λ q. absurd (omega (arith, s, p.start, q.nonempty, q.fits))) y.read)
    (λ p. ⊎_elim (λ q. absurd (omega (arith, s, q.start, p.nonempty, p.fits))) (λ q. longest_is_one p q s) y.read)
    x.read

-- what is no token is no longest token either
not_bad : {text : List ℕ} {at : ℕ} {token : Token} → IsBadCharacter text at → IsLongest text token → token.start ≡ at → ⊥
not_bad {text} {at} {token} b x s =
    some≢none x.spells (subst (λ p. kind_of (slice_range text p token.end) ≡ None) (sym s) (b.nothing token.end (omega (arith, x.nonempty, s)) x.fits))

abbrev large_token : {start : ℕ} (text : List ℕ) → IsTooLarge text start → Token
large_token {start} text t = record { kind = kind.Number; start = start; end = t.end }

pub next_is_no_fault : NextIsNoFault
next_is_no_fault text at token fault x (open_comment code skips c) =
    let s = same_halt (IsHalt-from_Reaches x.reached) (record { skips = skips; stuck = IsStuck-from_open _ _ c }) in
    open_begins c (subst (λ p. begins_skip text p ≡ false) s x.reached.stops)
next_is_no_fault text at token fault x (bad_character code r c) =
    let s = same_halt (IsHalt-from_Reaches x.reached) (IsHalt-from_Reaches r) in
    ⊎_elim (λ p. omega (arith, s, p.start, c.fits)) (λ p. not_bad c p s) x.read
next_is_no_fault text at token fault x (too_large code r t) =
    let s = same_halt (IsHalt-from_Reaches x.reached) (IsHalt-from_Reaches r) in
    ⊎_elim (λ p. omega (arith, s, p.start, t.read.nonempty, t.read.fits))
    (λ p.
    let same : token ≡ large_token text t = longest_is_one p t.read s in
    let small = subst (λ (u : Token). u.kind ≡ kind.Number → value_of (bytes_of text u) < 2 ^ 127) same x.small in
    omega (arith, small refl, t.large))
    x.read

fault_same : (a b : LexFault) → a.code ≡ b.code → a.at ≡ b.at → a ≡ b
fault_same a b c p = λ i. record { code = c i; at = p i }

halts : {text : List ℕ} {at : ℕ} {fault : LexFault} → IsLexFault text at fault → IsHalt text at fault.at
halts (open_comment code skips c) = record { skips = skips; stuck = IsStuck-from_open _ _ c }
halts (bad_character code r c) = IsHalt-from_Reaches r
halts (too_large code r t) = IsHalt-from_Reaches r

same_code : {text : List ℕ} {at : ℕ} {a b : LexFault} → IsLexFault text at a → IsLexFault text at b → a.at ≡ b.at → a.code ≡ b.code
same_code (open_comment c s o) (open_comment d u v) e = c ∙ sym d
same_code (open_comment c s o) (bad_character d r v) e = c ∙ sym d
same_code {text} (open_comment c s o) (too_large d r t) e = absurd (open_begins o (subst (λ p. begins_skip text p ≡ false) (sym e) r.stops))
same_code (bad_character c s o) (open_comment d u v) e = c ∙ sym d
same_code (bad_character c s o) (bad_character d r v) e = c ∙ sym d
same_code (bad_character c s o) (too_large d r t) e = absurd (not_bad o t.read (sym e))
same_code {text} (too_large c r t) (open_comment d u v) e = absurd (open_begins v (subst (λ p. begins_skip text p ≡ false) e r.stops))
same_code (too_large c s t) (bad_character d r v) e = absurd (not_bad v t.read e)
same_code (too_large c s t) (too_large d r u) e = c ∙ sym d

pub fault_is_one : FaultIsOne
fault_is_one text at a b x y =
    let s = same_halt (halts x) (halts y) in
    fault_same a b (same_code x y s) s
