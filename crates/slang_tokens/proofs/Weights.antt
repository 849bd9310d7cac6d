-- The weights of the code are those of the rule.
use Rattle.std.proofs.Common.{◌≡◌, ℕ, zero, suc, ◌+◌, ◌-◌, Bool, true, false, ◌&&◌, ◌||◌, cond, List, [], ◌∷◌, ◌++◌, length, take, refl, sym, ap, ◌∙◌, arith}
use Rattle.std.specs.Prelude.{sum, unwrap_or, slice_get}
use Rattle.std.specs.List.{fold}
use Rattle.std.proofs.lemmas.List.{length_push}
use Rattle.std.proofs.lemmas.Option.{unwrap_or-slice_get}
use Rattle.std.proofs.Math.Seq.{take-append_seam, get_or-append_seam}
use denote.Enum.Bare.{same_true}
use Rattle.slang_lexer.specs.contracts.token.TokenKind.{the_type}
use Rattle.slang_lexer.specs.declared.token.TokenKind.TheVariants as kind
use Rattle.slang_lexer.specs.declared.token.TokenKind.{TokenKind}
use Rattle.slang_tokens.specs.Tok.{Tok, same_kind}
use Rattle.slang_tokens.specs.Kinds.{opens, closes, counts, is_counted, counted_kinds, begins_count}
use Rattle.slang_tokens.specs.Weights.{lasts, weight}
use Rattle.slang_tokens.specs.Weight.{Counts, no_counts, opened, closed, counted, weighed}

abbrev one_if : Bool → ℕ
one_if b = cond b 1 0

-- a count, where it lasts
abbrev if_lasts : ℕ → ℕ → List Tok → ℕ
if_lasts count depth more = cond (lasts depth more) count 0

-- what is left behind more tokens of the counts outside the innermost level
abbrev left_outer : List ℕ → ℕ → List Tok → ℕ
left_outer [] depth more = 0
left_outer (count ∷ outer) depth more = if_lasts count (suc (length outer + depth)) more + left_outer outer depth more

abbrev left : Counts → List Tok → ℕ
left at more = if_lasts at.here 0 more + left_outer at.outer 0 more

-- behind each kind of token

lasts_open : (token : Tok) (more : List Tok) → opens token.kind ≡ true → (n : ℕ) → lasts n (token ∷ more) ≡ lasts (suc n) more
lasts_open token more h zero = rw h refl
lasts_open token more h (suc n) = rw h refl

lasts_closed : (token : Tok) (more : List Tok) → opens token.kind ≡ false → closes token.kind ≡ true → lasts 0 (token ∷ more) ≡ false
lasts_closed token more h k = rw (h, k) refl

lasts_close : (token : Tok) (more : List Tok) → opens token.kind ≡ false → closes token.kind ≡ true → (n : ℕ) → lasts (suc n) (token ∷ more) ≡ lasts n more
lasts_close token more h k n = rw (h, k) refl

lasts_begun : (token : Tok) (more : List Tok) → opens token.kind ≡ false → closes token.kind ≡ false → begins_count token.kind ≡ true → lasts 0 (token ∷ more) ≡ false
lasts_begun token more h k b = rw (h, k, b) refl

lasts_here : (token : Tok) (more : List Tok) → opens token.kind ≡ false → closes token.kind ≡ false → begins_count token.kind ≡ false → lasts 0 (token ∷ more) ≡ lasts 0 more
lasts_here token more h k b = rw (h, k, b) refl

lasts_on : (token : Tok) (more : List Tok) → opens token.kind ≡ false → closes token.kind ≡ false → (n : ℕ) → lasts (suc n) (token ∷ more) ≡ lasts (suc n) more
lasts_on token more h k n = rw (h, k) refl

-- the counts of the levels outside

sum_from : (start : ℕ) (counts : List ℕ) → fold ◌+◌ start counts ≡ start + sum counts
sum_from start [] = omega arith
sum_from start (count ∷ counts) =
    let e = sum_from (start + count) counts in
    let f = sum_from (0 + count) counts in
    omega (arith, e, f)

left_all : (outer : List ℕ) (depth : ℕ) → left_outer outer depth [] ≡ sum outer
left_all [] depth = refl
left_all (count ∷ outer) depth = ap (λ n. count + n) (left_all outer depth) ∙ sym (let e = sum_from (0 + count) outer in omega (arith, e))

left_push : (outer : List ℕ) (count depth : ℕ) (more : List Tok) → left_outer (outer ++ count ∷ []) depth more ≡ left_outer outer (suc depth) more + if_lasts count (suc depth) more
left_push [] count depth more =
    let e : if_lasts count (suc (0 + depth)) more ≡ if_lasts count (suc depth) more = ap (λ n. if_lasts count n more) (omega arith) in
    omega (arith, e)
left_push (one ∷ outer) count depth more =
    let e : if_lasts one (suc (length (outer ++ count ∷ []) + depth)) more ≡ if_lasts one (suc (length outer + suc depth)) more =
    ap (λ n. if_lasts one n more) (let l = length_push outer count in omega (arith, l)) in
    let h = left_push outer count depth more in
    omega (arith, e, h)

left_open : (outer : List ℕ) (depth : ℕ) (token : Tok) (more : List Tok) → opens token.kind ≡ true → left_outer outer depth (token ∷ more) ≡ left_outer outer (suc depth) more
left_open [] depth token more h = refl
left_open (one ∷ outer) depth token more h =
    let e : if_lasts one (suc (length outer + depth)) (token ∷ more) ≡ if_lasts one (suc (length outer + suc depth)) more =
    ap (λ b. cond b one 0) (lasts_open token more h (suc (length outer + depth)) ∙ ap (λ n. lasts n more) (omega arith)) in
    let k = left_open outer depth token more h in
    omega (arith, e, k)

left_close : (outer : List ℕ) (depth : ℕ) (token : Tok) (more : List Tok) → opens token.kind ≡ false → closes token.kind ≡ true → left_outer outer (suc depth) (token ∷ more) ≡ left_outer outer depth more
left_close [] depth token more h c = refl
left_close (one ∷ outer) depth token more h c =
    let e : if_lasts one (suc (length outer + suc depth)) (token ∷ more) ≡ if_lasts one (suc (length outer + depth)) more =
    ap (λ b. cond b one 0) (lasts_close token more h c (length outer + suc depth) ∙ ap (λ n. lasts n more) (omega arith)) in
    let k = left_close outer depth token more h c in
    omega (arith, e, k)

left_on : (outer : List ℕ) (depth : ℕ) (token : Tok) (more : List Tok) → opens token.kind ≡ false → closes token.kind ≡ false → left_outer outer depth (token ∷ more) ≡ left_outer outer depth more
left_on [] depth token more h c = refl
left_on (one ∷ outer) depth token more h c =
    let e : if_lasts one (suc (length outer + depth)) (token ∷ more) ≡ if_lasts one (suc (length outer + depth)) more =
    ap (λ b. cond b one 0) (lasts_on token more h c (length outer + depth)) in
    let k = left_on outer depth token more h c in
    omega (arith, e, k)

-- a list is empty or has a last member
data Ends (A : Type 0) : List A → Type 0 where
  none : Ends A []
  last : (front : List A) (one : A) → Ends A (front ++ one ∷ [])

ends : {A : Type 0} (list : List A) → Ends A list
ends {A = A} [] = none
ends {A = A} (x ∷ xs) = by xs (ends xs) where
  by : (xs : List A) → Ends A xs → Ends A (x ∷ xs)
  by xs none = last [] x
  by xs (last front one) = last (x ∷ front) one

zero_if : (b : Bool) → cond {A = ℕ} b 0 0 ≡ 0
zero_if true = refl
zero_if false = refl

left_closed : (outer : List ℕ) (here : ℕ) (token : Tok) (more : List Tok) → opens token.kind ≡ false → closes token.kind ≡ true
    → left (closed (record { outer = outer; here = here })) more ≡ left (record { outer = outer; here = here }) (token ∷ more)
left_closed outer here token more h c = by outer (ends outer) where
  gone : if_lasts here 0 (token ∷ more) ≡ 0
  gone = ap (λ b. cond b here 0) (lasts_closed token more h c)

  by : (outer : List ℕ) → Ends ℕ outer → left (closed (record { outer = outer; here = here })) more ≡ if_lasts here 0 (token ∷ more) + left_outer outer 0 (token ∷ more)
  by outer none = let z = zero_if (lasts 0 more) in omega (arith, gone, z)
  by outer (last front one) =
      let push = left_push front one 0 (token ∷ more) in
      let down = left_close front 0 token more h c in
      let e : if_lasts one 1 (token ∷ more) ≡ if_lasts one 0 more = ap (λ b. cond b one 0) (lasts_close token more h c 0) in
      let l : length (front ++ one ∷ []) - 1 ≡ length front = (let k = length_push front one in omega (arith, k)) in
      let t : take (length (front ++ one ∷ []) - 1) (front ++ one ∷ []) ≡ front = ap (λ n. take n (front ++ one ∷ [])) l ∙ take-append_seam front (one ∷ []) in
      let g : unwrap_or (slice_get (front ++ one ∷ []) (length (front ++ one ∷ []) - 1)) 0 ≡ one = ap (λ n. unwrap_or (slice_get (front ++ one ∷ []) n) 0) l ∙ (unwrap_or-slice_get (front ++ one ∷ []) (length front) 0 ∙ get_or-append_seam front one [] 0) in
      rw (t, g) (omega (arith, push, down, e, gone))

-- what closes a bracket or begins a count does not count
either : (a b : Bool) (P : Type 0) → (a ≡ true → P) → (b ≡ true → P) → (a || b) ≡ true → P
either true b P f g h = f refl
either false b P f g h = g h

closes_nothing : (k : TokenKind) → closes k ≡ true → is_counted k ≡ false
unfolding counted_kinds
closes_nothing k h =
    either (same_kind k kind.RightParen) _ (is_counted k ≡ false) (λ e. rw (same_true the_type tt k kind.RightParen e) refl)
    (λ r. either (same_kind k kind.RightBracket) _ (is_counted k ≡ false) (λ e. rw (same_true the_type tt k kind.RightBracket e) refl)
    (λ e. rw (same_true the_type tt k kind.RightBrace e) refl) r) h

begins_nothing : (k : TokenKind) → begins_count k ≡ true → is_counted k ≡ false
unfolding counted_kinds
begins_nothing k h =
    either (same_kind k kind.Comma) _ (is_counted k ≡ false) (λ e. rw (same_true the_type tt k kind.Comma e) refl)
    (λ e. rw (same_true the_type tt k kind.Newline e) refl) h

-- one token, and those behind it
counted_left : (at : Counts) (token : Tok) (more : List Tok)
    → left (counted at token.kind) more ≡ left at (token ∷ more) + one_if (counts token.kind && lasts (cond (opens token.kind) 1 0) more)
counted_left at token more = by_open (opens token.kind) refl where
  k : TokenKind
  k = token.kind

  here : Bool → ℕ
  here b = cond b (at.here + 1) at.here

  goal : Bool → Bool → Bool → Bool → Type 0
  goal o c b n =
      left (cond o (opened at) (cond c (closed at) (cond b (record at { here = 0 }) (cond n (record at { here = at.here + 1 }) at)))) more
      ≡ left at (token ∷ more) + one_if ((o || n) && lasts (cond o 1 0) more)

  by_counted : opens k ≡ false → closes k ≡ false → begins_count k ≡ false → (n : Bool) → goal false false false n
  by_counted o c b true =
      let e : if_lasts at.here 0 (token ∷ more) ≡ if_lasts at.here 0 more = ap (λ x. cond x at.here 0) (lasts_here token more o c b) in
      let f = left_on at.outer 0 token more o c in
      let g = by (lasts 0 more) in
      omega (arith, e, f, g) where
        by : (x : Bool) → cond x (at.here + 1) 0 ≡ cond x at.here 0 + cond x 1 0
        by true = refl
        by false = refl
  by_counted o c b false =
      let e : if_lasts at.here 0 (token ∷ more) ≡ if_lasts at.here 0 more = ap (λ x. cond x at.here 0) (lasts_here token more o c b) in
      let f = left_on at.outer 0 token more o c in
      omega (arith, e, f)

  by_begin : opens k ≡ false → closes k ≡ false → (b : Bool) → begins_count k ≡ b → goal false false b (is_counted k)
  by_begin o c true h =
      let e : if_lasts at.here 0 (token ∷ more) ≡ 0 = ap (λ x. cond x at.here 0) (lasts_begun token more o c h) in
      let f = left_on at.outer 0 token more o c in
      let z = zero_if (lasts 0 more) in
      rw (begins_nothing k h) (omega (arith, e, f, z))
  by_begin o c false h = by_counted o c h (is_counted k)

  by_close : opens k ≡ false → (c : Bool) → closes k ≡ c → goal false c (begins_count k) (is_counted k)
  by_close o true h = let e = left_closed at.outer at.here token more o h in rw (closes_nothing k h) (omega (arith, e))
  by_close o false h = by_begin o h (begins_count k) refl

  by_open : (o : Bool) → opens k ≡ o → goal o (closes k) (begins_count k) (is_counted k)
  by_open true h =
      let e : if_lasts at.here 0 (token ∷ more) ≡ if_lasts at.here 1 more = ap (λ x. cond x at.here 0) (lasts_open token more h 0) in
      let f = left_open at.outer 0 token more h in
      let p = left_push at.outer (at.here + 1) 0 more in
      let z = zero_if (lasts 0 more) in
      let g = by (lasts 1 more) in
      omega (arith, e, f, p, z, g) where
        by : (x : Bool) → cond x (at.here + 1) 0 ≡ cond x at.here 0 + cond x 1 0
        by true = refl
        by false = refl
  by_open false h = by_close h (closes k) refl

-- the counts behind these tokens
abbrev pub counted_all : Counts → List Tok → Counts
counted_all at [] = at
counted_all at (token ∷ more) = counted_all (counted at token.kind) more

weighed_all : (at : Counts) (tokens : List Tok) → weighed (counted_all at tokens) ≡ left at tokens + weight tokens
weighed_all at [] = let e = left_all at.outer 0 in omega (arith, e)
weighed_all at (token ∷ more) =
    let h = weighed_all (counted at token.kind) more in
    let e = counted_left at token more in
    omega (arith, h, e)

-- the weight of the code is that of the rule
pub weighs : (tokens : List Tok) → weighed (counted_all no_counts tokens) ≡ weight tokens
weighs tokens = let h = weighed_all no_counts tokens in let z = zero_if (lasts 0 tokens) in omega (arith, h, z)
