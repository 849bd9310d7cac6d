-- What parts of a text add to the weights, as they are counted token by token.
use Rattle.std.proofs.Common.{◌≡◌, ℕ, ◌+◌, ◌-◌, ◌≤◌, max, List, [], ◌∷◌, ◌++◌, length, take, refl, sym, ap, ◌∙◌, subst, arith}
use Rattle.std.specs.Prelude.{sum, unwrap_or, slice_get}
use Rattle.std.proofs.lemmas.List.{length_push}
use Rattle.std.proofs.lemmas.List.Sums.{fold-append}
use Rattle.std.proofs.lemmas.Option.{unwrap_or-slice_get}
use Rattle.std.proofs.Math.Seq.{take-append_seam, get_or-append_seam}
use Rattle.slang_lexer.specs.declared.token.TokenKind.{TokenKind}
use Rattle.slang_tokens.specs.Tok.{Tok}
use Rattle.slang_tokens.specs.Weights.{weight, AreLight}
use Rattle.slang_tokens.specs.Weight.{Counts, no_counts, opened, closed, counted, weighed}
use Rattle.slang_tokens.proofs.Weights.{counted_all, weighs}
use Rattle.print_expressions.specs.Hefts.{Heft, nothing, one, around, followed}

-- ---- what a token does to the counts

-- so many more count at the innermost level
abbrev pub more_here : Counts → ℕ → Counts
more_here at n = record { outer = at.outer; here = at.here + n }

-- nothing counts at the innermost level
abbrev pub fresh : List ℕ → Counts
fresh outer = record { outer = outer; here = 0 }

abbrev pub IsPlain : TokenKind → Type 0
IsPlain k = (at : Counts) → counted at k ≡ at

abbrev pub IsCounted : TokenKind → Type 0
IsCounted k = (at : Counts) → counted at k ≡ more_here at 1

abbrev pub IsOpening : TokenKind → Type 0
IsOpening k = (at : Counts) → counted at k ≡ opened at

abbrev pub IsClosing : TokenKind → Type 0
IsClosing k = (at : Counts) → counted at k ≡ closed at

abbrev pub IsSeparating : TokenKind → Type 0
IsSeparating k = (at : Counts) → counted at k ≡ fresh at.outer

sum_push : (outer : List ℕ) (n : ℕ) → sum (outer ++ n ∷ []) ≡ sum outer + n
sum_push outer n = fold-append ◌+◌ 0 outer (n ∷ [])

abbrev without_last : List ℕ → Counts
without_last l = record { outer = take (length l - 1) l; here = unwrap_or (slice_get l (length l - 1)) 0 }

closed_is : (at : Counts) (outer : List ℕ) (n : ℕ) → at.outer ≡ outer ++ n ∷ [] → closed at ≡ record { outer = outer; here = n }
closed_is at outer n e =
    let l : length (outer ++ n ∷ []) - 1 ≡ length outer = (let k = length_push outer n in omega (arith, k)) in
    let t : take (length (outer ++ n ∷ []) - 1) (outer ++ n ∷ []) ≡ outer = ap (λ k. take k (outer ++ n ∷ [])) l ∙ take-append_seam outer (n ∷ []) in
    let g : unwrap_or (slice_get (outer ++ n ∷ []) (length (outer ++ n ∷ []) - 1)) 0 ≡ n
    = ap (λ k. unwrap_or (slice_get (outer ++ n ∷ []) k) 0) l ∙ (unwrap_or-slice_get (outer ++ n ∷ []) (length outer) 0 ∙ get_or-append_seam outer n [] 0) in
    ap without_last e ∙ (λ i. record { outer = t i; here = g i })

here_is : (at : Counts) (n m : ℕ) → n ≡ m → more_here at n ≡ more_here at m
here_is at n m e = ap (more_here at) e

here_none : (at : Counts) → at ≡ more_here at 0
here_none at = λ i. record { outer = at.outer; here = sum_is i }
  where
    sum_is : at.here ≡ at.here + 0
    sum_is = omega arith

here_twice : (at : Counts) (n m : ℕ) → more_here (more_here at n) m ≡ more_here at (n + m)
here_twice at n m = λ i. record { outer = at.outer; here = sum_is i }
  where
    sum_is : (at.here + n) + m ≡ at.here + (n + m)
    sum_is = omega arith

counted-append : (at : Counts) (xs ys : List Tok) → counted_all at (xs ++ ys) ≡ counted_all (counted_all at xs) ys
counted-append at [] ys = refl
counted-append at (x ∷ xs) ys = counted-append (counted at x.kind) xs ys

weighs_next : (before : List Tok) (token : Tok) → weighed (counted (counted_all no_counts before) token.kind) ≡ weight (before ++ token ∷ [])
weighs_next before token = ap weighed (sym (counted-append no_counts before (token ∷ []))) ∙ weighs (before ++ token ∷ [])

-- ---- parts of a text

module _ (limit : ℕ) where
  -- none of these tokens weighs too much behind these counts
  abbrev pub Light : Counts → List Tok → Type 0
  Light at [] = Unit {0}
  Light at (token ∷ more) = (weighed (counted at token.kind) ≤ limit) × Light (counted at token.kind) more

  pub light_from : (before tokens : List Tok) → AreLight limit before tokens → Light (counted_all no_counts before) tokens
  light_from before [] h = tt
  light_from before (token ∷ more) h = (
    subst (λ w. w ≤ limit) (sym (weighs_next before token)) h.0,
    subst (λ at. Light at more) (counted-append no_counts before (token ∷ [])) (light_from (before ++ token ∷ []) more h.1),
  )

  pub light_to : (before tokens : List Tok) → Light (counted_all no_counts before) tokens → AreLight limit before tokens
  light_to before [] h = tt
  light_to before (token ∷ more) h = (
    subst (λ w. w ≤ limit) (weighs_next before token) h.0,
    light_to (before ++ token ∷ []) more (subst (λ at. Light at more) (sym (counted-append no_counts before (token ∷ []))) h.1),
  )

  light_parts : (at : Counts) (xs ys : List Tok) → Light at (xs ++ ys) → Light at xs × Light (counted_all at xs) ys
  light_parts at [] ys h = (tt, h)
  light_parts at (x ∷ xs) ys h = let p = light_parts (counted at x.kind) xs ys h.1 in ((h.0, p.0), p.1)

  light_joined : (at : Counts) (xs ys : List Tok) → Light at xs → Light (counted_all at xs) ys → Light at (xs ++ ys)
  light_joined at [] ys h k = k
  light_joined at (x ∷ xs) ys h k = (h.0, light_joined (counted at x.kind) xs ys h.1 k)

  -- These tokens, in which nothing ends a count, add so much.
  pub record Has (tokens : List Tok) (own : Heft) : Type 0 where
    pub within : own.count ≤ own.peak
    pub behind : (at : Counts) → counted_all at tokens ≡ more_here at own.count
    pub needs : (at : Counts) → weighed at ≤ limit → Light at tokens → weighed at + own.peak ≤ limit
    pub suffices : (at : Counts) → weighed at + own.peak ≤ limit → Light at tokens

  -- These tokens, in which commas or newlines may end counts, add at most so much inside an open bracket.
  pub record Inside (tokens : List Tok) (peak : ℕ) : Type 0 where
    pub outside : (outer : List ℕ) → (counted_all (fresh outer) tokens).outer ≡ outer
    pub needs : (outer : List ℕ) → sum outer ≤ limit → Light (fresh outer) tokens → sum outer + peak ≤ limit
    pub suffices : (outer : List ℕ) → sum outer + peak ≤ limit → Light (fresh outer) tokens

  pub has_is : {tokens : List Tok} {a b : Heft} → a.peak ≡ b.peak → a.count ≡ b.count → Has tokens a → Has tokens b
  has_is {tokens} {a} {b} p c h = subst (Has tokens) (λ i. record { peak = p i; count = c i }) h

  pub inside_is : {tokens : List Tok} {a b : ℕ} → a ≡ b → Inside tokens a → Inside tokens b
  inside_is {tokens} e h = subst (Inside tokens) e h

  pub has_none : Has [] nothing
  has_none = record {
    within = omega arith;
    behind = λ at. here_none at;
    needs = λ at w l. omega (arith, w);
    suffices = λ at w. tt;
  }

  pub has_plain : {tokens : List Tok} {own : Heft} (token : Tok) → IsPlain token.kind → Has tokens own → Has (token ∷ tokens) own
  has_plain {tokens} {own} token p h = record {
    within = h.within;
    behind = λ at. ap (λ a. counted_all a tokens) (p at) ∙ h.behind at;
    needs = λ at w l. h.needs at w (subst (λ a. Light a tokens) (p at) l.1);
    suffices = λ at w. (
      subst (λ a. weighed a ≤ limit) (sym (p at)) (omega (arith, w)),
      subst (λ a. Light a tokens) (sym (p at)) (h.suffices at w),
    );
  }

  pub has_one : {tokens : List Tok} {own : Heft} (token : Tok) → IsCounted token.kind → Has tokens own → Has (token ∷ tokens) (followed one own)
  has_one {tokens} {own} token p h = record {
    within = let u = h.within in omega (arith, u);
    behind = λ at. ap (λ a. counted_all a tokens) (p at) ∙ h.behind (more_here at 1) ∙ here_twice at 1 own.count;
    needs = λ at w l.
        let u : weighed (more_here at 1) ≤ limit = subst (λ a. weighed a ≤ limit) (p at) l.0 in
        let v = h.needs (more_here at 1) u (subst (λ a. Light a tokens) (p at) l.1) in
        omega (arith, v, u);
    suffices = λ at w. (
      subst (λ a. weighed a ≤ limit) (sym (p at)) (omega (arith, w)),
      subst (λ a. Light a tokens) (sym (p at)) (h.suffices (more_here at 1) (omega (arith, w))),
    );
  }

  pub has_then : {xs ys : List Tok} {a b : Heft} → Has xs a → Has ys b → Has (xs ++ ys) (followed a b)
  has_then {xs} {ys} {a} {b} h k = record {
    within = let u = h.within in let v = k.within in omega (arith, u, v);
    behind = λ at. counted-append at xs ys ∙ ap (λ s. counted_all s ys) (h.behind at) ∙ k.behind (more_here at a.count) ∙ here_twice at a.count b.count;
    needs = λ at w l.
        let p = light_parts at xs ys l in
        let u = h.needs at w p.0 in
        let n = h.within in
        let v = k.needs (more_here at a.count) (omega (arith, u, n)) (subst (λ s. Light s ys) (h.behind at) p.1) in
        omega (arith, u, v);
    suffices = λ at w.
        light_joined at xs ys (h.suffices at (omega (arith, w)))
        (subst (λ s. Light s ys) (sym (h.behind at)) (k.suffices (more_here at a.count) (omega (arith, w))));
  }

  pub inside_has : {tokens : List Tok} {own : Heft} → Has tokens own → Inside tokens own.peak
  inside_has {tokens} {own} h = record {
    outside = λ outer. ap (λ at. at.outer) (h.behind (fresh outer));
    needs = λ outer w l. let u = h.needs (fresh outer) (omega (arith, w)) l in omega (arith, u);
    suffices = λ outer w. h.suffices (fresh outer) (omega (arith, w));
  }

  pub inside_none : Inside [] 0
  inside_none = inside_has has_none

  fresh_is : (at : Counts) (outer : List ℕ) → at.outer ≡ outer → fresh at.outer ≡ fresh outer
  fresh_is at outer e = ap fresh e

  pub inside_then : {xs ys : List Tok} {a b : ℕ} (token : Tok) → IsSeparating token.kind → Inside xs a → Inside ys b → Inside (xs ++ token ∷ ys) (max a b)
  inside_then {xs} {ys} {a} {b} token p h k = record {
    outside = λ outer.
        ap (λ at. at.outer) (counted-append (fresh outer) xs (token ∷ ys) ∙ ap (λ at. counted_all at ys) (again outer)) ∙ k.outside outer;
    needs = λ outer w l.
        let q = light_parts (fresh outer) xs (token ∷ ys) l in
        let u = h.needs outer w q.0 in
        let v = k.needs outer w (subst (λ at. Light at ys) (again outer) q.1.1) in
        omega (arith, u, v);
    suffices = λ outer w.
        light_joined (fresh outer) xs (token ∷ ys) (h.suffices outer (omega (arith, w))) (
          subst (λ at. weighed at ≤ limit) (sym (again outer)) (omega (arith, w)),
          subst (λ at. Light at ys) (sym (again outer)) (k.suffices outer (omega (arith, w))),
        );
  }
    where
      again : (outer : List ℕ) → counted (counted_all (fresh outer) xs) token.kind ≡ fresh outer
      again outer = p (counted_all (fresh outer) xs) ∙ ap fresh (h.outside outer)

  -- a bracket with what stands inside it, and behind it
  pub has_around : {xs ys : List Tok} {peak : ℕ} {own : Heft} (left right : Tok) → IsOpening left.kind → IsClosing right.kind → Inside xs peak → Has ys own
      → Has (left ∷ xs ++ right ∷ ys) (followed (around peak) own)
  has_around {xs} {ys} {peak} {own} left right o c h k = record {
    within = let u = k.within in omega (arith, u);
    behind = λ at. counted-append (counted at left.kind) xs (right ∷ ys) ∙ ap (λ s. counted_all s ys) (again at) ∙ k.behind (more_here at 1)
        ∙ here_twice at 1 own.count;
    needs = λ at w l.
        let q = light_parts (counted at left.kind) xs (right ∷ ys) l.1 in
        let first = subst (λ s. weighed s ≤ limit) (o at) l.0 in
        let s = sum_push at.outer (at.here + 1) in
        let u = h.needs (at.outer ++ (at.here + 1) ∷ []) (omega (arith, first, s)) (subst (λ a. Light a xs) (o at) q.0) in
        let last = subst (λ a. weighed a ≤ limit) (again at) q.1.0 in
        let v = k.needs (more_here at 1) last (subst (λ a. Light a ys) (again at) q.1.1) in
        omega (arith, u, v, s);
    suffices = λ at w.
        let s = sum_push at.outer (at.here + 1) in (
          subst (λ a. weighed a ≤ limit) (sym (o at)) (omega (arith, w, s)),
          light_joined (counted at left.kind) xs (right ∷ ys)
              (subst (λ a. Light a xs) (sym (o at)) (h.suffices (at.outer ++ (at.here + 1) ∷ []) (omega (arith, w, s)))) (
                subst (λ a. weighed a ≤ limit) (sym (again at)) (omega (arith, w)),
                subst (λ a. Light a ys) (sym (again at)) (k.suffices (more_here at 1) (omega (arith, w))),
              ),
        );
  }
    where
      inner : (at : Counts) → (counted_all (counted at left.kind) xs).outer ≡ at.outer ++ (at.here + 1) ∷ []
      inner at = ap (λ a. (counted_all a xs).outer) (o at) ∙ h.outside (at.outer ++ (at.here + 1) ∷ [])

      again : (at : Counts) → counted (counted_all (counted at left.kind) xs) right.kind ≡ more_here at 1
      again at = c (counted_all (counted at left.kind) xs) ∙ closed_is (counted_all (counted at left.kind) xs) at.outer (at.here + 1) (inner at)
