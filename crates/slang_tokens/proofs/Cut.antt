-- The tokens before the first that nests too deep.
use Rattle.std.proofs.Common.{◌≡◌, ◌⊎◌, inl, inr, ℕ, zero, suc, ◌+◌, ◌≤◌, ◌<◌, true, false, cond, List, [], ◌∷◌, ◌++◌, length, take, Option, Some, None, refl, sym, ap, ◌∙◌, subst, append_assoc, append-nil, arith}
use Rattle.std.specs.Prelude.{slice_get, nat_le, nat_lt, get_or}
use Rattle.std.specs.Option.{option_map}
use Rattle.std.proofs.lemmas.Bool.{le-leb, lt-leb, leb-false}
use Rattle.std.proofs.lemmas.Bool.Decides.{leb_tells}
use Rattle.std.proofs.lemmas.Option.{none-some, slice_get_past, slice_get-get_or}
use Rattle.std.proofs.Math.Seq.{take-append_seam}
use Rattle.slang_tokens.specs.declared.read.TokensEnd.{TokensEnd}
use Rattle.slang_tokens.specs.declared.lexeme.Lexeme.{Lexeme}
use Rattle.slang_tokens.specs.Tok.{Tok, tok, toks}
use Rattle.slang_tokens.specs.Weights.{weight, AreLight}
use Rattle.slang_tokens.specs.Weight.{Counts, no_counts, counted, weighed, light_len}
use Rattle.slang_tokens.specs.Tokens.{AreStanding, AreThoseBefore, whole, heavy, AreTokens, fault, weight_limit}
use Rattle.slang_tokens.proofs.Weights.{counted_all, weighs}
use Rattle.slang_tokens.proofs.Scan.{standing_one}

counted_snoc : (at : Counts) (tokens : List Tok) (token : Tok) → counted_all at (tokens ++ token ∷ []) ≡ counted (counted_all at tokens) token.kind
counted_snoc at [] token = refl
counted_snoc at (one ∷ tokens) token = counted_snoc (counted at one.kind) tokens token

-- what stands behind these tokens weighs as the code counts it
weighs_next : (before : List Tok) (token : Tok) → weighed (counted (counted_all no_counts before) token.kind) ≡ weight (before ++ token ∷ [])
weighs_next before token = ap weighed (sym (counted_snoc no_counts before token)) ∙ weighs (before ++ token ∷ [])

-- What is light goes on, and what is too heavy ends it.
abbrev len_from : ℕ → List Tok → List Tok → ℕ
len_from limit before tokens = light_len limit (counted_all no_counts before) tokens

light_on : (limit : ℕ) (before : List Tok) (token : Tok) (more : List Tok) → weight (before ++ token ∷ []) ≤ limit
    → len_from limit before (token ∷ more) ≡ suc (len_from limit (before ++ token ∷ []) more)
light_on limit before token more h =
    ap (λ b. cond b (suc (light_len limit (counted (counted_all no_counts before) token.kind) more)) 0) (le-leb _ limit (subst (λ w. w ≤ limit) (sym (weighs_next before token)) h))
    ∙ ap (λ at. suc (light_len limit at more)) (sym (counted_snoc no_counts before token))

light_ends : (limit : ℕ) (before : List Tok) (token : Tok) (more : List Tok) → limit < weight (before ++ token ∷ [])
    → len_from limit before (token ∷ more) ≡ 0
light_ends limit before token more h =
    ap (λ b. cond b (suc (light_len limit (counted (counted_all no_counts before) token.kind) more)) 0) (lt-leb _ limit (subst (λ w. limit < w) (sym (weighs_next before token)) h))

-- the light tokens in front
pub light_front : (limit : ℕ) (before tokens more : List Tok) → AreLight limit before tokens
    → len_from limit before (tokens ++ more) ≡ len_from limit (before ++ tokens) more + length tokens
light_front limit before [] more h = let e = ap (λ xs. len_from limit xs more) (append-nil before) in omega (arith, e)
light_front limit before (token ∷ tokens) more h =
    let e = light_on limit before token (tokens ++ more) h.0 in
    let k = light_front limit (before ++ token ∷ []) tokens more h.1 in
    let s = ap (λ xs. len_from limit xs more) (append_assoc before (token ∷ []) tokens) in
    omega (arith, e, k, s)

-- the tokens of the code's length are light, and the one behind them is not
pub record IsCutAt (limit : ℕ) (before tokens : List Tok) (len : ℕ) : Type 0 where
  pub light : AreLight limit before (take len tokens)
  pub over : (token : Tok) → slice_get tokens len ≡ Some token → (more : List Tok) × (tokens ≡ take len tokens ++ token ∷ more) × (limit < weight ((before ++ take len tokens) ++ token ∷ []))
  pub all : slice_get tokens len ≡ None → take len tokens ≡ tokens

cut_more : (limit : ℕ) (before : List Tok) (token : Tok) (tokens : List Tok) (len : ℕ) → weight (before ++ token ∷ []) ≤ limit
    → IsCutAt limit (before ++ token ∷ []) tokens len → IsCutAt limit before (token ∷ tokens) (suc len)
cut_more limit before token tokens len h k = record {
  light = (h, k.light);
  over = λ one e. let p = k.over one e in
      (p.0, ap (λ xs. token ∷ xs) p.1, subst (λ xs. limit < weight (xs ++ one ∷ [])) (append_assoc before (token ∷ []) (take len tokens)) p.2);
  all = λ e. ap (λ xs. token ∷ xs) (k.all e);
}

cut_here : (limit : ℕ) (before : List Tok) (token : Tok) (tokens : List Tok) → limit < weight (before ++ token ∷ []) → IsCutAt limit before (token ∷ tokens) 0
cut_here limit before token tokens h = record {
  light = tt;
  over = λ one e. let same : token ≡ one = ap (unwrap_or_token token) e in
      (tokens, ap (λ t. t ∷ tokens) same, subst (λ xs. limit < weight (xs ++ one ∷ [])) (sym (append-nil before)) (subst (λ t. limit < weight (before ++ t ∷ [])) same h));
  all = λ e. absurd (none-some token (sym e));
} where
  unwrap_or_token : Tok → Option Tok → Tok
  unwrap_or_token t None = t
  unwrap_or_token t (Some u) = u

pub cut_at : (limit : ℕ) (before tokens : List Tok) → IsCutAt limit before tokens (len_from limit before tokens)
cut_at limit before [] = record { light = tt; over = λ token h. absurd (none-some token h); all = λ h. refl }
cut_at limit before (token ∷ tokens) = by (cut_at limit (before ++ token ∷ []) tokens) (leb_tells (weight (before ++ token ∷ [])) limit) where
  by : IsCutAt limit (before ++ token ∷ []) tokens (len_from limit (before ++ token ∷ []) tokens) → ((nat_le (weight (before ++ token ∷ [])) limit ≡ true) × (weight (before ++ token ∷ []) ≤ limit)) ⊎ ((nat_le (weight (before ++ token ∷ [])) limit ≡ false) × (limit < weight (before ++ token ∷ [])))
      → IsCutAt limit before (token ∷ tokens) (len_from limit before (token ∷ tokens))
  by hyp (inl h) = subst (IsCutAt limit before (token ∷ tokens)) (sym (light_on limit before token tokens h.1)) (cut_more limit before token tokens _ h.1 hyp)
  by hyp (inr h) = subst (IsCutAt limit before (token ∷ tokens)) (sym (light_ends limit before token tokens h.1)) (cut_here limit before token tokens h.1)

-- what the code keeps of all tokens

abbrev pub len_of : List Tok → ℕ
len_of all = light_len weight_limit no_counts all

-- no token is too heavy
pub cut_whole : (text : List ℕ) (all : List Tok) (end : TokensEnd) → AreStanding text all end → slice_get all (len_of all) ≡ None → AreTokens text all end
cut_whole text all end h e =
    let cut = cut_at weight_limit [] all in
    record { all = all; all_end = end; stand = h; light = whole refl refl (subst (AreLight weight_limit []) (cut.all e) cut.light) }

-- one is
pub cut_heavy : (text : List ℕ) (all : List Tok) (end : TokensEnd) (token : Tok) → AreStanding text all end → slice_get all (len_of all) ≡ Some token
    → AreTokens text (take (len_of all) all) (fault 5 token.place)
cut_heavy text all end token h e =
    let cut = cut_at weight_limit [] all in
    let p = cut.over token e in
    record { all = all; all_end = end; stand = h; light = heavy token p.0 p.1 cut.light p.2 refl }

-- these are the tokens, whichever are
len_of_front : (tokens more : List Tok) → AreLight weight_limit [] tokens → len_of (tokens ++ more) ≡ len_from weight_limit tokens more + length tokens
len_of_front tokens more h = light_front weight_limit [] tokens more h

abbrev Answer : List Tok → TokensEnd → Option Tok → List Tok × TokensEnd
Answer all end None = (all, end)
Answer all end (Some token) = (take (len_of all) all, fault 5 token.place)

got : (tokens : List Tok) (token : Tok) (more : List Tok) → slice_get (tokens ++ token ∷ more) (length tokens) ≡ Some token
got [] token more = refl
got (one ∷ tokens) token more = got tokens token more

only : (all : List Tok) (all_end : TokensEnd) (tokens : List Tok) (end : TokensEnd) → AreThoseBefore all all_end tokens end
    → (tokens, end) ≡ Answer all all_end (slice_get all (len_of all))
only all all_end tokens end (whole same ends light) =
    let n : len_of all ≡ length all = (
    let e = len_of_front tokens [] light in
    let f = ap len_of (append-nil tokens) in
    let g = ap len_of same in
    let l = ap length same in
    omega (arith, e, f, g, l)
    ) in
    let none : slice_get all (len_of all) ≡ None = slice_get_past all (len_of all) (omega (arith, n)) in
    ap (λ t. (t, end)) same ∙ ap (λ e. (all, e)) ends ∙ sym (ap (Answer all all_end) none)
only all all_end tokens end (heavy token more same light weighs ends) =
    let n : len_of all ≡ length tokens = (
    let e = len_of_front tokens (token ∷ more) light in
    let f = light_ends weight_limit tokens token more weighs in
    let g = ap len_of same in
    omega (arith, e, f, g)
    ) in
    let some : slice_get all (len_of all) ≡ Some token = ap (λ xs. slice_get xs (len_of all)) same ∙ ap (slice_get (tokens ++ token ∷ more)) n ∙ got tokens token more in
    let front : take (len_of all) all ≡ tokens = ap (take (len_of all)) same ∙ ap (λ k. take k (tokens ++ token ∷ more)) n ∙ take-append_seam tokens (token ∷ more) in
    ap (λ e. (tokens, e)) ends ∙ ap (λ t. (t, fault 5 token.place)) (sym front) ∙ sym (ap (Answer all all_end) some)

pub tokens_one : (text : List ℕ) (a b : List Tok) (end end' : TokensEnd) → AreTokens text a end → AreTokens text b end' → (a ≡ b) × (end ≡ end')
tokens_one text a b end end' h k =
    let same = standing_one text h.all k.all h.all_end k.all_end h.stand k.stand in
    let e = only h.all h.all_end a end h.light in
    let f = only k.all k.all_end b end' k.light in
    let g : (a, end) ≡ (b, end') = e ∙ ap (λ all. Answer all h.all_end (slice_get all (len_of all))) same.0
    ∙ ap (λ end. Answer k.all end (slice_get k.all (len_of k.all))) same.1 ∙ sym f in
    (ap (λ p. p.0) g, ap (λ p. p.1) g)

-- the same of the lexemes of the code

got_tok : (items : List Lexeme) (n : ℕ) → slice_get (toks items) n ≡ option_map tok (slice_get items n)
got_tok [] n = refl
got_tok (one ∷ items) zero = refl
got_tok (one ∷ items) (suc n) = got_tok items n

take_toks : (n : ℕ) (items : List Lexeme) → take n (toks items) ≡ toks (take n items)
take_toks zero items = refl
take_toks (suc n) [] = refl
take_toks (suc n) (one ∷ items) = ap (λ xs. tok one ∷ xs) (take_toks n items)

pub kept_heavy : (text : List ℕ) (items : List Lexeme) (end : TokensEnd) (len : ℕ) (one : Lexeme) → AreStanding text (toks items) end → len ≡ len_of (toks items)
    → len < length items → one ≡ get_or items len one → AreTokens text (toks (take len items)) (fault 5 one.place)
kept_heavy text items end len one h same below is_one =
    let got : slice_get (toks items) len ≡ Some (tok one) = got_tok items len ∙ ap (option_map tok) (slice_get-get_or items len one below ∙ ap Some (sym is_one)) in
    let e : take (len_of (toks items)) (toks items) ≡ toks (take len items) = ap (λ n. take n (toks items)) (sym same) ∙ take_toks len items in
    subst (λ tokens. AreTokens text tokens (fault 5 one.place)) e (cut_heavy text (toks items) end (tok one) h (ap (slice_get (toks items)) (sym same) ∙ got))

pub kept_whole : (text : List ℕ) (items : List Lexeme) (end : TokensEnd) (len : ℕ) → AreStanding text (toks items) end → len ≡ len_of (toks items)
    → nat_lt len (length items) ≡ false → AreTokens text (toks items) end
kept_whole text items end len h same past =
    cut_whole text (toks items) end h (ap (slice_get (toks items)) (sym same) ∙ got_tok items len
    ∙ ap (option_map tok) (slice_get_past items len (let e = leb-false (suc len) (length items) past in omega (arith, e))))
