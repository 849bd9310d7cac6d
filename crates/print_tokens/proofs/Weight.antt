-- Tokens weigh the same at other places.
use Rattle.std.proofs.Common.{◌≡◌, ℕ, zero, suc, ◌+◌, ◌≤◌, not, ◌&&◌, cond, List, [], ◌∷◌, ◌++◌, refl, sym, ◌∙◌, subst}
use Rattle.slang_tokens.specs.Tok.{Tok}
use Rattle.slang_tokens.specs.Kinds.{opens, closes, counts, begins_count}
use Rattle.slang_tokens.specs.Weights.{lasts, weight, AreLight}
use Rattle.moved_texts.specs.Moved.{Alike, none, both}

lasts_alike : {xs ys : List Tok} → Alike xs ys → (depth : ℕ) → lasts depth ys ≡ lasts depth xs
lasts_alike none depth = refl
lasts_alike (both k t a) zero =
    λ i. cond (opens (k i)) (lasts_alike a 1 i) (not (closes (k i)) && (not (begins_count (k i)) && lasts_alike a 0 i))
lasts_alike (both k t a) (suc depth) = λ i. cond (opens (k i)) (lasts_alike a (suc (suc depth)) i)
    (cond (closes (k i)) (lasts_alike a depth i) (lasts_alike a (suc depth) i))

weight_alike : {xs ys : List Tok} → Alike xs ys → weight ys ≡ weight xs
weight_alike none = refl
weight_alike (both {x = x} {y = y} {xs = xs} {ys = ys} k t a) =
    (λ i. cond (counts (k i) && lasts (cond (opens (k i)) 1 0) ys) 1 0 + weight ys)
    ∙ (λ i. cond (counts x.kind && lasts_alike a (cond (opens x.kind) 1 0) i) 1 0 + weight_alike a i)

alike_append : {xs ys zs ws : List Tok} → Alike xs ys → Alike zs ws → Alike (xs ++ zs) (ys ++ ws)
alike_append none h = h
alike_append (both k t a) h = both k t (alike_append a h)

pub light_alike : {xs ys : List Tok} → Alike xs ys → (limit : ℕ) (before before' : List Tok) → Alike before before' → AreLight limit before xs
    → AreLight limit before' ys
light_alike none limit before before' b h = tt
light_alike (both {x = x} {y = y} k t a) limit before before' b h =
    let c = alike_append b (both k t none) in
    (subst (λ n. n ≤ limit) (sym (weight_alike c)) h.0, light_alike a limit (before ++ x ∷ []) (before' ++ y ∷ []) c h.1)
