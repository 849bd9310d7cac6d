-- All tokens are light where as many as they are stand before the first that is not.
use Rattle.std.proofs.Common.{◌≡◌, ◌==◌, ℕ, Bool, true, List, [], ◌++◌, length, take, sym, ap, ◌∙◌, subst, append-nil, arith}
use Rattle.std.specs.Prelude.{◌↔◌, IsTrue}
use Rattle.std.proofs.Math.Seq.{take-length}
use Rattle.std.proofs.lemmas.Bool.Decides.{nat_tests}
use Rattle.slang_tokens.specs.Tok.{Tok}
use Rattle.slang_tokens.specs.Tokens.{weight_limit}
use Rattle.slang_tokens.specs.Weight.{light_len, no_counts}
use Rattle.slang_tokens.specs.Weights.{AreLight}
use Rattle.slang_tokens.proofs.Cut.{cut_at, light_front}

same_from : (a b : ℕ) → (a == b) ≡ true → a ≡ b
same_from a b h = grind (arith, nat_tests, h)

same_true : (a b : ℕ) → a ≡ b → (a == b) ≡ true
same_true a b h = grind (arith, nat_tests, h)

pub light_where : (tokens : List Tok) (len : ℕ) → len ≡ light_len weight_limit no_counts tokens → (b : Bool) → b ≡ (len == length tokens)
    → IsTrue b ↔ AreLight weight_limit [] tokens
light_where tokens len is b test = (to, from)
  where
    all : ℕ
    all = light_len weight_limit no_counts tokens

    to : IsTrue b → AreLight weight_limit [] tokens
    to h =
        let n : light_len weight_limit no_counts tokens ≡ length tokens = sym is ∙ same_from len (length tokens) (sym test ∙ h) in
        subst (AreLight weight_limit []) (ap (λ k. take k tokens) n ∙ take-length tokens) (cut_at weight_limit [] tokens).light

    from : AreLight weight_limit [] tokens → IsTrue b
    from h =
        let e = light_front weight_limit [] tokens [] h in
        let f : light_len weight_limit no_counts (tokens ++ []) ≡ light_len weight_limit no_counts tokens =
        ap (light_len weight_limit no_counts) (append-nil tokens) in
        test ∙ same_true len (length tokens) (omega (arith, is, f, e))
