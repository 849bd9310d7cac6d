-- Which names a claim over other variables mentions.
use Rattle.std.proofs.Common.{◌≡◌, Bool, ◌||◌, List, [], ◌∷◌, map, refl, ap, ap₂, sym, ◌∙◌}
use Rattle.slang_values.specs.Tree.{literal, truth_literal, name, bound, unary, binary, update, quantified, listed, Trees, no_trees, tree_then}
use Rattle.validity.specs.Bind.{bind_all}
use Rattle.program_trees.specs.Claims.{ClaimName, ClaimTree, NotedTree, variable, old_variable, let_symbol, renamed_name, renamed_claim, renamed_noted}
use Rattle.leg_rules.specs.Mentions.{have_name, on_variable, mentions, some_mention}

-- the same of the name that each stands for
on_renamed : {A B : Type 0} (f : A → B) (test : B → Bool) (a : ClaimName A) → on_variable test (renamed_name f a) ≡ on_variable (λ x. test (f x)) a
on_renamed f test (variable x) = refl
on_renamed f test (old_variable x) = refl
on_renamed f test (let_symbol label) = refl

module _ {A B : Type 0} (f : A → B) (test : B → Bool) where
  mutual
    pub mentions-renamed : (t : ClaimTree A) → mentions test (renamed_claim f t) ≡ mentions (λ x. test (f x)) t
    mentions-renamed (literal z) = refl
    mentions-renamed (truth_literal b) = refl
    mentions-renamed (name a) = on_renamed f test a
    mentions-renamed (bound n) = refl
    mentions-renamed (unary op a) = mentions-renamed a
    mentions-renamed (binary op a b) = ap₂ (λ x y. x || y) (mentions-renamed a) (mentions-renamed b)
    mentions-renamed (update a i x) = ap₂ (λ u v. u || v) (mentions-renamed a) (ap₂ (λ u v. u || v) (mentions-renamed i) (mentions-renamed x))
    mentions-renamed (quantified q low high body) =
        ap₂ (λ u v. u || v) (mentions-renamed low) (ap₂ (λ u v. u || v) (mentions-renamed high) (mentions-renamed body))
    mentions-renamed (listed l ts) = some-renamed ts

    some-renamed : (ts : Trees (ClaimName A)) → have_name (on_variable test) (bind_all (λ a. name (renamed_name f a)) ts) ≡ have_name (on_variable (λ x. test (f x))) ts
    some-renamed no_trees = refl
    some-renamed (tree_then t ts) = ap₂ (λ u v. u || v) (mentions-renamed t) (some-renamed ts)

-- two ways to name the variables that one test tells alike
pub mentions_alike : {A B C : Type 0} (f : A → B) (g : A → C) (p : B → Bool) (q : C → Bool) → ((a : A) → p (f a) ≡ q (g a)) →
    (t : ClaimTree A) → mentions p (renamed_claim f t) ≡ mentions q (renamed_claim g t)
mentions_alike f g p q same t =
    mentions-renamed f p t ∙ ap (λ test. mentions test t) (λ i a. same a i) ∙ sym (mentions-renamed g q t)

pub some_alike : {A B C : Type 0} (f : A → B) (g : A → C) (p : B → Bool) (q : C → Bool) → ((a : A) → p (f a) ≡ q (g a)) →
    (ts : List (NotedTree A)) → some_mention p (map (renamed_noted f) ts) ≡ some_mention q (map (renamed_noted g) ts)
some_alike f g p q same [] = refl
some_alike f g p q same (t ∷ ts) = ap₂ (λ u v. u || v) (mentions_alike f g p q same t.claim) (some_alike f g p q same ts)
