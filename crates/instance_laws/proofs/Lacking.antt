-- What facts lack of two lists.
use Rattle.std.proofs.Common.{◌≡◌, List, [], ◌∷◌, ◌++◌, Bool, true, false, cond, refl, sym, ap, ◌∙◌, append_assoc}
use Rattle.std.specs.List.{list_any}
use Rattle.std.proofs.lemmas.List.{append-nil}
use Rattle.slang_values.specs.Tree.{Tree}
use Rattle.instance_rules.specs.Instances.{is_same, lacking}
use Rattle.instance_laws.specs.Laws.{LacksInOrder}

pub lacks_in_order : LacksInOrder
lacks_in_order facts [] us = ap (λ fs. lacking fs us) (sym (append-nil facts))
lacks_in_order facts (t ∷ ts) us = by_test (list_any (is_same t) facts) (lacks_in_order facts ts us) (lacks_in_order (facts ++ t ∷ []) ts us)
  where
    by_test : (b : Bool) → lacking facts (ts ++ us) ≡ lacking facts ts ++ lacking (facts ++ lacking facts ts) us →
        lacking (facts ++ t ∷ []) (ts ++ us) ≡ lacking (facts ++ t ∷ []) ts ++ lacking ((facts ++ t ∷ []) ++ lacking (facts ++ t ∷ []) ts) us →
        cond b (lacking facts (ts ++ us)) (t ∷ lacking (facts ++ t ∷ []) (ts ++ us)) ≡
        cond b (lacking facts ts) (t ∷ lacking (facts ++ t ∷ []) ts) ++ lacking (facts ++ cond b (lacking facts ts) (t ∷ lacking (facts ++ t ∷ []) ts)) us
    by_test true same more = same
    by_test false same more = ap (λ xs. t ∷ xs) (more ∙ ap (λ fs. lacking (facts ++ t ∷ []) ts ++ lacking fs us) (append_assoc facts (t ∷ []) (lacking (facts ++ t ∷ []) ts)))
