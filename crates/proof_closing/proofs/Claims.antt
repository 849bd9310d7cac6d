-- Cited and visible claims, one more at a time.
use Rattle.std.proofs.Common.{◌≡◌, ℕ, ◌+◌, ◌<◌, List, [], ◌∷◌, ◌++◌, map, length, take, get_or, refl, sym, ap, ◌∙◌, append_assoc}
use Rattle.std.proofs.lemmas.List.{map-append, take_more}
use Rattle.slang_values.specs.Tree.{Tree}
use Rattle.rule_check.specs.declared.cited.Cited.{Cited as One}
use Rattle.rule_check.specs.Cited.{cited_tree}
use Rattle.deduction_rules.specs.Step.{Cited, claimed, concluded}
use Rattle.deduction_rules.specs.Deduction.{Labelled, claims_of, visible_claims}
use Rattle.proof_scopes.specs.declared.scope.Labelled.{Labelled as Entry}
use Rattle.proof_scopes.specs.Scope.{labelled_tree}

pub claims_of-append : (xs ys : List Cited) → claims_of (xs ++ ys) ≡ claims_of xs ++ claims_of ys
claims_of-append [] ys = refl
claims_of-append (claimed t ∷ xs) ys = ap (λ cs. t ∷ cs) (claims_of-append xs ys)
claims_of-append (concluded k a x ∷ xs) ys = claims_of-append xs ys

pub visible_claims-append : (xs ys : List Labelled) → visible_claims (xs ++ ys) ≡ visible_claims xs ++ visible_claims ys
visible_claims-append [] ys = refl
visible_claims-append (x ∷ xs) ys =
    ap (λ cs. claims_of (x.cited ∷ []) ++ cs) (visible_claims-append xs ys) ∙
    sym (append_assoc (claims_of (x.cited ∷ [])) (visible_claims xs) (visible_claims ys))

one_more : {X : Type 0} (xs : List X) (k : ℕ) (x : X) → k < length xs → x ≡ get_or xs k x → take (k + 1) xs ≡ take k xs ++ x ∷ []
one_more xs k x h is = take_more xs k x h ∙ ap (λ y. take k xs ++ y ∷ []) (sym is)

pub cited_more : (first old new : List (Tree ℕ)) (xs : List One) (k : ℕ) (x : One) → k < length xs → x ≡ get_or xs k x →
    old ≡ first ++ claims_of (map cited_tree (take k xs)) → new ≡ old ++ claims_of (cited_tree x ∷ []) →
    new ≡ first ++ claims_of (map cited_tree (take (k + 1) xs))
cited_more first old new xs k x h is e f =
    f ∙ ap (λ o. o ++ claims_of (cited_tree x ∷ [])) e ∙
    append_assoc first (claims_of (map cited_tree (take k xs))) (claims_of (cited_tree x ∷ [])) ∙
    ap (λ cs. first ++ cs) (sym (
    ap (λ ys. claims_of (map cited_tree ys)) (one_more xs k x h is) ∙ ap claims_of (map-append cited_tree (take k xs) (x ∷ [])) ∙
    claims_of-append (map cited_tree (take k xs)) (cited_tree x ∷ [])))

nothing_behind : (x : Cited) → claims_of (x ∷ []) ++ [] ≡ claims_of (x ∷ [])
nothing_behind (claimed t) = refl
nothing_behind (concluded k a x) = refl

pub visible_more : (first old new : List (Tree ℕ)) (xs : List Entry) (k : ℕ) (x : Entry) → k < length xs → x ≡ get_or xs k x →
    old ≡ first ++ visible_claims (map labelled_tree (take k xs)) → new ≡ old ++ claims_of (cited_tree x.cited ∷ []) →
    new ≡ first ++ visible_claims (map labelled_tree (take (k + 1) xs))
visible_more first old new xs k x h is e f =
    f ∙ ap (λ o. o ++ claims_of (cited_tree x.cited ∷ [])) e ∙
    append_assoc first (visible_claims (map labelled_tree (take k xs))) (claims_of (cited_tree x.cited ∷ [])) ∙
    ap (λ cs. first ++ cs) (sym (
    ap (λ ys. visible_claims (map labelled_tree ys)) (one_more xs k x h is) ∙ ap visible_claims (map-append labelled_tree (take k xs) (x ∷ [])) ∙
    visible_claims-append (map labelled_tree (take k xs)) (labelled_tree x ∷ []) ∙
    ap (λ cs. visible_claims (map labelled_tree (take k xs)) ++ cs) (nothing_behind (cited_tree x.cited))))
