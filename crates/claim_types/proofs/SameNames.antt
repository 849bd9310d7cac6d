-- Names of the same types give the same types of claims.
use Rattle.std.proofs.Common.{◌≡◌, ℕ, Bool, ◌&&◌, List, [], ◌∷◌, length, Option, refl, ap, ◌∙◌}
use Rattle.std.specs.Prelude.{nat_lt}
use Rattle.slang_values.specs.Value.{ValueType, number_type, truth_type, sequence_type, record_type, Records, fields, is_known}
use Rattle.slang_values.specs.Tree.{Tree, literal, truth_literal, name, bound, unary, binary, update, quantified, listed, Trees, no_trees, tree_then, sequence_of, record_of}
use Rattle.slang_values.specs.Typing.{NameTypes}
use Rattle.claim_types.specs.Judged.{given_if, is_type, with_element, between, of_one, judged, each_judged, all_judged}

module _ {A : Type 0} (records : Records) (types others : NameTypes A) (same : (a : A) → types a ≡ others a) where
  mutual
    pub same_judged : (t : Tree A) → judged records types t ≡ judged records others t
    same_judged (literal z) = refl
    same_judged (truth_literal b) = refl
    same_judged (name a) = same a
    same_judged (bound n) = refl
    same_judged (unary op a) = ap (of_one records op) (same_judged a)
    same_judged (binary op a b) =
        ap (λ o. between op o (judged records types b)) (same_judged a) ∙ ap (between op (judged records others a)) (same_judged b)
    same_judged (update a i x) =
        ap (λ o. with_element (is_type number_type (judged records types i)) o (judged records types x)) (same_judged a)
        ∙ ap (λ o. with_element (is_type number_type o) (judged records others a) (judged records types x)) (same_judged i)
        ∙ ap (with_element (is_type number_type (judged records others i)) (judged records others a)) (same_judged x)
    same_judged (quantified q low high body) =
        ap (λ o. given_if (is_type number_type o && (is_type number_type (judged records types high) && is_type truth_type (judged records types body))) truth_type)
        (same_judged low)
        ∙ ap (λ o. given_if (is_type number_type (judged records others low) && (is_type number_type o && is_type truth_type (judged records types body))) truth_type)
        (same_judged high)
        ∙ ap (λ o. given_if (is_type number_type (judged records others low) && (is_type number_type (judged records others high) && is_type truth_type o)) truth_type)
        (same_judged body)
    same_judged (listed (sequence_of t) ts) = ap (λ b. given_if (is_known records t && b) (sequence_type t)) (each_same ts t)
    same_judged (listed (record_of n) ts) = ap (λ b. given_if (nat_lt n (length records) && b) (record_type n)) (all_same ts (fields records n))

    each_same : (ts : Trees A) (t : ValueType) → each_judged records types ts t ≡ each_judged records others ts t
    each_same no_trees t = refl
    each_same (tree_then a ts) t =
        ap (λ o. is_type t o && each_judged records types ts t) (same_judged a) ∙ ap (λ b. is_type t (judged records others a) && b) (each_same ts t)

    all_same : (as' : Trees A) (ts : List ValueType) → all_judged records types as' ts ≡ all_judged records others as' ts
    all_same no_trees [] = refl
    all_same no_trees (t ∷ ts) = refl
    all_same (tree_then a as') [] = refl
    all_same (tree_then a as') (t ∷ ts) =
        ap (λ o. is_type t o && all_judged records types as' ts) (same_judged a) ∙ ap (λ b. is_type t (judged records others a) && b) (all_same as' ts)
