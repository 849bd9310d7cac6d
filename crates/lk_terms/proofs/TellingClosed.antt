-- How the loose bound variables of a list of terms are told.
use Rattle.std.proofs.Common.{◌≡◌, ℕ, zero, suc, ◌+◌, ◌<◌, List, [], ◌∷◌, ◌++◌, map, length, get_or, take, Option, true, false, refl, sym, ap, ◌∙◌, subst, arith}
use Rattle.std.proofs.lemmas.Bool.{false≢true}
use Rattle.std.proofs.lemmas.List.{take_more, map-append}
use Rattle.slang_values.specs.Tree.{Tree, no_trees}
use Rattle.slang_values.specs.Typing.{IsClosed, AreClosed}
use Rattle.term_trees.specs.declared.term.Term.{Term}
use Rattle.term_trees.specs.Term.{tree, trees, trees_of}
use Rattle.lk_terms.specs.Closed.{TellsClosed, TellAllClosed}

AreClosed-push : (n : ℕ) (ts : List (Tree ℕ)) (t : Tree ℕ) → AreClosed n (trees_of ts) → IsClosed n t → AreClosed n (trees_of (ts ++ t ∷ []))
AreClosed-push n [] t h k = (k, tt)
AreClosed-push n (x ∷ ts) t h k = (h.0, AreClosed-push n ts t h.1 k)

AreClosed-at : (n : ℕ) (terms : List Term) (i : ℕ) (d : Term) → i < length terms → AreClosed n (trees terms) → IsClosed n (tree (get_or terms i d))
AreClosed-at n [] i d l h = absurd (omega arith)
AreClosed-at n (t ∷ ts) zero d l h = h.0
AreClosed-at n (t ∷ ts) (suc i) d l h = AreClosed-at n ts i d (omega arith) h.1

pub TellAllClosed-none : (place : Option ℕ) → TellAllClosed place no_trees true
TellAllClosed-none place = record { at = λ n h. (λ e. tt, λ c. refl) }

-- the step of a loop over terms
pub TellAllClosed-more : (place : Option ℕ) (terms : List Term) (i : ℕ) (t : Term) → TellAllClosed place (trees (take i terms)) true → i < length terms → t ≡ get_or terms i t → TellsClosed place (tree t) true → TellAllClosed place (trees (take (i + 1) terms)) true
TellAllClosed-more place terms i t all l is one = record { at = λ n h. (λ e. more n ((all.at n h).0 refl) ((one.at n h).0 refl), λ c. refl) }
  where
    front : take (i + 1) terms ≡ take i terms ++ t ∷ []
    front = take_more terms i t l ∙ ap (λ x. take i terms ++ x ∷ []) (sym is)

    more : (n : ℕ) → AreClosed n (trees (take i terms)) → IsClosed n (tree t) → AreClosed n (trees (take (i + 1) terms))
    more n a c = rw (front, map-append) (AreClosed-push n (map tree (take i terms)) (tree t) a c)

pub TellAllClosed-not : (place : Option ℕ) (terms : List Term) (i : ℕ) (t : Term) → i < length terms → t ≡ get_or terms i t → TellsClosed place (tree t) false → TellAllClosed place (trees terms) false
TellAllClosed-not place terms i t l is one = record {
  at = λ n h. (λ e. absurd (false≢true e), λ all. absurd (false≢true ((one.at n h).1 (subst (λ x. IsClosed n (tree x)) (sym is) (AreClosed-at n terms i t l all)))));
}
