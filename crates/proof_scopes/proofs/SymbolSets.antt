-- Sets of symbols, and the symbols of a term by its parts.
use Rattle.std.proofs.Common.{◌≡◌, ℕ, ◌+◌, ◌<◌, ◌≤◌, List, [], ◌∷◌, ◌++◌, map, length, take, get_or, slice_get, Bool, true, false, not, ◌&&◌, ◌||◌, cond, eqb, Some, refl, sym, ap, ap₂, ◌∙◌, arith}
use Rattle.std.proofs.Math.Bool.{or_assoc, or-false}
use Rattle.std.proofs.lemmas.Bool.Decides.{nat_tests}
use Rattle.std.proofs.lemmas.List.{take_more, take_all}
use Rattle.std.proofs.lemmas.List.Folds.{list_any-append, list_any_at}
use Rattle.std.specs.Option.{option_map}
use Rattle.std.proofs.lemmas.Option.{get_or_from_slice_get, slice_get_within, slice_get-map, slice_get_read}
use Rattle.std.specs.List.{list_any}
use Rattle.std.specs.Ordering.{is_eq, nat_cmp}
use Rattle.std.specs.BTreeSet.{BTreeSet, contains, Updates}
use Rattle.slang_values.specs.Tree.{Tree, literal, truth_literal, name, bound, unary, binary, update, quantified, listed, Trees, no_trees, tree_then, tree_list, parts}
use Rattle.term_trees.specs.declared.term.Term.{Term}
use Rattle.term_trees.specs.declared.shape.Shape.{Shape}
use Rattle.term_trees.specs.Shape.{IsShapeOf}
use Rattle.term_trees.specs.Term.{tree}
use Rattle.deduction_rules.specs.Replacement.{has_symbol, have_symbol}
use Rattle.proof_scopes.specs.Scope.{has, is_in, is_in_some, Gains}

-- ---- by parts

module _ (test : ℕ → Bool) where
  list_symbol : (ts : Trees ℕ) → have_symbol test ts ≡ list_any (has_symbol test) (tree_list ts)
  list_symbol no_trees = refl
  list_symbol (tree_then t ts) = ap (λ b. has_symbol test t || b) (list_symbol ts)

  two : (a b : Bool) → (a || b) ≡ (a || (b || false))
  two a b = ap (λ x. a || x) (sym (or-false b))

  three : (a b c : Bool) → (a || b || c) ≡ (a || (b || (c || false)))
  three a b c = or_assoc a b c ∙ ap (λ x. a || x) (two b c)

  pub symbol_in_parts : (t : Tree ℕ) → ((n : ℕ) → t ≡ name n → ⊥) → has_symbol test t ≡ list_any (has_symbol test) (parts t)
  symbol_in_parts (literal z) h = refl
  symbol_in_parts (truth_literal b) h = refl
  symbol_in_parts (name n) h = absurd (h n refl)
  symbol_in_parts (bound n) h = refl
  symbol_in_parts (unary op a) h = sym (or-false (has_symbol test a))
  symbol_in_parts (binary op a b) h = two (has_symbol test a) (has_symbol test b)
  symbol_in_parts (update a i x) h = three (has_symbol test a) (has_symbol test i) (has_symbol test x)
  symbol_in_parts (quantified q low high body) h = three (has_symbol test low) (has_symbol test high) (has_symbol test body)
  symbol_in_parts (listed l ts) h = list_symbol ts

-- a term of another shape is no symbol
pub no_symbol : (t : Term) (s : Shape) → IsShapeOf t s → ((k : ℕ) → s ≡ Shape.Symbol k → ⊥) → (n : ℕ) → tree t ≡ name n → ⊥
no_symbol t (Shape.Literal z) is h n e = absurd (cc)
no_symbol t (Shape.Truth b) is h n e = absurd (cc)
no_symbol t (Shape.Symbol k) is h n e = h k refl
no_symbol t (Shape.Bound k) is h n e = absurd (cc)
no_symbol t (Shape.Unary op a) is h n e = let i = is.0 in absurd (cc)
no_symbol t (Shape.Binary op a b) is h n e = let i = is.0 in absurd (cc)
no_symbol t (Shape.Update a i x) is h n e = let j = is.0 in absurd (cc)
no_symbol t (Shape.Quantified q low high body) is h n e = let i = is.0 in absurd (cc)
no_symbol t (Shape.Sequence o ts) is h n e = let i = is.0 in absurd (cc)
no_symbol t (Shape.Record k ts) is h n e = let i = is.0 in absurd (cc)

-- ---- sets

same_number : (k q : ℕ) → is_eq (nat_cmp k q) ≡ eqb k q
same_number k q = grind (arith, nat_tests)

either_with : (b c : Bool) → cond b true c ≡ (c || b)
either_with true true = refl
either_with true false = refl
either_with false true = refl
either_with false false = refl

either_without : (b c : Bool) → cond b false c ≡ (c && not b)
either_without true true = refl
either_without true false = refl
either_without false true = refl
either_without false false = refl

pub set_with : (old new : BTreeSet ℕ) (k : ℕ) → Updates nat_cmp old new k true → Gains old new (eqb k)
set_with old new k u n = u.0 n ∙ either_with (is_eq (nat_cmp k n)) (has old n) ∙ ap (λ b. has old n || b) (same_number k n)

pub set_without : (old new : BTreeSet ℕ) (k : ℕ) → Updates nat_cmp old new k false → (n : ℕ) → has new n ≡ (has old n && not (eqb k n))
set_without old new k u n = u.0 n ∙ either_without (is_eq (nat_cmp k n)) (has old n) ∙ ap (λ b. has old n && not b) (same_number k n)

pub gains_symbol : (old new : BTreeSet ℕ) (k : ℕ) → Updates nat_cmp old new k true → (t : Tree ℕ) → t ≡ name k → Gains old new (is_in t)
gains_symbol old new k u t is n = set_with old new k u n ∙ ap (λ b. has old n || b) (sym (ap (λ x. is_in x n) is))

-- ---- a loop over trees has gained the symbols of those so far

pub gains_nothing : (s : BTreeSet ℕ) (ts : List (Tree ℕ)) → Gains s s (is_in_some (take 0 ts))
gains_nothing s ts n = sym (or-false (has s n))

one_more : {X : Type 0} (xs : List X) (k : ℕ) (x : X) → slice_get xs k ≡ Some x → take (k + 1) xs ≡ take k xs ++ x ∷ []
one_more xs k x at = take_more xs k x (slice_get_within xs k x at) ∙ ap (λ y. take k xs ++ y ∷ []) (get_or_from_slice_get xs k x x at)

pub gains_more : (first old new : BTreeSet ℕ) (ts : List (Tree ℕ)) (k : ℕ) (t : Tree ℕ) → slice_get ts k ≡ Some t →
    Gains first old (is_in_some (take k ts)) → Gains old new (is_in t) → Gains first new (is_in_some (take (k + 1) ts))
gains_more first old new ts k t at g h n =
    h n ∙ ap (λ b. b || is_in t n) (g n) ∙ or_assoc (has first n) (is_in_some (take k ts) n) (is_in t n) ∙ ap (λ b. has first n || b) (sym more)
  where
    more : is_in_some (take (k + 1) ts) n ≡ (is_in_some (take k ts) n || is_in t n)
    more =
        ap (λ us. is_in_some us n) (one_more ts k t at) ∙
        list_any-append (λ u. is_in u n) (take k ts) (t ∷ []) ∙ ap (λ b. is_in_some (take k ts) n || b) (or-false (is_in t n))

pub gains_term : (first old new : BTreeSet ℕ) (ts : List Term) (k : ℕ) (t : Term) → k < length ts → t ≡ get_or ts k t →
    Gains first old (is_in_some (take k (map tree ts))) → Gains old new (is_in (tree t)) → Gains first new (is_in_some (take (k + 1) (map tree ts)))
gains_term first old new ts k t h is g more =
    gains_more first old new (map tree ts) k (tree t)
    (slice_get-map tree ts k ∙ ap (option_map tree) (slice_get_read ts (length ts) k t refl h is)) g more

pub gains_all : (old new : BTreeSet ℕ) (ts : List (Tree ℕ)) (k : ℕ) → length ts ≤ k → Gains old new (is_in_some (take k ts)) → Gains old new (is_in_some ts)
gains_all old new ts k e g n = g n ∙ ap (λ us. has old n || is_in_some us n) (take_all k ts e)

pub gains_parts : (old new : BTreeSet ℕ) (t : Tree ℕ) (k : ℕ) → ((n : ℕ) → t ≡ name n → ⊥) → length (parts t) ≤ k →
    Gains old new (is_in_some (take k (parts t))) → Gains old new (is_in t)
gains_parts old new t k other e g n =
    gains_all old new (parts t) k e g n ∙ ap (λ b. has old n || b) (sym (symbol_in_parts (λ m. eqb m n) t other))

-- ---- a term mentions a symbol of a set

pub mentions_symbol : (s : BTreeSet ℕ) (t : Tree ℕ) (k : ℕ) (r : Bool) → t ≡ name k → r ≡ has s k → r ≡ has_symbol (has s) t
mentions_symbol s t k r is e = e ∙ sym (ap (has_symbol (has s)) is)

pub mentions_part : (s : BTreeSet ℕ) (t : Tree ℕ) (k : ℕ) (p : Tree ℕ) → ((n : ℕ) → t ≡ name n → ⊥) → slice_get (parts t) k ≡ Some p →
    true ≡ has_symbol (has s) p → true ≡ has_symbol (has s) t
mentions_part s t k p other at e =
    sym (symbol_in_parts (has s) t other ∙
    list_any_at (has_symbol (has s)) (parts t) k p (slice_get_within (parts t) k p at)
    (ap (has_symbol (has s)) (get_or_from_slice_get (parts t) k p p at) ∙ sym e))

pub mentions_none : (s : BTreeSet ℕ) (t : Tree ℕ) (k : ℕ) → ((n : ℕ) → t ≡ name n → ⊥) → length (parts t) ≤ k →
    list_any (has_symbol (has s)) (take k (parts t)) ≡ false → false ≡ has_symbol (has s) t
mentions_none s t k other e h =
    sym (symbol_in_parts (has s) t other ∙ sym (ap (list_any (has_symbol (has s))) (take_all k (parts t) e)) ∙ h)

pub not_among : (s : BTreeSet ℕ) (ts : List (Tree ℕ)) (k : ℕ) (t : Tree ℕ) → slice_get ts k ≡ Some t →
    list_any (has_symbol (has s)) (take k ts) ≡ false → false ≡ has_symbol (has s) t → list_any (has_symbol (has s)) (take (k + 1) ts) ≡ false
not_among s ts k t at h e =
    ap (list_any (has_symbol (has s))) (one_more ts k t at) ∙
    list_any-append (has_symbol (has s)) (take k ts) (t ∷ []) ∙ ap₂ ◌||◌ h (or-false _ ∙ sym e)
