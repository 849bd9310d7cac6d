-- Index terms gathered one by one.
use Rattle.std.proofs.Common.{◌≡◌, ℕ, zero, suc, List, [], ◌∷◌, ◌++◌, Bool, true, false, cond, not, ◌&&◌, ◌||◌, Equal, Ordering, refl, sym, ap, ap₂, ◌∙◌, subst, append_assoc, arith}
use Rattle.std.specs.Ordering.{is_eq}
use Rattle.std.specs.List.{filter, list_any}
use Rattle.std.proofs.lemmas.Bool.{false≢true}
use Rattle.std.proofs.lemmas.List.{append-nil}
use Rattle.std.proofs.lemmas.List.Folds.{list_any-append}
use Rattle.slang_values.specs.Tree.{Tree}
use Rattle.tree_forms.specs.Order.{tree_cmp}
use Rattle.tree_forms.proofs.TreesApart.{tree_cmp-Equal, tree_cmp_same}
use Rattle.instance_rules.specs.Instances.{is_same, once}
use Rattle.instance_laws.specs.Laws.{gathered, GathersOnce}

is_eq-Equal : (o : Ordering) → is_eq o ≡ true → o ≡ Equal
is_eq-Equal o e = grind arith

-- trees that compare alike are one
pub same_tree : (t u : Tree ℕ) → is_same t u ≡ true → t ≡ u
same_tree t u e = tree_cmp-Equal t u (is_eq-Equal (tree_cmp t u) e)

pub same_itself : (t u : Tree ℕ) → t ≡ u → is_same t u ≡ true
same_itself t u e = ap is_eq (tree_cmp_same t u e)

bool_same : (a b : Bool) → (a ≡ true → b ≡ true) → (b ≡ true → a ≡ true) → a ≡ b
bool_same true true f g = refl
bool_same true false f g = sym (f refl)
bool_same false true f g = g refl
bool_same false false f g = refl

pub same_turned : (t u : Tree ℕ) → is_same t u ≡ is_same u t
same_turned t u = bool_same (is_same t u) (is_same u t) (λ e. same_itself u t (sym (same_tree t u e))) (λ e. same_itself t u (sym (same_tree u t e)))

-- ---- filters

filter_by : (p q : Tree ℕ → Bool) → ((t : Tree ℕ) → p t ≡ q t) → (ts : List (Tree ℕ)) → filter p ts ≡ filter q ts
filter_by p q h [] = refl
filter_by p q h (t ∷ ts) = ap₂ (λ b us. cond b (t ∷ us) us) (h t) (filter_by p q h ts)

filter_twice : (p q : Tree ℕ → Bool) (ts : List (Tree ℕ)) → filter p (filter q ts) ≡ filter (λ t. q t && p t) ts
filter_twice p q [] = refl
filter_twice p q (t ∷ ts) = by_test (q t) (p t) refl refl (filter_twice p q ts)
  where
    by_test : (b c : Bool) → q t ≡ b → p t ≡ c → filter p (filter q ts) ≡ filter (λ u. q u && p u) ts → filter p (cond b (t ∷ filter q ts) (filter q ts)) ≡ cond (b && p t) (t ∷ filter (λ u. q u && p u) ts) (filter (λ u. q u && p u) ts)
    by_test true c e f h = ap (cond (p t) (t ∷ filter p (filter q ts))) h ∙ ap (λ us. cond (p t) (t ∷ us) (filter (λ u. q u && p u) ts)) h
    by_test false c e f h = h

-- ---- gathering

abbrev pub lacks : List (Tree ℕ) → Tree ℕ → Bool
lacks found u = not (list_any (is_same u) found)

-- what is found already need not be left out again
found_before : (found : List (Tree ℕ)) (t u : Tree ℕ) → list_any (is_same t) found ≡ true → (not (is_same t u) && lacks found u) ≡ lacks found u
found_before found t u e = by_test (is_same t u) refl
  where
    by_test : (b : Bool) → is_same t u ≡ b → (not b && lacks found u) ≡ lacks found u
    by_test true f = sym (ap not (ap (λ v. list_any (is_same v) found) (sym (same_tree t u f)) ∙ e))
    by_test false f = refl

or_none : (a b : Bool) → not (a || (b || false)) ≡ (not b && not a)
or_none true true = refl
or_none true false = refl
or_none false true = refl
or_none false false = refl

found_now : (found : List (Tree ℕ)) (t u : Tree ℕ) → lacks (found ++ t ∷ []) u ≡ (not (is_same t u) && lacks found u)
found_now found t u = ap not (list_any-append (is_same u) found (t ∷ [])) ∙ or_none (list_any (is_same u) found) (is_same u t) ∙ ap (λ b. not b && lacks found u) (same_turned u t)

behind : (found ts : List (Tree ℕ)) → gathered found ts ≡ found ++ filter (lacks found) (once ts)
behind found [] = sym (append-nil found)
behind found (t ∷ ts) = by_test (list_any (is_same t) found) refl (behind found ts) (behind (found ++ t ∷ []) ts)
  where
    rest : List (Tree ℕ)
    rest = filter (λ u. not (is_same t u)) (once ts)

    by_test : (b : Bool) → list_any (is_same t) found ≡ b → gathered found ts ≡ found ++ filter (lacks found) (once ts) → gathered (found ++ t ∷ []) ts ≡ (found ++ t ∷ []) ++ filter (lacks (found ++ t ∷ [])) (once ts) →
        cond b (gathered found ts) (gathered (found ++ t ∷ []) ts) ≡ found ++ cond (not (list_any (is_same t) found)) (t ∷ filter (lacks found) rest) (filter (lacks found) rest)
    by_test true e same more =
        same
        ∙ ap (λ us. found ++ us) (filter_by (lacks found) (λ u. not (is_same t u) && lacks found u) (λ u. sym (found_before found t u e)) (once ts) ∙ sym (filter_twice (lacks found) (λ u. not (is_same t u)) (once ts)))
        ∙ ap (λ b. found ++ cond (not b) (t ∷ filter (lacks found) rest) (filter (lacks found) rest)) (sym e)
    by_test false e same more =
        more ∙ append_assoc found (t ∷ []) (filter (lacks (found ++ t ∷ [])) (once ts))
        ∙ ap (λ us. found ++ t ∷ us) (filter_by (lacks (found ++ t ∷ [])) (λ u. not (is_same t u) && lacks found u) (λ u. found_now found t u) (once ts) ∙ sym (filter_twice (lacks found) (λ u. not (is_same t u)) (once ts)))
        ∙ ap (λ b. found ++ cond (not b) (t ∷ filter (lacks found) rest) (filter (lacks found) rest)) (sym e)

all_pass : (ts : List (Tree ℕ)) → filter (lacks []) ts ≡ ts
all_pass [] = refl
all_pass (t ∷ ts) = ap (λ us. t ∷ us) (all_pass ts)

pub gathered_more : (found ts us : List (Tree ℕ)) → gathered found (ts ++ us) ≡ gathered (gathered found ts) us
gathered_more found [] us = refl
gathered_more found (t ∷ ts) us = by_test (list_any (is_same t) found) (gathered_more found ts us) (gathered_more (found ++ t ∷ []) ts us)
  where
    by_test : (b : Bool) → gathered found (ts ++ us) ≡ gathered (gathered found ts) us → gathered (found ++ t ∷ []) (ts ++ us) ≡ gathered (gathered (found ++ t ∷ []) ts) us →
        cond b (gathered found (ts ++ us)) (gathered (found ++ t ∷ []) (ts ++ us)) ≡ gathered (cond b (gathered found ts) (gathered (found ++ t ∷ []) ts)) us
    by_test true same more = same
    by_test false same more = more

pub gathers_once : GathersOnce
gathers_once = record { all = λ ts. behind [] ts ∙ all_pass (once ts); more = gathered_more }
