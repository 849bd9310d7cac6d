-- The value of a tree depends on the symbols in it alone.
use Rattle.std.proofs.Common.{◌≡◌, ℕ, ℤ, Bool, true, false, ◌||◌, cond, eqb, refl, sym, ap, ap₂, ◌∙◌}
use Rattle.std.proofs.lemmas.Bool.{true≢false, eqb-true}
use Rattle.slang_values.specs.Number.{numbers_between}
use Rattle.slang_values.specs.Value.{Records, Value, truth, number_of, truth_of, updated, value_then}
use Rattle.slang_values.specs.Tree.{Tree, literal, truth_literal, name, bound, unary, binary, update, quantified, listed, Trees, no_trees, tree_then, Bounds, inside, unary_value, binary_value, holds_of, listed_value, value, values}
use Rattle.deduction_rules.specs.Replacement.{has_symbol, have_symbol}

pub or_none : (a b : Bool) → (a || b) ≡ false → (a ≡ false) × (b ≡ false)
or_none true b h = absurd (true≢false h)
or_none false b h = (refl, h)

pub or_neither : (a b : Bool) → a ≡ false → b ≡ false → (a || b) ≡ false
or_neither a b h k = rw (h, k) refl

-- ---- one symbol

abbrev pub IsFresh : ℕ → Tree ℕ → Type 0
IsFresh k t = has_symbol (λ m. eqb m k) t ≡ false

-- what passes the first test passes the second
abbrev Implies : (ℕ → Bool) → (ℕ → Bool) → Type 0
Implies p q = (n : ℕ) → q n ≡ false → p n ≡ false

module _ (p q : ℕ → Bool) (less : Implies p q) where
  mutual
    pub fewer_symbols : (t : Tree ℕ) → has_symbol q t ≡ false → has_symbol p t ≡ false
    fewer_symbols (literal z) h = refl
    fewer_symbols (truth_literal b) h = refl
    fewer_symbols (name n) h = less n h
    fewer_symbols (bound n) h = refl
    fewer_symbols (unary op a) h = fewer_symbols a h
    fewer_symbols (binary op a b) h = let e = or_none _ _ h in or_neither _ _ (fewer_symbols a e.0) (fewer_symbols b e.1)
    fewer_symbols (update a i x) h =
        let e = or_none _ _ h in let f = or_none _ _ e.0 in
        or_neither _ _ (or_neither _ _ (fewer_symbols a f.0) (fewer_symbols i f.1)) (fewer_symbols x e.1)
    fewer_symbols (quantified q' low high body) h =
        let e = or_none _ _ h in let f = or_none _ _ e.0 in
        or_neither _ _ (or_neither _ _ (fewer_symbols low f.0) (fewer_symbols high f.1)) (fewer_symbols body e.1)
    fewer_symbols (listed l ts) h = fewer_symbols_of_all ts h

    fewer_symbols_of_all : (ts : Trees ℕ) → have_symbol q ts ≡ false → have_symbol p ts ≡ false
    fewer_symbols_of_all no_trees h = refl
    fewer_symbols_of_all (tree_then t ts) h = let e = or_none _ _ h in or_neither _ _ (fewer_symbols t e.0) (fewer_symbols_of_all ts e.1)

only_that : (test : ℕ → Bool) (k : ℕ) → test k ≡ true → Implies (λ m. eqb m k) test
only_that test k h n e = by_test (eqb n k) refl
  where
    by_test : (b : Bool) → eqb n k ≡ b → b ≡ false
    by_test true f = absurd (true≢false (sym h ∙ ap test (sym (eqb-true n k f)) ∙ e))
    by_test false f = refl

-- A symbol that passes the test does not stand in the tree, where none that does stands there.
pub fresh_by_test : (test : ℕ → Bool) (k : ℕ) (t : Tree ℕ) → test k ≡ true → has_symbol test t ≡ false → IsFresh k t
fresh_by_test test k t h = fewer_symbols (λ m. eqb m k) test (only_that test k h) t

-- ---- values

-- k has the value v, and each other symbol the one that it has
abbrev pub with_value : ℕ → Value → (ℕ → Value) → ℕ → Value
with_value k v names n = cond (eqb n k) v (names n)

module _ (records : Records) (f g : ℕ → Value) (test : ℕ → Bool) (agree : (n : ℕ) → test n ≡ false → f n ≡ g n) where
  mutual
    pub value_of_others : (t : Tree ℕ) (e : Bounds) → has_symbol test t ≡ false → value records f e t ≡ value records g e t
    value_of_others (literal z) e h = refl
    value_of_others (truth_literal b) e h = refl
    value_of_others (name n) e h = agree n h
    value_of_others (bound n) e h = refl
    value_of_others (unary op a) e h = ap (unary_value op) (value_of_others a e h)
    value_of_others (binary op a b) e h =
        let p = or_none _ _ h in ap₂ (binary_value records op) (value_of_others a e p.0) (value_of_others b e p.1)
    value_of_others (update a i x) e h =
        let p = or_none _ _ h in let q = or_none _ _ p.0 in
        let at_a = value_of_others a e q.0 in
        let at_i = value_of_others i e q.1 in
        let at_x = value_of_others x e p.1 in
        λ j. updated (at_a j) (number_of (at_i j)) (at_x j)
    value_of_others (quantified q low high body) e h =
        let p = or_none _ _ h in let r = or_none _ _ p.0 in
        let l = value_of_others low e r.0 in
        let u = value_of_others high e r.1 in
        let b : (k : ℤ) → value records f (inside k e) body ≡ value records g (inside k e) body = λ k. value_of_others body (inside k e) p.1 in
        λ j. truth (holds_of q (λ k. truth_of (b k j)) (numbers_between (number_of (l j)) (number_of (u j))))
    value_of_others (listed l ts) e h = ap (listed_value l) (values_of_others ts e h)

    values_of_others : (ts : Trees ℕ) (e : Bounds) → have_symbol test ts ≡ false → values records f e ts ≡ values records g e ts
    values_of_others no_trees e h = refl
    values_of_others (tree_then t ts) e h = let p = or_none _ _ h in ap₂ value_then (value_of_others t e p.0) (values_of_others ts e p.1)

other_value : (k : ℕ) (v : Value) (names : ℕ → Value) (n : ℕ) → eqb n k ≡ false → with_value k v names n ≡ names n
other_value k v names n h = ap (λ b. cond b v (names n)) h

pub value_fresh : (records : Records) (k : ℕ) (v : Value) (names : ℕ → Value) (t : Tree ℕ) (e : Bounds) → IsFresh k t →
    value records (with_value k v names) e t ≡ value records names e t
value_fresh records k v names t e h = value_of_others records (with_value k v names) names (λ m. eqb m k) (other_value k v names) t e h

-- the value of a fresh symbol does not matter under another one's
pub value_fresh_under : (records : Records) (k : ℕ) (v : Value) (j : ℕ) (w : Value) (names : ℕ → Value) (t : Tree ℕ) (e : Bounds) → IsFresh k t →
    value records (with_value j w (with_value k v names)) e t ≡ value records (with_value j w names) e t
value_fresh_under records k v j w names t e h =
    value_of_others records (with_value j w (with_value k v names)) (with_value j w names) (λ m. eqb m k)
    (λ n d. ap (λ x. cond (eqb n j) w x) (other_value k v names n d)) t e h
