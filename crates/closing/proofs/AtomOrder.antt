-- The atoms of rows in the order of trees, and their places.
use Rattle.std.proofs.Common.{◌≡◌, ◌≢◌, ◌⊎◌, inl, inr, ℕ, suc, ◌<◌, ◌≤◌, pos, List, [], ◌∷◌, ◌++◌, get_or, Bool, true, false, cond, ◌||◌, refl, sym, ap, ◌∙◌, subst, arith, Ordering, Less, Equal, Greater}
use Rattle.std.specs.List.{AllByRecursion}
use Rattle.std.specs.Ordering.{is_eq, ordering_reverse}
use Rattle.std.proofs.lemmas.Bool.{false≢true}
use Rattle.slang_values.specs.Tree.{Tree}
use Rattle.tree_forms.specs.Order.{tree_cmp}
use Rattle.tree_forms.specs.Form.{FormPart}
use Rattle.tree_forms.specs.Laws.{Ascend}
use Rattle.tree_forms.proofs.Ordered.{tree_cmp_total}
use Rattle.tree_forms.proofs.TreesApart.{tree_cmp-Equal, tree_cmp_same}
use Rattle.lin_rows.specs.Inequality.{RisesFrom, IsCanonical}
use Rattle.closing.specs.Rows.{placed_atom, with_atom, with_atoms, is_among, place_of, numbered_parts}
use Rattle.closing.proofs.LiteralTruth.{either_true, equal_order}
use Rattle.tree_forms.proofs.Settled.{AllAtoms}

-- ---- members

-- the tree is one of the list
abbrev pub Among : List (Tree ℕ) → Tree ℕ → Type 0
Among [] t = ⊥
Among (u ∷ us) t = (t ≡ u) ⊎ Among us t

pub among_true : (us : List (Tree ℕ)) (t : Tree ℕ) → is_among us t ≡ true → Among us t
among_true [] t h = false≢true h
among_true (u ∷ us) t h = elim (either_true (is_eq (tree_cmp t u)) (is_among us t) h) as (λ k. Among (u ∷ us) t) [
  | inl k ↦ inl (tree_cmp-Equal t u (equal_order (tree_cmp t u) k))
  | inr k ↦ inr (among_true us t k)
]

or_right : (b c : Bool) → c ≡ true → (b || c) ≡ true
or_right true c h = refl
or_right false c h = h

pub is_among-true : (us : List (Tree ℕ)) (t : Tree ℕ) → Among us t → is_among us t ≡ true
is_among-true [] t h = absurd h
is_among-true (u ∷ us) t (inl h) = ap (λ o. is_eq o || is_among us t) (tree_cmp_same t u h)
is_among-true (u ∷ us) t (inr h) = or_right (is_eq (tree_cmp t u)) (is_among us t) (is_among-true us t h)

pub among-left : (us vs : List (Tree ℕ)) (t : Tree ℕ) → Among us t → Among (us ++ vs) t
among-left [] vs t h = absurd h
among-left (u ∷ us) vs t (inl h) = inl h
among-left (u ∷ us) vs t (inr h) = inr (among-left us vs t h)

pub among-right : (us vs : List (Tree ℕ)) (t : Tree ℕ) → Among vs t → Among (us ++ vs) t
among-right [] vs t h = h
among-right (u ∷ us) vs t h = inr (among-right us vs t h)

pub among-append : (us vs : List (Tree ℕ)) (t : Tree ℕ) → Among (us ++ vs) t → Among us t ⊎ Among vs t
among-append [] vs t h = inr h
among-append (u ∷ us) vs t (inl h) = inl (inl h)
among-append (u ∷ us) vs t (inr h) = elim (among-append us vs t h) as (λ k. Among (u ∷ us) t ⊎ Among vs t) [
  | inl k ↦ inl (inr k)
  | inr k ↦ inr k
]

-- ---- one more atom at its place

same-placed : (o : Ordering) (t a : Tree ℕ) (atoms behind : List (Tree ℕ)) → tree_cmp t a ≡ o → Among behind t → Among (placed_atom o t a atoms behind) t
same-placed Less t a atoms behind e h = inl refl
same-placed Equal t a atoms behind e h = inl (tree_cmp-Equal t a e)
same-placed Greater t a atoms behind e h = inr h

pub same-with_atom : (atoms : List (Tree ℕ)) (t : Tree ℕ) → Among (with_atom atoms t) t
same-with_atom [] t = inl refl
same-with_atom (a ∷ atoms) t = same-placed (tree_cmp t a) t a atoms (with_atom atoms t) refl (same-with_atom atoms t)

other-placed : (o : Ordering) (t a u : Tree ℕ) (atoms behind : List (Tree ℕ)) → (Among atoms u → Among behind u) → Among (a ∷ atoms) u → Among (placed_atom o t a atoms behind) u
other-placed Less t a u atoms behind more h = inr h
other-placed Equal t a u atoms behind more h = h
other-placed Greater t a u atoms behind more (inl h) = inl h
other-placed Greater t a u atoms behind more (inr h) = inr (more h)

pub other-with_atom : (atoms : List (Tree ℕ)) (t u : Tree ℕ) → Among atoms u → Among (with_atom atoms t) u
other-with_atom [] t u h = absurd h
other-with_atom (a ∷ atoms) t u h = other-placed (tree_cmp t a) t a u atoms (with_atom atoms t) (other-with_atom atoms t u) h

back-placed : (o : Ordering) (t a u : Tree ℕ) (atoms behind : List (Tree ℕ)) → (Among behind u → Among atoms u ⊎ (u ≡ t)) → Among (placed_atom o t a atoms behind) u → Among (a ∷ atoms) u ⊎ (u ≡ t)
back-placed Less t a u atoms behind back (inl h) = inr h
back-placed Less t a u atoms behind back (inr h) = inl h
back-placed Equal t a u atoms behind back h = inl h
back-placed Greater t a u atoms behind back (inl h) = inl (inl h)
back-placed Greater t a u atoms behind back (inr h) = elim (back h) as (λ k. Among (a ∷ atoms) u ⊎ (u ≡ t)) [
  | inl k ↦ inl (inr k)
  | inr k ↦ inr k
]

pub with_atom-back : (atoms : List (Tree ℕ)) (t u : Tree ℕ) → Among (with_atom atoms t) u → Among atoms u ⊎ (u ≡ t)
with_atom-back [] t u (inl h) = inr h
with_atom-back [] t u (inr h) = absurd h
with_atom-back (a ∷ atoms) t u h = back-placed (tree_cmp t a) t a u atoms (with_atom atoms t) (with_atom-back atoms t u) h

pub there-with_atoms : (ts atoms : List (Tree ℕ)) (u : Tree ℕ) → Among atoms u → Among (with_atoms atoms ts) u
there-with_atoms [] atoms u h = h
there-with_atoms (t ∷ ts) atoms u h = there-with_atoms ts (with_atom atoms t) u (other-with_atom atoms t u h)

pub new-with_atoms : (ts atoms : List (Tree ℕ)) (u : Tree ℕ) → Among ts u → Among (with_atoms atoms ts) u
new-with_atoms [] atoms u h = absurd h
new-with_atoms (t ∷ ts) atoms u (inl h) =
    there-with_atoms ts (with_atom atoms t) u (subst (λ s. Among (with_atom atoms t) s) (sym h) (same-with_atom atoms t))
new-with_atoms (t ∷ ts) atoms u (inr h) = new-with_atoms ts (with_atom atoms t) u h

pub with_atoms-back : (ts atoms : List (Tree ℕ)) (u : Tree ℕ) → Among (with_atoms atoms ts) u → Among atoms u ⊎ Among ts u
with_atoms-back [] atoms u h = inl h
with_atoms-back (t ∷ ts) atoms u h = elim (with_atoms-back ts (with_atom atoms t) u h) as (λ k. Among atoms u ⊎ Among (t ∷ ts) u) [
  | inl k ↦ elim (with_atom-back atoms t u k) as (λ l. Among atoms u ⊎ Among (t ∷ ts) u) [ inl l ↦ inl l | inr l ↦ inr (inl l) ]
  | inr k ↦ inr (inr k)
]

-- ---- the atoms ascend

abbrev AllAfter : Tree ℕ → List (Tree ℕ) → Type 0
AllAfter t us = AllByRecursion (λ u. tree_cmp t u ≡ Less) us

-- each before all that follow it
abbrev pub Rising : List (Tree ℕ) → Type 0
Rising [] = Unit {0}
Rising (a ∷ atoms) = AllAfter a atoms × Rising atoms

after_more : (s t : Tree ℕ) (us : List (Tree ℕ)) → tree_cmp s t ≡ Less → AllAfter t us → AllAfter s us
after_more s t [] l h = tt
after_more s t (u ∷ us) l h = (tree_cmp_total.trans s t u l h.0, after_more s t us l h.1)

after_placed : (o : Ordering) (s t a : Tree ℕ) (atoms behind : List (Tree ℕ)) → tree_cmp s t ≡ Less → AllAfter s (a ∷ atoms) → AllAfter s behind → AllAfter s (placed_atom o t a atoms behind)
after_placed Less s t a atoms behind l h k = (l, h)
after_placed Equal s t a atoms behind l h k = h
after_placed Greater s t a atoms behind l h k = (h.0, k)

after-with_atom : (s t : Tree ℕ) (atoms : List (Tree ℕ)) → tree_cmp s t ≡ Less → AllAfter s atoms → AllAfter s (with_atom atoms t)
after-with_atom s t [] l h = (l, tt)
after-with_atom s t (a ∷ atoms) l h = after_placed (tree_cmp t a) s t a atoms (with_atom atoms t) l h (after-with_atom s t atoms l h.1)

reversed : (s t : Tree ℕ) → tree_cmp s t ≡ Greater → tree_cmp t s ≡ Less
reversed s t e = tree_cmp_total.antisymm t s ∙ ap ordering_reverse e

rising_placed : (o : Ordering) (t a : Tree ℕ) (atoms behind : List (Tree ℕ)) → tree_cmp t a ≡ o → Rising (a ∷ atoms) → (tree_cmp a t ≡ Less → AllAfter a behind) → Rising behind → Rising (placed_atom o t a atoms behind)
rising_placed Less t a atoms behind e h after k = ((e, after_more t a atoms e h.0), h)
rising_placed Equal t a atoms behind e h after k = h
rising_placed Greater t a atoms behind e h after k = (after (reversed t a e), k)

pub rising-with_atom : (atoms : List (Tree ℕ)) (t : Tree ℕ) → Rising atoms → Rising (with_atom atoms t)
rising-with_atom [] t h = (tt, tt)
rising-with_atom (a ∷ atoms) t h =
    rising_placed (tree_cmp t a) t a atoms (with_atom atoms t) refl h (λ l. after-with_atom a t atoms l h.0) (rising-with_atom atoms t h.1)

pub rising-with_atoms : (ts atoms : List (Tree ℕ)) → Rising atoms → Rising (with_atoms atoms ts)
rising-with_atoms [] atoms h = h
rising-with_atoms (t ∷ ts) atoms h = rising-with_atoms ts (with_atom atoms t) (rising-with_atom atoms t h)

-- ---- places

pub at_place : (atoms : List (Tree ℕ)) (t d : Tree ℕ) → Among atoms t → get_or atoms (place_of atoms t) d ≡ t
at_place [] t d h = absurd h
at_place (a ∷ atoms) t d h = by_order (λ k. at_place atoms t d k) (is_eq (tree_cmp t a)) refl
  where
    rest : Among (a ∷ atoms) t → is_eq (tree_cmp t a) ≡ false → Among atoms t
    rest (inl k) e = absurd (false≢true (sym e ∙ ap is_eq (tree_cmp_same t a k)))
    rest (inr k) e = k

    by_order : (Among atoms t → get_or atoms (place_of atoms t) d ≡ t) → (b : Bool) → is_eq (tree_cmp t a) ≡ b → get_or (a ∷ atoms) (cond b 0 (suc (place_of atoms t))) d ≡ t
    by_order later_on true e = sym (tree_cmp-Equal t a (equal_order (tree_cmp t a) e))
    by_order later_on false e = later_on (rest h e)

not_same : (s t : Tree ℕ) → tree_cmp s t ≡ Less → s ≡ t → ⊥
not_same s t l e = absurd (let k = tree_cmp_same s t e in cc)

later : (a : Tree ℕ) (atoms : List (Tree ℕ)) (t : Tree ℕ) → AllAfter a atoms → Among atoms t → tree_cmp a t ≡ Less
later a [] t h k = absurd k
later a (u ∷ atoms) t h (inl k) = ap (tree_cmp a) k ∙ h.0
later a (u ∷ atoms) t h (inr k) = later a atoms t h.1 k

less_greater : (s t : Tree ℕ) → tree_cmp s t ≡ Less → tree_cmp t s ≡ Less → ⊥
less_greater s t l m = absurd (let k = tree_cmp_total.antisymm s t ∙ ap ordering_reverse m in cc)

place_first : (a : Tree ℕ) (atoms : List (Tree ℕ)) (t : Tree ℕ) → t ≡ a → place_of (a ∷ atoms) t ≡ 0
place_first a atoms t e = ap (λ o. cond (is_eq o) 0 (suc (place_of atoms t))) (tree_cmp_same t a e)

place_later : (a : Tree ℕ) (atoms : List (Tree ℕ)) (t : Tree ℕ) → tree_cmp a t ≡ Less → place_of (a ∷ atoms) t ≡ suc (place_of atoms t)
place_later a atoms t l = ap (λ o. cond (is_eq o) 0 (suc (place_of atoms t))) (tree_cmp_total.antisymm t a ∙ ap ordering_reverse l)

-- places rise as the atoms do
pub place_less : (atoms : List (Tree ℕ)) (s t : Tree ℕ) → Rising atoms → Among atoms s → Among atoms t → tree_cmp s t ≡ Less → place_of atoms s < place_of atoms t
place_less [] s t rising h k l = absurd h
place_less (a ∷ atoms) s t rising (inl h) k l =
    omega (arith, place_first a atoms s h, place_later a atoms t (ap (λ u. tree_cmp u t) (sym h) ∙ l))
place_less (a ∷ atoms) s t rising (inr h) (inl k) l =
    absurd (less_greater s t l (ap (λ u. tree_cmp u s) k ∙ later a atoms s rising.0 h))
place_less (a ∷ atoms) s t rising (inr h) (inr k) l =
    omega (arith, place_later a atoms s (later a atoms s rising.0 h), place_later a atoms t (later a atoms t rising.0 k), place_less atoms s t rising.1 h k l)

-- ---- the parts of a row over numbers

-- they rise, as the parts of a form do
pub numbered_rise : (atoms : List (Tree ℕ)) (low : ℕ) (ps : List FormPart) → Rising atoms → AllAtoms (Among atoms) ps → Ascend ps →
    AllByRecursion (λ p. p.times ≢ pos 0) ps → AllByRecursion (λ p. low ≤ place_of atoms p.atom) ps → RisesFrom low (numbered_parts atoms ps)
numbered_rise atoms low [] rising there ascend nonzero above = tt
numbered_rise atoms low (p ∷ ps) rising there ascend nonzero above =
    (above.0, nonzero.0, numbered_rise atoms (suc (place_of atoms p.atom)) ps rising there.1 ascend.1 nonzero.1 (after ps there.1 ascend.0))
  where
    after : (qs : List FormPart) → AllAtoms (Among atoms) qs → AllByRecursion (λ q. tree_cmp p.atom q.atom ≡ Less) qs → AllByRecursion (λ q. suc (place_of atoms p.atom) ≤ place_of atoms q.atom) qs
    after [] h l = tt
    after (q ∷ qs) h l = (place_less atoms p.atom q.atom rising there.0 h.0 l.0, after qs h.1 l.1)

pub numbered_canonical : (atoms : List (Tree ℕ)) (ps : List FormPart) → Rising atoms → AllAtoms (Among atoms) ps → Ascend ps →
    AllByRecursion (λ p. p.times ≢ pos 0) ps → IsCanonical (numbered_parts atoms ps)
numbered_canonical atoms ps rising there ascend nonzero = numbered_rise atoms 0 ps rising there ascend nonzero (any ps)
  where
    any : (qs : List FormPart) → AllByRecursion (λ q. 0 ≤ place_of atoms q.atom) qs
    any [] = tt
    any (q ∷ qs) = (omega arith, any qs)
