-- Atoms in order: where one stands, or goes.
use Rattle.std.proofs.Common.{◌≡◌, ℕ, zero, suc, ◌+◌, ◌<◌, ◌≤◌, List, [], ◌∷◌, ◌++◌, length, get_or, take, drop, insert, false, ◌||◌, cond, Ok, Err, refl, sym, ap, ◌∙◌, subst, arith, ◌⊎◌, inl, inr, Ordering, Less, Equal, Greater}
use Rattle.std.proofs.lemmas.Bool.{cases_lt}
use Rattle.std.specs.Ordering.{ordering_reverse, is_eq}
use Rattle.std.specs.List.{AllByRecursion}
use Rattle.std.proofs.lemmas.List.{map-append, take-map, drop-map}
use Rattle.slang_values.specs.Tree.{Tree}
use Rattle.tree_forms.specs.Order.{tree_cmp}
use Rattle.tree_forms.proofs.Ordered.{tree_cmp_total}
use Rattle.tree_forms.proofs.TreesApart.{tree_cmp-Equal}
use Rattle.term_nodes.specs.declared.node.Node.{Node}
use Rattle.term_store.specs.Store.{tree_at}
use Rattle.closing.specs.Rows.{placed_atom, with_atom, with_atoms, is_among, place_of}
use Rattle.store_atoms.specs.declared.atoms.Atom.{Atom}
use Rattle.store_atoms.specs.Atoms.{atom_trees, done_trees, AreOrdered, StandsAt, GoesTo, IsFound}

pub reversed : (s t : Tree ℕ) (o : Ordering) → tree_cmp s t ≡ o → tree_cmp t s ≡ ordering_reverse o
reversed s t o h = tree_cmp_total.antisymm t s ∙ ap ordering_reverse h

module _ (store : List Node) where
  -- ---- where a binary search ends

  module _ (t : Tree ℕ) where
    abbrev cmp_at : List Atom → ℕ → Atom → Ordering
    cmp_at atoms k d = tree_cmp (tree_at store ((get_or atoms k d).id)) t

    below_at : (s : Tree ℕ) (atoms : List Atom) (k : ℕ) (d : Atom) → k < length atoms → AllByRecursion (λ u. tree_cmp s u ≡ Less) (atom_trees store atoms) →
        tree_cmp s (tree_at store ((get_or atoms k d).id)) ≡ Less
    below_at s [] k d l h = absurd (omega arith)
    below_at s (a ∷ atoms) zero d l h = h.0
    below_at s (a ∷ atoms) (suc k) d l h = below_at s atoms k d (omega arith) h.1

    stands : (atoms : List Atom) (at : ℕ) → AreOrdered (atom_trees store atoms) → at < length atoms → ((d : Atom) → cmp_at atoms at d ≡ Equal) → StandsAt (atom_trees store atoms) t at
    stands [] at order l h = absurd (omega arith)
    stands (a ∷ atoms) zero order l h =
        let same : tree_cmp t (tree_at store a.id) ≡ Equal = reversed (tree_at store a.id) t Equal (h a) in
        record {
          there = omega arith;
          place = ap (λ o. cond (is_eq o) 0 (suc (place_of (atom_trees store atoms) t))) same;
          kept = ap (λ o. placed_atom o t (tree_at store a.id) (atom_trees store atoms) (with_atom (atom_trees store atoms) t)) same;
        }
    stands (a ∷ atoms) (suc at) order l h =
        let rest = stands atoms at order.1 (omega arith) h in
        let same : tree_at store ((get_or atoms at a).id) ≡ t = tree_cmp-Equal _ _ (h a) in
        let below : tree_cmp (tree_at store a.id) t ≡ Less = subst (λ u. tree_cmp (tree_at store a.id) u ≡ Less) same (below_at (tree_at store a.id) atoms at a (omega arith) order.0) in
        let above : tree_cmp t (tree_at store a.id) ≡ Greater = reversed (tree_at store a.id) t Less below in
        record {
          there = let r = rest.there in omega arith;
          place = ap (λ o. cond (is_eq o) 0 (suc (place_of (atom_trees store atoms) t))) above ∙ ap suc rest.place;
          kept = ap (λ o. placed_atom o t (tree_at store a.id) (atom_trees store atoms) (with_atom (atom_trees store atoms) t)) above ∙ ap (λ us. tree_at store a.id ∷ us) rest.kept;
        }

    goes : (atoms : List Atom) (at : ℕ) → at ≤ length atoms → ((k : ℕ) (d : Atom) → k < at → cmp_at atoms k d ≡ Less) → ((k : ℕ) (d : Atom) → at ≤ k → k < length atoms → cmp_at atoms k d ≡ Greater) →
        GoesTo (atom_trees store atoms) t at
    goes [] zero l before behind = record { there = omega arith; absent = refl; placed = refl }
    goes [] (suc at) l before behind = absurd (omega arith)
    goes (a ∷ atoms) zero l before behind =
        let below : tree_cmp t (tree_at store a.id) ≡ Less = reversed (tree_at store a.id) t Greater (behind zero a (omega arith) (omega arith)) in
        let rest = goes atoms zero (omega arith) (λ k d h. absurd (omega arith)) (λ k d h m. behind (suc k) d (omega arith) (omega arith)) in
        record {
          there = omega arith;
          absent = ap (λ o. is_eq o || is_among (atom_trees store atoms) t) below ∙ rest.absent;
          placed = ap (λ o. placed_atom o t (tree_at store a.id) (atom_trees store atoms) (with_atom (atom_trees store atoms) t)) below;
        }
    goes (a ∷ atoms) (suc at) l before behind =
        let above : tree_cmp t (tree_at store a.id) ≡ Greater = reversed (tree_at store a.id) t Less (before zero a (omega arith)) in
        let rest = goes atoms at (omega arith) (λ k d h. before (suc k) d (omega arith)) (λ k d h m. behind (suc k) d (omega arith) (omega arith)) in
        record {
          there = let r = rest.there in omega arith;
          absent = ap (λ o. is_eq o || is_among (atom_trees store atoms) t) above ∙ rest.absent;
          placed = ap (λ o. placed_atom o t (tree_at store a.id) (atom_trees store atoms) (with_atom (atom_trees store atoms) t)) above ∙ ap (λ us. tree_at store a.id ∷ us) rest.placed;
        }

    at-less : (atoms : List Atom) → AreOrdered (atom_trees store atoms) → (k m : ℕ) (d : Atom) → k < m → m < length atoms →
        tree_cmp (tree_at store ((get_or atoms k d).id)) (tree_at store ((get_or atoms m d).id)) ≡ Less
    at-less [] order k m d l h = absurd (omega arith)
    at-less (a ∷ atoms) order k zero d l h = absurd (omega arith)
    at-less (a ∷ atoms) order zero (suc m) d l h = below_at (tree_at store a.id) atoms m d (omega arith) order.0
    at-less (a ∷ atoms) order (suc k) (suc m) d l h = at-less atoms order.1 k m d (omega arith) (omega arith)

    same-there : (atoms : List Atom) (m : ℕ) (a d : Atom) → m < length atoms → a ≡ get_or atoms m a → a ≡ get_or atoms m d
    same-there [] m a d l e = absurd (omega arith)
    same-there (x ∷ atoms) zero a d l e = e
    same-there (x ∷ atoms) (suc m) a d l e = same-there atoms m a d (omega arith) e

    -- what a search knows: all below low come before t, all from high on behind it
    pub record IsNarrowedTo (atoms : List Atom) (low high : ℕ) : Type 0 where
      pub order : low ≤ high
      pub within : high ≤ length atoms
      pub before : (k : ℕ) (d : Atom) → k < low → cmp_at atoms k d ≡ Less
      pub behind : (k : ℕ) (d : Atom) → high ≤ k → k < length atoms → cmp_at atoms k d ≡ Greater

    pub search-begins : (atoms : List Atom) → IsNarrowedTo atoms 0 (length atoms)
    search-begins atoms = record { order = omega arith; within = omega arith; before = λ k d l. absurd (omega arith); behind = λ k d l m. absurd (omega arith) }

    module _ (atoms : List Atom) (low high m : ℕ) (a : Atom) (ordered : AreOrdered (atom_trees store atoms)) (so : IsNarrowedTo atoms low high) (up : low ≤ m) (down : m < high)
        (is : a ≡ get_or atoms m a) where
      inside : m < length atoms
      inside = let l = so.within in omega arith

      cmp-there : (d : Atom) → tree_cmp (tree_at store a.id) t ≡ cmp_at atoms m d
      cmp-there d = ap (λ (x : Atom). tree_cmp (tree_at store x.id) t) (same-there atoms m a d inside is)

      pub search-up : tree_cmp (tree_at store a.id) t ≡ Less → IsNarrowedTo atoms (m + 1) high
      search-up e = record {
        order = omega arith;
        within = so.within;
        before = λ k d l. before k d l (cases_lt k m);
        behind = so.behind;
      }
        where
          before : (k : ℕ) (d : Atom) → k < m + 1 → (k < m) ⊎ (m ≤ k) → cmp_at atoms k d ≡ Less
          before k d l (inl less) = tree_cmp_total.trans (tree_at store ((get_or atoms k d).id)) (tree_at store ((get_or atoms m d).id)) t (at-less atoms ordered k m d less inside) (sym (cmp-there d) ∙ e)
          before k d l (inr last) = let same : m ≡ k = omega arith in ap (λ (n : ℕ). cmp_at atoms n d) (sym same) ∙ sym (cmp-there d) ∙ e

      pub search-down : tree_cmp (tree_at store a.id) t ≡ Greater → IsNarrowedTo atoms low m
      search-down e = record {
        order = up;
        within = let l = inside in omega arith;
        before = so.before;
        behind = λ k d l h. behind k d l h (cases_lt m k);
      }
        where
          behind : (k : ℕ) (d : Atom) → m ≤ k → k < length atoms → (m < k) ⊎ (k ≤ m) → cmp_at atoms k d ≡ Greater
          behind k d l h (inl more) =
              let below : tree_cmp t (tree_at store ((get_or atoms m d).id)) ≡ Less = reversed (tree_at store ((get_or atoms m d).id)) t Greater (sym (cmp-there d) ∙ e) in
              reversed t (tree_at store ((get_or atoms k d).id)) Less (tree_cmp_total.trans t (tree_at store ((get_or atoms m d).id)) (tree_at store ((get_or atoms k d).id)) below (at-less atoms ordered m k d more h))
          behind k d l h (inr same) = let here : m ≡ k = omega arith in ap (λ (n : ℕ). cmp_at atoms n d) (sym here) ∙ sym (cmp-there d) ∙ e

      pub search-found : tree_cmp (tree_at store a.id) t ≡ Equal → IsFound (atom_trees store atoms) t (Ok m)
      search-found e = stands atoms m ordered inside (λ d. sym (cmp-there d) ∙ e)

    pub search-ended : (atoms : List Atom) (low high : ℕ) → IsNarrowedTo atoms low high → high ≤ low → IsFound (atom_trees store atoms) t (Err low)
    search-ended atoms low high so l =
        let o = so.order in
        let w = so.within in
        goes atoms low (omega arith) (λ k d h. so.before k d h) (λ k d h m. so.behind k d (omega arith) m)

  -- ---- one more atom of the code

  pub trees-inserted : (atoms new : List Atom) (a : Atom) (t : Tree ℕ) (at : ℕ) → GoesTo (atom_trees store atoms) t at → tree_at store a.id ≡ t → new ≡ insert atoms at a →
      atom_trees store new ≡ with_atom (atom_trees store atoms) t
  trees-inserted atoms new a t at h same e =
      ap (atom_trees store) e ∙ map-insert ∙ ap (λ u. take at (atom_trees store atoms) ++ u ∷ drop at (atom_trees store atoms)) same ∙ sym h.placed
    where
      map-insert : atom_trees store (insert atoms at a) ≡ take at (atom_trees store atoms) ++ tree_at store a.id ∷ drop at (atom_trees store atoms)
      map-insert = rw (map-append, take-map, drop-map) refl

  -- an atom that is not done is none of the done
  module _ (a : Atom) (fresh : a.is_done ≡ false) where
    skipped : (ys : List Atom) → done_trees store (a ∷ ys) ≡ done_trees store ys
    skipped ys = ap (λ b. cond b (tree_at store a.id ∷ done_trees store ys) (done_trees store ys)) fresh

    done-between : (xs : List Atom) (k : ℕ) → done_trees store (take k xs ++ a ∷ drop k xs) ≡ done_trees store xs
    done-between [] zero = skipped []
    done-between [] (suc k) = skipped []
    done-between (x ∷ xs) zero = skipped (x ∷ xs)
    done-between (x ∷ xs) (suc k) = ap (λ ts. cond x.is_done (tree_at store x.id ∷ ts) ts) (done-between xs k)

    pub done-inserted : (atoms new : List Atom) (at : ℕ) → new ≡ insert atoms at a → done_trees store new ≡ done_trees store atoms
    done-inserted atoms new at e = ap (done_trees store) e ∙ done-between atoms at

-- ---- several more

pub with_atoms-append : (ts us vs : List (Tree ℕ)) → with_atoms ts (us ++ vs) ≡ with_atoms (with_atoms ts us) vs
with_atoms-append ts [] vs = refl
with_atoms-append ts (u ∷ us) vs = with_atoms-append (with_atom ts u) us vs
