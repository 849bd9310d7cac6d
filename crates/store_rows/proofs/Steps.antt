-- Steps of the completion.
use Rattle.std.proofs.Common.{◌≡◌, ℕ, zero, suc, ◌+◌, ◌<◌, ◌≤◌, List, [], ◌∷◌, ◌++◌, length, get_or, set, drop, Option, Some, None, Bool, true, false, not}
use Rattle.std.proofs.Common.{◌&&◌, ◌||◌, cond, refl, sym, ap, ap₂, ◌∙◌, subst, arith, add-one, Less}
use Rattle.std.specs.Ordering.{is_eq}
use Rattle.std.specs.List.{AllByRecursion}
use Rattle.std.proofs.lemmas.Grind.{flat_map-append}
use Rattle.slang_values.specs.Tree.{Tree}
use Rattle.tree_forms.specs.Order.{tree_cmp}
use Rattle.tree_forms.specs.Form.{is_narrow}
use Rattle.tree_forms.proofs.TreesApart.{tree_cmp_same}
use Rattle.tree_forms.proofs.Settled.{IsNarrow}
use Rattle.term_nodes.specs.declared.node.Node.{Node}
use Rattle.term_store.specs.Store.{tree_at}
use Rattle.closing.specs.Rows.{AtomRow, is_among, is_pending, first_where, atoms_in, ordered_atoms, next_atom, atoms_of_row, atom_nodes, completed}
use Rattle.closing.specs.Rows.{rows_of_atom, has_rows}
use Rattle.closing.proofs.AtomOrder.{rising-with_atoms}
use Rattle.closing.proofs.Completion.{all-append}
use Rattle.closing.proofs.NarrowRows.{narrow_atoms_in, atom_narrow}
use Rattle.closing.proofs.Steps.{IsUnderWay, under_way_first, under_way_next, under_way_last}
use Rattle.store_atoms.specs.declared.atoms.Atom.{Atom}
use Rattle.store_atoms.specs.declared.system.System.{System}
use Rattle.store_atoms.specs.Atoms.{atom_trees, done_trees, AreOrdered}
use Rattle.store_atoms.specs.Views.{rows_at}
use Rattle.store_atoms.specs.Systems.{IsInStep}
use Rattle.store_atoms.proofs.Order.{reversed}
use Rattle.store_rows.specs.Complete.{HaveNarrowAtoms, AreSettled, IsNextAt, IsNext, IsStep}

-- ---- only which atoms are done matters

first_where-same : (p q : Tree ℕ → Bool) → ((t : Tree ℕ) → p t ≡ q t) → (ts : List (Tree ℕ)) → first_where p ts ≡ first_where q ts
first_where-same p q h [] = refl
first_where-same p q h (t ∷ ts) = ap₂ (λ (b : Bool) (o : Option (Tree ℕ)). cond b (Some t) o) (h t) (first_where-same p q h ts)

pub next-same : (d e : List (Tree ℕ)) (rows : List AtomRow) → ((t : Tree ℕ) → is_among d t ≡ is_among e t) → next_atom d rows ≡ next_atom e rows
next-same d e rows h =
    first_where-same (is_pending d) (is_pending e) (λ t. ap (λ b. has_rows (rows_of_atom t) && not b) (h t)) (ordered_atoms rows)

-- ---- an atom is done

or-again : (a b : Bool) → (a || b) ≡ (a || (a || b))
or-again true b = refl
or-again false b = refl

or-turned : (a b c : Bool) → (a || (b || c)) ≡ (b || (a || c))
or-turned true true c = refl
or-turned true false c = refl
or-turned false true c = refl
or-turned false false c = refl

module _ (store : List Node) where
  -- the atom, done
  abbrev pub as_done : Atom → Atom
  as_done a = record { id = a.id; is_done = true }

  pub trees-done : (atoms : List Atom) (k : ℕ) (a : Atom) → k < length atoms → a ≡ get_or atoms k a → atom_trees store (set atoms k (as_done a)) ≡ atom_trees
      store atoms
  trees-done [] k a l is = absurd (omega arith)
  trees-done (x ∷ atoms) zero a l is = ap (λ y. tree_at store y.id ∷ atom_trees store atoms) is
  trees-done (x ∷ atoms) (suc k) a l is = ap (λ ts. tree_at store x.id ∷ ts) (trees-done atoms k a (omega arith) is)

  module _ (u : Tree ℕ) where
    among-flagged : (b : Bool) (t : Tree ℕ) (ts : List (Tree ℕ)) → is_among (t ∷ ts) u ≡ (is_eq (tree_cmp u t) || is_among (cond b (t ∷ ts) ts) u)
    among-flagged true t ts = or-again (is_eq (tree_cmp u t)) (is_among ts u)
    among-flagged false t ts = refl

    among-beside : (b : Bool) (s t : Tree ℕ) (ts us : List (Tree ℕ)) → is_among ts u ≡ (is_eq (tree_cmp u t) || is_among us u) →
        is_among (cond b (s ∷ ts) ts) u ≡ (is_eq (tree_cmp u t) || is_among (cond b (s ∷ us) us) u)
    among-beside true s t ts us h = ap (λ b. is_eq (tree_cmp u s) || b) h ∙ or-turned (is_eq (tree_cmp u s)) (is_eq (tree_cmp u t)) (is_among us u)
    among-beside false s t ts us h = h

    among-done : (atoms : List Atom) (k : ℕ) (a : Atom) → k < length atoms → a ≡ get_or atoms k a →
        is_among (done_trees store (set atoms k (as_done a))) u ≡ is_among (tree_at store a.id ∷ done_trees store atoms) u
    among-done [] k a l is = absurd (omega arith)
    among-done (x ∷ atoms) zero a l is =
        ap (λ y. is_among (tree_at store y.id ∷ done_trees store atoms) u) is
        ∙ among-flagged x.is_done (tree_at store x.id) (done_trees store atoms)
        ∙ ap (λ y. is_eq (tree_cmp u (tree_at store y.id)) || is_among (done_trees store (x ∷ atoms)) u) (sym is)
    among-done (x ∷ atoms) (suc k) a l is =
        among-beside x.is_done (tree_at store x.id) (tree_at store a.id) (done_trees store (set atoms k (as_done a))) (done_trees store atoms)
        (among-done atoms k a (omega arith) is)

  -- ---- the flag of an atom tells whether it is done

  module _ (t : Tree ℕ) where
    none-flagged : (b : Bool) (s : Tree ℕ) (ts : List (Tree ℕ)) → is_eq (tree_cmp t s) ≡ false → is_among ts t ≡ false →
        is_among (cond b (s ∷ ts) ts) t ≡ false
    none-flagged true s ts h k = ap (λ b. b || is_among ts t) h ∙ k
    none-flagged false s ts h k = k

    none-above : (atoms : List Atom) → AllByRecursion (λ u. tree_cmp t u ≡ Less) (atom_trees store atoms) → is_among (done_trees store atoms) t ≡ false
    none-above [] h = refl
    none-above (a ∷ atoms) h = none-flagged a.is_done (tree_at store a.id) (done_trees store atoms) (ap is_eq h.0) (none-above atoms h.1)

    above-flagged : (b : Bool) (s : Tree ℕ) (ts : List (Tree ℕ)) → is_eq (tree_cmp t s) ≡ false → is_among (cond b (s ∷ ts) ts) t ≡ is_among ts t
    above-flagged true s ts h = ap (λ b. b || is_among ts t) h
    above-flagged false s ts h = refl

  own-flag : (b : Bool) (t : Tree ℕ) (ts : List (Tree ℕ)) → is_among ts t ≡ false → is_among (cond b (t ∷ ts) ts) t ≡ b
  own-flag true t ts h = ap (λ o. is_eq o || is_among ts t) (tree_cmp_same t t refl)
  own-flag false t ts h = h

  less-at : (s : Tree ℕ) (atoms : List Atom) (k : ℕ) (d : Atom) → k < length atoms → AllByRecursion (λ u. tree_cmp s u ≡ Less) (atom_trees store atoms) →
      tree_cmp s (tree_at store ((get_or atoms k d).id)) ≡ Less
  less-at s [] k d l h = absurd (omega arith)
  less-at s (a ∷ atoms) zero d l h = h.0
  less-at s (a ∷ atoms) (suc k) d l h = less-at s atoms k d (omega arith) h.1

  flag-tells : (atoms : List Atom) (k : ℕ) (d : Atom) → AreOrdered (atom_trees store atoms) → k < length atoms →
      is_among (done_trees store atoms) (tree_at store ((get_or atoms k d).id)) ≡ (get_or atoms k d).is_done
  flag-tells [] k d order l = absurd (omega arith)
  flag-tells (a ∷ atoms) zero d order l = own-flag a.is_done (tree_at store a.id) (done_trees store atoms) (none-above (tree_at store a.id) atoms order.0)
  flag-tells (a ∷ atoms) (suc k) d order l =
      let t = tree_at store ((get_or atoms k d).id) in
      above-flagged t a.is_done (tree_at store a.id) (done_trees store atoms)
      (ap is_eq (reversed (tree_at store a.id) t Less (less-at (tree_at store a.id) atoms k d (omega arith) order.0)))
      ∙ flag-tells atoms k d order.1 (omega arith)

  -- what stands at a place is one atom
  pub same-atom : (atoms : List Atom) (k : ℕ) (a b : Atom) → k < length atoms → a ≡ get_or atoms k a → b ≡ get_or atoms k b → a ≡ b
  same-atom [] k a b l e f = absurd (omega arith)
  same-atom (x ∷ atoms) zero a b l e f = e ∙ sym f
  same-atom (x ∷ atoms) (suc k) a b l e f = same-atom atoms k a b (omega arith) e f

  -- ---- the first that passes a test

  module _ (test : Tree ℕ → Bool) where
    first-at : (atoms : List Atom) (k : ℕ) (d : Atom) → k < length atoms →
        first_where test (drop k (atom_trees store atoms)) ≡ cond (test (tree_at store ((get_or atoms k d).id)))
        (Some (tree_at store ((get_or atoms k d).id))) (first_where test (drop (suc k) (atom_trees store atoms)))
    first-at [] k d l = absurd (omega arith)
    first-at (a ∷ atoms) zero d l = refl
    first-at (a ∷ atoms) (suc k) d l = first-at atoms k d (omega arith)

    first-none : (atoms : List Atom) (k : ℕ) → length atoms ≤ k → first_where test (drop k (atom_trees store atoms)) ≡ None
    first-none [] zero l = refl
    first-none [] (suc k) l = refl
    first-none (a ∷ atoms) zero l = absurd (omega arith)
    first-none (a ∷ atoms) (suc k) l = first-none atoms k (omega arith)

  and-turned : (a b : Bool) → (a && b) ≡ (b && a)
  and-turned true true = refl
  and-turned true false = refl
  and-turned false true = refl
  and-turned false false = refl

  module _ (atoms : List Atom) (rows : List AtomRow) (e : atom_trees store atoms ≡ ordered_atoms rows) where
    abbrev test : Tree ℕ → Bool
    test = is_pending (done_trees store atoms)

    -- the next atom is none of the first k
    abbrev pub PassedTo : ℕ → Type 0
    PassedTo k = first_where test (atom_trees store atoms) ≡ first_where test (drop k (atom_trees store atoms))

    ordered : AreOrdered (atom_trees store atoms)
    ordered = subst AreOrdered (sym e) (rising-with_atoms (atoms_in rows) [] tt)

    next-is : next_atom (done_trees store atoms) rows ≡ first_where test (atom_trees store atoms)
    next-is = ap (first_where test) (sym e)

    module _ (k : ℕ) (a : Atom) (l : k < length atoms) (is : a ≡ get_or atoms k a) where
      tests : (b : Bool) → (not a.is_done && has_rows (rows_of_atom (tree_at store a.id))) ≡ b → test (tree_at store ((get_or atoms k a).id)) ≡ b
      tests b h =
          let there = get_or atoms k a in
          ap (λ c. has_rows (rows_of_atom (tree_at store there.id)) && not c) (flag-tells atoms k a ordered l)
          ∙ and-turned (has_rows (rows_of_atom (tree_at store there.id))) (not there.is_done)
          ∙ ap (λ x. not x.is_done && has_rows (rows_of_atom (tree_at store x.id))) (sym is) ∙ h

      pub next-found : PassedTo k → (not a.is_done && has_rows (rows_of_atom (tree_at store a.id))) ≡ true → next_atom (done_trees store atoms) rows ≡ Some
          (tree_at store a.id)
      next-found passed h =
          next-is ∙ passed ∙ first-at test atoms k a l
          ∙ ap (λ b. cond b (Some (tree_at store ((get_or atoms k a).id))) (first_where test (drop (suc k) (atom_trees store atoms)))) (tests true h)
          ∙ ap (λ x. Some (tree_at store x.id)) (sym is)

      pub next-passed : PassedTo k → (not a.is_done && has_rows (rows_of_atom (tree_at store a.id))) ≡ false → PassedTo (k + 1)
      next-passed passed h =
          passed ∙ first-at test atoms k a l
          ∙ ap (λ b. cond b (Some (tree_at store ((get_or atoms k a).id))) (first_where test (drop (suc k) (atom_trees store atoms)))) (tests false h)
          ∙ (rw add-one refl)

    pub next-none : (k : ℕ) → length atoms ≤ k → PassedTo k → next_atom (done_trees store atoms) rows ≡ None
    next-none k l passed = next-is ∙ passed ∙ first-none test atoms k l

  -- ---- one step

  -- a list of atoms that are done has one more
  done-counted : (atoms : List Atom) (k : ℕ) (a : Atom) → k < length atoms → a ≡ get_or atoms k a → a.is_done ≡ false →
      length (done_trees store (set atoms k (as_done a))) ≡ suc (length (done_trees store atoms))
  done-counted [] k a l is fresh = absurd (omega arith)
  done-counted (x ∷ atoms) zero a l is fresh =
      ap (λ b. suc (length (cond b (tree_at store x.id ∷ done_trees store atoms) (done_trees store atoms)))) (sym (ap (λ y. y.is_done) (sym is) ∙ fresh))
  done-counted (x ∷ atoms) (suc k) a l is fresh = at_flag x.is_done (done-counted atoms k a (omega arith) is fresh)
    where
      at_flag : (b : Bool) → length (done_trees store (set atoms k (as_done a))) ≡ suc (length (done_trees store atoms)) →
          length (cond b (tree_at store x.id ∷ done_trees store (set atoms k (as_done a))) (done_trees store (set atoms k (as_done a)))) ≡ suc
          (length (cond b (tree_at store x.id ∷ done_trees store atoms) (done_trees store atoms)))
      at_flag true h = ap suc h
      at_flag false h = h

  pub step-taken : (old new : System) (place : ℕ) (a : Atom) (more : List AtomRow) → IsNextAt store old place → a ≡ get_or old.atoms.items place a →
      more ≡ rows_of_atom (tree_at store a.id) → is_narrow (tree_at store a.id) ≡ true →
      HaveNarrowAtoms (rows_at store old.rows.items) → rows_at store new.rows.items ≡ rows_at store old.rows.items ++ more → IsInStep store new →
      done_trees store new.atoms.items ≡ done_trees store (set old.atoms.items place (as_done a)) → IsStep store old new
  step-taken old new place a more next is known narrow narrows e in_step done =
      let t = tree_at store a.id in
      let before = rows_at store old.rows.items in
      let rows = e ∙ ap (λ rs. before ++ rs) known in
      record {
        atom = t;
        next = next.next a is;
        in_step = in_step;
        narrow = subst HaveNarrowAtoms (sym rows)
            (subst (AllByRecursion IsNarrow) (sym (flat_map-append atoms_of_row before (rows_of_atom t)))
            (all-append IsNarrow (atoms_in before) (atoms_in (rows_of_atom t)) narrows (narrow_atoms_in (rows_of_atom t) (atom_narrow t narrow))));
        rows = rows;
        done = λ u. ap (λ ts. is_among ts u) done ∙ among-done u old.atoms.items place a next.there is;
        counted = ap length done ∙ done-counted old.atoms.items place a next.there is (next.fresh a is);
      }

  -- ---- all steps

  -- The table is on the way from the first rows to the complete ones.
  pub record IsOnTheWay (first : List AtomRow) (s : System) : Type 0 where
    pub done : List (Tree ℕ)
    pub under_way : IsUnderWay first done (rows_at store s.rows.items)
    pub same : (t : Tree ℕ) → is_among (done_trees store s.atoms.items) t ≡ is_among done t
    pub counted : length (done_trees store s.atoms.items) ≡ length done

  pub way-first : (s : System) → AreSettled (rows_at store s.rows.items) → done_trees store s.atoms.items ≡ [] → IsOnTheWay (rows_at store s.rows.items) s
  way-first s settled fresh = record {
    done = [];
    under_way = under_way_first (rows_at store s.rows.items) settled;
    same = λ t. ap (λ ts. is_among ts t) fresh;
    counted = ap length fresh;
  }

  module _ (first : List AtomRow) (s : System) (way : IsOnTheWay first s) where
    -- the code and the definition have the same next atom
    next-on_way : next_atom way.done (rows_at store s.rows.items) ≡ next_atom (done_trees store s.atoms.items) (rows_at store s.rows.items)
    next-on_way = next-same way.done (done_trees store s.atoms.items) (rows_at store s.rows.items) (λ t. sym (way.same t))

    pub way-next : (new : System) → IsStep store s new → IsOnTheWay first new
    way-next new step = record {
      done = step.atom ∷ way.done;
      under_way = subst (IsUnderWay first (step.atom ∷ way.done)) (sym step.rows)
          (under_way_next first way.done (rows_at store s.rows.items) step.atom way.under_way (next-on_way ∙ step.next)).0;
      same = λ t. step.done t ∙ ap (λ b. is_eq (tree_cmp t step.atom) || b) (way.same t);
      counted = step.counted ∙ ap suc way.counted;
    }

    -- it has not had as many atoms as there are nodes
    pub way-left : (new : System) → IsStep store s new → length (done_trees store s.atoms.items) < atom_nodes first
    way-left new step =
        let u = way.under_way in
        let next = under_way_next first way.done (rows_at store s.rows.items) step.atom u (next-on_way ∙ step.next) in
        omega (arith, next.1, u.counted, way.counted)

    pub way-last : next_atom (done_trees store s.atoms.items) (rows_at store s.rows.items) ≡ None → rows_at store s.rows.items ≡ completed first
    way-last e = sym (under_way_last first way.done (rows_at store s.rows.items) way.under_way (next-on_way ∙ e))

  pub none-left : (s : System) (found : Option ℕ) → IsNext store s found → ((place : ℕ) → found ≡ Some place → ⊥) →
      next_atom (done_trees store s.atoms.items) (rows_at store s.rows.items) ≡ None
  none-left s None h f = h
  none-left s (Some place) h f = absurd (f place refl)
