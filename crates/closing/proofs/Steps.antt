-- The completion of rows, step by step: it ends, and each atom has its rows then.
use Rattle.std.proofs.Common.{◌≡◌, inl, inr, ℕ, zero, suc, ◌<◌, ◌≤◌, ◌+◌, ℤ, pos, neg_ℤ, ◌-ℤ◌, negsuc, List, [], ◌∷◌, ◌++◌, length, Bool, true, false, not, ◌&&◌, ◌||◌, cond, Option, Some, None, refl, sym, ap, ◌∙◌, subst, arith}
use Rattle.std.specs.List.{AllByRecursion, Contains, IsDistinct}
use Rattle.std.specs.Ordering.{is_eq, eq_by_cmp}
use Rattle.std.proofs.lemmas.Bool.{false≢true, and_parts, not-true}
use Rattle.std.proofs.lemmas.Cmp.{eq_by_cmp_equiv}
use Rattle.std.proofs.lemmas.Map.Keys.{IsDistinct-cons}
use Rattle.std.proofs.lemmas.Map.Made.{length-le_from_is_member}
use Rattle.std.proofs.lemmas.List.Elements.{Contains-append_left, Contains-append_right, recursion_from_All, All-from_recursion, All-contains, All-contains_itself}
use Rattle.slang_values.specs.Value.{Records}
use Rattle.slang_values.specs.Typing.{NameTypes}
use Rattle.slang_values.specs.Tree.{Tree, literal, truth_literal, name, bound, unary, binary, update, quantified, listed}
use Rattle.slang_values.specs.declared.operators.Unary.{Unary}
use Rattle.slang_values.specs.declared.operators.Binary.{Binary}
use Rattle.tree_forms.specs.Order.{tree_cmp}
use Rattle.tree_forms.specs.Form.{FormPart, LinearForm, atom_form, scaled, form_term, form, subtrees}
use Rattle.tree_forms.proofs.Ordered.{tree_cmp_total}
use Rattle.closing.specs.Rows.{AtomRow, at_least, rest_form, rows_of_atom, has_rows, atoms_in, ordered_atoms, is_among, is_pending, first_where, next_atom, unless_none, completed_within, atom_nodes, completed, rows_of_literals}
use Rattle.closing.proofs.AtomOrder.{Among, among-left, among_true, is_among-true}
use Rattle.closing.proofs.RowCases.{rows_of_division, by_atom}
use Rattle.closing.proofs.Completion.{AllRows, all-append, among-ordered, each_atom, rows_within, next_atom-found}
use Rattle.closing.proofs.Parts.{parts_of_all, whole_part, inner_part, count-parts_of_all, atoms_in_term}
use Rattle.closing.proofs.RowShape.{IsInShape, literals_in_shape}
use Rattle.tree_forms.proofs.Settled.{AllAtoms, atoms-plus, atoms-scaled, IsSettled, settled-atoms}
use Rattle.closing.proofs.FormAtoms.{all_atoms}

-- ---- the atoms that the rows of an atom bring

-- the dividend of the one atom of a form
left_part : Tree ℕ → Tree ℕ
left_part (literal z) = literal z
left_part (truth_literal b) = truth_literal b
left_part (name n) = name n
left_part (bound n) = bound n
left_part (unary op a) = a
left_part (binary op a b) = a
left_part (update a i x) = a
left_part (quantified q low high body) = low
left_part (listed l ts) = listed l ts

dividend : List FormPart → Tree ℕ
dividend [] = literal (pos 0)
dividend (p ∷ ps) = left_part p.atom

settled_dividend : (a d : Tree ℕ) → IsSettled (binary Binary.Div a d) → form_term (form a) ≡ a
unfolding left_part dividend
settled_dividend a d h = ap (λ f. dividend f.parts) h

module _ (all : List (Tree ℕ)) (whole : (t u : Tree ℕ) → Among all t → Among (subtrees t) u → Among all u) where
  -- an atom of rows whose atoms are all among those trees
  pub record IsKnownAtom (t : Tree ℕ) : Type 0 where
    pub settled : IsSettled t
    pub there : Among all t

  pub record IsKnownRow (row : AtomRow) : Type 0 where
    pub known : AllAtoms IsKnownAtom row.parts

  both_known : (ps : List FormPart) → AllAtoms IsSettled ps → AllAtoms (Among all) ps → AllAtoms IsKnownAtom ps
  both_known [] h k = tt
  both_known (p ∷ ps) h k = (record { settled = h.0; there = k.0 }, both_known ps h.1 k.1)

  abbrev AllKnown : List AtomRow → Type 0
  AllKnown rows = AllRows IsKnownRow rows

  least_known : (f : LinearForm) (z : ℤ) → AllAtoms IsKnownAtom f.parts → IsKnownRow (at_least f z)
  least_known f z h = record { known = atoms-scaled IsKnownAtom (negsuc 0) f h }

  rest_known : (a : Tree ℕ) (c : ℤ) → IsKnownAtom (binary Binary.Div a (literal c)) → AllAtoms IsKnownAtom (rest_form a c (binary Binary.Div a (literal c))).parts
  rest_known a c h =
      let t = binary Binary.Div a (literal c) in
      let inside : (u : Tree ℕ) → Among (subtrees a) u → Among all u = λ u k. whole t u h.there (inr (among_first u k)) in
      let parts : AllAtoms (Among (subtrees a)) (form a).parts =
      subst (λ s. AllAtoms (Among (subtrees s)) (form a).parts) (settled_dividend a (literal c) h.settled) (atoms_in_term (form a)) in
      atoms-plus IsKnownAtom (form a) (scaled (neg_ℤ c) (atom_form t))
      (both_known (form a).parts (settled-atoms a) (all_atoms (Among (subtrees a)) (Among all) inside (form a).parts parts))
      (atoms-scaled IsKnownAtom (neg_ℤ c) (atom_form t) (h, tt))
    where
      among_first : (u : Tree ℕ) → Among (subtrees a) u → Among (subtrees a ++ literal c ∷ []) u
      among_first u k = among-left (subtrees a) (literal c ∷ []) u k

  pub atom_known : (t : Tree ℕ) → IsKnownAtom t → AllKnown (rows_of_atom t)
  atom_known =
      by_atom (λ t. IsKnownAtom t → AllKnown (rows_of_atom t)) (λ a h. (least_known (atom_form (unary Unary.Size a)) (pos 0) (h, tt), tt))
      (λ a c e h. subst AllKnown (sym (rows_of_division a c e))
      (let k = rest_known a c h in (least_known (rest_form a c (binary Binary.Div a (literal c))) (pos 1 -ℤ c) k, (record { known = k }, tt))))
      (λ t none h. subst AllKnown (sym none) tt)

  atoms_known : (rows : List AtomRow) → AllKnown rows → AllRows (λ row. AllAtoms IsKnownAtom row.parts) rows
  atoms_known [] h = tt
  atoms_known (row ∷ rows) h = (h.0.known, atoms_known rows h.1)

  pub known_atom : (rows : List AtomRow) (t : Tree ℕ) → AllKnown rows → Among (atoms_in rows) t → IsKnownAtom t
  known_atom rows t h k = each_atom IsKnownAtom rows t (atoms_known rows h) k

-- ---- lists without repetition

abbrev same : Tree ℕ → Tree ℕ → Bool
same = eq_by_cmp tree_cmp

neither : (b c : Bool) → (b || c) ≡ false → (b ≡ false) × (c ≡ false)
neither true c h = absurd (false≢true (sym h))
neither false c h = (refl, h)

none_like : (t : Tree ℕ) (us : List (Tree ℕ)) → is_among us t ≡ false → AllByRecursion (λ u. same t u ≡ false) us
none_like t [] h = tt
none_like t (u ∷ us) h = let k = neither (is_eq (tree_cmp t u)) (is_among us t) h in (k.0, none_like t us k.1)

distinct_then : (t : Tree ℕ) (us : List (Tree ℕ)) → is_among us t ≡ false → IsDistinct same us → IsDistinct same (t ∷ us)
distinct_then t us h k = IsDistinct-cons same t us (none_like t us h) k

at_most_as_many : (us all : List (Tree ℕ)) → IsDistinct same us → AllByRecursion (Among all) us → length us ≤ length all
at_most_as_many us all h k =
    length-le_from_is_member (eq_by_cmp_equiv tree_cmp_total) us all h (λ t e. is_among-true all t (one us k t (among_true us t e)))
  where
    one : (vs : List (Tree ℕ)) → AllByRecursion (Among all) vs → (t : Tree ℕ) → Among vs t → Among all t
    one [] l t m = absurd m
    one (v ∷ vs) l t (inl m) = subst (Among all) (sym m) l.0
    one (v ∷ vs) l t (inr m) = one vs l.1 t m

-- ---- under way

-- Rows on the way from the first ones to the complete ones: each atom is a part of an atom of the first rows, and done are some of
-- those, each once, whose rows are there. What the steps that are left come to is the complete rows.
pub record IsUnderWay (first : List AtomRow) (done : List (Tree ℕ)) (rows : List AtomRow) : Type 0 where
  pub known : AllRows (IsKnownRow (parts_of_all (atoms_in first)) (inner_part (atoms_in first))) rows
  pub distinct : IsDistinct same done
  pub inside : AllByRecursion (Among (parts_of_all (atoms_in first))) done
  pub had : AllByRecursion (λ t. AllByRecursion (Contains rows) (rows_of_atom t)) done
  pub steps : ℕ
  pub counted : steps + length done ≡ atom_nodes first
  pub left_over : completed first ≡ completed_within steps done rows

abbrev pub AllSettled : List AtomRow → Type 0
AllSettled rows = AllRows (λ row. AllAtoms IsSettled row.parts) rows

rows_known : (all : List (Tree ℕ)) (whole : (t u : Tree ℕ) → Among all t → Among (subtrees t) u → Among all u) (rows : List AtomRow) →
    AllSettled rows → AllRows (λ row. AllAtoms (Among all) row.parts) rows → AllRows (IsKnownRow all whole) rows
rows_known all whole [] h k = tt
rows_known all whole (row ∷ rows) h k = (record { known = both_known all whole row.parts h.0 k.0 }, rows_known all whole rows h.1 k.1)

-- at the start nothing is done
pub under_way_first : (first : List AtomRow) → AllSettled first → IsUnderWay first [] first
unfolding IsDistinct
under_way_first first h = record {
  known = rows_known (parts_of_all (atoms_in first)) (inner_part (atoms_in first)) first h (rows_within (parts_of_all (atoms_in first)) first (whole_part (atoms_in first)));
  distinct = tt;
  inside = tt;
  had = tt;
  steps = atom_nodes first;
  counted = omega arith;
  left_over = refl;
}

all_contained : (rows more some : List AtomRow) → AllByRecursion (Contains rows) some → AllByRecursion (Contains (rows ++ more)) some
all_contained rows more [] h = tt
all_contained rows more (row ∷ some) h = (Contains-append_left rows more row h.0, all_contained rows more some h.1)

still_had : (rows more : List AtomRow) (done : List (Tree ℕ)) → AllByRecursion (λ t. AllByRecursion (Contains rows) (rows_of_atom t)) done →
    AllByRecursion (λ t. AllByRecursion (Contains (rows ++ more)) (rows_of_atom t)) done
still_had rows more [] h = tt
still_had rows more (t ∷ done) h = (all_contained rows more (rows_of_atom t) h.0, still_had rows more done h.1)

self_contained : (rows : List AtomRow) → AllByRecursion (Contains rows) rows
self_contained rows = recursion_from_All (Contains rows) rows (All-contains_itself rows)

contained_right : (rows more some : List AtomRow) → AllByRecursion (Contains more) some → AllByRecursion (Contains (rows ++ more)) some
contained_right rows more [] h = tt
contained_right rows more (row ∷ some) h = (Contains-append_right rows more row h.0, contained_right rows more some h.1)

positive_steps : (n : ℕ) → 0 < n → (m : ℕ) × (n ≡ suc m)
positive_steps zero h = absurd (omega (arith, h))
positive_steps (suc m) h = (m, refl)

-- with the rows of the next atom there is one step less to do
pub under_way_next : (first : List AtomRow) (done : List (Tree ℕ)) (rows : List AtomRow) (t : Tree ℕ) (u : IsUnderWay first done rows) → next_atom done rows ≡ Some t →
    (v : IsUnderWay first (t ∷ done) (rows ++ rows_of_atom t)) × (suc v.steps ≡ u.steps)
under_way_next first done rows t u e =
    let all = parts_of_all (atoms_in first) in
    let whole = inner_part (atoms_in first) in
    let found = next_atom-found done rows t e in
    let atom = known_atom all whole rows t u.known found.0 in
    let new : is_among done t ≡ false = not-true (is_among done t) ((and_parts (has_rows (rows_of_atom t)) (not (is_among done t)) found.1).1) in
    let distinct = distinct_then t done new u.distinct in
    let many = at_most_as_many (t ∷ done) all distinct (atom.there, u.inside) in
    let fuel = positive_steps u.steps (omega (arith, many, u.counted, count-parts_of_all (atoms_in first))) in (
      record {
        known = all-append (IsKnownRow all whole) rows (rows_of_atom t) u.known (atom_known all whole t atom);
        distinct = distinct;
        inside = (atom.there, u.inside);
        had = (contained_right rows (rows_of_atom t) (rows_of_atom t) (self_contained (rows_of_atom t)), still_had rows (rows_of_atom t) done u.had);
        steps = fuel.0;
        counted = omega (arith, u.counted, fuel.1);
        left_over = u.left_over ∙ ap (λ n. completed_within n done rows) fuel.1 ∙ ap (λ o. unless_none o rows (λ s. completed_within fuel.0 (s ∷ done) (rows ++ rows_of_atom s))) e;
      },
      sym fuel.1,
    )

ended : (n : ℕ) (done : List (Tree ℕ)) (rows : List AtomRow) → next_atom done rows ≡ None → completed_within n done rows ≡ rows
ended zero done rows e = refl
ended (suc n) done rows e = ap (λ o. unless_none o rows (λ t. completed_within n (t ∷ done) (rows ++ rows_of_atom t))) e

-- where no atom is pending the rows are complete
pub under_way_last : (first : List AtomRow) (done : List (Tree ℕ)) (rows : List AtomRow) (u : IsUnderWay first done rows) → next_atom done rows ≡ None → completed first ≡ rows
under_way_last first done rows u e = u.left_over ∙ ended u.steps done rows e

-- ---- the complete rows

pub record IsComplete (first : List AtomRow) (rows : List AtomRow) : Type 0 where
  pub done : List (Tree ℕ)
  pub under_way : IsUnderWay first done rows
  pub none_left : next_atom done rows ≡ None

at_end : (first : List AtomRow) (done : List (Tree ℕ)) (rows : List AtomRow) (u : IsUnderWay first done rows) → (o : Option (Tree ℕ)) → next_atom done rows ≡ o →
    ((t : Tree ℕ) → next_atom done rows ≡ Some t → IsComplete first (completed first)) → IsComplete first (completed first)
at_end first done rows u None e later =
    let same_rows = under_way_last first done rows u e in
    subst (λ r. IsComplete first r) (sym same_rows) (record { done = done; under_way = u; none_left = e })
at_end first done rows u (Some t) e later = later t e

finish : (n : ℕ) (first : List AtomRow) (done : List (Tree ℕ)) (rows : List AtomRow) (u : IsUnderWay first done rows) → u.steps ≡ n → IsComplete first (completed first)
finish zero first done rows u h =
    at_end first done rows u (next_atom done rows) refl (λ t e. absurd (let p = under_way_next first done rows t u e in omega (arith, p.1, h)))
finish (suc n) first done rows u h =
    at_end first done rows u (next_atom done rows) refl
    (λ t e. let p = under_way_next first done rows t u e in finish n first (t ∷ done) (rows ++ rows_of_atom t) p.0 (omega (arith, p.1, h)))

pub completed-complete : (first : List AtomRow) → AllSettled first → IsComplete first (completed first)
completed-complete first h =
    let u = under_way_first first h in finish u.steps first [] first u refl

-- ---- each atom has its rows

none_passes : (test : Tree ℕ → Bool) (ts : List (Tree ℕ)) (t : Tree ℕ) → first_where test ts ≡ None → Among ts t → test t ≡ false
none_passes test [] t e h = absurd h
none_passes test (u ∷ us) t e h = by_test (λ k l. none_passes test us t k l) (test u) refl e h
  where
    by_test : (first_where test us ≡ None → Among us t → test t ≡ false) → (b : Bool) → test u ≡ b → cond b (Some u) (first_where test us) ≡ None → Among (u ∷ us) t → test t ≡ false
    by_test later true p k l = absurd (cc)
    by_test later false p k (inl l) = ap test l ∙ p
    by_test later false p k (inr l) = later k l

no_rows : (P : AtomRow → Type 0) (rows : List AtomRow) → has_rows rows ≡ false → AllRows P rows
no_rows P [] h = tt
no_rows P (row ∷ rows) h = absurd (false≢true (sym h))

had_rows : (rows : List AtomRow) (done : List (Tree ℕ)) (t : Tree ℕ) → AllByRecursion (λ u. AllByRecursion (Contains rows) (rows_of_atom u)) done → Among done t → AllByRecursion (Contains rows) (rows_of_atom t)
had_rows rows [] t h k = absurd k
had_rows rows (u ∷ done) t h (inl k) = subst (λ v. AllByRecursion (Contains rows) (rows_of_atom v)) (sym k) h.0
had_rows rows (u ∷ done) t h (inr k) = had_rows rows done t h.1 k

not_pending : (rows : List AtomRow) (done : List (Tree ℕ)) (t : Tree ℕ) → AllByRecursion (λ u. AllByRecursion (Contains rows) (rows_of_atom u)) done →
    (b c : Bool) → has_rows (rows_of_atom t) ≡ b → is_among done t ≡ c → (b && not c) ≡ false → AllByRecursion (Contains rows) (rows_of_atom t)
not_pending rows done t h false c p q k = no_rows (Contains rows) (rows_of_atom t) p
not_pending rows done t h true true p q k = had_rows rows done t h (among_true done t q)
not_pending rows done t h true false p q k = absurd (false≢true (sym k))

complete-has_rows : (first rows : List AtomRow) → IsComplete first rows → (t : Tree ℕ) → Among (atoms_in rows) t → AllByRecursion (Contains rows) (rows_of_atom t)
complete-has_rows first rows c t h =
    not_pending rows c.done t c.under_way.had (has_rows (rows_of_atom t)) (is_among c.done t) refl refl
    (none_passes (is_pending c.done) (ordered_atoms rows) t c.none_left (among-ordered rows t h))

settled_shape : (rows : List AtomRow) → AllRows IsInShape rows → AllSettled rows
settled_shape [] h = tt
settled_shape (row ∷ rows) h = (h.0.settled, settled_shape rows h.1)

among-contained : (ts : List (Tree ℕ)) (t : Tree ℕ) → Contains ts t → Among ts t
among-contained ts t h = All-contains (Among ts) ts t (All-from_recursion (Among ts) ts (each ts (λ u k. k))) h
  where
    each : (us : List (Tree ℕ)) → ((u : Tree ℕ) → Among us u → Among ts u) → AllByRecursion (Among ts) us
    each [] more = tt
    each (u ∷ us) more = (more u (inl refl), each us (λ v k. more v (inr k)))

-- the rows of a case have those of each of their atoms
pub case_rows_complete : (records : Records) (types : NameTypes ℕ) (c : List (Tree ℕ)) (t : Tree ℕ) →
    Contains (atoms_in (completed (rows_of_literals records types c))) t → AllByRecursion (Contains (completed (rows_of_literals records types c))) (rows_of_atom t)
case_rows_complete records types c t h =
    let first = rows_of_literals records types c in
    complete-has_rows first (completed first) (completed-complete first (settled_shape first (literals_in_shape records types c))) t (among-contained (atoms_in (completed first)) t h)

-- ---- more steps

more_after : (m n : ℕ) (first : List AtomRow) (done : List (Tree ℕ)) (rows : List AtomRow) (u : IsUnderWay first done rows) → u.steps ≡ m → (o : Option (Tree ℕ)) → next_atom done rows ≡ o →
    ((k : ℕ) (t : Tree ℕ) → m ≡ suc k → (v : IsUnderWay first (t ∷ done) (rows ++ rows_of_atom t)) → v.steps ≡ k → completed_within (k + n) (t ∷ done) (rows ++ rows_of_atom t) ≡ completed first) →
    completed_within (m + n) done rows ≡ completed first
more_after m n first done rows u h None e later = ended (m + n) done rows e ∙ sym (under_way_last first done rows u e)
more_after m n first done rows u h (Some t) e later =
    let p = under_way_next first done rows t u e in
    let v = p.0 in
    let is : m ≡ suc v.steps = sym h ∙ sym p.1 in
    let sum : m + n ≡ suc (v.steps + n) = omega (arith, is) in
    ap (λ k. completed_within k done rows) sum ∙ ap (λ o. unless_none o rows (λ s. completed_within (v.steps + n) (s ∷ done) (rows ++ rows_of_atom s))) e ∙ later v.steps t is v refl

more_steps : (m n : ℕ) (first : List AtomRow) (done : List (Tree ℕ)) (rows : List AtomRow) (u : IsUnderWay first done rows) → u.steps ≡ m → completed_within (m + n) done rows ≡ completed first
more_steps zero n first done rows u h =
    more_after zero n first done rows u h (next_atom done rows) refl (λ k t e v l. absurd (omega (arith, e)))
more_steps (suc m) n first done rows u h =
    more_after (suc m) n first done rows u h (next_atom done rows) refl
    (λ k t e v l. let same_steps : k ≡ m = omega (arith, e) in
    ap (λ j. completed_within (j + n) (t ∷ done) (rows ++ rows_of_atom t)) same_steps ∙ more_steps m n first (t ∷ done) (rows ++ rows_of_atom t) v (l ∙ same_steps))

-- they change nothing
pub completed_ends : (first : List AtomRow) → AllSettled first → (n : ℕ) → completed_within (atom_nodes first + n) [] first ≡ completed first
unfolding under_way_first
completed_ends first h n = let u = under_way_first first h in more_steps u.steps n first [] first u refl

pub case_rows_end : (records : Records) (types : NameTypes ℕ) (c : List (Tree ℕ)) (n : ℕ) →
    completed_within (atom_nodes (rows_of_literals records types c) + n) [] (rows_of_literals records types c) ≡ completed (rows_of_literals records types c)
case_rows_end records types c n =
    let first = rows_of_literals records types c in completed_ends first (settled_shape first (literals_in_shape records types c)) n
