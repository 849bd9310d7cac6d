-- What holds of rows and of the rows of their atoms holds of all that are completed.
use Rattle.std.proofs.Common.{◌≡◌, inl, inr, ℕ, zero, suc, List, [], ◌∷◌, ◌++◌, map, Bool, true, false, cond, Option, Some, None, refl, sym, ap, ◌∙◌, subst}
use Rattle.std.specs.List.{AllByRecursion}
use Rattle.slang_values.specs.Tree.{Tree}
use Rattle.tree_forms.specs.Form.{FormPart}
use Rattle.closing.specs.Rows.{AtomRow, rows_of_atom, atoms_of_row, atoms_in, ordered_atoms, is_pending, first_where, next_atom, unless_none, completed_within}
use Rattle.closing.proofs.AtomOrder.{Among, among-left, among-right, among-append, new-with_atoms, with_atoms-back}
use Rattle.tree_forms.proofs.Settled.{AllAtoms}

abbrev pub AllRows : (AtomRow → Type 0) → List AtomRow → Type 0
AllRows P rows = AllByRecursion P rows

pub all-append : {X : Type 0} (P : X → Type 0) (xs ys : List X) → AllByRecursion P xs → AllByRecursion P ys → AllByRecursion P (xs ++ ys)
all-append P [] ys h k = k
all-append P (x ∷ xs) ys h k = (h.0, all-append P xs ys h.1 k)

-- ---- the atoms of rows

pub among-ordered : (rows : List AtomRow) (t : Tree ℕ) → Among (atoms_in rows) t → Among (ordered_atoms rows) t
among-ordered rows t h = new-with_atoms (atoms_in rows) [] t h

pub ordered-among : (rows : List AtomRow) (t : Tree ℕ) → Among (ordered_atoms rows) t → Among (atoms_in rows) t
ordered-among rows t h = elim (with_atoms-back (atoms_in rows) [] t h) as (λ k. Among (atoms_in rows) t) [ inl k ↦ absurd k | inr k ↦ k ]

atom_in_parts : (P : Tree ℕ → Type 0) (ps : List FormPart) (t : Tree ℕ) → AllAtoms P ps → Among (map (λ p. p.atom) ps) t → P t
atom_in_parts P [] t h k = absurd k
atom_in_parts P (p ∷ ps) t h (inl k) = subst P (sym k) h.0
atom_in_parts P (p ∷ ps) t h (inr k) = atom_in_parts P ps t h.1 k

-- what holds of the atoms of each row holds of every atom
pub each_atom : (P : Tree ℕ → Type 0) (rows : List AtomRow) (t : Tree ℕ) → AllRows (λ row. AllAtoms P row.parts) rows → Among (atoms_in rows) t → P t
each_atom P [] t h k = absurd k
each_atom P (row ∷ rows) t h k = elim (among-append (atoms_of_row row) (atoms_in rows) t k) as (λ l. P t) [
  | inl l ↦ atom_in_parts P row.parts t h.0 l
  | inr l ↦ each_atom P rows t h.1 l
]

parts_within : (all : List (Tree ℕ)) (ps : List FormPart) → ((t : Tree ℕ) → Among (map (λ p. p.atom) ps) t → Among all t) → AllAtoms (Among all) ps
parts_within all [] more = tt
parts_within all (p ∷ ps) more = (more p.atom (inl refl), parts_within all ps (λ t h. more t (inr h)))

pub rows_within : (all : List (Tree ℕ)) (rows : List AtomRow) → ((t : Tree ℕ) → Among (atoms_in rows) t → Among all t) → AllRows (λ row. AllAtoms (Among all) row.parts) rows
rows_within all [] more = tt
rows_within all (row ∷ rows) more =
    (parts_within all row.parts (λ t h. more t (among-left (atoms_of_row row) (atoms_in rows) t h)), rows_within all rows (λ t h. more t (among-right (atoms_of_row row) (atoms_in rows) t h)))

-- ---- the next atom

-- the first that passes a test is one of the list
pub first_where-found : (test : Tree ℕ → Bool) (ts : List (Tree ℕ)) (t : Tree ℕ) → first_where test ts ≡ Some t → Among ts t × (test t ≡ true)
first_where-found test [] t e = absurd (cc)
first_where-found test (u ∷ us) t e = by_test (λ k. first_where-found test us t k) (test u) refl e
  where
    by_test : (first_where test us ≡ Some t → Among us t × (test t ≡ true)) → (b : Bool) → test u ≡ b → cond b (Some u) (first_where test us) ≡ Some t → Among (u ∷ us) t × (test t ≡ true)
    by_test later true p k = let same : u ≡ t = cc in (inl (sym same), sym (ap test same) ∙ p)
    by_test later false p k = let l = later k in (inr l.0, l.1)

pub next_atom-found : (done : List (Tree ℕ)) (rows : List AtomRow) (t : Tree ℕ) → next_atom done rows ≡ Some t → Among (atoms_in rows) t × (is_pending done t ≡ true)
next_atom-found done rows t e =
    let h = first_where-found (is_pending done) (ordered_atoms rows) t e in (ordered-among rows t h.0, h.1)

-- ---- all rows

module _ (P : AtomRow → Type 0) (Q : Tree ℕ → Type 0) (atoms : (row : AtomRow) → P row → AllAtoms Q row.parts) (step : (t : Tree ℕ) → Q t → AllRows P (rows_of_atom t)) where
  atoms_of_rows : (rows : List AtomRow) → AllRows P rows → AllRows (λ row. AllAtoms Q row.parts) rows
  atoms_of_rows [] h = tt
  atoms_of_rows (row ∷ rows) h = (atoms row h.0, atoms_of_rows rows h.1)

  pub completed_keeps : (n : ℕ) (done : List (Tree ℕ)) (rows : List AtomRow) → AllRows P rows → AllRows P (completed_within n done rows)
  completed_keeps zero done rows h = h
  completed_keeps (suc n) done rows h = by_next (λ t k. completed_keeps n (t ∷ done) (rows ++ rows_of_atom t) k) (next_atom done rows) refl
    where
      by_next : ((t : Tree ℕ) → AllRows P (rows ++ rows_of_atom t) → AllRows P (completed_within n (t ∷ done) (rows ++ rows_of_atom t))) → (o : Option (Tree ℕ)) → next_atom done rows ≡ o →
          AllRows P (unless_none o rows (λ t. completed_within n (t ∷ done) (rows ++ rows_of_atom t)))
      by_next later None e = h
      by_next later (Some t) e =
          later t (all-append P rows (rows_of_atom t) h (step t (each_atom Q rows t (atoms_of_rows rows h) ((next_atom-found done rows t e).0))))
