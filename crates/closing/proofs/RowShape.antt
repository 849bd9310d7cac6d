-- The rows of a case stand in order: their parts ascend, none is 0 times, and each atom is settled.
use Rattle.std.proofs.Common.{◌≡◌, ◌≢◌, ℕ, ℤ, pos, negsuc, neg_ℤ, ◌-ℤ◌, ◌*ℤ◌, ◌<ℤ◌, int_le, List, [], ◌∷◌, map, Bool, true, false, cond, refl, sym, ap, ap₂, ◌∙◌, subst, arith}
use Rattle.std.specs.List.{AllByRecursion}
use Rattle.std.specs.Ordering.{int_eq}
use Rattle.std.proofs.lemmas.Bool.{false≢true}
use Rattle.std.proofs.lemmas.Bool.Decides.{Decides-int_eq}
use Rattle.std.proofs.lemmas.Int.{ints}
use Rattle.std.proofs.Math.IntN.{*ℤ-zero}
use Rattle.slang_values.specs.Value.{Records}
use Rattle.slang_values.specs.Tree.{Tree, literal, unary, binary}
use Rattle.slang_values.specs.Typing.{NameTypes}
use Rattle.slang_values.specs.declared.operators.Unary.{Unary}
use Rattle.slang_values.specs.declared.operators.Binary.{Binary}
use Rattle.tree_forms.specs.Form.{LinearForm, constant_form, atom_form, plus, scaled, form}
use Rattle.tree_forms.specs.Laws.{Ascend}
use Rattle.tree_forms.proofs.FormOrder.{IsInOrder-form}
use Rattle.lin_rows.specs.Inequality.{Inequality, IsCanonical}
use Rattle.closing.specs.Rows.{AtomRow, at_most, at_least, rows_of_literal, rest_form, rows_of_atom, atoms_in, ordered_atoms, completed, numbered, numbered_rows, rows_of_literals, rows_of_case, atom_nodes, completed_within}
use Rattle.closing.proofs.AtomOrder.{Among, Rising, rising-with_atoms, numbered_canonical}
use Rattle.closing.proofs.RowCases.{quotient_rows, rows_of_division, by_atom, rows_of_equality, by_literal}
use Rattle.closing.proofs.Completion.{AllRows, all-append, among-ordered, rows_within, completed_keeps}
use Rattle.tree_forms.proofs.Settled.{AllAtoms, IsSettled, settled-atoms}

-- ---- the rest of a quotient, as the form of a tree

abbrev pub rest_tree : Tree ℕ → ℤ → Tree ℕ → Tree ℕ
rest_tree a c t = binary Binary.Sub a (binary Binary.Mul (literal c) t)

one_part : Tree ℕ → ℤ → ℤ → LinearForm
one_part t x y = record { parts = record { atom = t; times = x } ∷ []; constant = y }

scaled_atom : (t : Tree ℕ) (c : ℤ) → (b : Bool) → int_eq c (pos 0) ≡ b → c ≢ pos 0 → scaled c (atom_form t) ≡ one_part t (c *ℤ pos 1) (c *ℤ pos 0)
unfolding one_part
scaled_atom t c true e h = absurd (h ((Decides-int_eq _ _).0 e))
scaled_atom t c false e h =
    ap (λ b. cond b (constant_form (pos 0)) (record { parts = record { atom = t; times = c *ℤ pos 1 } ∷ []; constant = c *ℤ pos 0 })) e

twice_scaled : (t : Tree ℕ) (c : ℤ) → c ≢ pos 0 → scaled (negsuc 0) (scaled c (atom_form t)) ≡ scaled (neg_ℤ c) (atom_form t)
unfolding one_part
twice_scaled t c h =
    ap (scaled (negsuc 0)) (scaled_atom t c (int_eq c (pos 0)) refl h) ∙
    ap₂ (one_part t)
    (let e : negsuc 0 *ℤ (c *ℤ pos 1) ≡ neg_ℤ c *ℤ pos 1 = omega (arith, ints) in e)
    (let e : negsuc 0 *ℤ (c *ℤ pos 0) ≡ neg_ℤ c *ℤ pos 0 = omega (arith, ints, *ℤ-zero c, *ℤ-zero (neg_ℤ c)) in e) ∙
    sym (scaled_atom t (neg_ℤ c) (int_eq (neg_ℤ c) (pos 0)) refl (λ e. h (let z : c ≡ pos 0 = omega (arith, ints, e) in z)))

pub rest_is_form : (a : Tree ℕ) (c : ℤ) (t : Tree ℕ) → IsSettled t → c ≢ pos 0 → rest_form a c t ≡ form (rest_tree a c t)
rest_is_form a c t settled h =
    ap (plus (form a)) (sym (twice_scaled t c h) ∙ ap (λ f. scaled (negsuc 0) (scaled c f)) (sym settled))

pub at_least_one : (c : ℤ) → int_le (pos 1) c ≡ true → (pos 0 <ℤ c) × (c ≢ pos 0)
at_least_one c h = (omega (arith, ints, h), λ e. false≢true (sym (ap (int_le (pos 1)) e) ∙ h))

-- ---- rows in order

-- The parts of a row stand in the order of their atoms, none 0 times, and each atom is settled.
pub record IsInShape (row : AtomRow) : Type 0 where
  pub ascending : Ascend row.parts
  pub not_zero : AllByRecursion (λ p. p.times ≢ pos 0) row.parts
  pub settled : AllAtoms IsSettled row.parts

pub in_shape : (t : Tree ℕ) (z : ℤ) → IsInShape (at_most (form t) z)
in_shape t z = record { ascending = (IsInOrder-form t).ascending; not_zero = (IsInOrder-form t).not_zero; settled = settled-atoms t }

-- ---- literals

abbrev AllInShape : List AtomRow → Type 0
AllInShape rows = AllRows IsInShape rows

-- the negative of a form is the form of the negation
pub least_in_shape : (t : Tree ℕ) (z : ℤ) → IsInShape (at_least (form t) z)
least_in_shape t z = in_shape (unary Unary.Neg t) (neg_ℤ z)

literal_in_shape : (records : Records) (types : NameTypes ℕ) (t : Tree ℕ) → AllInShape (rows_of_literal records types t)
literal_in_shape records types =
    by_literal records types (λ t. AllInShape (rows_of_literal records types t))
    (λ a b. (in_shape (binary Binary.Sub a b) (negsuc 0), tt)) (λ a b. (in_shape (binary Binary.Sub a b) (pos 0), tt))
    (λ a b h. subst AllInShape (sym (rows_of_equality records types a b h)) (in_shape (binary Binary.Sub a b) (pos 0), (least_in_shape (binary Binary.Sub a b) (pos 0), tt)))
    (λ a b. (in_shape (binary Binary.Sub b a) (pos 0), tt)) (λ a b. (in_shape (binary Binary.Sub b a) (negsuc 0), tt))
    (λ t none. subst AllInShape (sym none) tt)

pub literals_in_shape : (records : Records) (types : NameTypes ℕ) (c : List (Tree ℕ)) → AllInShape (rows_of_literals records types c)
literals_in_shape records types [] = tt
literals_in_shape records types (t ∷ c) =
    all-append IsInShape (rows_of_literal records types t) (rows_of_literals records types c) (literal_in_shape records types t) (literals_in_shape records types c)

-- ---- atoms

quotient_in_shape : (a : Tree ℕ) (c : ℤ) → int_le (pos 1) c ≡ true → IsSettled (binary Binary.Div a (literal c)) → AllInShape (quotient_rows a c)
quotient_in_shape a c e h =
    let t = binary Binary.Div a (literal c) in
    let is = sym (rest_is_form a c t h ((at_least_one c e).1)) in (
      subst (λ f. IsInShape (at_least f (pos 1 -ℤ c))) is (least_in_shape (rest_tree a c t) (pos 1 -ℤ c)),
      (subst (λ f. IsInShape (at_most f (c -ℤ pos 1))) is (in_shape (rest_tree a c t) (c -ℤ pos 1)), tt),
    )

pub atom_in_shape : (t : Tree ℕ) → IsSettled t → AllInShape (rows_of_atom t)
atom_in_shape =
    by_atom (λ t. IsSettled t → AllInShape (rows_of_atom t))
    (λ a h. (subst (λ f. IsInShape (at_least f (pos 0))) h (least_in_shape (unary Unary.Size a) (pos 0)), tt))
    (λ a c e h. subst AllInShape (sym (rows_of_division a c e)) (quotient_in_shape a c e h))
    (λ t none h. subst AllInShape (sym none) tt)

-- whatever the count of steps and the atoms that have had their rows
pub completed_in_shape : (n : ℕ) (done : List (Tree ℕ)) (rows : List AtomRow) → AllInShape rows → AllInShape (completed_within n done rows)
completed_in_shape n done rows h = completed_keeps IsInShape IsSettled (λ row k. k.settled) atom_in_shape n done rows h

pub case_in_shape : (records : Records) (types : NameTypes ℕ) (c : List (Tree ℕ)) → AllInShape (completed (rows_of_literals records types c))
case_in_shape records types c =
    let rows = rows_of_literals records types c in completed_in_shape (atom_nodes rows) [] rows (literals_in_shape records types c)

-- ---- over numbers

numbered_in_order : (atoms : List (Tree ℕ)) (rows : List AtomRow) → Rising atoms → AllRows (λ row. AllAtoms (Among atoms) row.parts) rows → AllInShape rows →
    AllByRecursion (λ (row : Inequality). IsCanonical row.parts) (map (numbered atoms) rows)
numbered_in_order atoms [] rising there h = tt
numbered_in_order atoms (row ∷ rows) rising there h =
    (numbered_canonical atoms row.parts rising there.0 h.0.ascending h.0.not_zero, numbered_in_order atoms rows rising there.1 h.1)

pub numbered_rows_canonical : (rows : List AtomRow) → AllInShape rows → AllByRecursion (λ (row : Inequality). IsCanonical row.parts) (numbered_rows rows)
numbered_rows_canonical rows h =
    numbered_in_order (ordered_atoms rows) rows (rising-with_atoms (atoms_in rows) [] tt) (rows_within (ordered_atoms rows) rows (among-ordered rows)) h

pub case_rows_canonical : (records : Records) (types : NameTypes ℕ) (c : List (Tree ℕ)) → AllByRecursion (λ (row : Inequality). IsCanonical row.parts) (rows_of_case records types c)
case_rows_canonical records types c = numbered_rows_canonical (completed (rows_of_literals records types c)) (case_in_shape records types c)
