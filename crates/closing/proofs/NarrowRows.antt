-- Where the literals of a case are narrow, so are all atoms of its rows.
use Rattle.std.specs.List.{AllByRecursion, Contains}
use Rattle.std.proofs.Common.{◌≡◌, ◌∙◌, sym, subst, ℕ, ℤ, pos, negsuc, neg_ℤ, ◌-ℤ◌, List, [], ◌∷◌, map, true, ◌&&◌}
use Rattle.std.proofs.lemmas.Bool.{and_parts}
use Rattle.std.proofs.lemmas.List.Elements.{All-contains, All-from_recursion}
use Rattle.slang_values.specs.Value.{Records}
use Rattle.slang_values.specs.Tree.{Tree, literal, unary, binary}
use Rattle.slang_values.specs.Typing.{NameTypes}
use Rattle.slang_values.specs.declared.operators.Unary.{Unary}
use Rattle.slang_values.specs.declared.operators.Binary.{Binary}
use Rattle.tree_forms.proofs.Narrow.{is_narrow-unary, is_narrow-binary}
use Rattle.tree_forms.specs.Form.{FormPart, LinearForm, has_small_numbers, atom_form, scaled, form, is_narrow}
use Rattle.closing.specs.Literals.{are_all_narrow}
use Rattle.closing.specs.Rows.{AtomRow, at_most, at_least, difference, rows_of_literal, rest_form, rows_of_atom, atoms_of_row, atoms_in, completed_within, completed, atom_nodes, rows_of_literals}
use Rattle.closing.proofs.RowCases.{rows_of_division, by_atom, rows_of_equality, by_literal}
use Rattle.closing.proofs.Completion.{AllRows, all-append, completed_keeps}
use Rattle.tree_forms.proofs.Settled.{AllAtoms, atoms-plus, atoms-scaled, IsNarrow, narrow-atoms}
use Rattle.closing.proofs.FormAtoms.{atoms-difference}

left_narrow : (op : Binary) (a b : Tree ℕ) → IsNarrow (binary op a b) → IsNarrow a
left_narrow op a b h = (and_parts (is_narrow a) (is_narrow b) ((and_parts (has_small_numbers (form (binary op a b))) (is_narrow a && is_narrow b) (sym (is_narrow-binary op a b) ∙ h)).1)).0

right_narrow : (op : Binary) (a b : Tree ℕ) → IsNarrow (binary op a b) → IsNarrow b
right_narrow op a b h = (and_parts (is_narrow a) (is_narrow b) ((and_parts (has_small_numbers (form (binary op a b))) (is_narrow a && is_narrow b) (sym (is_narrow-binary op a b) ∙ h)).1)).1

part_narrow : (op : Unary) (a : Tree ℕ) → IsNarrow (unary op a) → IsNarrow a
part_narrow op a h = (and_parts (has_small_numbers (form (unary op a))) (is_narrow a) (sym (is_narrow-unary op a) ∙ h)).1

-- ---- literals

-- each atom of the row is narrow
pub record IsNarrowRow (row : AtomRow) : Type 0 where
  pub narrow : AllAtoms IsNarrow row.parts

abbrev AllNarrow : List AtomRow → Type 0
AllNarrow rows = AllRows IsNarrowRow rows

most_narrow : (f : LinearForm) (z : ℤ) → AllAtoms IsNarrow f.parts → IsNarrowRow (at_most f z)
most_narrow f z h = record { narrow = h }

least_narrow : (f : LinearForm) (z : ℤ) → AllAtoms IsNarrow f.parts → IsNarrowRow (at_least f z)
least_narrow f z h = record { narrow = atoms-scaled IsNarrow (negsuc 0) f h }

difference_narrow : (a b : Tree ℕ) → IsNarrow a → IsNarrow b → AllAtoms IsNarrow (difference a b).parts
difference_narrow a b h k = atoms-difference IsNarrow a b (narrow-atoms a h) (narrow-atoms b k)

sides : (op : Binary) (a b : Tree ℕ) → IsNarrow (binary op a b) → AllAtoms IsNarrow (difference a b).parts × AllAtoms IsNarrow (difference b a).parts
sides op a b h =
    (difference_narrow a b (left_narrow op a b h) (right_narrow op a b h), difference_narrow b a (right_narrow op a b h) (left_narrow op a b h))

pub literal_narrow : (records : Records) (types : NameTypes ℕ) (t : Tree ℕ) → IsNarrow t → AllNarrow (rows_of_literal records types t)
literal_narrow records types =
    by_literal records types (λ t. IsNarrow t → AllNarrow (rows_of_literal records types t))
    (λ a b h. (most_narrow (difference a b) (negsuc 0) ((sides Binary.Lt a b h).0), tt)) (λ a b h. (most_narrow (difference a b) (pos 0) ((sides Binary.Le a b h).0), tt))
    (λ a b e h. subst AllNarrow (sym (rows_of_equality records types a b e)) (let n = (sides Binary.Eq a b h).0 in (most_narrow (difference a b) (pos 0) n, (least_narrow (difference a b) (pos 0) n, tt))))
    (λ a b h. (most_narrow (difference b a) (pos 0) ((sides Binary.Lt a b (part_narrow Unary.Not (binary Binary.Lt a b) h)).1), tt))
    (λ a b h. (most_narrow (difference b a) (negsuc 0) ((sides Binary.Le a b (part_narrow Unary.Not (binary Binary.Le a b) h)).1), tt))
    (λ t none h. subst AllNarrow (sym none) tt)

pub literals_narrow : (records : Records) (types : NameTypes ℕ) (c : List (Tree ℕ)) → are_all_narrow c ≡ true → AllNarrow (rows_of_literals records types c)
literals_narrow records types [] h = tt
literals_narrow records types (t ∷ c) h =
    let n = and_parts (is_narrow t) (are_all_narrow c) h in
    all-append IsNarrowRow (rows_of_literal records types t) (rows_of_literals records types c) (literal_narrow records types t n.0) (literals_narrow records types c n.1)

-- ---- atoms

rest_narrow : (a : Tree ℕ) (c : ℤ) → IsNarrow (binary Binary.Div a (literal c)) → AllAtoms IsNarrow (rest_form a c (binary Binary.Div a (literal c))).parts
rest_narrow a c h =
    let t = binary Binary.Div a (literal c) in
    atoms-plus IsNarrow (form a) (scaled (neg_ℤ c) (atom_form t)) (narrow-atoms a (left_narrow Binary.Div a (literal c) h)) (atoms-scaled IsNarrow (neg_ℤ c) (atom_form t) (h, tt))

pub atom_narrow : (t : Tree ℕ) → IsNarrow t → AllNarrow (rows_of_atom t)
atom_narrow =
    by_atom (λ t. IsNarrow t → AllNarrow (rows_of_atom t)) (λ a h. (least_narrow (atom_form (unary Unary.Size a)) (pos 0) (h, tt), tt))
    (λ a c e h. subst AllNarrow (sym (rows_of_division a c e))
    (let f = rest_form a c (binary Binary.Div a (literal c)) in (least_narrow f (pos 1 -ℤ c) (rest_narrow a c h), (most_narrow f (c -ℤ pos 1) (rest_narrow a c h), tt))))
    (λ t none h. subst AllNarrow (sym none) tt)

-- whatever the count of steps and the atoms that have had their rows
pub completed_narrow : (n : ℕ) (done : List (Tree ℕ)) (rows : List AtomRow) → AllNarrow rows → AllNarrow (completed_within n done rows)
completed_narrow n done rows h = completed_keeps IsNarrowRow IsNarrow (λ row k. k.narrow) atom_narrow n done rows h

narrow_parts : (ps : List FormPart) → AllAtoms IsNarrow ps → AllByRecursion IsNarrow (map (λ p. p.atom) ps)
narrow_parts [] h = tt
narrow_parts (p ∷ ps) h = (h.0, narrow_parts ps h.1)

pub narrow_atoms_in : (rows : List AtomRow) → AllNarrow rows → AllByRecursion IsNarrow (atoms_in rows)
narrow_atoms_in [] h = tt
narrow_atoms_in (row ∷ rows) h = all-append IsNarrow (atoms_of_row row) (atoms_in rows) (narrow_parts row.parts h.0.narrow) (narrow_atoms_in rows h.1)

pub case_atoms_narrow : (records : Records) (types : NameTypes ℕ) (c : List (Tree ℕ)) → are_all_narrow c ≡ true → (t : Tree ℕ) →
    Contains (atoms_in (completed (rows_of_literals records types c))) t → is_narrow t ≡ true
case_atoms_narrow records types c h t k =
    let rows = rows_of_literals records types c in
    let all = narrow_atoms_in (completed rows) (completed_narrow (atom_nodes rows) [] rows (literals_narrow records types c h)) in
    All-contains IsNarrow (atoms_in (completed rows)) t (All-from_recursion IsNarrow (atoms_in (completed rows)) all) k
