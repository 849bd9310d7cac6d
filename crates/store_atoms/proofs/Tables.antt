-- Rows, and their atoms in step with them.
use Rattle.std.proofs.Common.{◌≡◌, ℕ, ◌+◌, ◌<◌, List, [], ◌∷◌, ◌++◌, map, length, get_or, take, sym, ap, ap₂, ◌∙◌}
use Rattle.std.proofs.lemmas.Grind.{flat_map-append}
use Rattle.std.proofs.lemmas.List.{map-append, append-nil, append_assoc}
use Rattle.slang_values.specs.Tree.{Tree}
use Rattle.tree_forms.specs.Form.{FormPart}
use Rattle.term_nodes.specs.declared.node.Node.{Node}
use Rattle.term_store.specs.Store.{tree_at}
use Rattle.store_forms.specs.declared.form.IdPart.{IdPart}
use Rattle.store_forms.specs.Form.{part_at}
use Rattle.closing.specs.Rows.{AtomRow, with_atom, with_atoms, atoms_of_row, atoms_in, ordered_atoms, place_of, numbered_parts}
use Rattle.store_atoms.specs.declared.row.IdRow.{IdRow}
use Rattle.store_atoms.specs.Views.{row_at, rows_at}
use Rattle.store_atoms.proofs.Lists.{take-next}
use Rattle.store_atoms.proofs.Order.{with_atoms-append}

pub in_step-more : (rows more : List AtomRow) (ts us : List (Tree ℕ)) → ts ≡ ordered_atoms rows → us ≡ with_atoms ts (atoms_in more) → us ≡ ordered_atoms (rows ++ more)
in_step-more rows more ts us h e =
    e ∙ ap (λ xs. with_atoms xs (atoms_in more)) h ∙ sym (with_atoms-append [] (atoms_in rows) (atoms_in more)) ∙ ap (with_atoms []) (sym (flat_map-append atoms_of_row rows more))

module _ (store : List Node) where
  -- ---- the atoms of one more part, and of one more row

  abbrev pub atoms_of : List IdPart → List (Tree ℕ)
  atoms_of parts = map (λ p. p.atom) (map (part_at store) parts)

  module _ (parts : List IdPart) (i : ℕ) (p : IdPart) (l : i < length parts) (is : p ≡ get_or parts i p) where
    atoms-next : atoms_of (take (i + 1) parts) ≡ atoms_of (take i parts) ++ tree_at store p.atom ∷ []
    atoms-next =
        ap atoms_of (take-next parts i p l is)
        ∙ ap (λ ps. map (λ p. p.atom) ps) (map-append (part_at store) (take i parts) (p ∷ []))
        ∙ map-append (λ p. p.atom) (map (part_at store) (take i parts)) (part_at store p ∷ [])

    pub numbered-next : (ts : List (Tree ℕ)) → numbered_parts ts (map (part_at store) (take (i + 1) parts))
        ≡ numbered_parts ts (map (part_at store) (take i parts)) ++ record { var = place_of ts (tree_at store p.atom); times = p.times } ∷ []
    numbered-next ts =
        ap (λ ps. numbered_parts ts (map (part_at store) ps)) (take-next parts i p l is)
        ∙ ap (numbered_parts ts) (map-append (part_at store) (take i parts) (p ∷ []))
        ∙ map-append (λ (q : FormPart). record { var = place_of ts q.atom; times = q.times }) (map (part_at store) (take i parts)) (part_at store p ∷ [])

    pub parts-more : (ts us vs : List (Tree ℕ)) → us ≡ with_atoms ts (atoms_of (take i parts)) → vs ≡ with_atom us (tree_at store p.atom) → vs ≡ with_atoms ts (atoms_of (take (i + 1) parts))
    parts-more ts us vs h e =
        e ∙ ap (λ xs. with_atom xs (tree_at store p.atom)) h ∙ sym (with_atoms-append ts (atoms_of (take i parts)) (tree_at store p.atom ∷ [])) ∙ ap (with_atoms ts) (sym atoms-next)

  module _ (rows : List IdRow) (i : ℕ) (r : IdRow) (l : i < length rows) (is : r ≡ get_or rows i r) where
    pub rows-next : rows_at store (take (i + 1) rows) ≡ rows_at store (take i rows) ++ row_at store r ∷ []
    rows-next = ap (rows_at store) (take-next rows i r l is) ∙ map-append (row_at store) (take i rows) (r ∷ [])

    in_rows-next : atoms_in (rows_at store (take (i + 1) rows)) ≡ atoms_in (rows_at store (take i rows)) ++ atoms_of r.parts.items
    in_rows-next =
        ap atoms_in rows-next
        ∙ flat_map-append atoms_of_row (rows_at store (take i rows)) (row_at store r ∷ [])
        ∙ ap (λ ts. atoms_in (rows_at store (take i rows)) ++ ts) (append-nil (atoms_of r.parts.items))

    pub rows-more : (ts us vs : List (Tree ℕ)) → us ≡ with_atoms ts (atoms_in (rows_at store (take i rows))) → vs ≡ with_atoms us (atoms_of r.parts.items) →
        vs ≡ with_atoms ts (atoms_in (rows_at store (take (i + 1) rows)))
    rows-more ts us vs h e =
        e ∙ ap (λ xs. with_atoms xs (atoms_of r.parts.items)) h ∙ sym (with_atoms-append ts (atoms_in (rows_at store (take i rows))) (atoms_of r.parts.items)) ∙ ap (with_atoms ts) (sym in_rows-next)

  pub rows-and-one : (old one two : List IdRow) (s : IdRow) (x y : AtomRow) → rows_at store one ≡ rows_at store old ++ x ∷ [] → two ≡ one ++ s ∷ [] → row_at store s ≡ y →
      rows_at store two ≡ rows_at store old ++ (x ∷ y ∷ [])
  rows-and-one old one two s x y e f q =
      ap (rows_at store) f ∙ map-append (row_at store) one (s ∷ []) ∙ ap₂ (λ rs z. rs ++ z ∷ []) e q ∙ append_assoc (rows_at store old) (x ∷ []) (y ∷ [])
