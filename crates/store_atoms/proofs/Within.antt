-- What is in the store, as loops go along.
use Rattle.std.proofs.Common.{◌≡◌, ℕ, zero, suc, ◌<◌, ◌≤◌, negsuc, ◌*ℤ◌, unsigned_abs, List, [], ◌∷◌, ◌++◌, map, length, get_or, take, drop, insert, sym, ◌∙◌, subst, arith}
use Rattle.std.proofs.lemmas.Int.{ints, unsigned_abs-mul}
use Rattle.tree_forms.specs.Form.{LinearForm, scaled}
use Rattle.term_nodes.specs.declared.node.Node.{Node}
use Rattle.store_forms.specs.declared.form.IdPart.{IdPart}
use Rattle.store_forms.specs.declared.form.IdForm.{IdForm}
use Rattle.store_forms.specs.Form.{HaveAtoms, IsForm}
use Rattle.store_forms.specs.Place.{TimesOfWithin, multiplied}
use Rattle.store_forms.proofs.Summing.{IsForm-multiple}
use Rattle.store_atoms.specs.declared.atoms.Atom.{Atom}
use Rattle.store_atoms.specs.declared.row.IdRow.{IdRow}
use Rattle.store_atoms.specs.Views.{RowsWithin}
use Rattle.store_atoms.specs.Atoms.{AtomsWithin}

pub id-at : (store : List Node) (atoms : List Atom) (k : ℕ) (a : Atom) → AtomsWithin store atoms → k < length atoms → a ≡ get_or atoms k a → a.id < length store
id-at store [] k a h l e = absurd (omega arith)
id-at store (x ∷ atoms) zero a h l e = subst (λ (y : Atom). y.id < length store) (sym e) h.0
id-at store (x ∷ atoms) (suc k) a h l e = id-at store atoms k a h.1 (omega arith) e

ids-between : (store : List Node) (atoms : List Atom) (k : ℕ) (a : Atom) → AtomsWithin store atoms → a.id < length store → AtomsWithin store (take k atoms ++ a ∷ drop k atoms)
ids-between store [] zero a h l = (l, tt)
ids-between store [] (suc k) a h l = (l, tt)
ids-between store (x ∷ atoms) zero a h l = (l, h)
ids-between store (x ∷ atoms) (suc k) a h l = (h.0, ids-between store atoms k a h.1 l)

pub ids-inserted : (store : List Node) (atoms new : List Atom) (k : ℕ) (a : Atom) → AtomsWithin store atoms → a.id < length store → new ≡ insert atoms k a → AtomsWithin store new
ids-inserted store atoms new k a h l e = subst (AtomsWithin store) (sym e) (ids-between store atoms k a h l)

pub row-within : (store : List Node) (rows : List IdRow) (i : ℕ) (r : IdRow) → RowsWithin store rows → i < length rows → r ≡ get_or rows i r → HaveAtoms store r.parts.items
row-within store [] i r h l e = absurd (omega arith)
row-within store (x ∷ rows) zero r h l e = subst (λ (y : IdRow). HaveAtoms store y.parts.items) (sym e) h.0
row-within store (x ∷ rows) (suc i) r h l e = row-within store rows i r h.1 (omega arith) e

pub rows-append : (store : List Node) (xs ys : List IdRow) → RowsWithin store xs → RowsWithin store ys → RowsWithin store (xs ++ ys)
rows-append store [] ys h k = k
rows-append store (x ∷ xs) ys h k = (h.0, rows-append store xs ys h.1 k)

-- ---- numbers with room

pub times-at : (n : ℕ) (ps : List IdPart) (i : ℕ) (p : IdPart) → TimesOfWithin n ps → i < length ps → p ≡ get_or ps i p → unsigned_abs p.times ≤ n
times-at n [] i p h l e = absurd (omega arith)
times-at n (x ∷ ps) zero p h l e = subst (λ (q : IdPart). unsigned_abs q.times ≤ n) (sym e) h.0
times-at n (x ∷ ps) (suc i) p h l e = times-at n ps i p h.1 (omega arith) e

pub opposite-times : (n : ℕ) (ps : List IdPart) → TimesOfWithin n ps → TimesOfWithin n (map (multiplied (negsuc 0)) ps)
opposite-times n [] h = tt
opposite-times n (p ∷ ps) h =
    let e : unsigned_abs (negsuc 0 *ℤ p.times) ≡ unsigned_abs p.times = unsigned_abs-mul (negsuc 0) p.times ∙ omega arith in
    let l = h.0 in
    (omega (arith, e, l), opposite-times n ps h.1)

pub opposite-form : (store : List Node) (f g : IdForm) (x : LinearForm) → g.parts.items ≡ map (multiplied (negsuc 0)) f.parts.items → g.constant ≡ negsuc 0 *ℤ f.constant → IsForm store f x → IsForm store g (scaled (negsuc 0) x)
opposite-form store f g x e c h =
    subst (λ (y : LinearForm). IsForm store g (scaled (negsuc 0) y)) h.same
    (IsForm-multiple store f g (negsuc 0) (λ n. absurd (omega (arith, ints, n))) h.within e c)
