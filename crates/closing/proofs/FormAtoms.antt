-- What holds of all atoms of forms holds of those of a difference; and one property of atoms from another.
use Rattle.std.proofs.Common.{ℕ, negsuc, List, [], ◌∷◌, Bool, true, false, cond}
use Rattle.slang_values.specs.Tree.{Tree, binary}
use Rattle.slang_values.specs.declared.operators.Binary.{Binary}
use Rattle.tree_forms.specs.Form.{FormPart, LinearForm, scaled, form}
use Rattle.tree_forms.proofs.Settled.{AllAtoms, atoms-plus, atoms-scaled}

module _ (P : Tree ℕ → Type 0) where
  -- of a difference, those of both sides
  pub atoms-difference : (a b : Tree ℕ) → AllAtoms P (form a).parts → AllAtoms P (form b).parts → AllAtoms P (form (binary Binary.Sub a b)).parts
  atoms-difference a b h k = atoms-plus P (form a) (scaled (negsuc 0) (form b)) h (atoms-scaled P (negsuc 0) (form b) k)

  pub atoms-if : (b : Bool) (f g : LinearForm) → AllAtoms P f.parts → AllAtoms P g.parts → AllAtoms P (cond b f g).parts
  atoms-if true f g h k = h
  atoms-if false f g h k = k

pub all_atoms : (P Q : Tree ℕ → Type 0) → ((t : Tree ℕ) → P t → Q t) → (ps : List FormPart) → AllAtoms P ps → AllAtoms Q ps
all_atoms P Q imply [] h = tt
all_atoms P Q imply (p ∷ ps) h = (imply p.atom h.0, all_atoms P Q imply ps h.1)
