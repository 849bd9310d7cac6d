-- What a row needs so that its atoms can be numbered.
use Rattle.std.specs.Prelude.{◌≡◌, ℕ, List, true}
use Rattle.std.specs.List.{AllByRecursion}
use Rattle.slang_values.specs.Tree.{Tree}
use Rattle.tree_forms.specs.Form.{FormPart}
use Rattle.lin_rows.specs.Inequality.{IsCanonical}
use Rattle.closing.specs.Rows.{is_among, numbered_parts}
use Rattle.store_atoms.specs.Atoms.{AreOrdered}

-- each atom is among the ordered atoms, and by their places the parts are those of a row
pub record CanBeNumbered (ts : List (Tree ℕ)) (ps : List FormPart) : Type 0 where
  pub ordered : AreOrdered ts
  pub there : AllByRecursion (λ p. is_among ts p.atom ≡ true) ps
  pub canonical : IsCanonical (numbered_parts ts ps)
