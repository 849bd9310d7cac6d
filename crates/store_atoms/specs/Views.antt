-- Rows whose atoms are numbers of a store, as plain data.
use Rattle.std.specs.Prelude.{◌≡◌, ◌^◌, ◌≤◌, List, map, unsigned_abs}
use Rattle.std.specs.List.{AllByRecursion}
use Rattle.term_nodes.specs.declared.node.Node.{Node}
use Rattle.store_forms.specs.declared.form.IdForm.{IdForm}
use Rattle.store_forms.specs.Form.{part_at, HaveAtoms}
use Rattle.store_forms.specs.Place.{TimesOfWithin}
use Rattle.closing.specs.Rows.{AtomRow}
use Rattle.store_atoms.specs.declared.row.IdRow.{IdRow}

abbrev pub row_at : List Node → IdRow → AtomRow
row_at store r = record { parts = map (part_at store) r.parts.items; bound = r.bound }

abbrev pub rows_at : List Node → List IdRow → List AtomRow
rows_at store rows = map (row_at store) rows

-- the atoms of the rows are in the store
abbrev pub RowsWithin : List Node → List IdRow → Type 0
RowsWithin store rows = AllByRecursion (λ r. HaveAtoms store r.parts.items) rows

-- the row stands for that one
pub record IsRow (store : List Node) (r : IdRow) (row : AtomRow) : Type 0 where
  pub within : HaveAtoms store r.parts.items
  pub same : row_at store r ≡ row

-- the rows stand for those
pub record AreRows (store : List Node) (rs : List IdRow) (rows : List AtomRow) : Type 0 where
  pub within : RowsWithin store rs
  pub same : rows_at store rs ≡ rows

-- the numbers have room in 128 bits for one more such number
pub record HasRoom (f : IdForm) : Type 0 where
  pub constant : unsigned_abs f.constant ≤ 2 ^ 126
  pub times : TimesOfWithin (2 ^ 126) f.parts.items
