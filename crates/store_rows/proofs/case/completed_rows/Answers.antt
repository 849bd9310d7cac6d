use Rattle.std.proofs.Common.{List, sym, subst}
use Rattle.std.specs.List.{AllByRecursion}
use Rattle.lin_rows.specs.Inequality.{Inequality, IsCanonical}
use Rattle.closing.specs.Rows.{AtomRow, numbered_rows}
use Rattle.store_rows.proofs.case.completed_rows.Goals as goal

pub numbered_rows-requires-clause-canonical : goal.numbered_rows-requires-clause-canonical
numbered_rows-requires-clause-canonical c =
    subst (λ (rs : List AtomRow). AllByRecursion (λ (row : Inequality). IsCanonical row.parts) (numbered_rows rs)) (sym c.in_ok-complete.ensures.rows)
    c.requires.canonical
