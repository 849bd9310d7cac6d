use Rattle.std.proofs.Common.{sym, ◌∙◌, ap, is_some, nat_eq, ℕ, ◌<◌, length, arith}
use Rattle.std.specs.HashMap.{get}
use Rattle.lin_rows.specs.Same.{same}
use Rattle.lin_solve.specs.Lines.{row_of}
use Rattle.lin_solve.proofs.KeptLemmas.{any_here, none_there}
use Rattle.lin_solve.proofs.keeping.is_kept.Goals as goal

pub returns-in_default : goal.returns-in_default
returns-in_default c =
    let none = c.in_default.ensures.value ∙ ap (λ (p : ℕ). get nat_eq c.args.kept.now.places p) c.print.ensures in
    sym (none_there (λ p. is_some (get nat_eq c.args.kept.now.places p)) c.args.lines.now c.args.kept.now.lines.items c.args.row.now c.requires.found (ap is_some (sym none)))

pub returns-then-has_row : goal.returns-then-has_row
returns-then-has_row c =
    let row = c.args.row.now in
    let here = ap (λ (k : ℕ). same (row_of c.args.lines.now k) row) (sym c.index.ensures) ∙ sym c.has_row.ensures ∙ c.if-has_row.true in
    let in_range : c.in-Some.place.now < length c.args.kept.now.lines.items = omega (arith, c.args.kept.now.lines.ok.0) in
    sym (any_here c.args.lines.now c.args.kept.now.lines.items c.in-Some.place.now c.index.result.now row in_range here)
