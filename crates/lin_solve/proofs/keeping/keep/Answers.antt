use Rattle.std.proofs.Common.{is_some, nat_eq, ap, ◌∙◌}
use Rattle.std.specs.HashMap.{get}
use Rattle.lin_rows.specs.Inequality.{Inequality}
use Rattle.lin_solve.specs.Print.{print_of}
use Rattle.lin_solve.proofs.LineLemmas.{has_kept, row_of-read}
use Rattle.lin_solve.proofs.keeping.keep.Goals as goal

pub returns-clause-kept : goal.returns-clause-kept
returns-clause-kept c =
    let next = c.add.new.self in
    let line = c.in_ok-last.ensures.lines in
    let at = row_of-read c.push_tightened.new.lines.items c.in_ok-last.last c.index.result.now line.here c.index.ensures in
    let found = ap (λ (r : Inequality). is_some (get nat_eq next.places (print_of r))) at ∙ c.in_ok-add.ensures.found in
    has_kept c.args.lines.now.items c.args.kept.now c.push_tightened.new.lines.items next c.args.step c.args.row c.in_ok-last.last c.requires.table c.requires.room line c.in_ok-add.ensures.lines found c.in_ok-add.ensures.others
