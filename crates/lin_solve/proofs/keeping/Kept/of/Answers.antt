use Rattle.std.proofs.Common.{◌<◌, ℕ, length, arith, is_some, nat_eq, ap, sym, ◌∙◌}
use Rattle.std.specs.HashMap.{get}
use Rattle.lin_solve.proofs.LineLemmas.{found_more, still_found}
use Rattle.lin_solve.proofs.keeping.Kept.of.Goals as goal

pub loop-place-preserved : goal.loop-place-preserved
loop-place-preserved c =
    let u = c.in_ok-insert.ensures.updates in
    let next = c.insert.new.self in
    let inside : c.loop-place.place < length c.args.kept.items = omega (arith, c.args.kept.ok.0) in
    found_more c.args.lines.now c.args.kept.items c.loop-place.place c.index.result.now c.index-lines-index.result (λ p. is_some (get nat_eq c.loop-place.places p)) (λ p. is_some (get nat_eq next p)) c.requires.are_lines inside c.index.ensures
    (still_found (get nat_eq c.loop-place.places) (get nat_eq next) c.print.result c.loop-place.place u.0)
    (ap (λ (p : ℕ). is_some (get nat_eq next p)) (sym c.print.ensures) ∙ ap is_some u.1) c.loop-place.invariant
