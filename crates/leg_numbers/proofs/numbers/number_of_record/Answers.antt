use Rattle.std.proofs.Common.{◌≡◌, ◌<◌, true, get_or, length, ap, ◌∙◌, arith}
use Rattle.std.specs.Prelude.{nat_eq}
use Rattle.std.proofs.lemmas.Bool.Decides.{Decides-eqb}
use Rattle.leg_rules.specs.Numbering.{number_in}
use Rattle.leg_numbers.proofs.Places.{if_ok_map, told_value, record_at, record_nowhere}
use Rattle.leg_numbers.proofs.numbers.number_of_record.Goals as goal

pub returns-then-wanted-records : goal.returns-then-wanted-records
returns-then-wanted-records c =
    let records = c.as_slice-records.result.now in
    let k = c.loop-place.place in
    let below : k < length records = omega (arith, c.loop-place-test.true) in
    let same : c.args.wanted ≡ get_or records k 0 = omega (arith, c.if-wanted-records.true) in
    let hit : nat_eq c.args.wanted (get_or records k 0) ≡ true = (Decides-eqb c.args.wanted (get_or records k 0)).1 same in
    if_ok_map c.number.result (λ n. n ≡ k) _
    (λ n h. h ∙ record_at records c.args.wanted k below c.loop-place.invariant hit ∙ ap (λ l. number_in nat_eq l c.args.wanted) c.as_slice-records.ensures)
    (told_value c.number.result _ _ c.number.ensures)

pub returns : goal.returns
returns c =
    let records = c.as_slice-records.result.now in
    record_nowhere records c.args.wanted c.loop-place.place (omega (arith, c.loop-place-test.false)) c.loop-place.invariant
    ∙ ap (λ l. number_in nat_eq l c.args.wanted) c.as_slice-records.ensures
