use Rattle.std.proofs.Common.{◌∙◌, ap, map, subst}
use Rattle.type_rules.specs.Faults.{unknown_name}
use Rattle.type_rules.specs.Meanings.{meaning_of}
use Rattle.type_rules.specs.Constants.{judged_applied}
use Rattle.text_types.specs.Found.{IsJudged, seen}
use Rattle.constant_judging.proofs.Each.{faulty_over}
use Rattle.constant_judging.proofs.applied.applied.Goals as goal

pub returns-in-None : goal.returns-in-None
returns-in-None c = λ at fits.
    let place = c.args.name.now.place in
    subst (λ meaning. IsJudged c.args.told.now.found c.faulty.new.told.found c.faulty.result (judged_applied at place meaning (map seen c.args.fields.now)))
    (c.in-None.ensures.fits at fits ∙ ap (meaning_of at) c.as_str.ensures)
    (faulty_over place (unknown_name place) c.args.fields.now c.faulty.ensures)

pub returns-in-Some : goal.returns-in-Some
returns-in-Some c = λ at fits.
    let place = c.args.name.now.place in
    subst (λ meaning. IsJudged c.args.told.now.found c.known_applied.new.told.found c.known_applied.result (judged_applied at place meaning (map seen c.args.fields.now)))
    (c.in-Some.ensures.fits at fits ∙ ap (meaning_of at) c.as_str.ensures)
    (c.known_applied.ensures at fits)
