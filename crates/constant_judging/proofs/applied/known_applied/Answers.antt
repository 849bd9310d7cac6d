use Rattle.std.proofs.Common.{map, subst, sym}
use Rattle.type_rules.specs.Faults.{call_out_of_place}
use Rattle.text_types.specs.Found.{IsJudged, seen}
use Rattle.name_scopes.specs.Meanings.{meant}
use Rattle.constant_judging.proofs.Each.{applied_other, applied_record, faulty_over}
use Rattle.constant_judging.proofs.applied.known_applied.Goals as goal

pub returns-in-None : goal.returns-in-None
returns-in-None c = λ at fits.
    subst (IsJudged c.args.told.now.found c.faulty.new.told.found c.faulty.result)
    (applied_other at c.args.place (meant c.args.meaning.now) (map seen c.args.fields.now) (sym c.in-None.ensures))
    (faulty_over c.args.place (call_out_of_place c.args.place) c.args.fields.now c.faulty.ensures)

pub returns-in-Some : goal.returns-in-Some
returns-in-Some c = λ at fits.
    subst (IsJudged c.args.told.now.found c.record.new.told.found c.record.result)
    (applied_record at c.args.place (meant c.args.meaning.now) c.in-Some.number (map seen c.args.fields.now) (sym c.in-Some.ensures))
    (c.record.ensures at fits)
