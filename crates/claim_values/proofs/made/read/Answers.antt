use Rattle.std.proofs.Common.{◌≡◌, ◌∙◌, Bool, false, SFits, to_z, of_z, rules, sym, ap, ap₂, subst}
use Rattle.std.specs.Int.{w128}
use Rattle.std.proofs.lemmas.Int.{to_z-of_z}
use Rattle.slang_values.specs.Value.{size_of, read}
use Rattle.slang_values.specs.Value as plain
use Rattle.lk_programs.specs.Program.{record_types}
use Rattle.run_values.specs.Reading.{is_within}
use Rattle.run_values.specs.Value.{held_value}
use Rattle.claim_values.specs.Answers.{IsMade, default_element}
use Rattle.claim_values.proofs.Outside.{read_outside}
use Rattle.claim_values.proofs.made.read.Goals as goal

-- the place is out of range
pub returns-in-Ok : goal.returns-in-Ok
returns-in-Ok c =
    let records = record_types c.args.records.now in
    let place = c.args.place in
    let fits : SFits w128 place = search rules in
    let outside : is_within (size_of (held_value c.args.sequence)) place ≡ false =
    ap₂ is_within (sym (c.size.ensures ∙ ap size_of c.as_value.ensures)) (sym (to_z-of_z w128 place fits)) ∙ c.in-None.ensures in
    subst (λ (v : plain.Value). IsMade v c.fitting.result)
    (c.in-Ok.ensures ∙ ap (default_element records) c.as_value-in-None.ensures ∙ sym (read_outside records (held_value c.args.sequence) place outside)) c.fitting.ensures
