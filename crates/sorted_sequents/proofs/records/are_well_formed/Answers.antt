use Rattle.std.proofs.Common.{◌≡◌, ◌&&◌, length, true, false, true≢false, sym, ap, ◌∙◌, subst}
use Rattle.std.specs.Prelude.{nat_lt}
use Rattle.std.specs.List.{list_all}
use Rattle.term_sorts.specs.Types.{record_types}
use Rattle.sorted_sequents.specs.Records.{AreEnds, AreCounts, AreKnown}
use Rattle.sorted_sequents.proofs.Typed.{both_true}
use Rattle.sorted_sequents.proofs.Rounds.{known_from, from_known, well_formed_from, from_well_formed, as_many}
use Rattle.sorted_sequents.proofs.records.are_well_formed.Goals as goal

pub returns-then-not-all_known : goal.returns-then-not-all_known
returns-then-not-all_known c = (
  (λ h. absurd (true≢false (sym h))),
  (λ fine. sym c.if-not-all_known.true ∙ c.all_known.ensures ∙ from_known (record_types c.args.records.now) fine),
)

pub returns : goal.returns
returns c =
    let records = record_types c.args.records.now in
    let answers = c.in_ok-answers.answers.items in
    let counts = c.in_ok-counts.counts.items in
    let known : AreKnown records = known_from records (sym c.all_known.ensures ∙ c.if-not-all_known.false) in
    let ends : AreEnds records (length records) answers = subst (λ n. AreEnds records n answers) (sym (as_many c.args.records.now)) c.in_ok-answers.ensures in
    let are : AreCounts records (length records) counts = subst (λ n. AreCounts records n counts) (sym (as_many c.args.records.now)) c.in_ok-counts.ensures in
    let same : c.are_all.result ≡ (list_all (λ b. b) answers && list_all (λ n. nat_lt n 1001) counts) =
    c.are_all.ensures ∙ ap (λ bs. list_all (λ b. b) bs && list_all (λ n. nat_lt n 1001) c.as_slice-2.result.now) c.as_slice.ensures.value
    ∙ ap (λ ns. list_all (λ b. b) answers && list_all (λ n. nat_lt n 1001) ns) c.as_slice-2.ensures.value in (
      (λ h.
          let p = both_true (list_all (λ b. b) answers) (list_all (λ n. nat_lt n 1001) counts) (sym same ∙ h) in
          well_formed_from records answers counts known ends are p.0 p.1),
      (λ fine. same ∙ from_well_formed records answers counts ends are fine),
    )
