use Rattle.std.proofs.Common.{◌++◌, ◌∙◌, ℕ, List, sym, ap}
use Rattle.std.proofs.lemmas.List.{take_all}
use Rattle.std.proofs.lemmas.Result.{on_ok_weaker}
use Rattle.slang_values.specs.Value as plain
use Rattle.lk_claims.specs.Claim.{value_type}
use Rattle.run_texts.specs.Texts.{Names, value_text, values_text}
use Rattle.run_values.specs.declared.value.Value.{Value}
use Rattle.run_values.specs.Value.{plain_value, plain_values}
use Rattle.run_values.proofs.Values.{plain_value-Seq}
use Rattle.value_texts.proofs.Said.{sequence_said, values_next}
use Rattle.value_texts.proofs.adding.+adding.Goals as goal

pub added-returns-in_ok-added_all-in-Seq : goal.added-returns-in_ok-added_all-in-Seq
added-returns-in_ok-added_all-in-Seq t c =
    let old = c.args.text.now.items in
    let first = c.add_text-in-Seq.new.text.items in
    on_ok_weaker c.add_text-in-Seq-2.result
    (λ last names named. sequence_said names (value_type c.in-Seq.field-0) (plain_values c.in-Seq.elements) old first c.added_all.new.text.items
    c.add_text-in-Seq-2.new.text.items c.in_ok-add_text-in-Seq.ensures
    (c.in_ok-added_all-in-Seq.ensures names named ∙ ap (λ (vs : List Value). first ++ values_text names (plain_values vs)) c.as_slice.ensures) last
    ∙ ap (λ (v : plain.Value). old ++ value_text names v) (sym (ap plain_value c.in-Seq.is ∙ plain_value-Seq c.in-Seq.field-0 c.in-Seq.elements)))
    c.add_text-in-Seq-2.ensures

pub added_all-parts-preserved : goal.added_all-parts-preserved
added_all-parts-preserved t c = λ names named.
    values_next names c.args.values.now c.parts.place c.index-values-place.result c.args.text.now.items c.parts.text.items c.add_gap.new.text.items c.added.new.text.items
    c.parts-test.true c.index-values-place.is (c.parts.invariant names named) c.in_ok-add_gap.ensures (c.in_ok-added.ensures names named)

pub added_all-returns : goal.added_all-returns
added_all-returns t c = λ names named.
    c.parts.invariant names named
    ∙ ap (λ (vs : List Value). c.args.text.now.items ++ values_text names (plain_values vs)) (take_all c.parts.place c.args.values.now c.parts-test.false)
