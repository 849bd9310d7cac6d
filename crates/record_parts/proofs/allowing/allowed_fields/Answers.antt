use Rattle.std.proofs.Common.{◌≡◌, ◌∙◌, [], ap, false, get_or, length, sym}
use Rattle.type_rules.specs.Records.{is_allowed}
use Rattle.record_parts.specs.Chains.{all_back, all_held, at_places, fields_seen, types_seen}
use Rattle.record_parts.specs.Parts.{allowed_fields, allowed_from, parts_after}
use Rattle.record_parts.proofs.Allowed.{own_is}
use Rattle.record_parts.proofs.Tables.{at_next}
use Rattle.record_parts.proofs.allowing.allowed_fields.Goals as goal

pub loop-n-preserved : goal.loop-n-preserved
loop-n-preserved c =
    let n = c.loop-n.n in
    let types = c.args.types.now in
    let records = types_seen types in
    let x = c.index-types-n.result in
    let parts = c.as_slice-in-loop-n-2.result.now in
    let held = c.as_slice-2.result.now in
    let backs = c.backs_of.result.now in
    let holds = c.told_at-holds_itself.result in
    let held-are : held ≡ all_held (all_back records) = c.as_slice-2.ensures ∙ c.in_ok-held.ensures ∙ ap all_held (c.as_slice.ensures ∙ c.in_ok-backs.ensures) in
    let parts-are : parts ≡ parts_after held records (length types) = c.as_slice-in-loop-n-2.ensures ∙ c.in_ok-parts.ensures in
    let holds-is : holds ≡ get_or held n false =
    c.told_at-holds_itself.ensures ∙ ap (λ h. get_or h n false) c.as_slice-in-loop-n.ensures ∙ ap (λ h. get_or h n false) (sym c.as_slice-2.ensures) in
    let backs-are : backs ≡ get_or (all_back records) n [] =
    c.backs_of.ensures ∙ ap (λ bs. get_or bs n []) (c.as_slice-in-loop-n-3.ensures ∙ c.in_ok-backs.ensures) in
    let value : c.in_ok-own.own ≡ at_places (is_allowed records n) 0 (fields_seen x) =
    c.in_ok-own.ensures
    ∙ ap (λ fields. allowed_from parts holds backs 0 0 (fields_seen fields)) c.as_slice-in-loop-n-4.ensures
    ∙ own_is types n x parts held backs holds c.loop-n-test.true c.index-types-n.is held-are parts-are holds-is backs-are in
    at_next fields_seen (λ m fields. at_places (is_allowed records m) 0 fields) c.loop-n.allowed c.push.new.self (allowed_fields records) types n x c.in_ok-own.own c.loop-n-test.true c.index-types-n.is value c.in_ok-push.ensures.ok c.loop-n.invariant
