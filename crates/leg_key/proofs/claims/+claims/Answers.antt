use Rattle.std.proofs.Common.{[], ◌∷◌}
use Rattle.std.proofs.lemmas.Result.{on_ok_weaker}
use Rattle.slang_values.specs.Tree.{sequence_of, record_of}
use Rattle.key_rules.specs.Writing.{number_bytes, list_bytes}
use Rattle.lk_claims.specs.Claim.{value_type}
use Rattle.leg_key.specs.Parts.{type_key, claim_key}
use Rattle.leg_key.proofs.Fitting.{listed_fits}
use Rattle.leg_key.proofs.Joining.{then_bytes, said, parts_key}
use Rattle.leg_key.proofs.claims.+claims.Goals as goal

pub add_record-returns-clause-written : goal.add_record-returns-clause-written
add_record-returns-clause-written t c =
    on_ok_weaker c.add_parts.result
    (λ h. then_bytes _ _ _ (24 ∷ number_bytes c.args.number) _ c.in_ok-add_name.ensures.written
    (said _ _ (list_bytes claim_key c.args.parts.now) _ h (parts_key c.args.parts.now))) c.add_parts.ensures.written

pub add_sequence-returns-clause-written : goal.add_sequence-returns-clause-written
add_sequence-returns-clause-written t c =
    on_ok_weaker c.add_parts.result
    (λ h. then_bytes _ _ _ (23 ∷ []) _ c.in_ok-add_byte.ensures
    (then_bytes _ _ _ (type_key c.args.element.now) _ c.in_ok-add_type.ensures.written
    (said _ _ (list_bytes claim_key c.args.parts.now) _ h (parts_key c.args.parts.now)))) c.add_parts.ensures.written

pub add_record-returns-clause-fits : goal.add_record-returns-clause-fits
add_record-returns-clause-fits t c =
    on_ok_weaker c.add_parts.result (listed_fits (record_of c.args.number) c.args.parts.now c.in_ok-add_name.ensures.fits) c.add_parts.ensures.fits

pub add_sequence-returns-clause-fits : goal.add_sequence-returns-clause-fits
add_sequence-returns-clause-fits t c =
    on_ok_weaker c.add_parts.result (listed_fits (sequence_of (value_type c.args.element.now)) c.args.parts.now c.in_ok-add_type.ensures.fits)
    c.add_parts.ensures.fits
