-- The laws of readers that go no deeper than a limit.
use Rattle.std.proofs.Common.{◌≡◌, [], append-nil, sym, ap, ◌∙◌}
use Rattle.key_rules.specs.Writing.{encode}
use Rattle.key_rules.specs.Reading.{read_leg, all_of}
use Rattle.key_rules.proofs.Keys.{leg_back, leg_takes, all_is}
use Rattle.key_depths.specs.Depths.{decode_within, depth_limit}
use Rattle.key_depths.specs.Laws.{KeysAreReadWithin, KeysOfWellFormedLegsWithin}
use Rattle.key_depths.proofs.Heights.{well_formed_legs_are_within}

pub keys_are_read_within : KeysAreReadWithin
keys_are_read_within depth leg fits within =
    ap (λ l. all_of (read_leg depth l)) (sym (append-nil (encode leg))) ∙ ap all_of (leg_back depth leg [] fits within)

pub keys_of_well_formed_legs_within : KeysOfWellFormedLegsWithin
keys_of_well_formed_legs_within bytes leg are formed = (
  λ key. ap (decode_within depth_limit) (sym key.written) ∙ keys_are_read_within depth_limit leg key.fits (well_formed_legs_are_within leg formed),
  λ h. (let p = leg_takes depth_limit bytes leg [] are (all_is (read_leg depth_limit bytes) leg h) in
      record { well_formed = formed; fits = p.fit; written = sym (p.same ∙ append-nil (encode leg)) }),
)
