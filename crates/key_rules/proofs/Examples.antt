-- Keys of small legs, computed.
use Rattle.std.proofs.Common.{refl}
use Rattle.key_rules.specs.Examples.{KeyExamples}

pub key_examples : KeyExamples
key_examples = record {
  nothing_is = refl;
  nothing_read = refl;
  one_byte_less = refl;
  one_byte_more = refl;
  any_byte_changed = refl;
  small_is = refl;
  small_read = refl;
  wrong_kind = refl;
  wrong_claim = refl;
  wrong_type = refl;
  large_read = refl;
}
