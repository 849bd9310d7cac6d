-- How deep a reader of keys need go.
use Rattle.std.specs.Prelude.{◌≡◌, ℕ, List, Some}
use Rattle.program_trees.specs.Legs.{LegTree}
use Rattle.leg_forms.specs.WellFormed.{IsWellFormedLeg}
use Rattle.key_rules.specs.Writing.{encode}
use Rattle.key_rules.specs.Fits.{FitsLeg}
use Rattle.key_rules.specs.Readers.{AreBytes}
use Rattle.key_rules.specs.Laws.{IsKeyOf}
use Rattle.key_rules.specs.Depths.{IsWithin}
use Rattle.key_depths.specs.Depths.{decode_within, depth_limit}

-- The key of a leg is read by readers that go as deep as the leg is.
abbrev pub KeysAreReadWithin : Type 0
KeysAreReadWithin = (depth : ℕ) (leg : LegTree) → FitsLeg leg → IsWithin depth leg → decode_within depth (encode leg) ≡ Some leg

-- No well-formed leg is deeper than the limit.
abbrev pub WellFormedLegsAreWithin : Type 0
WellFormedLegsAreWithin = (leg : LegTree) → IsWellFormedLeg leg → IsWithin depth_limit leg

-- So bytes are the key of a well-formed leg exactly where readers that go no deeper than the limit read them as it.
abbrev pub KeysOfWellFormedLegsWithin : Type 0
KeysOfWellFormedLegsWithin = (bytes : List ℕ) (leg : LegTree) → AreBytes bytes → IsWellFormedLeg leg
    → (IsKeyOf bytes leg → decode_within depth_limit bytes ≡ Some leg) × (decode_within depth_limit bytes ≡ Some leg → IsKeyOf bytes leg)
