-- What holds of keys, as one statement each.
use Rattle.std.specs.Prelude.{◌≡◌, ℕ, List, Some}
use Rattle.program_trees.specs.Legs.{LegTree}
use Rattle.leg_forms.specs.WellFormed.{IsWellFormedLeg}
use Rattle.key_rules.specs.Writing.{encode}
use Rattle.key_rules.specs.Fits.{FitsLeg}
use Rattle.key_rules.specs.Readers.{AreBytes}
use Rattle.key_rules.specs.Reading.{decode}

-- The key of a leg is read as that leg.
abbrev pub KeysAreRead : Type 0
KeysAreRead = (leg : LegTree) → FitsLeg leg → decode (encode leg) ≡ Some leg

-- Bytes are read as a leg only where they are its key.
abbrev pub OnlyKeysAreRead : Type 0
OnlyKeysAreRead = (bytes : List ℕ) (leg : LegTree) → AreBytes bytes → decode bytes ≡ Some leg → (encode leg ≡ bytes) × FitsLeg leg

-- So no two legs have one key.
abbrev pub KeysTellLegsApart : Type 0
KeysTellLegsApart = (a b : LegTree) → FitsLeg a → FitsLeg b → encode a ≡ encode b → a ≡ b

-- the bytes are the key of a well-formed leg
pub record IsKeyOf (bytes : List ℕ) (leg : LegTree) : Type 0 where
  pub well_formed : IsWellFormedLeg leg
  pub fits : FitsLeg leg
  pub written : encode leg ≡ bytes

-- Bytes are the key of a well-formed leg exactly where they are read as that leg.
abbrev pub KeysOfWellFormedLegs : Type 0
KeysOfWellFormedLegs = (bytes : List ℕ) (leg : LegTree) → AreBytes bytes → IsWellFormedLeg leg
    → (IsKeyOf bytes leg → decode bytes ≡ Some leg) × (decode bytes ≡ Some leg → IsKeyOf bytes leg)
