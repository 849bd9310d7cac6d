-- What holds of the type that is worked out.
use Rattle.std.specs.Prelude.{◌≡◌, ℕ, Some}
use Rattle.slang_values.specs.Value.{ValueType, Records}
use Rattle.slang_values.specs.Typing.{NameTypes, IsTyped}
use Rattle.program_trees.specs.Claims.{ClaimName, ClaimTree}
use Rattle.claim_types.specs.Judged.{judged}

-- A claim is well typed, of a type, exactly where that type is worked out for it.
abbrev pub TypesAreJudged : Type 0
TypesAreJudged = (records : Records) (types : NameTypes (ClaimName ℕ)) (a : ClaimTree ℕ) (t : ValueType)
    → (judged records types a ≡ Some t → IsTyped records types a t) × (IsTyped records types a t → judged records types a ≡ Some t)
