-- What is found at a member of a list.
use Rattle.std.specs.Prelude.{◌≡◌, ℕ, ◌<◌, ⊤, List, [], ◌∷◌, ◌++◌, length}
use Rattle.slang_values.specs.Value.{Records, value_then}
use Rattle.slang_tokens.specs.Tok.{Tok, toks}
use Rattle.run_values.specs.declared.value.Value.{Value}
use Rattle.run_values.specs.Value.{plain_value, plain_values}
use Rattle.argument_values.specs.declared.constants.ListPlace.{ListPlace}
use Rattle.argument_values.specs.declared.constants.Found.{Found}
use Rattle.argument_values.specs.declared.constants.Found.TheVariants as f
use Rattle.argument_lists.specs.Parts.{PartTypes, parts_of}
use Rattle.argument_values.specs.Consts.{ValuesFront, ArePartsFront}

-- with one value more in front
abbrev pub front_and : Value → ValuesFront → ValuesFront
front_and v front = record { values = value_then (plain_value v) front.values; rest = front.rest }

module _ (names : List (List ℕ)) (records : Records) (parts : PartTypes) (before : List Tok) where
  -- the list is over, and these are all its values
  pub record IsOverWith (old new : List Value) (rest : List Tok) : Type 0 where
    pub added : List Value
    pub are_added : new ≡ old ++ added
    pub found : ArePartsFront names records parts before (record { values = plain_values added; rest = rest })
    pub only : (a : ValuesFront) → ArePartsFront names records parts before a → a ≡ record { values = plain_values added; rest = rest }

  -- the list goes on with these types at these tokens
  pub record GoesOnWith (old new : List Value) (others : PartTypes) (rest : List Tok) : Type 0 where
    pub value : Value
    pub is_added : new ≡ old ++ value ∷ []
    pub joins : (a : ValuesFront) → ArePartsFront names records others rest a → ArePartsFront names records parts before (front_and value a)
    pub splits : (b : ValuesFront) → ArePartsFront names records parts before b
        → (a : ValuesFront) × ArePartsFront names records others rest a × (b ≡ front_and value a)

module _ (names : List (List ℕ)) (records : Records) where
  abbrev pub IsMember : ListPlace → (old : List Value) → ListPlace → (new : List Value) → Found → Type 0
  IsMember at old behind new f.Nothing = (a : ValuesFront) → ArePartsFront names records (parts_of at.parts) (toks at.rest.now) a → ⊥
  IsMember at old behind new f.Over = IsOverWith names records (parts_of at.parts) (toks at.rest.now) old new (toks behind.rest.now)
  IsMember at old behind new f.More =
      GoesOnWith names records (parts_of at.parts) (toks at.rest.now) old new (parts_of behind.parts) (toks behind.rest.now)

-- the tokens behind are fewer
abbrev pub IsShorter : ListPlace → ListPlace → Found → Type 0
IsShorter at behind f.Nothing = ⊤
IsShorter at behind f.Over = length behind.rest.now < length at.rest.now
IsShorter at behind f.More = length behind.rest.now < length at.rest.now
