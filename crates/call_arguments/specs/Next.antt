-- The arguments one by one.
use Rattle.std.specs.Prelude.{◌≡◌, ℕ, ◌<◌, ⊤, List, [], ◌∷◌, length, map, string_bytes}
use Rattle.slang_values.specs.Value.{Records, Value}
use Rattle.lk_programs.specs.Program.{field_types}
use Rattle.run_values.specs.declared.value.Value.{Value as RunValue}
use Rattle.run_values.specs.Value.{plain_value}
use Rattle.call_arguments.specs.Arguments.{AreArgumentsOf}
use Rattle.call_arguments.specs.declared.arguments.Place.{Place}
use Rattle.call_arguments.specs.declared.arguments.Next.{Next}
use Rattle.call_arguments.specs.declared.arguments.Next.TheVariants as n

abbrev pub plain_items : List RunValue → List Value
plain_items values = map plain_value values

module _ (names : List (List ℕ)) (records : Records) where
  -- the arguments of what is left
  abbrev pub AreLeft : Place → List Value → Type 0
  AreLeft place values = AreArgumentsOf names records (map string_bytes place.words.now) (field_types place.params.now) values

  -- The values are one in front and those of the rest.
  pub record IsValueAnd (place : Place) (value : Value) (rest : Place) : Type 0 where
    pub joins : (more : List Value) → AreLeft rest more → AreLeft place (value ∷ more)
    pub splits : (all : List Value) → AreLeft place all → (more : List Value) × AreLeft rest more × (all ≡ value ∷ more)

  abbrev pub IsNext : Place → Next → Type 0
  IsNext place n.Nothing = (all : List Value) → AreLeft place all → ⊥
  IsNext place n.Over = AreLeft place [] × ((all : List Value) → AreLeft place all → all ≡ [])
  IsNext place (n.Argument value rest) = IsValueAnd place (plain_value value) rest

abbrev pub IsShorter : Place → Next → Type 0
IsShorter place n.Nothing = ⊤
IsShorter place n.Over = ⊤
IsShorter place (n.Argument value rest) = length rest.words.now < length place.words.now
