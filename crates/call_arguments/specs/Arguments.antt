-- Words that are the arguments of a method.
use Rattle.std.specs.Prelude.{ℕ, List, [], ◌∷◌}
use Rattle.slang_values.specs.Value.{ValueType, Records, Value}
use Rattle.argument_rules.specs.Arguments.{IsArgumentOf}

-- There is one word for each parameter, and each is an argument of the parameter's type with this value.
abbrev pub AreArgumentsOf : List (List ℕ) → Records → List (List ℕ) → List ValueType → List Value → Type 0
AreArgumentsOf names records [] [] [] = Unit {0}
AreArgumentsOf names records (word ∷ words) (t ∷ types) (v ∷ values) =
    IsArgumentOf names records word t v × AreArgumentsOf names records words types values
AreArgumentsOf names records [] [] (v ∷ values) = ⊥
AreArgumentsOf names records [] (t ∷ types) values = ⊥
AreArgumentsOf names records (word ∷ words) [] values = ⊥
AreArgumentsOf names records (word ∷ words) (t ∷ types) [] = ⊥
