-- Lists of which some element has a property.
use Rattle.std.specs.Prelude.{◌⊎◌, List, [], ◌∷◌}

-- some element has the property
abbrev pub SomeIn : {X : Type 0} → (X → Type 0) → List X → Type 0
SomeIn P [] = ⊥
SomeIn P (x ∷ xs) = P x ⊎ SomeIn P xs
