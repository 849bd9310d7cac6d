-- What has names, in their order.
use Rattle.std.specs.Prelude.{ℕ, if◌then◌else◌, List, [], ◌∷◌}
use Rattle.lk_programs.specs.declared.program.Method.{Method}
use Rattle.type_rules.specs.Faults.{precedes}

-- one more, behind those whose names come before its own
abbrev pub put : {X : Type 0} → (X → List ℕ) → X → List X → List X
put name x [] = x ∷ []
put name x (next ∷ xs) = if precedes (name next) (name x) then next ∷ put name x xs else x ∷ next ∷ xs

-- in the order of the names' bytes; what has the same name stays in its order
abbrev pub in_turn : {X : Type 0} → (X → List ℕ) → List X → List X
in_turn name [] = []
in_turn name (x ∷ xs) = put name x (in_turn name xs)

abbrev pub method_name : Method → List ℕ
method_name method = method.name
