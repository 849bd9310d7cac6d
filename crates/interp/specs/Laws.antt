-- Turns in any division.
use Rattle.std.specs.Prelude.{ℕ, List, [], ◌∷◌, sum}
use Rattle.program_trees.specs.Programs.{ProgramTree}
use Rattle.program_trees.specs.Variables.{Variable}
use Rattle.interp.specs.declared.turned.Turned.{Turned}
use Rattle.interp.specs.declared.machine.Machine.{Machine}
use Rattle.interp.specs.Advances.{Advances}

-- A machine is given turns in parts, one after the other, and that is the last answer.
abbrev pub AdvancesByParts : ProgramTree Variable → (first : ℕ) → List ℕ → (old new : Machine) → Turned → Type 0
AdvancesByParts program first [] old new answer = Advances program first old new answer
AdvancesByParts program first (second ∷ parts) old new answer =
    (middle : Machine) × (early : Turned) × Advances program first old middle early × AdvancesByParts program second parts middle new answer

-- The last answer and the machine are those that the sum of the turns gives in one.
abbrev pub AdvancesInParts : Type 0
AdvancesInParts =
    (program : ProgramTree Variable) (first : ℕ) (parts : List ℕ) (old new : Machine) (answer : Turned)
    → AdvancesByParts program first parts old new answer → Advances program (sum (first ∷ parts)) old new answer
