-- What numbers leave of types, as one statement each.
use Rattle.std.specs.Prelude.{◌≡◌, true, Some}
use Rattle.std.specs.List.{AllByRecursion}
use Rattle.slang_values.specs.Value.{ValueType, is_known, AreWellFormed}
use Rattle.program_trees.specs.Programs.{MethodTree, ProgramTree}
use Rattle.program_trees.specs.Variables.{Variable}
use Rattle.leg_rules.specs.LegNames.{LegName}
use Rattle.leg_rules.specs.Legs.{Items}
use Rattle.leg_soundness.specs.Passing.{leg_types}
use Rattle.answer_laws.specs.Laws.{IsTypedLegOf}
use Rattle.leg_typing.specs.OverNames.{IsItemOver}

-- the records that the types of variables name are there
abbrev pub HasKnownTypes : ProgramTree Variable → MethodTree Variable → Type 0
HasKnownTypes program method = (x : LegName) (t : ValueType) → leg_types program method x ≡ Some t → is_known program.records t ≡ true

-- A leg that is well typed over its own names is well typed over the numbers of its variables and records.
abbrev pub NumberingKeepsTyping : Type 0
NumberingKeepsTyping =
    (program : ProgramTree Variable) (method : MethodTree Variable) (items : Items) → AreWellFormed program.records → HasKnownTypes program method →
    AllByRecursion (λ noted. IsItemOver program.records (leg_types program method) noted.item) items → IsTypedLegOf program method items
