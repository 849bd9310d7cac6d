-- What holds of the first of several faults, as one statement each.
use Rattle.std.specs.Prelude.{◌≡◌, List, ◌++◌, Option}
use Rattle.slang_tree.specs.declared.place.Fault.{Fault}
use Rattle.type_rules.specs.Faults.{first_fault}
use Rattle.type_faults.specs.FirstFault.{told_of, with_first}

abbrev pub FaultsAreToldInTurn : Type 0
FaultsAreToldInTurn = (found : Option Fault) (xs ys : List Fault) → with_first (with_first found xs) ys ≡ with_first found (xs ++ ys)

-- Faults of one place and one code are one fault.
abbrev pub FaultsAreToldInAnyOrder : Type 0
FaultsAreToldInAnyOrder = (found : Option Fault) (xs ys : List Fault) → with_first found (xs ++ ys) ≡ with_first found (ys ++ xs)

abbrev pub FirstStandsForAll : Type 0
FirstStandsForAll = (found : Option Fault) (xs : List Fault) → with_first found (told_of (first_fault xs)) ≡ with_first found xs
