-- The first of the faults that were told of so far.
use Rattle.std.specs.Prelude.{List, [], ◌∷◌, Option, Some, None}
use Rattle.slang_tree.specs.declared.place.Fault.{Fault}
use Rattle.type_rules.specs.Faults.{first_fault, first_with}

-- the first of a fault that was found, if any, and others
abbrev pub with_first : Option Fault → List Fault → Option Fault
with_first None faults = first_fault faults
with_first (Some found) faults = Some (first_with found faults)

-- the fault that was found, if any, as a list
abbrev pub told_of : Option Fault → List Fault
told_of None = []
told_of (Some fault) = fault ∷ []
