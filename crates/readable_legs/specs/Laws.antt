-- Which legs can be followed over a store.
use Rattle.lk_programs.specs.declared.leg.Leg.{Leg}
use Rattle.lk_programs.specs.LegData.{leg_tree}
use Rattle.leg_forms.specs.WellFormed.{IsWellFormedLeg}
use Rattle.sym_exec.specs.Steps.{IsReadableLeg}

abbrev pub WellFormedLegsAreReadable : Type 0
WellFormedLegsAreReadable = (leg : Leg) → IsWellFormedLeg (leg_tree leg) → IsReadableLeg leg
