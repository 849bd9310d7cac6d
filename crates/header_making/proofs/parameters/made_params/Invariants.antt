use Rattle.std.proofs.Common.{◌≡◌, List, length, map}
use Rattle.type_rules.specs.Judged.{Judged}
use Rattle.text_types.specs.Found.{bare, seen}
use Rattle.header_making.proofs.Params.{ParamsSoFar}
use Rattle.header_making.proofs.parameters.made_params.Given as goal

abbrev pub invariant-loop-at : goal.invariant-loop-at
invariant-loop-at l =
    (parts : List Judged) → map seen l.founds ≡ map bare parts → length parts ≡ length l.params → ParamsSoFar l.made l.params parts l.at
