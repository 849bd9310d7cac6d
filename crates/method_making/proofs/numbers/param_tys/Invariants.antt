use Rattle.std.proofs.Common.{◌≡◌, map, take}
use Rattle.lk_claims.specs.Claim.{value_type}
use Rattle.lk_programs.specs.Program.{field_types}
use Rattle.method_making.proofs.numbers.param_tys.Given as goal

abbrev pub invariant-loop-param : goal.invariant-loop-param
invariant-loop-param l = map value_type l.tys ≡ field_types (take l.param-index l.params)
