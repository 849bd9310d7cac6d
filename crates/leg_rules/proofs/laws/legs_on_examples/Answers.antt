use Rattle.std.proofs.Common.{refl}
use Rattle.leg_rules.proofs.laws.legs_on_examples.Goals as goal

pub returns : goal.returns
returns c = record {
  branch_in_loop = refl;
  call_and_globals = refl;
  nine_branches = refl;
}
