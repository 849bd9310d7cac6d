use Rattle.std.proofs.Common.{refl}
use Rattle.leg_rules.proofs.laws.sequents_on_examples.Goals as goal

pub returns : goal.returns
returns c = record {
  old_without_change = refl;
  old_after_set = refl;
  old_of_unread = refl;
  old_after_fresh = refl;
  let_and_facts = refl;
  numbers = refl;
  first_obligation_tells = refl;
  nine_branches_are_many = refl;
}
