use Rattle.store_forms.proofs.Summing.{small_negative}
use Rattle.store_forms.proofs.operators.difference.Goals as goal

pub plus-requires-clause-second : goal.plus-requires-clause-second
plus-requires-clause-second c = small_negative c.args.store.now c.args.right.now c.in_ok-negative.negative c.requires.second c.in_ok-negative.ensures
