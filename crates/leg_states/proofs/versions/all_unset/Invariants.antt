use Rattle.std.proofs.Common.{◌≡◌, ◌∷◌, [], None}
use Rattle.std.proofs.Math.ListN.{replicate}
use Rattle.leg_states.specs.State.{lists_of}
use Rattle.leg_states.proofs.versions.all_unset.Given as goal

abbrev pub invariant-loop : goal.invariant-loop
invariant-loop l = lists_of l.versions ≡ replicate l.counter (None ∷ [])
