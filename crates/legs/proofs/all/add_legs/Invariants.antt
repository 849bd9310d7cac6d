use Rattle.std.proofs.Common.{take}
use Rattle.legs.specs.Legs.{HasLegs, legs_at}
use Rattle.legs.proofs.all.add_legs.Given as goal

abbrev pub invariant-loop-number : goal.invariant-loop-number
invariant-loop-number l = HasLegs l.typed l.method (take l.number (legs_at l.typed l.method)) l.out
