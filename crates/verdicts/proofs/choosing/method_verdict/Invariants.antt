use Rattle.std.proofs.Common.{◌≡◌, drop}
use Rattle.verdicts.specs.Choice.{chosen}
use Rattle.verdicts.proofs.choosing.method_verdict.Given as goal

-- the answers so far are Proved
abbrev pub invariant-loop-place : goal.invariant-loop-place
invariant-loop-place l = chosen l.legs.nodes l.answers ≡ chosen (drop l.place l.legs.nodes) (drop l.place l.answers)
