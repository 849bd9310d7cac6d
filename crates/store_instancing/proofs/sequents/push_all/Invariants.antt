use Rattle.std.proofs.Common.{◌≡◌, ◌++◌, take}
use Rattle.store_instancing.proofs.sequents.push_all.Given as goal

abbrev pub invariant-loop-place : goal.invariant-loop-place
invariant-loop-place l = l.facts ≡ l.fn.facts ++ take l.place l.new
