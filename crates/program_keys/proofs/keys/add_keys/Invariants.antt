use Rattle.std.proofs.Common.{map, take}
use Rattle.lk_programs.specs.LegData.{leg_tree}
use Rattle.program_keys.specs.Keys.{AreAdded, bytes_of}
use Rattle.program_keys.proofs.keys.add_keys.Given as goal

-- the keys of the legs so far
abbrev pub invariant-loop-leg : goal.invariant-loop-leg
invariant-loop-leg l = AreAdded (map leg_tree (take l.leg-index l.legs)) (bytes_of l.fn.keys) (bytes_of l.keys)
