use Rattle.std.proofs.Common.{take}
use Rattle.std.specs.List.{flat_map}
use Rattle.leg_orders.specs.Places.{program_of}
use Rattle.program_keys.specs.Keys.{AreAdded, bytes_of, method_legs}
use Rattle.program_keys.proofs.keys.add_program_keys.Given as goal

-- the keys of the methods so far
abbrev pub invariant-loop-number : goal.invariant-loop-number
invariant-loop-number l =
    AreAdded (flat_map (method_legs (program_of l.typed)) (take l.number (program_of l.typed).methods)) (bytes_of l.fn.keys) (bytes_of l.keys)
