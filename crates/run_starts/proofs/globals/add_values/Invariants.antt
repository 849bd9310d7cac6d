use Rattle.std.proofs.Common.{◌≡◌, map, take}
use Rattle.slang_values.specs.Value.{Records}
use Rattle.run_values.specs.Value.{plain_value}
use Rattle.run_starts.specs.Constants.{constant_value}
use Rattle.run_starts.proofs.globals.add_values.Given as goal

-- the values so far are those of the globals so far
abbrev pub invariant-globals : goal.invariant-globals
invariant-globals l = (records : Records) → map plain_value l.values ≡ map (constant_value records) (take l.place l.globals)
