use Rattle.std.proofs.Common.{◌≡◌, List, map, take}
use Rattle.program_trees.specs.Legs.{LegTree}
use Rattle.program_keys.specs.Keys.{AreKeysOf}
use Rattle.parallel_check.specs.Answers.{answer_of}
use Rattle.parallel_check.proofs.answers.all_answers.Given as goal

-- the answers for the legs so far
abbrev pub invariant-loop-place : goal.invariant-loop-place
invariant-loop-place l = (legs : List LegTree) → AreKeysOf legs (map (λ key. key.items) l.keys) → l.answers ≡ map answer_of (take l.place legs)
