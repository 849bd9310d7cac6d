-- How deep a reader of keys goes.
use Rattle.std.specs.Prelude.{ℕ, List, Option}
use Rattle.program_trees.specs.Legs.{LegTree}
use Rattle.key_rules.specs.Reading.{read_leg, all_of}

-- the leg whose key these bytes are, by readers that go no deeper
abbrev pub decode_within : ℕ → List ℕ → Option LegTree
decode_within depth bytes = all_of (read_leg depth bytes)

-- claims of a height of 2,000 in 200 blocks
unfoldable pub depth_limit : ℕ
depth_limit = 2203
