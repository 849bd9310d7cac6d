use Rattle.std.proofs.Common.{◌≡◌, drop}
use Rattle.lk_programs.specs.Program.{code_trees}
use Rattle.code_paths.specs.Places.{block_in}
use Rattle.code_places.proofs.blocks.block_at.Given as goal

-- what is left of the path leads on from the block
abbrev pub invariant-steps : goal.invariant-steps
invariant-steps l = block_in (code_trees l.code) l.path ≡ block_in (code_trees l.block) (drop l.inside-index l.path)
