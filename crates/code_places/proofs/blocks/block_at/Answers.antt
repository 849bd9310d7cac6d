use Rattle.std.proofs.Common.{false, get_or}
use Rattle.lk_programs.specs.Program.{code_trees}
use Rattle.code_paths.specs.declared.inside.Inside.{Inside}
use Rattle.code_paths.proofs.Paths.{path_next}
use Rattle.code_places.proofs.Parts.{same_past}
use Rattle.code_places.proofs.blocks.block_at.Goals as goal

pub steps-preserved : goal.steps-preserved
steps-preserved c =
    let path = c.args.path.now in
    let place = c.steps.inside-index in
    let none : Inside = record { statement = 0; otherwise = false } in
    let inside = get_or path place none in
    path_next (code_trees c.args.code.now) (code_trees c.steps.block.now) (code_trees c.block_inside-block.result.now) path place inside c.steps-test.true
    (same_past path place none inside c.steps-test.true) c.steps.invariant c.block_inside-block.ensures
