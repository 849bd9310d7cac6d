use Rattle.std.proofs.Common.{◌≡◌, List, length, map, ap, ◌∙◌}
use Rattle.lk_programs.specs.declared.program.Code.{Code}
use Rattle.lk_programs.specs.declared.program.NodePlace.{NodePlace}
use Rattle.lk_programs.specs.Program.{code_trees}
use Rattle.code_paths.specs.Places.{block_in}
use Rattle.run_steps.specs.Steps.{program_of}
use Rattle.frame_steps.proofs.Found.{found}
use Rattle.frame_steps.proofs.Callable.{calls_there}
use Rattle.frame_steps.proofs.places.code_at.Goals as goal

pub returns-clause-there : goal.returns-clause-there
returns-clause-there c =
    found (program_of c.args.typed.now) c.args.run.now.method c.method_at-method.result.now c.args.run.now.env c.requires c.method_at-method.ensures
    c.args.path.now
    c.block_at.result.now (c.block_at.ensures ∙ ap (λ (body : List Code). block_in (code_trees body) c.args.path.now) c.as_slice.ensures) c.args.number
    c.statement_at.result c.statement_at.ensures

pub returns-clause-calls : goal.returns-clause-calls
returns-clause-calls c =
    calls_there (program_of c.args.typed.now) (length (map (λ (node : NodePlace). node.file) c.args.typed.now.nodes)) c.args.typed.now.well_typed.methods
    c.args.run.now.method c.args.path.now c.args.number c.args.run.now.env c.statement_at.result c.requires.there
    (found (program_of c.args.typed.now) c.args.run.now.method c.method_at-method.result.now c.args.run.now.env c.requires c.method_at-method.ensures
    c.args.path.now
    c.block_at.result.now (c.block_at.ensures ∙ ap (λ (body : List Code). block_in (code_trees body) c.args.path.now) c.as_slice.ensures) c.args.number
    c.statement_at.result c.statement_at.ensures)
