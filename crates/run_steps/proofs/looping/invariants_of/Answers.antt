use Rattle.std.proofs.Common.{ℕ, ap, sym, ◌∙◌}
use Rattle.program_trees.specs.Programs.{CodeTree, renamed_code}
use Rattle.lk_programs.specs.Program.{code_tree}
use Rattle.lk_programs.proofs.Codes.{code_tree-While}
use Rattle.expression_values.specs.Environment.{variable_in}
use Rattle.claim_tests.specs.Tested.{noted_in}
use Rattle.run_frames.specs.Frames.{loop_of}
use Rattle.run_steps.proofs.Methods.{claims_in}
use Rattle.run_steps.proofs.looping.invariants_of.Goals as goal

pub returns-in-While : goal.returns-in-While
returns-in-While c =
    let env = c.args.env.now in
    ap (noted_in env) c.as_slice.ensures
    ∙ claims_in env c.in-While.invariants
    ∙ sym (ap (λ (t : CodeTree ℕ). (loop_of (renamed_code (variable_in env) t)).invariants) (ap code_tree c.in-While.is ∙ code_tree-While _ _ _ _ _))
