use Rattle.std.proofs.Common.{ap, ◌∙◌}
use Rattle.program_trees.specs.Programs.{deduce}
use Rattle.lk_programs.proofs.Codes.{code_tree-Deduce}
use Rattle.slang_tree.specs.StmtTree.{step_tree, steps_of}
use Rattle.std.proofs.Common.{map}
use Rattle.program_trees.specs.Claims.{renamed_steps}
use Rattle.typed_texts.specs.Claims.{steps_of_trees}
use Rattle.typed_names.specs.Variables.{number_in}
use Rattle.typed_names.proofs.Made.{made_single}
use Rattle.step_making.proofs.Steps.{trees_made}
use Rattle.code_making.proofs.parts.deduced.Goals as goal

pub returns-clause-made : goal.returns-clause-made
returns-clause-made c = λ at fits has.
    let steps = renamed_steps (number_in c.args.numbers) (steps_of_trees at (steps_of (map step_tree c.args.steps.now))) in
    made_single c.args.nodes.now c.add.new.self c.args.place (λ node. deduce node steps) c.in_ok-node.node.0 _ c.in_ok-node.ensures.number
    c.in_ok-node.ensures.added
    (code_tree-Deduce c.in_ok-node.node c.in_ok-steps.steps
    ∙ ap (deduce c.in_ok-node.node.0)
    (trees_made c.args.records.now c.args.numbers c.args.scope.now c.args.steps.now c.in_ok-steps.steps at c.in_ok-steps.ensures.steps fits has))
