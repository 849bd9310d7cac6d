-- The choice is that of the definition over the legs, as one statement.
use Rattle.std.specs.Prelude.{◌≡◌, ℕ, List, map, Option}
use Rattle.validity.specs.Validity.{SequentTree}
use Rattle.deduction_rules.specs.Step.{StepTrees}
use Rattle.program_trees.specs.declared.answer.Reason.{Reason}
use Rattle.program_trees.specs.Programs.{MethodTree, ProgramTree}
use Rattle.program_trees.specs.Variables.{Variable}
use Rattle.lk_programs.specs.declared.expression.NodeNo.{NodeNo}
use Rattle.leg_rules.specs.Legs.{Items}
use Rattle.leg_rules.specs.Numbering.{leg_tree}
use Rattle.leg_rules.specs.Answers.{first_leg, leg_answer}
use Rattle.verdicts.specs.Choice.{chosen}

-- Whatever closes sequents and accepts proofs: what is chosen from the answers for the legs, beside the nodes of their items, is the verdict over these legs.
abbrev pub ChoiceIsByTheLegs : Type 0
ChoiceIsByTheLegs =
    (closing : SequentTree → Option Reason) (accepting : SequentTree → StepTrees → Option ℕ) (program : ProgramTree Variable) (method : MethodTree Variable)
    (legs : List Items) (nodes : List (List NodeNo)) → map (map (λ node. node.0)) nodes ≡ map (map (λ noted. noted.node)) legs →
    chosen nodes (map (λ items. leg_answer closing accepting (leg_tree program method items)) legs) ≡ first_leg closing accepting program method legs
