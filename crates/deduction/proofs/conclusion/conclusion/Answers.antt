use Rattle.std.proofs.Common.{sym, ◌∙◌}
use Rattle.term_trees.specs.Term.{tree}
use Rattle.deduction.proofs.Conclusions.{conclusion_last}
use Rattle.deduction.proofs.conclusion.conclusion.Goals as goal

pub returns-in-Some : goal.returns-in-Some
returns-in-Some c =
    c.claim_of.ensures ∙ sym (conclusion_last (tree c.args.given.now) c.args.steps.now c.in-Some.step.now c.in-Some.ensures.value)
