use Rattle.std.proofs.Common.{◌++◌, map, sym, ap, subst, ◌∙◌}
use Rattle.std.specs.List.{AllByRecursion}
use Rattle.lk_programs.specs.LegData.{leg_tree}
use Rattle.leg_forms.specs.WellFormed.{IsWellFormedLeg}
use Rattle.leg_rules.specs.Answers.{leg_answer}
use Rattle.verdicts.specs.Choice.{chosen, plain_verdict}
use Rattle.leg_answers.specs.Answering.{accepting_by}
use Rattle.method_answers.proofs.Verdicts.{verdict_few}
use Rattle.method_answers.proofs.answering.verdict_over.Goals as goal

pub add_answers-requires-clause-well_formed : goal.add_answers-requires-clause-well_formed
add_answers-requires-clause-well_formed g c =
    subst (AllByRecursion (λ leg. IsWellFormedLeg (leg_tree leg))) (sym c.as_slice.ensures) c.requires.well_formed

pub returns-in-Ok-clause-verdict : goal.returns-in-Ok-clause-verdict
returns-in-Ok-clause-verdict g c =
    let told = c.args.legs.now in
    verdict_few g.P.LegProver.reason (accepting_by g.P.Prover.closes) c.args.typed.now c.args.method told c.as_slice-in-Ok.result.now
    (plain_verdict c.method_verdict.result) c.requires.legs
    (c.as_slice-in-Ok.ensures ∙ c.in-Ok.ensures.answers
    ∙ ap (λ xs. xs ++ map (λ leg. leg_answer g.P.LegProver.reason (accepting_by g.P.Prover.closes) (leg_tree leg)) c.as_slice.result.now) c.new-answers.ensures
    ∙ ap (map (λ leg. leg_answer g.P.LegProver.reason (accepting_by g.P.Prover.closes) (leg_tree leg))) c.as_slice.ensures)
    c.method_verdict.ensures
