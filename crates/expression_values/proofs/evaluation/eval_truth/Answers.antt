use Rattle.expression_values.proofs.evaluation.eval_truth.Goals as goal

pub returns : goal.returns
returns c records = c.truth.ensures _ _ (c.held.ensures records)
