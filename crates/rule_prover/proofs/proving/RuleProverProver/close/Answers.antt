use Rattle.std.proofs.Common.{◌≡◌, IfOk, Option, subst}
use Rattle.std.proofs.lemmas.Result.{IfOk-weaker}
use Rattle.validity.specs.Validity.{SequentTree}
use Rattle.program_trees.specs.declared.answer.Reason.{Reason}
use Rattle.verdict_laws.specs.Rules.{unclosed}
use Rattle.proof_closing.specs.Prover.{plain_sequent}
use Rattle.rule_prover.proofs.proving.RuleProverProver.close.Goals as goal

pub returns-in-Ok-clause-answer : goal.returns-in-Ok-clause-answer
returns-in-Ok-clause-answer g c =
    let sequent = plain_sequent c.args.sequent.now in
    let told = subst (λ (s : SequentTree). IfOk c.unclosed_in.result (λ (it : Option Reason). it ≡ unclosed s)) c.in-Ok.ensures.same c.unclosed_in.ensures.told in
    IfOk-weaker c.answer_of.result _ _ (λ answer h. h (unclosed sequent) told) c.answer_of.ensures.answer
