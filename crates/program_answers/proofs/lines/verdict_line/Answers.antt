use Rattle.std.proofs.Common.{◌≡◌, ap, sym, ◌∙◌, subst}
use Rattle.std.proofs.lemmas.Result.{IfOk-weaker}
use Rattle.proof_closing.specs.Prover.{Leaves}
use Rattle.leg_orders.specs.Places.{program_of, method_of}
use Rattle.leg_answers.specs.Answering.{accepting_by}
use Rattle.program_answers.proofs.Methods.{line_told, named}
use Rattle.program_answers.proofs.lines.verdict_line.Goals as goal

pub returns-in-Ok-clause-line : goal.returns-in-Ok-clause-line
returns-in-Ok-clause-line g c =
    let typed = c.args.typed.now in
    let own = c.index-as_slice-method in
    IfOk-weaker c.line_over.result _ _
    (λ line h. line_told g.P.LegProver.reason (accepting_by g.P.Prover.closes) typed c.args.method c.copy.result line c.in-Ok.verdict own.result.name
    (named typed c.args.method c.as_slice.result.now own.result c.as_slice.ensures c.requires.method own.is) c.copy.ensures h.0 h.1 c.in-Ok.ensures.verdict)
    c.line_over.ensures.line

pub returns-in-Ok-clause-leaves : goal.returns-in-Ok-clause-leaves
returns-in-Ok-clause-leaves g c =
    subst (Leaves (g.P.Prover.work c.args.prover.now) (g.P.Prover.work c.method_answer.new.prover)) (sym c.line_over.ensures.stop) c.in-Ok.ensures.leaves
