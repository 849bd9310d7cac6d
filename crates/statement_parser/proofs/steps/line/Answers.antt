use Rattle.std.proofs.Common.{◌≡◌, ◌∷◌, ◌++◌, [], ap, ◌∙◌, sym}
use Rattle.slang_tree.specs.ExprTree.{expr_tree}
use Rattle.slang_tree.specs.StmtTree as s
use Rattle.slang_tree.specs.StmtTree.{step_tree}
use Rattle.slang_tokens.specs.Tok.{tok}
use Rattle.slang_machine.specs.Open.{alone, step_claim}
use Rattle.slang_machine.specs.States.{by_due, step_end, labelled}
use Rattle.token_cursor.specs.Outcome.{outcome}
use Rattle.token_cursor.specs.Gives.{ahead}
use Rattle.token_cursor.proofs.Exits.{passed_on, built, refused_by}
use Rattle.statement_parser.specs.Expects.{labelled_in}
use Rattle.statement_parser.proofs.ReadSteps.{closes_claim}
use Rattle.statement_parser.proofs.steps.line.Goals as goal

pub returns-in_err-claim-clause-refused : goal.returns-in_err-claim-clause-refused
returns-in_err-claim-clause-refused c =
    passed_on c.from_residual.result _ _ _ c.from_residual.ensures.1 c.in_err-claim.ensures.refused (λ due none steps around. none (alone (step_claim (labelled_in c.args.label steps around))) (λ expr. by_due expr (labelled_in c.args.label steps around)) (closes_claim (labelled_in c.args.label steps around)))

pub returns-clause-reads : goal.returns-clause-reads
returns-clause-reads c =
    built c.line_of.result c.reason.result (λ made read. step_tree made ≡ s.line c.args.label (expr_tree c.in_ok-claim.claim) read.0 read.1) _ _ c.line_of.ensures.made c.reason.ensures.reads (λ made read reads same steps around.
    c.in_ok-claim.ensures.reads (alone (step_claim (labelled_in c.args.label steps around))) (λ expr. by_due expr (labelled_in c.args.label steps around)) (closes_claim (labelled_in c.args.label steps around))
    ∙ reads (expr_tree c.in_ok-claim.claim) (labelled_in c.args.label steps around)
    ∙ ap (λ tree. outcome (step_end (steps ++ tree ∷ []) around) (ahead c.reason.new.tokens)) (sym same))

pub returns-clause-refused : goal.returns-clause-refused
returns-clause-refused c =
    refused_by c.line_of.result c.reason.result _ _ c.line_of.ensures.refused c.reason.ensures.refused (λ due none steps around.
    c.in_ok-claim.ensures.reads (alone (step_claim (labelled_in c.args.label steps around))) (λ expr. by_due expr (labelled_in c.args.label steps around)) (closes_claim (labelled_in c.args.label steps around))
    ∙ none (expr_tree c.in_ok-claim.claim) (labelled_in c.args.label steps around))
