use Rattle.std.proofs.Common.{ap, ◌∙◌, sym}
use Rattle.slang_machine.specs.States.{clauses_due}
use Rattle.token_cursor.specs.Outcome.{outcome}
use Rattle.token_cursor.specs.Gives.{ahead}
use Rattle.token_cursor.proofs.Exits.{passed_on}
use Rattle.method_parser.specs.Bodies.{draft_of}
use Rattle.method_parser.proofs.ReadBodies.{contract_comes}
use Rattle.method_parser.proofs.bodies.contract_part.Goals as goal

pub returns-in_err-contract-clause-refused : goal.returns-in_err-contract-clause-refused
returns-in_err-contract-clause-refused c =
    passed_on c.from_residual.result _ _ _ c.from_residual.ensures.1 c.in_err-contract.ensures.refused (λ due none least done o h.
    contract_comes least (draft_of done c.args.method.now) (ahead c.args.tokens.now) o h
    ∙ ap (outcome (clauses_due (draft_of done c.args.method.now))) (sym c.advance.ensures)
    ∙ none done)

pub returns-clause-reads : goal.returns-clause-reads
returns-clause-reads c = λ least done o h.
    contract_comes least (draft_of done c.args.method.now) (ahead c.args.tokens.now) o h
    ∙ ap (outcome (clauses_due (draft_of done c.args.method.now))) (sym c.advance.ensures)
    ∙ c.in_ok-contract.ensures.reads done
