use Rattle.slang_machine.specs.States.{contract_names}
use Rattle.token_cursor.proofs.Exits.{passed_on}
use Rattle.method_parser.specs.Bodies.{draft_of}
use Rattle.method_parser.proofs.bodies.add_modifies.Goals as goal

pub returns-in_err-method-clause-refused : goal.returns-in_err-method-clause-refused
returns-in_err-method-clause-refused c =
    passed_on c.from_residual.result _ _ _ c.from_residual.ensures.1 c.in_err-method.ensures.refused (λ due none done. none (contract_names (draft_of done c.args.method.now)))

pub returns-clause-reads : goal.returns-clause-reads
returns-clause-reads c = λ done. c.in_ok-method.ensures.reads (contract_names (draft_of done c.args.method.now))
