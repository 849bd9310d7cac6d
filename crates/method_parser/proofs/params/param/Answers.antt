use Rattle.slang_machine.specs.Open.{of_param, whole_type}
use Rattle.slang_machine.specs.States.{param_or_end, param_colon}
use Rattle.token_cursor.proofs.Exits.{passed_on}
use Rattle.method_parser.proofs.ReadParams.{param_type, param_named}
use Rattle.method_parser.proofs.params.param.Goals as goal

pub returns-in_err-name-clause-refused : goal.returns-in_err-name-clause-refused
returns-in_err-name-clause-refused c =
    passed_on c.from_residual.result _ _ _ c.from_residual.ensures.1 c.in_err-name.ensures.refused (λ due none written params done p.
    none (param_or_end written params done) (λ x. param_colon written params x done) (λ x. whole_type (of_param written params x done)) (param_named written params done _ p) (param_type written params done))

pub returns-clause-reads : goal.returns-clause-reads
returns-clause-reads c = λ written params done p.
    c.in_ok-name.ensures.reads (param_or_end written params done) (λ x. param_colon written params x done) (λ x. whole_type (of_param written params x done)) (param_named written params done _ p) (param_type written params done)
