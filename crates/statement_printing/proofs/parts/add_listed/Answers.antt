use Rattle.std.proofs.lemmas.Result.{on_ok_weaker}
use Rattle.statement_printing.proofs.Forms.{names_listed_added}
use Rattle.statement_printing.proofs.parts.add_listed.Goals as goal

pub returns-in_ok-add_name-in-Some : goal.returns-in_ok-add_name-in-Some
returns-in_ok-add_name-in-Some c =
    on_ok_weaker c.add_names_behind.result (λ h. names_listed_added c.args.names.now _ _ c.in-Some.ensures.cases.0 c.in_ok-add_name-in-Some.ensures h) c.add_names_behind.ensures
