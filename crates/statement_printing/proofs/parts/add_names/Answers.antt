use Rattle.std.proofs.lemmas.Result.{on_ok_weaker}
use Rattle.statement_printing.proofs.Forms.{names_added}
use Rattle.statement_printing.proofs.parts.add_names.Goals as goal

pub returns : goal.returns
returns c = on_ok_weaker c.add_text-2.result (λ h. names_added c.args.names.now c.in_ok-add_text.ensures c.in_ok-add_listed.ensures h) c.add_text-2.ensures
