use Rattle.std.proofs.lemmas.Result.{on_ok_weaker}
use Rattle.declaration_printing.proofs.Clauses.{contract_shown}
use Rattle.declaration_printing.proofs.contracts.add_contract.Goals as goal

pub returns : goal.returns
returns c =
    on_ok_weaker c.add_written.result (λ h. contract_shown c.args.light c.args.decl.now _ _ _ c.as_slice.ensures c.as_slice-2.ensures c.as_slice-3.ensures h)
    c.add_written.ensures
