use Rattle.std.proofs.lemmas.Result.{on_ok_weaker}
use Rattle.declaration_printing.proofs.Clauses.{clauses_added}
use Rattle.declaration_printing.proofs.contracts.add_clauses.Goals as goal

pub returns : goal.returns
returns c =
    on_ok_weaker c.add_ensures.result
    (λ h. clauses_added c.args.light c.args.requires_.now c.args.modifies.now c.args.ensures_.now _ _ c.is_empty.ensures c.are_empty.ensures c.in_ok-add_requires.ensures
    c.in_ok-add_modifies.ensures h) c.add_ensures.ensures
