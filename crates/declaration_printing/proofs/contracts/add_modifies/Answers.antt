use Rattle.std.proofs.lemmas.Result.{on_ok_weaker}
use Rattle.declaration_printing.proofs.Clauses.{no_modifies_added, modifies_added}
use Rattle.declaration_printing.proofs.contracts.add_modifies.Goals as goal

pub returns-then-is_empty : goal.returns-then-is_empty
returns-then-is_empty c = no_modifies_added c.args.first c.args.names.now c.if-is_empty.ensures

pub returns-in_ok-add_word : goal.returns-in_ok-add_word
returns-in_ok-add_word c =
    on_ok_weaker c.add_names.result
    (λ h. modifies_added c.args.first c.args.names.now c.if-is_empty.ensures c.in_ok-add_comma.ensures c.in_ok-add_word.ensures h) c.add_names.ensures
