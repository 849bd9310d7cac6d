use Rattle.std.proofs.lemmas.Result.{on_ok_weaker}
use Rattle.declaration_printing.proofs.Clauses.{no_requires_added, requires_added}
use Rattle.declaration_printing.proofs.contracts.add_requires.Goals as goal

pub returns-then-is_empty : goal.returns-then-is_empty
returns-then-is_empty c = no_requires_added c.args.light c.args.claims.now c.if-is_empty.ensures

pub returns-in_ok-add_word : goal.returns-in_ok-add_word
returns-in_ok-add_word c =
    on_ok_weaker c.add_arguments.result (λ h. requires_added c.args.light c.args.claims.now c.if-is_empty.ensures c.in_ok-add_word.ensures h) c.add_arguments.ensures
