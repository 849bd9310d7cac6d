use Rattle.std.proofs.lemmas.Result.{on_ok_weaker}
use Rattle.declaration_printing.proofs.Clauses.{no_contract_added, contract_added}
use Rattle.declaration_printing.proofs.contracts.add_written.Goals as goal

pub returns-then-says_nothing : goal.returns-then-says_nothing
returns-then-says_nothing c = no_contract_added c.args.light c.args.requires_.now c.args.modifies.now c.args.ensures_.now c.if-says_nothing.ensures

pub returns-in_ok-add_clauses : goal.returns-in_ok-add_clauses
returns-in_ok-add_clauses c =
    on_ok_weaker c.add_word-else-says_nothing.result
    (λ h. contract_added c.args.light c.args.requires_.now c.args.modifies.now c.args.ensures_.now c.if-says_nothing.ensures c.in_ok-add_word.ensures
    c.in_ok-add_text.ensures
    c.in_ok-add_clauses.ensures h) c.add_word-else-says_nothing.ensures
