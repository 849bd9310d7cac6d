use Rattle.std.proofs.Common.{ap, ◌∙◌, sym}
use Rattle.slang_tree.specs.StmtTree.{stmt_tree}
use Rattle.slang_machine.specs.States.{part_or_end, part_end}
use Rattle.slang_machine.specs.Statements.{with_body}
use Rattle.token_cursor.specs.Outcome.{outcome}
use Rattle.token_cursor.specs.Gives.{ahead}
use Rattle.token_cursor.proofs.Exits.{passed_on}
use Rattle.expression_parser.proofs.Turns.{map_push}
use Rattle.method_parser.specs.Bodies.{draft_of}
use Rattle.method_parser.proofs.ReadBodies.{in_body, stmt_begins_part}
use Rattle.method_parser.proofs.bodies.stmt_part.Goals as goal

pub returns-in_err-stmt-clause-refused : goal.returns-in_err-stmt-clause-refused
returns-in_err-stmt-clause-refused c =
    passed_on c.from_residual.result _ _ _ c.from_residual.ensures.1 c.in_err-stmt.ensures.refused (λ due none least done x.
    let draft = draft_of done c.args.method.now in
    none (part_or_end least draft) (in_body draft) (stmt_begins_part least draft (ahead c.args.tokens.now) x))

pub returns-clause-reads : goal.returns-clause-reads
returns-clause-reads c = λ least done x.
    let draft = draft_of done c.args.method.now in
    c.in_ok-stmt.ensures.reads (part_or_end least draft) (in_body draft) (stmt_begins_part least draft (ahead c.args.tokens.now) x)
    ∙ ap (λ trees. outcome (part_end 1 (with_body draft trees)) (ahead c.stmt.new.tokens))
    (sym (map_push stmt_tree c.args.method.now.body c.push.new.self c.in_ok-stmt.stmt c.in_ok-push.ensures.ok))
