use Rattle.std.proofs.Common.{◌≡◌, ◌<◌, ◌∷◌, ◌++◌, [], length, map, refl, ap, ◌∙◌, sym}
use Rattle.slang_tree.specs.DeclTree.{decl_tree}
use Rattle.slang_machine.specs.States.{top}
use Rattle.token_cursor.specs.Outcome.{outcome}
use Rattle.token_cursor.specs.Gives.{ahead}
use Rattle.token_cursor.proofs.Exits.{passed_on}
use Rattle.expression_parser.proofs.Turns.{map_push}
use Rattle.file_parser.proofs.ReadDecls.{turned, comes, none_comes}
use Rattle.file_parser.proofs.files.add_declarations.Goals as goal

pub declarations-init : goal.declarations-init
declarations-init c = record { reads = refl; over = turned (ahead c.args.tokens.now ≡ []) (0 < length (ahead c.args.tokens.now)) c.is_over-more.result c.is_over-more.ensures }

pub declarations-preserved : goal.declarations-preserved
declarations-preserved c =
    let so_far = map decl_tree c.declarations.items in
    let next = so_far ++ decl_tree c.in_ok-member.member ∷ [] in
    let grown = map_push decl_tree c.declarations.items c.push.new.self c.in_ok-member.member c.in_ok-push.ensures.ok in
    record {
      reads =
          c.declarations.invariant.reads
          ∙ c.in_ok-member.ensures.reads so_far
          ∙ c.in_ok-more.ensures.reads next
          ∙ ap (λ l. outcome (top l) (ahead c.next_line.new.tokens)) (sym grown);
      over = c.in_ok-more.ensures.over;
    }

pub returns-clause-reads : goal.returns-clause-reads
returns-clause-reads c =
    let so_far = map decl_tree c.declarations.items in
    c.declarations.invariant.reads ∙ ap (outcome (top so_far)) (none_comes (0 < length (ahead c.declarations.tokens)) (ahead c.declarations.tokens ≡ []) c.declarations.more c.declarations.invariant.over c.declarations-test.false)

pub returns-in_err-member-clause-refused : goal.returns-in_err-member-clause-refused
returns-in_err-member-clause-refused c =
    passed_on c.from_residual.result _ _ _ c.from_residual.ensures.1 c.in_err-member.ensures.refused (λ due none.
    c.declarations.invariant.reads ∙ none (map decl_tree c.declarations.items) (comes (0 < length (ahead c.declarations.tokens)) (ahead c.declarations.tokens ≡ []) c.declarations.more c.declarations.invariant.over c.declarations-test.true))

pub returns-in_err-more-clause-refused : goal.returns-in_err-more-clause-refused
returns-in_err-more-clause-refused c =
    passed_on c.from_residual-in_err-more.result _ _ _ c.from_residual-in_err-more.ensures.1 c.in_err-more.ensures.refused (λ due none.
    c.declarations.invariant.reads
    ∙ c.in_ok-member.ensures.reads (map decl_tree c.declarations.items)
    ∙ none (map decl_tree c.declarations.items ++ decl_tree c.in_ok-member.member ∷ []))
