use Rattle.std.proofs.Common.{◌≡◌, ◌≤◌, false, cond, List, length}
use Rattle.std.specs.Prelude.{IsTrue}
use Rattle.slang_lexer.specs.declared.token.TokenKind.TheVariants as kind
use Rattle.slang_tree.specs.DeclTree.{DeclTree}
use Rattle.slang_machine.specs.States.{part_or_end}
use Rattle.slang_machine.specs.Statements.{end_method}
use Rattle.token_cursor.specs.Outcome.{outcome}
use Rattle.token_cursor.specs.Gives.{ahead}
use Rattle.token_cursor.specs.Lists.{begins}
use Rattle.method_parser.specs.Bodies.{draft_of}
use Rattle.method_parser.proofs.bodies.body.Given as goal

-- what was read so far stands in the method, and more comes or it is over
abbrev pub invariant-parts : goal.invariant-parts
invariant-parts l = record {
  reads : (done : List DeclTree) → outcome (part_or_end 0 (draft_of done l.fn.method)) (ahead l.fn.tokens)
      ≡ outcome (cond l.more (part_or_end l.least (draft_of done l.method)) (end_method (draft_of done l.method))) (ahead l.tokens);
  begun : IsTrue l.more → begins kind.RightBrace (ahead l.tokens) ≡ false;
  no_longer : length (ahead l.tokens) ≤ length (ahead l.fn.tokens);
}

abbrev pub decreases-parts : goal.decreases-parts
decreases-parts l = length (ahead l.tokens)
