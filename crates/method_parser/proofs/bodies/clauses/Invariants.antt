use Rattle.std.proofs.Common.{◌≡◌, ◌≤◌, false, cond, List, length}
use Rattle.std.specs.Prelude.{IsTrue}
use Rattle.slang_lexer.specs.declared.token.TokenKind.TheVariants as kind
use Rattle.slang_tree.specs.DeclTree.{DeclTree}
use Rattle.slang_machine.specs.States.{clause_or_end, part_end}
use Rattle.token_cursor.specs.Outcome.{outcome}
use Rattle.token_cursor.specs.Gives.{ahead}
use Rattle.token_cursor.specs.Lists.{begins}
use Rattle.method_parser.specs.Bodies.{draft_of}
use Rattle.method_parser.proofs.bodies.clauses.Given as goal

-- what was read so far stands in the method, and more comes or it is over
abbrev pub invariant-clauses : goal.invariant-clauses
invariant-clauses l = record {
  reads : (done : List DeclTree) → outcome (clause_or_end 0 (draft_of done l.fn.method)) (ahead l.fn.tokens)
      ≡ outcome (cond l.more (clause_or_end l.least (draft_of done l.method)) (part_end 1 (draft_of done l.method))) (ahead l.tokens);
  begun : IsTrue l.more → begins kind.RightParen (ahead l.tokens) ≡ false;
  no_longer : length (ahead l.tokens) ≤ length (ahead l.fn.tokens);
}

abbrev pub decreases-clauses : goal.decreases-clauses
decreases-clauses l = length (ahead l.tokens)
