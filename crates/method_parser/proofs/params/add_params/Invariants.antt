use Rattle.std.proofs.Common.{◌≡◌, ◌≤◌, false, cond, List, map, length}
use Rattle.std.specs.Prelude.{IsTrue}
use Rattle.slang_lexer.specs.declared.token.TokenKind.TheVariants as kind
use Rattle.slang_tree.specs.declared.expression.Name.{Name}
use Rattle.slang_tree.specs.DeclTree.{DeclTree, param_tree}
use Rattle.slang_machine.specs.States.{param_or_end, result_colon}
use Rattle.token_cursor.specs.Outcome.{outcome}
use Rattle.token_cursor.specs.Gives.{ahead}
use Rattle.token_cursor.specs.Lists.{begins}
use Rattle.method_parser.proofs.params.add_params.Given as goal

-- the parameters so far are read, and another is due, or they are over
abbrev pub invariant-params : goal.invariant-params
invariant-params l = record {
  reads : (written : Name) (done : List DeclTree) → outcome (param_or_end written (map param_tree l.fn.list) done) (ahead l.fn.tokens)
      ≡ outcome (cond l.more (param_or_end written (map param_tree l.list) done) (result_colon written (map param_tree l.list) done)) (ahead l.tokens);
  begun : IsTrue l.more → begins kind.RightParen (ahead l.tokens) ≡ false;
  no_longer : length (ahead l.tokens) ≤ length (ahead l.fn.tokens);
}

abbrev pub decreases-params : goal.decreases-params
decreases-params l = length (ahead l.tokens)
