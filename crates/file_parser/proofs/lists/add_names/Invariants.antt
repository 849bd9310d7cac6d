use Rattle.std.proofs.Common.{◌≡◌, ◌≤◌, false, cond, List, length}
use Rattle.slang_lexer.specs.declared.token.TokenKind.TheVariants as kind
use Rattle.slang_tree.specs.declared.place.Place.{Place}
use Rattle.slang_tree.specs.DeclTree.{DeclTree}
use Rattle.slang_machine.specs.States.{path_due, path_end}
use Rattle.token_cursor.specs.Outcome.{outcome}
use Rattle.token_cursor.specs.Gives.{ahead}
use Rattle.token_cursor.specs.Lists.{begins}
use Rattle.file_parser.proofs.lists.add_names.Given as goal

-- the names so far are read, and another is due behind a dot, or no dot comes
abbrev pub invariant-names : goal.invariant-names
invariant-names l = record {
  reads : (place : Place) (done : List DeclTree) → outcome (path_due place l.fn.list done) (ahead l.fn.tokens)
      ≡ outcome (cond l.more (path_due place l.list done) (path_end place l.list done)) (ahead l.tokens);
  ends : l.more ≡ false → begins kind.Dot (ahead l.tokens) ≡ false;
  no_longer : length (ahead l.tokens) ≤ length (ahead l.fn.tokens);
}

abbrev pub decreases-names : goal.decreases-names
decreases-names l = length (ahead l.tokens)
