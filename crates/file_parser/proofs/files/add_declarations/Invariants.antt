use Rattle.std.proofs.Common.{◌≡◌, ◌<◌, [], map, length}
use Rattle.std.specs.Prelude.{MatchBool}
use Rattle.slang_tree.specs.DeclTree.{decl_tree}
use Rattle.slang_machine.specs.States.{top}
use Rattle.token_cursor.specs.Outcome.{outcome}
use Rattle.token_cursor.specs.Gives.{ahead}
use Rattle.file_parser.proofs.files.add_declarations.Given as goal

-- the declarations so far are read, and more comes or nothing
abbrev pub invariant-declarations : goal.invariant-declarations
invariant-declarations l = record {
  reads : outcome (top (map decl_tree l.fn.items)) (ahead l.fn.tokens) ≡ outcome (top (map decl_tree l.items)) (ahead l.tokens);
  over : MatchBool l.more (0 < length (ahead l.tokens)) (ahead l.tokens ≡ []);
}

abbrev pub decreases-declarations : goal.decreases-declarations
decreases-declarations l = length (ahead l.tokens)
