use Rattle.std.proofs.Common.{◌≡◌, ◌≤◌, true, cond, List, [], map, length}
use Rattle.slang_tree.specs.declared.place.Place.{Place}
use Rattle.slang_tree.specs.declared.expression.Name.{Name}
use Rattle.slang_tree.specs.DeclTree.{DeclTree, field_tree}
use Rattle.slang_machine.specs.States.{field_name}
use Rattle.slang_machine.specs.Declarations.{end_record}
use Rattle.token_cursor.specs.Outcome.{outcome}
use Rattle.token_cursor.specs.Gives.{ahead}
use Rattle.statement_parser.specs.Expects.{NoEnd}
use Rattle.file_parser.specs.Expects.{field_state}
use Rattle.file_parser.proofs.lists.add_fields.Given as goal

-- the fields so far are read, and another is due, or they are over
abbrev pub invariant-fields : goal.invariant-fields
invariant-fields l = record {
  reads : (place : Place) (written : Name) (done : List DeclTree) → outcome (field_name place written [] done) (ahead l.fn.tokens)
      ≡ outcome (cond l.more (field_state place written (map field_tree l.list) done) (end_record place written (map field_tree l.list) done)) (ahead l.tokens);
  due : l.more ≡ true → NoEnd (map field_tree l.list) (ahead l.tokens);
  no_longer : length (ahead l.tokens) ≤ length (ahead l.fn.tokens);
}

abbrev pub decreases-fields : goal.decreases-fields
decreases-fields l = length (ahead l.tokens)
