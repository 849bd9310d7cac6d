use Rattle.std.proofs.Common.{◌+◌, ◌*◌, ◌<◌, ◌≤◌, ◌≡◌, cond, List, map, length}
use Rattle.slang_tree.specs.DeclTree.{ConstTree, const_tree}
use Rattle.slang_machine.specs.Open.{Consts}
use Rattle.slang_machine.specs.States.{State, want_const, const_or_end}
use Rattle.token_cursor.specs.Outcome.{outcome}
use Rattle.token_cursor.specs.Gives.{ahead}
use Rattle.constant_parser.specs.Constants.{ReadsConsts}
use Rattle.constant_parser.proofs.constants.+constants.Given as goal

abbrev pub decreases-constant : goal.decreases-constant
decreases-constant l = 4 * length (ahead l.tokens.now)

abbrev pub decreases-sequence_value : goal.decreases-sequence_value
decreases-sequence_value l = 4 * length (ahead l.tokens.now)

abbrev pub decreases-fields : goal.decreases-fields
decreases-fields l = 4 * length (ahead l.tokens.now)

abbrev pub decreases-record_value : goal.decreases-record_value
decreases-record_value l = 4 * length (ahead l.tokens.now) + 1

abbrev pub decreases-constant_behind : goal.decreases-constant_behind
decreases-constant_behind l = 4 * length (ahead l.tokens.now) + 2

abbrev pub decreases-add_constants : goal.decreases-add_constants
decreases-add_constants l = 4 * length (ahead l.tokens.now) + 1

abbrev pub decreases-constants : goal.decreases-constants
decreases-constants l = 4 * length (ahead l.tokens.now) + 2

-- the constants so far are read, and the list goes on or is over
abbrev pub invariant-add_constants-members : goal.invariant-add_constants-members
invariant-add_constants-members l = record {
  reads : (at : List ConstTree → Consts) (over : List ConstTree → State) → ReadsConsts at over
      → outcome (const_or_end (at (map const_tree l.fn.list))) (ahead l.fn.tokens)
      ≡ outcome (cond l.more (want_const (at (map const_tree l.list))) (over (map const_tree l.list))) (ahead l.tokens);
  no_longer : length (ahead l.tokens) ≤ length (ahead l.fn.tokens);
}

abbrev pub decreases-add_constants-members : goal.decreases-add_constants-members
decreases-add_constants-members l = length (ahead l.tokens)
