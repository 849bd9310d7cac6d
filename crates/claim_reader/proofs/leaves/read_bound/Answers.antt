use Rattle.std.proofs.Common.{Some, sym, ap, ◌∙◌}
use Rattle.slang_values.specs.Tree.{bound}
use Rattle.key_rules.specs.Readers.{and_then, given}
use Rattle.key_cursor.specs.Reads.{left}
use Rattle.lk_claims.proofs.Trees.{claim_tree-Bound}
use Rattle.claim_reader.proofs.leaves.read_bound.Goals as goal

pub returns : goal.returns
returns c =
    ap (and_then (λ n. given (bound n))) c.in_ok-number.ensures.reads ∙ ap (λ t. Some (t, left c.read_number.new.self)) (sym (claim_tree-Bound c.in_ok-number.number))
