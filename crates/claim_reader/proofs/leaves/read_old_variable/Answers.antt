use Rattle.std.proofs.Common.{Some, sym, ap, ◌∙◌}
use Rattle.slang_values.specs.Tree.{name}
use Rattle.program_trees.specs.Claims.{old_variable}
use Rattle.key_rules.specs.Readers.{and_then, given}
use Rattle.key_cursor.specs.Reads.{left}
use Rattle.lk_claims.proofs.Trees.{claim_tree-OldVar}
use Rattle.claim_reader.proofs.leaves.read_old_variable.Goals as goal

pub returns : goal.returns
returns c =
    ap (and_then (λ n. given (name (old_variable n)))) c.in_ok-number.ensures.reads ∙ ap (λ t. Some (t, left c.read_number.new.self)) (sym (claim_tree-OldVar c.in_ok-number.number))
