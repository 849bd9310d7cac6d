use Rattle.std.proofs.Common.{Some, sym, ap, ◌∙◌}
use Rattle.slang_values.specs.Tree.{name}
use Rattle.program_trees.specs.Claims.{let_symbol}
use Rattle.key_rules.specs.Readers.{and_then, given}
use Rattle.key_cursor.specs.Reads.{left}
use Rattle.lk_claims.proofs.Trees.{claim_tree-LetSym}
use Rattle.claim_reader.proofs.leaves.read_let_symbol.Goals as goal

pub returns : goal.returns
returns c =
    ap (and_then (λ n. given (name (let_symbol n)))) c.in_ok-label.ensures.reads ∙ ap (λ t. Some (t, left c.read_number.new.self)) (sym (claim_tree-LetSym c.in_ok-label.label))
