use Rattle.std.proofs.Common.{SFits, Some, to_z, of_z, sym, ap, ◌∙◌, rules}
use Rattle.std.specs.Int.{w128}
use Rattle.std.proofs.lemmas.Int.{to_z-of_z}
use Rattle.slang_values.specs.Tree.{literal}
use Rattle.key_rules.specs.Readers.{and_then, given}
use Rattle.key_cursor.specs.Reads.{left}
use Rattle.lk_claims.proofs.Trees.{claim_tree-Lit}
use Rattle.claim_reader.proofs.leaves.read_literal.Goals as goal

pub returns : goal.returns
returns c =
    let z = c.in_ok-number.number in
    let fits : SFits w128 z = search rules in
    ap (and_then (λ z. given (literal z))) c.in_ok-number.ensures.reads
    ∙ ap (λ y. Some (literal y, left c.read_literal.new.self)) (sym (to_z-of_z w128 z fits))
    ∙ ap (λ t. Some (t, left c.read_literal.new.self)) (sym (claim_tree-Lit (to_z w128 (of_z w128 z))))
