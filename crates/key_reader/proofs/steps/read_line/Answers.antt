use Rattle.std.proofs.Common.{ℕ, Some, sym, ap, ◌∙◌}
use Rattle.program_trees.specs.Claims.{line}
use Rattle.key_rules.specs.Readers.{and_then, given, ◌>>=◌, read_byte, read_list, read_number}
use Rattle.key_rules.specs.Reading.{read_claim}
use Rattle.key_cursor.specs.Reads.{itself, left}
use Rattle.key_cursor.proofs.Reading.{three_read}
use Rattle.lk_claims.specs.Claim.{claim_tree}
use Rattle.lk_claims.proofs.Steps.{step_tree-Line}
use Rattle.key_reader.proofs.steps.read_line.Goals as goal

pub returns : goal.returns
returns c =
    let label = c.in_ok-label.label in
    ap (and_then (λ l. read_claim c.args.depth >>= λ a. read_byte >>= λ rule. read_list read_number >>= λ cites. given (line l a rule cites)))
    c.in_ok-label.ensures.reads
    ∙ three_read claim_tree itself itself (read_claim c.args.depth) read_byte (read_list read_number) (λ a rule cites. given (line label a rule cites))
    (left c.read_number.new.self) (left c.read_claim.new.cursor) (left c.read_byte.new.self) (left c.read_numbers.new.cursor)
    c.read_claim.result c.read_byte.result c.read_numbers.result c.in_ok-claim.claim c.in_ok-claim.rule c.in_ok-claim.cites
    c.read_claim.ensures c.read_byte.ensures.reads c.read_numbers.ensures c.in_ok-claim.ensures.parts.0 c.in_ok-claim.ensures.parts.1 c.in_ok-claim.ensures.parts.2
    ∙ ap (λ s. Some (s, left c.read_numbers.new.cursor)) (sym (step_tree-Line label c.in_ok-claim.claim c.in_ok-claim.rule c.in_ok-claim.cites))
