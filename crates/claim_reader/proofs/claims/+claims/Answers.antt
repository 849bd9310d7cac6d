use Rattle.std.proofs.Common.{ℕ, map, ◌+◌, ◌-◌, Some, sym, ap, ◌∙◌, arith}
use Rattle.slang_values.specs.Tree.{listed, record_of, sequence_of}
use Rattle.key_rules.specs.Readers.{given, read_list, read_number}
use Rattle.key_rules.specs.Reading.{read_claim, read_type, trees_of}
use Rattle.key_cursor.specs.Reads.{itself, left}
use Rattle.key_cursor.proofs.Members.{member_joined}
use Rattle.key_cursor.proofs.Reading.{both_read}
use Rattle.lk_claims.specs.Claim.{claim_tree, value_type}
use Rattle.lk_claims.proofs.Trees.{claim_tree-Rec, claim_tree-SeqLit}
use Rattle.claim_reader.specs.Heads.{claim_head_data}
use Rattle.claim_reader.proofs.ClaimHeads.{claim_known, claim_unknown, same_trees}
use Rattle.claim_reader.proofs.claims.+claims.Goals as goal

pub read_claim-returns-in-Some : goal.read_claim-returns-in-Some
read_claim-returns-in-Some t c =
    claim_known c.args.depth (c.args.depth - 1) (left c.args.cursor.now) (left c.read_byte.new.self) (left c.read_behind.new.cursor) c.in_ok-byte.byte
    (claim_head_data c.in-Some.head) c.read_behind.result (omega arith) c.in_ok-byte.ensures.reads c.in-Some.ensures c.read_behind.ensures

pub read_claim-returns-in-None : goal.read_claim-returns-in-None
read_claim-returns-in-None t c =
    claim_unknown c.args.depth (c.args.depth - 1) (left c.args.cursor.now) (left c.read_byte.new.self) c.in_ok-byte.byte (omega arith)
    c.in_ok-byte.ensures.reads c.in-None.ensures

pub read_record-returns : goal.read_record-returns
read_record-returns t c =
    let parts = c.in_ok-number.parts in
    both_read {A = ℕ} itself (map claim_tree) read_number (read_list (read_claim c.args.depth)) (λ n ts. given (listed (record_of n) (trees_of ts)))
    (left c.args.cursor.now) (left c.read_number.new.self) (left c.read_parts.new.cursor) c.read_number.result c.read_parts.result c.in_ok-number.number parts
    c.read_number.ensures.reads c.read_parts.ensures c.in_ok-number.ensures.parts.0 c.in_ok-number.ensures.parts.1
    ∙ ap (λ ts. Some (listed (record_of c.in_ok-number.number) ts, left c.read_parts.new.cursor)) (sym (same_trees (map claim_tree parts)))
    ∙ ap (λ r. Some (r, left c.read_parts.new.cursor)) (sym (claim_tree-Rec c.in_ok-number.number parts))

pub read_sequence-returns : goal.read_sequence-returns
read_sequence-returns t c =
    let parts = c.in_ok-element.parts in
    let element = c.in_ok-element.element in
    both_read value_type (map claim_tree) (read_type c.args.depth) (read_list (read_claim c.args.depth)) (λ s ts. given (listed (sequence_of s) (trees_of ts)))
    (left c.args.cursor.now) (left c.read_type.new.cursor) (left c.read_parts.new.cursor) c.read_type.result c.read_parts.result element parts
    c.read_type.ensures c.read_parts.ensures c.in_ok-element.ensures.parts.0 c.in_ok-element.ensures.parts.1
    ∙ ap (λ ts. Some (listed (sequence_of (value_type element)) ts, left c.read_parts.new.cursor)) (sym (same_trees (map claim_tree parts)))
    ∙ ap (λ r. Some (r, left c.read_parts.new.cursor)) (sym (claim_tree-SeqLit element parts))

pub add_parts-loop-preserved : goal.add_parts-loop-preserved
add_parts-loop-preserved t c =
    c.loop.invariant
    ∙ member_joined claim_tree (read_claim c.args.depth) (c.args.count - c.loop.counter) (c.args.count - (c.loop.counter + 1)) c.loop.parts c.push.new.self
    c.in_ok-part.part (left c.loop.cursor) (left c.read_claim.new.cursor) (omega arith) c.in_ok-part.ensures c.in_ok-push.ensures.ok
