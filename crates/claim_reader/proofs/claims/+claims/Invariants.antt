use Rattle.std.proofs.Common.{◌≡◌, ◌+◌, ◌-◌, ◌*◌, map}
use Rattle.key_rules.specs.Readers.{read_members}
use Rattle.key_rules.specs.Reading.{read_claim}
use Rattle.key_cursor.specs.Reads.{joined, left}
use Rattle.lk_claims.specs.Claim.{claim_tree}
use Rattle.claim_reader.proofs.claims.+claims.Given as goal

abbrev pub decreases-read_claim : goal.decreases-read_claim
decreases-read_claim l = 6 * l.depth

abbrev pub decreases-read_behind : goal.decreases-read_behind
decreases-read_behind l = 6 * l.depth + 4

abbrev pub decreases-read_one : goal.decreases-read_one
decreases-read_one l = 6 * l.depth + 1

abbrev pub decreases-read_field : goal.decreases-read_field
decreases-read_field l = 6 * l.depth + 1

abbrev pub decreases-read_two : goal.decreases-read_two
decreases-read_two l = 6 * l.depth + 1

abbrev pub decreases-read_update : goal.decreases-read_update
decreases-read_update l = 6 * l.depth + 1

abbrev pub decreases-read_quantified : goal.decreases-read_quantified
decreases-read_quantified l = 6 * l.depth + 1

abbrev pub decreases-read_sequence : goal.decreases-read_sequence
decreases-read_sequence l = 6 * l.depth + 3

abbrev pub decreases-read_record : goal.decreases-read_record
decreases-read_record l = 6 * l.depth + 3

abbrev pub decreases-read_parts : goal.decreases-read_parts
decreases-read_parts l = 6 * l.depth + 2

abbrev pub decreases-add_parts : goal.decreases-add_parts
decreases-add_parts l = 6 * l.depth + 1

abbrev pub invariant-add_parts-loop : goal.invariant-add_parts-loop
invariant-add_parts-loop l =
    joined (map claim_tree l.fn.parts) (read_members (read_claim l.depth) l.count) (left l.fn.cursor)
    ≡ joined (map claim_tree l.parts) (read_members (read_claim l.depth) (l.count - l.counter)) (left l.cursor)
