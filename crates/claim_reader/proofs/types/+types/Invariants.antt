use Rattle.std.proofs.Common.{◌+◌, ◌*◌}
use Rattle.claim_reader.proofs.types.+types.Given as goal

abbrev pub decreases-read_type : goal.decreases-read_type
decreases-read_type l = 2 * l.depth

abbrev pub decreases-read_type_behind : goal.decreases-read_type_behind
decreases-read_type_behind l = 2 * l.depth + 1
