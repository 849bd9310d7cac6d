use Rattle.std.proofs.Common.{◌+◌, ◌*◌, length}
use Rattle.token_cursor.specs.Gives.{ahead}
use Rattle.token_cursor.proofs.types.+types.Given as goal

abbrev pub decreases-type_name : goal.decreases-type_name
decreases-type_name l = 2 * length (ahead l.tokens.now)

abbrev pub decreases-bracketed_type : goal.decreases-bracketed_type
decreases-bracketed_type l = 2 * length (ahead l.tokens.now) + 1
