use Rattle.std.proofs.Common.{◌+◌, ◌≤◌, length}
use Rattle.lk_io.proofs.os_folder.read_pieces.Given as goal

abbrev pub invariant-pieces : goal.invariant-pieces
invariant-pieces g l = length l.out.items ≤ l.limit + 1
