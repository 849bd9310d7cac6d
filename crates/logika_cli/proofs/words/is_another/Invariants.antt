use Rattle.std.proofs.Common.{length, map}
use Rattle.std.specs.String.{string_bytes}
use Rattle.logika_cli.specs.Words.{IsAnother}
use Rattle.logika_cli.proofs.words.is_another.Given as goal

abbrev pub invariant-others : goal.invariant-others
invariant-others l = record {
  on : IsAnother l.fn.name (map string_bytes l.left) → IsAnother l.fn.name (map string_bytes l.fn.others);
  back : IsAnother l.fn.name (map string_bytes l.fn.others) → IsAnother l.fn.name (map string_bytes l.left);
}

abbrev pub decreases-others : goal.decreases-others
decreases-others l = length l.left
