use Rattle.std.proofs.Common.{length, map}
use Rattle.std.specs.String.{string_bytes}
use Rattle.logika_cli.specs.Words.{AreFiles}
use Rattle.logika_cli.proofs.words.are_files.Given as goal

abbrev pub invariant-words : goal.invariant-words
invariant-words l = record {
  on : AreFiles (map string_bytes l.left) → AreFiles (map string_bytes l.fn.words);
  back : AreFiles (map string_bytes l.fn.words) → AreFiles (map string_bytes l.left);
}

abbrev pub decreases-words : goal.decreases-words
decreases-words l = length l.left
