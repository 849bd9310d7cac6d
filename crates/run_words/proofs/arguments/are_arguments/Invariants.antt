use Rattle.std.proofs.Common.{length, map}
use Rattle.std.specs.String.{string_bytes}
use Rattle.run_words.proofs.ArgumentLaws.{AreArguments}
use Rattle.run_words.proofs.arguments.are_arguments.Given as goal

abbrev pub invariant-words : goal.invariant-words
invariant-words l = record {
  on : AreArguments (map string_bytes l.left) → AreArguments (map string_bytes l.fn.words);
  back : AreArguments (map string_bytes l.fn.words) → AreArguments (map string_bytes l.left);
}

abbrev pub decreases-words : goal.decreases-words
decreases-words l = length l.left
