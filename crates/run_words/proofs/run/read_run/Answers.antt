use Rattle.std.proofs.Common.{map}
use Rattle.std.specs.String.{string_bytes}
use Rattle.run_words.proofs.RunLaws.{no_front}
use Rattle.run_words.proofs.run.read_run.Goals as goal

pub returns-in-None : goal.returns-in-None
returns-in-None c = no_front (map string_bytes c.args.words.now) c.in-None.ensures
