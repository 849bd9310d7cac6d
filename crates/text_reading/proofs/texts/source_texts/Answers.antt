use Rattle.std.proofs.Common.{sym, subst}
use Rattle.lk_io.specs.Run.{run}
use Rattle.text_reading.proofs.TextLaws.{TextsAreRead-source, TextsEndAs-source, misses-source}
use Rattle.text_reading.proofs.texts.source_texts.Goals as goal

pub returns-in-Ok-source_text-clause-reads : goal.returns-in-Ok-source_text-clause-reads
returns-in-Ok-source_text-clause-reads g c =
    λ folder. TextsAreRead-source c.args.limits (run (g.S.Source.state c.args.source.now) (g.S.Source.state c.read_text.new.source)) folder
    c.in-Ok-source_text.texts c.in-Ok.bytes.items c.in-Ok.ensures c.in-Ok-source_text.ensures

pub returns-in-Err-clause-reads : goal.returns-in-Err-clause-reads
returns-in-Err-clause-reads g c =
    λ folder. rw c.source_end.ensures
    (TextsEndAs-source c.args.limits (run (g.S.Source.state c.args.source.now) (g.S.Source.state c.read_text.new.source)) folder
    c.in-Err.end c.in-Err.ensures)
