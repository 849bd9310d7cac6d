use Rattle.std.proofs.Common.{length, map}
use Rattle.std.specs.String.{string_bytes}
use Rattle.lk_io.specs.Run.{run}
use Rattle.project_reading.specs.Texts.{text_seen}
use Rattle.text_reading.specs.Files.{HasTexts}
use Rattle.text_reading.proofs.folder_texts.read_files.Given as goal

abbrev pub invariant-files : goal.invariant-files
invariant-files g l =
    HasTexts l.fn.limits (run (g.F.Folder.state l.initial.folder) (g.F.Folder.state l.folder)) (map string_bytes l.fn.names)
    (map text_seen l.texts) (map string_bytes l.left)

abbrev pub decreases-files : goal.decreases-files
decreases-files g l = length l.left
