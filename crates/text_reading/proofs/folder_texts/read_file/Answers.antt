use Rattle.lk_io.specs.Run.{run}
use Rattle.text_reading.proofs.FileLaws.{ReadsFile-found}
use Rattle.text_reading.proofs.folder_texts.read_file.Goals as goal

pub returns-in-Ok-File : goal.returns-in-Ok-File
returns-in-Ok-File g c =
    ReadsFile-found c.args.limits (run (g.F.Folder.state c.args.folder.now) (g.F.Folder.state c.read.new.self)) c.args.name.now c.read.new.out.items
    c.text_within.result (rw c.in-Ok-File.field-0-is at c.in-Ok-File.ensures) c.text_within.ensures
