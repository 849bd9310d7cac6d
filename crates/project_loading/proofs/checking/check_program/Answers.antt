use Rattle.std.proofs.Common.{map}
use Rattle.std.proofs.lemmas.Result.{on_ok_weaker}
use Rattle.project_files.specs.Files.{file_seen}
use Rattle.project_loading.proofs.Files.{faultless_well, only_faults, only_program}
use Rattle.project_loading.proofs.checking.check_program.Goals as goal

pub returns-clause-well : goal.returns-clause-well
returns-clause-well c = on_ok_weaker c.found_program.result (faultless_well (map file_seen c.args.files.now)) c.found_program.ensures.faultless

pub returns-clause-only : goal.returns-clause-only
returns-clause-only c = only_program (map file_seen c.args.files.now) c.found_program.result c.found_program.ensures.faults

pub returns-clause-only_faults : goal.returns-clause-only_faults
returns-clause-only_faults c =
    only_faults (map file_seen c.args.files.now) c.found_program.result c.found_program.ensures.faultless c.found_program.ensures.faults
