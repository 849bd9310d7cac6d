use Rattle.std.proofs.Common.{map}
use Rattle.project_reading.specs.Texts.{text_seen}
use Rattle.project_loading.proofs.Texts.{only_faults, only_program}
use Rattle.project_loading.proofs.loading.load.Goals as goal

pub returns-clause-only : goal.returns-clause-only
returns-clause-only c = only_program (map text_seen c.args.texts.now) c.found.result c.found.ensures.typed c.found.ensures.faults

pub returns-clause-only_faults : goal.returns-clause-only_faults
returns-clause-only_faults c = only_faults (map text_seen c.args.texts.now) c.found.result c.found.ensures.typed c.found.ensures.faults
