use Rattle.project_reading.proofs.Progress.{none_read}
use Rattle.project_reading.proofs.read.read_files.Goals as goal

pub read_in_order-requires : goal.read_in_order-requires
read_in_order-requires c = none_read c.new-files.result c.new-faults.result c.new-files.ensures c.new-faults.ensures
