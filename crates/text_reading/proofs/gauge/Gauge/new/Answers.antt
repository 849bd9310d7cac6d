use Rattle.std.proofs.Common.{refl}
use Rattle.text_reading.proofs.GaugeLaws.{HasCounted-none}
use Rattle.text_reading.proofs.gauge.Gauge.new.Goals as goal

pub returns-clause-counted : goal.returns-clause-counted
returns-clause-counted c = HasCounted-none _ refl refl refl
