use Rattle.std.proofs.Common.{◌≡◌, map, take}
use Rattle.project_reports.specs.Projects.{in_order}
use Rattle.project_reading.specs.Texts.{text_of, text_seen}
use Rattle.project_reading.proofs.texts.in_order.Given as goal

abbrev pub invariant-loop-text : goal.invariant-loop-text
invariant-loop-text l = map text_of l.ordered.items ≡ in_order (map text_seen (take l.text-index l.texts))
