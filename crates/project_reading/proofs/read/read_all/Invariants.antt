use Rattle.std.proofs.Common.{map, take}
use Rattle.project_reading.specs.Texts.{HasRead, text_of}
use Rattle.project_reading.proofs.read.read_all.Given as goal

abbrev pub invariant-texts : goal.invariant-texts
invariant-texts l = HasRead (map text_of (take l.text-index l.texts)) l.files l.faults
