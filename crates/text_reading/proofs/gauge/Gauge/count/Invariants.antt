use Rattle.std.proofs.Common.{◌≡◌, List, ℕ, ◌++◌, take}
use Rattle.text_reading.specs.Gauge.{HasCounted}
use Rattle.text_reading.proofs.gauge.Gauge.count.Given as goal

abbrev pub invariant-loop-byte : goal.invariant-loop-byte
invariant-loop-byte l =
    (l.self.limits ≡ l.initial.self.limits) × ((text : List ℕ) → HasCounted l.initial.self text → HasCounted l.self (text ++ take l.byte-index l.piece))
