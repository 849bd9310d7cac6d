use Rattle.std.proofs.Common.{◌≡◌, ◌++◌, take}
use Rattle.std.specs.List.{flat_map}
use Rattle.verdicts.specs.Texts.{fault_text}
use Rattle.run_command.proofs.command.add_faults.Given as goal

abbrev pub invariant-loop-fault : goal.invariant-loop-fault
invariant-loop-fault l = l.text.items ≡ l.fn.text.items ++ flat_map fault_text (take l.fault-index l.faults)
