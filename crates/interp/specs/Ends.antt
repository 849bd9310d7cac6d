-- What is told of a run that has stopped.
use Rattle.std.specs.Prelude.{Bool, true, false}
use Rattle.run_steps.specs.declared.ending.RunEnd.{RunEnd}
use Rattle.run_steps.specs.declared.ending.RunEnd.TheVariants as e
use Rattle.interp.specs.declared.turned.Turned.{Turned}
use Rattle.interp.specs.declared.turned.Turned.TheVariants as t

abbrev pub told_of : RunEnd → Turned
told_of (e.Fails kind node) = t.Fails kind node
told_of (e.Wide node) = t.Wide node
told_of (e.Visits node) = t.Visits node
told_of e.NoMemory = t.NoMemory

abbrev pub is_going : Turned → Bool
is_going t.Ended = false
is_going t.Going = true
is_going (t.Fails kind node) = false
is_going (t.Wide node) = false
is_going (t.Visits node) = false
is_going t.NoMemory = false
