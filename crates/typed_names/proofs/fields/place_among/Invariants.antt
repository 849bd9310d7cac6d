use Rattle.typed_names.proofs.Places.{IsLater}
use Rattle.typed_names.proofs.fields.place_among.Given as goal

abbrev pub invariant-loop-at : goal.invariant-loop-at
invariant-loop-at l = IsLater l.fields l.name l.at
