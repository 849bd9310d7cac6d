use Rattle.std.specs.Cmp.{booleans_Decides}
use Rattle.std.proofs.lemmas.Slice.Eq.{slice_eq-Decides}
use Rattle.record_parts.proofs.chains.same.Goals as goal

pub returns : goal.returns
returns c =
    let told = slice_eq-Decides booleans_Decides c.args.a.now c.args.b.now c.eq.result c.eq.ensures in
    (told.0, told.1)
