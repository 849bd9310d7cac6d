use Rattle.std.proofs.Common.{◌^◌, ◌*ℤ◌, lit<}
use Rattle.std.specs.Int.{w128}
use Rattle.std.proofs.lemmas.Int.{fits_signed_mul, to_z-of_z}
use Rattle.store_forms.proofs.numbers.product.Goals as goal

pub returns : goal.returns
returns c =
    let a = c.args.a in
    let b = c.args.b in
    rw (to_z-of_z w128 a c.ranges.a, to_z-of_z w128 b c.ranges.b)
    (to_z-of_z w128 (a *ℤ b) (fits_signed_mul w128 a b (2 ^ 60) (2 ^ 60) c.requires.first c.requires.second (lit< tt)))
