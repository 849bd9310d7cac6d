use Rattle.std.proofs.Common.{◌≤ℤ◌, pos, SFits, to_z, of_z, arith, rules}
use Rattle.std.specs.Int.{w128}
use Rattle.std.proofs.lemmas.Int.{ints, to_z-of_z}
use Rattle.node_parts.proofs.Placed.{shape-tree_at}
use Rattle.store_rows.proofs.Sides.{narrow_parts}
use Rattle.store_rows.proofs.known.known_of_quotient.Goals as goal

pub returns-then-c-ge1-clause-narrow : goal.returns-then-c-ge1-clause-narrow
returns-then-c-ge1-clause-narrow c = λ h.
    let store = c.args.store.now in
    let z = c.in-Literal.c in
    let f : SFits w128 z = search rules in
    let l : pos 1 ≤ℤ to_z w128 (of_z w128 z) = omega (arith, ints) in
    let is = shape-tree_at store c.args.divisor c.view.result.now _ c.view.ensures.placed c.in-Literal.ensures in
    narrow_parts store c.args.a c.args.divisor z (to_z w128 (of_z w128 z)) is (to_z-of_z w128 z f) l h
