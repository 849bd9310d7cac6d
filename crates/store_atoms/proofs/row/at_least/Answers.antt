use Rattle.std.proofs.Common.{◌≡◌, ◌-ℤ◌, neg_ℤ, pos, negsuc, ℤ, to_z, of_z, subst, arith}
use Rattle.std.specs.Int.{w128}
use Rattle.std.proofs.lemmas.Int.{ints}
use Rattle.tree_forms.specs.Form.{scaled}
use Rattle.closing.specs.Rows.{at_most}
use Rattle.store_atoms.specs.Views.{IsRow}
use Rattle.store_atoms.proofs.row.at_least.Goals as goal

pub returns : goal.returns
returns c = λ store f h.
    let limit = c.args.limit in
    let l = c.requires.limit in
    let e : to_z w128 (of_z w128 (pos 0 -ℤ to_z w128 (of_z w128 limit))) ≡ neg_ℤ limit = omega (arith, ints, l) in
    subst (λ (z : ℤ). IsRow store c.at_most.result (at_most (scaled (negsuc 0) f) z)) e
    (c.at_most.ensures store (scaled (negsuc 0) f) (c.in_ok-opposite.ensures.form store f h))
