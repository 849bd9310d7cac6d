use Rattle.std.proofs.Common.{◌≡◌, ◌-ℤ◌, ℤ, pos, to_z, of_z, subst, arith}
use Rattle.std.specs.Int.{w128}
use Rattle.std.proofs.lemmas.Int.{ints, to_z-of_z}
use Rattle.term_store.specs.Store.{tree_at}
use Rattle.store_forms.specs.Form.{IsForm}
use Rattle.store_forms.proofs.Atoms.{small_number}
use Rattle.closing.specs.Rows.{at_most, at_least, rest_form}
use Rattle.store_atoms.specs.Views.{IsRow}
use Rattle.store_rows.proofs.Tables.{two_more}
use Rattle.store_rows.proofs.known.push_rows_of_quotient.Goals as goal

pub at_least-requires-clause-limit : goal.at_least-requires-clause-limit
at_least-requires-clause-limit c =
    let l = small_number c.args.c c.requires.divisor in
    let p = c.requires.positive in
    omega (arith, ints, l, p)

pub at_most-requires-clause-limit : goal.at_most-requires-clause-limit
at_most-requires-clause-limit c =
    let l = small_number c.args.c c.requires.divisor in
    let p = c.requires.positive in
    omega (arith, ints, l, p)

pub returns : goal.returns
returns c =
    let store = c.args.store.now in
    let d = c.args.c in
    let l = small_number d c.requires.divisor in
    let a = tree_at store c.args.a in
    let t = tree_at store c.args.quotient in
    let rest = rest_form a d t in
    let low : to_z w128 (of_z w128 (pos 1 -ℤ to_z w128 (of_z w128 d))) ≡ pos 1 -ℤ d = omega (arith, ints, l) in
    let high : to_z w128 (of_z w128 (to_z w128 (of_z w128 d) -ℤ pos 1)) ≡ d -ℤ pos 1 = omega (arith, ints, l) in
    let form = subst (λ (z : ℤ). IsForm store c.in_ok-rest.rest (rest_form a z t)) (to_z-of_z w128 d c.ranges.c) c.in_ok-rest.ensures.form in
    two_more store c.args.rows.now.items c.push.new.self.items c.push-2.new.self.items c.in_ok-low.low c.at_most.result
    (at_least rest (pos 1 -ℤ d)) (at_most rest (d -ℤ pos 1)) c.requires.within c.in_ok-push.ensures.items c.in_ok-push-2.ensures.items
    (subst (λ (z : ℤ). IsRow store c.in_ok-low.low (at_least rest z)) low (c.in_ok-low.ensures store rest form))
    (subst (λ (z : ℤ). IsRow store c.at_most.result (at_most rest z)) high (c.at_most.ensures store rest form))
