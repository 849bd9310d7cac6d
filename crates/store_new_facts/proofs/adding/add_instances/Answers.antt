use Rattle.std.proofs.Common.{◌≡◌, ◌<◌, [], ◌∷◌, map, length, get_or, false, true, ap, sym, subst, ◌∙◌, arith}
use Rattle.std.specs.List.{flat_map}
use Rattle.instance_rules.specs.Instances.{instance, instance_limit}
use Rattle.term_store.specs.Store.{tree_at}
use Rattle.term_store.proofs.Measures.{at_place}
use Rattle.term_store.proofs.Stores.{Grows-Grows, Holds-within}
use Rattle.store_instances.specs.Added.{with_lacking}
use Rattle.store_instances.proofs.Added.{instance_piece, instance_step, step_fits, step_too_many, single_pieces, all_pieces}
use Rattle.store_new_facts.proofs.adding.add_instances.Goals as goal

pub add_fact-requires-clause-id : goal.add_fact-requires-clause-id
add_fact-requires-clause-id c = Holds-within c.instance.new.store c.in_ok-id.id _ c.in_ok-id.ensures.number

pub returns-then-not-branch-clause-added : goal.returns-then-not-branch-clause-added
returns-then-not-branch-clause-added c =
    let old = c.args.store.now in
    let mid = c.loop-place.store in
    let new = c.instance.new.store in
    let r = c.args.range in
    let by = get_or c.args.terms.now c.loop-place.place 0 in
    let facts = map (tree_at old) c.args.facts.now in
    let first = map (tree_at old) c.args.new.now in
    let piece = instance_piece old r c.requires.low c.requires.high c.requires.body in
    subst (λ ts. instance_limit < length (with_lacking facts first ts)) (single_pieces (tree_at old) (instance (tree_at old r.low) (tree_at old r.high) (tree_at old r.body)) c.args.terms.now)
    (step_too_many facts first (map (tree_at mid) c.loop-place.new) (map (tree_at new) c.add_fact.new.new) piece c.args.terms.now c.loop-place.place 0 c.in_ok-add_fact.field-0 c.loop-place-test.true c.loop-place.invariant.0
    (instance_step old r c.requires.low c.requires.high c.requires.body mid new c.args.facts.now c.loop-place.new c.add_fact.new.new by c.in_ok-id.id c.in_ok-add_fact.field-0 c.loop-place.invariant.3 c.in_ok-id.ensures.grows c.requires.facts
    c.loop-place.invariant.1 (at_place (λ k. k < length old) c.args.terms.now c.loop-place.place 0 c.requires.terms c.loop-place-test.true) c.in_ok-id.ensures.number c.in_ok-add_fact.ensures.added) c.if-not-branch.true)

pub loop-place-preserved : goal.loop-place-preserved
loop-place-preserved c =
    let old = c.args.store.now in
    let mid = c.loop-place.store in
    let new = c.instance.new.store in
    let r = c.args.range in
    let by = get_or c.args.terms.now c.loop-place.place 0 in
    let facts = map (tree_at old) c.args.facts.now in
    let first = map (tree_at old) c.args.new.now in
    let piece = instance_piece old r c.requires.low c.requires.high c.requires.body in (
      step_fits facts first (map (tree_at mid) c.loop-place.new) (map (tree_at new) c.add_fact.new.new) piece c.args.terms.now c.loop-place.place 0 c.in_ok-add_fact.field-0 c.loop-place-test.true c.loop-place.invariant.0
          (instance_step old r c.requires.low c.requires.high c.requires.body mid new c.args.facts.now c.loop-place.new c.add_fact.new.new by c.in_ok-id.id c.in_ok-add_fact.field-0 c.loop-place.invariant.3 c.in_ok-id.ensures.grows
          c.requires.facts c.loop-place.invariant.1 (at_place (λ k. k < length old) c.args.terms.now c.loop-place.place 0 c.requires.terms c.loop-place-test.true) c.in_ok-id.ensures.number c.in_ok-add_fact.ensures.added) c.if-not-branch.false,
      c.in_ok-add_fact.ensures.new,
      c.in_ok-add_fact.ensures.few,
      Grows-Grows old mid new c.loop-place.invariant.3 c.in_ok-id.ensures.grows,
      c.in_ok-id.ensures.tables,
    )

pub returns-clause-added : goal.returns-clause-added
returns-clause-added c =
    let old = c.args.store.now in
    let r = c.args.range in
    let facts = map (tree_at old) c.args.facts.now in
    let first = map (tree_at old) c.args.new.now in
    let piece = instance_piece old r c.requires.low c.requires.high c.requires.body in
    c.loop-place.invariant.0 ∙ ap (with_lacking facts first) (all_pieces piece c.args.terms.now c.loop-place.place c.loop-place-test.false ∙ single_pieces (tree_at old) (instance (tree_at old r.low) (tree_at old r.high) (tree_at old r.body)) c.args.terms.now)
