use Rattle.std.proofs.Common.{◌≡◌, ◌<◌, map, length, get_or, false, true, ap, sym, subst, ◌∙◌, arith}
use Rattle.std.specs.List.{flat_map}
use Rattle.instance_rules.specs.Instances.{instances_of, instance_limit}
use Rattle.term_store.specs.Store.{tree_at}
use Rattle.term_store.proofs.Measures.{at_place}
use Rattle.term_store.proofs.Stores.{Grows-Grows}
use Rattle.store_instances.specs.Added.{with_lacking}
use Rattle.store_instances.proofs.Added.{fact_step, step_fits, step_too_many, listed_pieces, all_pieces}
use Rattle.store_new_facts.proofs.adding.add_all_instances.Goals as goal

pub returns-then-not-branch-clause-added : goal.returns-then-not-branch-clause-added
returns-then-not-branch-clause-added c =
    let old = c.args.store.now in
    let mid = c.loop-place.store in
    let new = c.add_instances_of.new.store in
    let fact = get_or c.args.facts.now c.loop-place.place 0 in
    let terms = map (tree_at old) c.args.terms.now in
    let facts = map (tree_at old) c.args.facts.now in
    let first = map (tree_at old) c.args.new.now in
    subst (λ ts. instance_limit < length (with_lacking facts first ts)) (listed_pieces (tree_at old) (instances_of terms) c.args.facts.now)
    (step_too_many facts first (map (tree_at mid) c.loop-place.new) (map (tree_at new) c.add_instances_of.new.new) (λ k. instances_of terms (tree_at old k)) c.args.facts.now c.loop-place.place 0 c.in_ok-add_instances_of.field-0 c.loop-place-test.true
    c.loop-place.invariant.0 (fact_step old mid new c.args.terms.now c.args.facts.now c.loop-place.new c.add_instances_of.new.new fact c.in_ok-add_instances_of.field-0 c.loop-place.invariant.3 c.requires.terms c.requires.facts
    (at_place (λ k. k < length old) c.args.facts.now c.loop-place.place 0 c.requires.facts c.loop-place-test.true) c.in_ok-add_instances_of.ensures.added) c.if-not-branch.true)

pub loop-place-preserved : goal.loop-place-preserved
loop-place-preserved c =
    let old = c.args.store.now in
    let mid = c.loop-place.store in
    let new = c.add_instances_of.new.store in
    let fact = get_or c.args.facts.now c.loop-place.place 0 in
    let terms = map (tree_at old) c.args.terms.now in
    let facts = map (tree_at old) c.args.facts.now in
    let first = map (tree_at old) c.args.new.now in
    let done = c.in_ok-add_instances_of.ensures in (
      step_fits facts first (map (tree_at mid) c.loop-place.new) (map (tree_at new) c.add_instances_of.new.new) (λ k. instances_of terms (tree_at old k)) c.args.facts.now c.loop-place.place 0 c.in_ok-add_instances_of.field-0 c.loop-place-test.true
          c.loop-place.invariant.0 (fact_step old mid new c.args.terms.now c.args.facts.now c.loop-place.new c.add_instances_of.new.new fact c.in_ok-add_instances_of.field-0 c.loop-place.invariant.3 c.requires.terms c.requires.facts
          (at_place (λ k. k < length old) c.args.facts.now c.loop-place.place 0 c.requires.facts c.loop-place-test.true) done.added) c.if-not-branch.false,
      done.new,
      done.few,
      Grows-Grows old mid new c.loop-place.invariant.3 done.grows,
      done.tables,
    )

pub returns-clause-added : goal.returns-clause-added
returns-clause-added c =
    let old = c.args.store.now in
    let terms = map (tree_at old) c.args.terms.now in
    c.loop-place.invariant.0
    ∙ ap (with_lacking (map (tree_at old) c.args.facts.now) (map (tree_at old) c.args.new.now))
    (all_pieces (λ k. instances_of terms (tree_at old k)) c.args.facts.now c.loop-place.place c.loop-place-test.false ∙ listed_pieces (tree_at old) (instances_of terms) c.args.facts.now)
