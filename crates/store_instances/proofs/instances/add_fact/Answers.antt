use Rattle.std.proofs.Common.{◌≡◌, ◌≤◌, ◌++◌, ◌∷◌, [], map, length, ap, sym, ◌∙◌, arith}
use Rattle.std.specs.List.{list_any}
use Rattle.std.proofs.Math.Dec.{eqb}
use Rattle.std.proofs.lemmas.List.{map_push}
use Rattle.term_store.specs.Store.{tree_at}
use Rattle.store_instances.proofs.Added.{found_in_facts, found_in_new, lacked, one_beyond}
use Rattle.store_instances.proofs.instances.add_fact.Goals as goal

pub returns-then-contains-clause-added : goal.returns-then-contains-clause-added
returns-then-contains-clause-added c =
    found_in_facts c.args.store.now c.args.facts.now c.args.new.now c.args.id c.len-count.ensures.is_store c.requires.facts c.requires.new c.requires.id (sym c.contains.ensures ∙ c.if-contains.true)

pub returns-then-contains-2-clause-added : goal.returns-then-contains-2-clause-added
returns-then-contains-2-clause-added c =
    found_in_new c.args.store.now c.args.facts.now c.args.new.now c.args.id c.len-count.ensures.is_store c.requires.facts c.requires.new c.requires.id
    (ap (list_any (λ k. eqb k c.args.id)) (sym c.as_slice.ensures) ∙ sym c.contains-2.ensures ∙ c.if-contains-2.true)

pub returns-then-len-ge-INSTANCE_LIMIT-clause-added : goal.returns-then-len-ge-INSTANCE_LIMIT-clause-added
returns-then-len-ge-INSTANCE_LIMIT-clause-added c =
    let is =
    lacked c.args.store.now c.args.facts.now c.args.new.now c.args.id c.len-count.ensures.is_store c.requires.facts c.requires.new c.requires.id (sym c.contains.ensures ∙ c.if-contains.false)
    (ap (list_any (λ k. eqb k c.args.id)) (sym c.as_slice.ensures) ∙ sym c.contains-2.ensures ∙ c.if-contains-2.false) in
    one_beyond c.args.store.now c.args.facts.now c.args.new.now c.args.id is (omega (arith, c.if-len-ge-INSTANCE_LIMIT.true, c.len.ensures))

pub returns-clause-added : goal.returns-clause-added
returns-clause-added c =
    let is =
    lacked c.args.store.now c.args.facts.now c.args.new.now c.args.id c.len-count.ensures.is_store c.requires.facts c.requires.new c.requires.id (sym c.contains.ensures ∙ c.if-contains.false)
    (ap (list_any (λ k. eqb k c.args.id)) (sym c.as_slice.ensures) ∙ sym c.contains-2.ensures ∙ c.if-contains-2.false) in
    ap (map (tree_at c.args.store.now)) c.in_ok-push.ensures.ok ∙ map_push (tree_at c.args.store.now) c.args.new.now c.args.id ∙ sym is
