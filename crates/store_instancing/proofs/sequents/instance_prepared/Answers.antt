use Rattle.std.proofs.Common.{IfOk, ap, subst, ◌∙◌}
use Rattle.validity.specs.Validity.{SequentTree}
use Rattle.instance_rules.specs.Instances.{new_facts, with_conjuncts, with_new_facts}
use Rattle.term_store.specs.Sequent.{sequent_at}
use Rattle.term_store.proofs.Stores.{Grows-Grows}
use Rattle.store_instancing.specs.Instanced.{IsInstancedAs}
use Rattle.store_instancing.proofs.sequents.instance_prepared.Goals as goal

pub returns-clause-instanced : goal.returns-clause-instanced
returns-clause-instanced c =
    let after = sequent_at c.add_new_facts.new.store c.add_new_facts.new.sequent in
    subst (λ (s : SequentTree). IfOk c.add_new_facts.result (λ end. IsInstancedAs end after (with_new_facts s (new_facts s)))) (c.in_ok-take_facts_apart.ensures.apart ∙ ap with_conjuncts c.in_ok-open.ensures.opened)
    c.add_new_facts.ensures.instanced

pub returns-clause-grows : goal.returns-clause-grows
returns-clause-grows c = Grows-Grows c.args.store.now c.open.new.store c.add_new_facts.new.store c.open.ensures.grows c.add_new_facts.ensures.grows
