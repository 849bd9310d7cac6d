use Rattle.std.proofs.lemmas.Result.{IfOk-weaker}
use Rattle.instance_rules.proofs.Instancing.{instances_keep_validity}
use Rattle.term_store.specs.Sequent.{sequent_at}
use Rattle.store_proving.proofs.Closings.{valid-by_instances}
use Rattle.store_proving.proofs.proving.prove_ids.Goals as goal

pub prove_made-requires-clause-sorted : goal.prove_made-requires-clause-sorted
prove_made-requires-clause-sorted g c =
    let proves = instances_keep_validity (sequent_at c.args.store.now c.args.sequent.now) (sequent_at c.instances_of.new.store c.in-Ok.made)
    c.requires.sorted c.in-Ok.ensures.ok in
    proves.sorted

pub returns-in-Ok-clause-proofs : goal.returns-in-Ok-clause-proofs
returns-in-Ok-clause-proofs g c =
    IfOk-weaker c.prove_made.result _ _ (λ proved h. record { made = sequent_at c.instances_of.new.store c.in-Ok.made; is = c.in-Ok.ensures.ok; proofs = h })
    c.prove_made.ensures.proofs

pub returns-in-Ok-clause-valid : goal.returns-in-Ok-clause-valid
returns-in-Ok-clause-valid g c =
    valid-by_instances c.prove_made.result (sequent_at c.args.store.now c.args.sequent.now) (sequent_at c.instances_of.new.store c.in-Ok.made)
    c.requires.sorted c.in-Ok.ensures.ok c.prove_made.ensures.closed
