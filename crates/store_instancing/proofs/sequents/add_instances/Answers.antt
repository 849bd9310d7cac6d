use Rattle.std.proofs.Common.{subst}
use Rattle.instance_rules.specs.Instances.{instancing}
use Rattle.term_store.specs.Sequent.{sequent_at}
use Rattle.store_instancing.specs.declared.end.Instanced.{Instanced}
use Rattle.store_instancing.specs.Instanced.{IsInstancedAs}
use Rattle.store_instancing.proofs.sequents.add_instances.Goals as goal

pub returns-in-Added-clause-ok : goal.returns-in-Added-clause-ok
returns-in-Added-clause-ok c =
    let after = sequent_at c.instance_prepared.new.store c.instance_prepared.new.sequent in
    let before = sequent_at c.args.store.now c.args.sequent.now in
    subst (λ (end : Instanced). IsInstancedAs end after (instancing before)) c.in-Added.is c.in_ok-instance_prepared.ensures.instanced

pub returns-in-TooMany-clause-err : goal.returns-in-TooMany-clause-err
returns-in-TooMany-clause-err c =
    let after = sequent_at c.instance_prepared.new.store c.instance_prepared.new.sequent in
    let before = sequent_at c.args.store.now c.args.sequent.now in
    subst (λ (end : Instanced). IsInstancedAs end after (instancing before)) c.in-TooMany.is c.in_ok-instance_prepared.ensures.instanced

pub returns-in-TooLarge-clause-err : goal.returns-in-TooLarge-clause-err
returns-in-TooLarge-clause-err c =
    let after = sequent_at c.instance_prepared.new.store c.instance_prepared.new.sequent in
    let before = sequent_at c.args.store.now c.args.sequent.now in
    subst (λ (end : Instanced). IsInstancedAs end after (instancing before)) c.in-TooLarge.is c.in_ok-instance_prepared.ensures.instanced
