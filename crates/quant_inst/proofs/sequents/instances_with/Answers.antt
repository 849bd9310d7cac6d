use Rattle.std.proofs.Common.{◌≡◌, ◌+◌, ◌≤◌, ◌^◌, length, sym, subst}
use Rattle.slang_values.specs.Measure.{node_count}
use Rattle.instance_rules.specs.Instances.{instancing, instanced}
use Rattle.term_store.specs.declared.sequent.IdSequent.{IdSequent}
use Rattle.term_store.specs.Sequent.{sequent_at, IsSequentWithin}
use Rattle.term_store.specs.Store.{tree_at}
use Rattle.store_instancing.specs.Instanced.{IsEndOf}
use Rattle.quant_inst.proofs.Copies.{same_sequent}
use Rattle.quant_inst.proofs.sequents.instances_with.Goals as goal

pub add_instances-requires-clause-within : goal.add_instances-requires-clause-within
add_instances-requires-clause-within c =
    let e = same_sequent c.in_ok-copy.copy c.args.sequent.now c.in_ok-copy.ensures.sorts c.in_ok-copy.ensures.records c.in_ok-copy.ensures.facts c.in_ok-copy.ensures.goal in
    subst (λ (s : IdSequent). IsSequentWithin c.args.store.now s) (sym e) c.requires.within

pub add_instances-requires-clause-room : goal.add_instances-requires-clause-room
add_instances-requires-clause-room c =
    let e = same_sequent c.in_ok-copy.copy c.args.sequent.now c.in_ok-copy.ensures.sorts c.in_ok-copy.ensures.records c.in_ok-copy.ensures.facts c.in_ok-copy.ensures.goal in
    subst (λ (s : IdSequent). length s.sorts + node_count (tree_at c.args.store.now s.goal) ≤ 2 ^ 32) (sym e) c.requires.room

pub returns-in-Ok-clause-ok : goal.returns-in-Ok-clause-ok
returns-in-Ok-clause-ok c =
    let e = same_sequent c.in_ok-copy.copy c.args.sequent.now c.in_ok-copy.ensures.sorts c.in_ok-copy.ensures.records c.in_ok-copy.ensures.facts c.in_ok-copy.ensures.goal in
    subst (λ (s : IdSequent). instancing (sequent_at c.args.store.now s) ≡ instanced (sequent_at c.add_instances.new.store c.add_instances.new.sequent)) e c.in-Ok.ensures.ok

pub returns-in-Err-clause-err : goal.returns-in-Err-clause-err
returns-in-Err-clause-err c =
    let e = same_sequent c.in_ok-copy.copy c.args.sequent.now c.in_ok-copy.ensures.sorts c.in_ok-copy.ensures.records c.in_ok-copy.ensures.facts c.in_ok-copy.ensures.goal in
    subst (λ (s : IdSequent). IsEndOf c.in-Err.end (instancing (sequent_at c.args.store.now s))) e c.in-Err.ensures.err
