use Rattle.std.proofs.Common.{length, ap, arith}
use Rattle.term_store.proofs.Stores.{Grows-itself, Grows-Grows}
use Rattle.store_atoms.specs.Views.{rows_at}
use Rattle.store_rows.proofs.Grown.{way-grows, system_done}
use Rattle.store_rows.proofs.Steps.{way-first, way-next, way-left, way-last, none-left}
use Rattle.store_rows.proofs.complete.complete.Goals as goal

pub atoms-init : goal.atoms-init
atoms-init c = record {
  in_step = c.requires.in_step;
  narrow = c.requires.narrow;
  way = way-first c.args.store.now c.args.system.now c.requires.settled c.requires.fresh;
  entries = c.requires.entries;
  grows = Grows-itself c.args.store.now;
}

pub atoms-preserved : goal.atoms-preserved
atoms-preserved c =
    let old = c.atoms.store in
    let now = c.add_rows_of.new.store in
    let first = rows_at c.args.store.now c.args.system.now.rows.items in
    let step = c.in_ok-add_rows_of.ensures.step in
    let way = way-grows old now c.in_ok-add_rows_of.ensures.grows c.atoms.system c.atoms.invariant.in_step first c.atoms.invariant.way in
    record {
      in_step = step.in_step;
      narrow = step.narrow;
      way = way-next now first c.atoms.system way c.add_rows_of.new.system step;
      entries = c.in_ok-add_rows_of.ensures.entries;
      grows = Grows-Grows c.args.store.now old now c.atoms.invariant.grows c.in_ok-add_rows_of.ensures.grows;
    }

pub atoms-smaller : goal.atoms-smaller
atoms-smaller c =
    let old = c.atoms.store in
    let now = c.add_rows_of.new.store in
    let first = rows_at c.args.store.now c.args.system.now.rows.items in
    let step = c.in_ok-add_rows_of.ensures.step in
    let grows = c.in_ok-add_rows_of.ensures.grows in
    let way = way-grows old now grows c.atoms.system c.atoms.invariant.in_step first c.atoms.invariant.way in
    let one = step.counted in
    let same = ap length (system_done old now grows c.atoms.system c.atoms.invariant.in_step) in
    let left = way-left now first c.atoms.system way c.add_rows_of.new.system step in
    omega (arith, one, same, left)

pub returns-clause-rows : goal.returns-clause-rows
returns-clause-rows c =
    way-last c.atoms.store (rows_at c.args.store.now c.args.system.now.rows.items) c.atoms.system c.atoms.invariant.way
    (none-left c.atoms.store c.atoms.system c.next.result c.next.ensures (λ place is. c.in_default.not-Some place is))
