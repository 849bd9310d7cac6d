use Rattle.std.proofs.Common.{sym, ap, subst, arith, length, ◌<◌, ◌≡◌}
use Rattle.slang_values.specs.Value.{truth_type}
use Rattle.slang_values.specs.Typing.{IsTyped}
use Rattle.read_rules.specs.Reduced.{reduced}
use Rattle.read_rules.proofs.ReducedValues.{typed_reduced}
use Rattle.case_rules.specs.Cases.{alternatives}
use Rattle.term_sorts.specs.Types.{record_types, types_of}
use Rattle.term_store.specs.Store.{tree_at}
use Rattle.term_store.proofs.Stores.{Grows-Holds, Holds-within, tree_at-Holds}
use Rattle.store_reads.specs.Marks.{AreMarked}
use Rattle.store_reads.proofs.Places.{AreMarked-grows}
use Rattle.store_alternatives.specs.Numbers.{AreFoundAt}
use Rattle.store_cases.proofs.splitting.take_apart.Goals as goal

pub mark_all-requires : goal.mark_all-requires
mark_all-requires c = AreMarked-grows c.args.store.now c.reduce.new.store _ c.in_ok-id.ensures.grows c.requires.marked

pub alternatives-requires-clause-within : goal.alternatives-requires-clause-within
alternatives-requires-clause-within c =
    let mid = c.reduce.new.store in
    let within : c.in_ok-id.id < length mid = Holds-within mid c.in_ok-id.id _ c.in_ok-id.ensures.number in
    let all : length c.mark_all.new.marks ≡ length mid = c.in_ok-mark_all.ensures.all in
    let same : length c.as_slice-2.result.now ≡ length c.mark_all.new.marks = ap length c.as_slice-2.ensures in
    omega arith

pub alternatives-requires-clause-marked : goal.alternatives-requires-clause-marked
alternatives-requires-clause-marked c = subst (AreMarked c.reduce.new.store) (sym c.as_slice-2.ensures) c.in_ok-mark_all.ensures.marked

pub alternatives-requires-clause-typed : goal.alternatives-requires-clause-typed
alternatives-requires-clause-typed c =
    let t = tree_at c.args.store.now c.args.id in
    subst (λ u. IsTyped (record_types c.args.sequent.now.records) (types_of c.args.sequent.now.sorts) u truth_type) (sym (tree_at-Holds c.reduce.new.store c.in_ok-id.id (reduced t) c.in_ok-id.ensures.number)) (typed_reduced (record_types c.args.sequent.now.records) (types_of c.args.sequent.now.sorts) t truth_type c.requires.typed)

pub returns-clause-apart : goal.returns-clause-apart
returns-clause-apart c =
    let t = tree_at c.args.store.now c.args.id in
    let mid = c.reduce.new.store in
    let new = c.alternatives.new.store in
    let held = c.in_ok-id.ensures.number in
    record {
      id = Grows-Holds mid new c.in_ok-id.id (reduced t) c.in_ok-alternatives.ensures.grows held;
      alternatives = subst (λ u. AreFoundAt new c.in_ok-alternatives.alternatives (alternatives (record_types c.args.sequent.now.records) (types_of c.args.sequent.now.sorts) u)) (tree_at-Holds mid c.in_ok-id.id (reduced t) held) c.in_ok-alternatives.ensures.numbers;
    }

pub returns-clause-marked : goal.returns-clause-marked
returns-clause-marked c = AreMarked-grows c.reduce.new.store c.alternatives.new.store _ c.in_ok-alternatives.ensures.grows c.in_ok-mark_all.ensures.marked

pub returns-in_err-id-clause-marked : goal.returns-in_err-id-clause-marked
returns-in_err-id-clause-marked c = AreMarked-grows c.args.store.now c.reduce.new.store _ c.in_err-id.ensures.grows c.requires.marked

pub returns-in_err-alternatives-clause-marked : goal.returns-in_err-alternatives-clause-marked
returns-in_err-alternatives-clause-marked c = AreMarked-grows c.reduce.new.store c.alternatives.new.store _ c.in_err-alternatives.ensures.grows c.in_ok-mark_all.ensures.marked
