use Rattle.std.proofs.Common.{◌≡◌, false, arith, below_more}
use Rattle.closing.specs.Literals.{is_opposite}
use Rattle.term_sorts.specs.Types.{record_types, types_of}
use Rattle.store_literals.specs.Places.{literal_at}
use Rattle.store_literals.proofs.Literals.{none_opposite}
use Rattle.store_literals.proofs.finding.opposites.Goals as goal

pub loop-second-preserved : goal.loop-second-preserved
loop-second-preserved c =
    λ first second l m.
    below_more (λ j. is_opposite (record_types c.args.records.now) (types_of c.args.symbols.now) (literal_at c.args.store.now c.args.literals.now first) (literal_at c.args.store.now c.args.literals.now j) ≡ false) c.loop-second.second
    (λ j k. c.loop-second.invariant first j l k) (c.in-None.ensures first l) second m

pub returns : goal.returns
returns c =
    none_opposite (record_types c.args.records.now) (types_of c.args.symbols.now) c.args.store.now c.args.literals.now
    (λ first second l m. c.loop-second.invariant first second l (omega (arith, m)))
