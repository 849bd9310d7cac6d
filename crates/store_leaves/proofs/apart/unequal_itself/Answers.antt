use Rattle.std.proofs.Common.{◌≡◌, length, get_or, false, sym, ◌∙◌, below_more, arith}
use Rattle.term_sorts.specs.Types.{record_types, types_of}
use Rattle.term_store.specs.Store.{tree_at}
use Rattle.whole_closing.specs.Literals.{is_unequal_itself}
use Rattle.store_literals.proofs.Literals.{formed_at}
use Rattle.store_leaves.proofs.Alike.{any_none}
use Rattle.store_leaves.proofs.apart.unequal_itself.Goals as goal

pub returns : goal.returns
returns c =
    any_none (is_unequal_itself (record_types c.args.records.now) (types_of c.args.symbols.now)) (tree_at c.args.store.now) c.args.literals.now
    (λ place l. c.loop-place.invariant place (omega (arith, l)))

pub is_unequal_itself-requires-clause-formed : goal.is_unequal_itself-requires-clause-formed
is_unequal_itself-requires-clause-formed c = formed_at (length c.args.ids.now) c.args.literals.now c.loop-place.place c.requires.formed c.loop-place-test.true

pub loop-place-preserved : goal.loop-place-preserved
loop-place-preserved c = λ k l.
    below_more (λ j. is_unequal_itself (record_types c.args.records.now) (types_of c.args.symbols.now)
    (tree_at c.args.store.now (get_or c.args.literals.now j 0)) ≡ false)
    c.loop-place.place c.loop-place.invariant (sym c.is_unequal_itself.ensures ∙ c.if-is_unequal_itself.false) k l
