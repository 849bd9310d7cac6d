use Rattle.std.proofs.Common.{arith}
use Rattle.slang_values.specs.Tree.{parts}
use Rattle.term_trees.specs.Term.{tree}
use Rattle.proof_scopes.proofs.SymbolSets.{no_symbol, gains_more, gains_parts}
use Rattle.proof_scopes.proofs.symbols.+add.Goals as goal

pub loop-place-preserved : goal.loop-place-preserved
loop-place-preserved t c =
    gains_more c.args.symbols.now c.loop-place.symbols c.add_symbols.new.symbols (parts (tree c.args.term.now)) c.loop-place.place (tree c.part.result.now)
    c.part.ensures.value c.loop-place.invariant c.in_ok-add_symbols.ensures

pub returns : goal.returns
returns t c =
    gains_parts c.args.symbols.now c.loop-place.symbols (tree c.args.term.now) c.loop-place.place
    (no_symbol c.args.term.now c.shape.result c.shape.ensures c.in_default.not-Symbol) (omega arith) c.loop-place.invariant
