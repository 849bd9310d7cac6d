use Rattle.proof_scopes.proofs.SymbolSets.{gains_term}
use Rattle.proof_scopes.proofs.symbols.add_all_symbols.Goals as goal

pub loop-term-preserved : goal.loop-term-preserved
loop-term-preserved c =
    gains_term c.args.symbols.now c.loop-term.symbols c.add_symbols.new.symbols c.args.terms.now c.loop-term.term-index c.term-item.result
    c.loop-term-test.true c.term-item.is c.loop-term.invariant c.in_ok-add_symbols.ensures
