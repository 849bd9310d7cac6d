use Rattle.std.proofs.Common.{sym, ◌∙◌, arith}
use Rattle.slang_values.specs.Tree.{parts}
use Rattle.term_trees.specs.Term.{tree}
use Rattle.proof_scopes.proofs.SymbolSets.{no_symbol, mentions_part, mentions_none, not_among}
use Rattle.proof_scopes.proofs.symbols.+mentions.Goals as goal

pub returns-then-mentions : goal.returns-then-mentions
returns-then-mentions t c =
    mentions_part c.args.symbols.now (tree c.args.term.now) c.loop-place.place (tree c.part.result.now)
    (no_symbol c.args.term.now c.shape.result c.shape.ensures c.in_default.not-Symbol) c.part.ensures.value (grind (arith, c.mentions.ensures))

pub loop-place-preserved : goal.loop-place-preserved
loop-place-preserved t c =
    not_among c.args.symbols.now (parts (tree c.args.term.now)) c.loop-place.place (tree c.part.result.now) c.part.ensures.value c.loop-place.invariant
    (grind (arith, c.mentions.ensures))

pub returns : goal.returns
returns t c =
    mentions_none c.args.symbols.now (tree c.args.term.now) c.loop-place.place
    (no_symbol c.args.term.now c.shape.result c.shape.ensures c.in_default.not-Symbol) (omega arith) c.loop-place.invariant
