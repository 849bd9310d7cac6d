use Rattle.std.proofs.Common.{sym, ap, ◌∙◌, arith, get_or}
use Rattle.term_trees.specs.Term.{tree}
use Rattle.term_forms.proofs.Places.{PassedTo-more, JoinsAt-here, StandsAt-here}
use Rattle.term_forms.proofs.parts.place_of.Goals as goal

pub returns-in-Equal : goal.returns-in-Equal
returns-in-Equal c =
    let ps = c.args.parts.now in
    JoinsAt-here ps (tree c.args.atom.now) c.loop-at.at (get_or ps c.loop-at.at c.index-parts-at.result) (omega arith) (ap (get_or ps c.loop-at.at) c.index-parts-at.is) c.loop-at.invariant (sym c.in-Equal.is ∙ c.compare.ensures)

pub returns-in-Greater : goal.returns-in-Greater
returns-in-Greater c =
    let ps = c.args.parts.now in
    StandsAt-here ps (tree c.args.atom.now) c.loop-at.at (get_or ps c.loop-at.at c.index-parts-at.result) (omega arith) (ap (get_or ps c.loop-at.at) c.index-parts-at.is) c.loop-at.invariant (sym c.in-Greater.is ∙ c.compare.ensures)

pub loop-at-preserved : goal.loop-at-preserved
loop-at-preserved c =
    let ps = c.args.parts.now in
    PassedTo-more ps (tree c.args.atom.now) c.loop-at.at (get_or ps c.loop-at.at c.index-parts-at.result) (omega arith) (ap (get_or ps c.loop-at.at) c.index-parts-at.is) c.loop-at.invariant (sym c.in-Less.is ∙ c.compare.ensures)
