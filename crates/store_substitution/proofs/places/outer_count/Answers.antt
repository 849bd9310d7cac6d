use Rattle.std.proofs.Common.{[], ap, sym, ◌∙◌}
use Rattle.term_nodes.specs.Node.{tree_of, shape_tree}
use Rattle.store_substitution.specs.Levels.{outer_count}
use Rattle.store_substitution.proofs.Replaced.{count_listed}
use Rattle.store_substitution.proofs.places.outer_count.Goals as goal

pub returns-in-Sequence : goal.returns-in-Sequence
returns-in-Sequence c = sym (ap (λ s. outer_count (shape_tree [] s)) c.in-Sequence.is ∙ count_listed (tree_of []) c.in-Sequence.parts.now)

pub returns-in-Record : goal.returns-in-Record
returns-in-Record c = sym (ap (λ s. outer_count (shape_tree [] s)) c.in-Record.is ∙ count_listed (tree_of []) c.in-Record.parts.now)
