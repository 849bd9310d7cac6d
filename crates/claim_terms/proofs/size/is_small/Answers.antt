use Rattle.std.proofs.Common.{◌∙◌}
use Rattle.term_store.specs.Store.{tree_at}
use Rattle.claim_terms.proofs.Sizes.{small_by_measure}
use Rattle.claim_terms.proofs.size.is_small.Goals as goal

pub returns : goal.returns
returns c = c.is_within.ensures ∙ small_by_measure (tree_at c.args.store.now c.args.id) c.measure.result c.measure.ensures
