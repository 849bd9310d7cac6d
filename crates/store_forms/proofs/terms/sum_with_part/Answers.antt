use Rattle.slang_values.specs.declared.operators.Binary.{Binary}
use Rattle.tree_forms.specs.Form.{part_term}
use Rattle.term_store.specs.Store.{tree_at}
use Rattle.term_store.proofs.Stores.{Holds-within, tree_at-Holds, Grows-tree_at}
use Rattle.store_forms.specs.Form.{part_at}
use Rattle.store_forms.proofs.Added.{binary_held}
use Rattle.store_forms.proofs.terms.sum_with_part.Goals as goal

pub add_binary-requires-clause-right : goal.add_binary-requires-clause-right
add_binary-requires-clause-right c = Holds-within c.part_term.new.store c.in_ok-term.term _ c.in_ok-term.ensures.number

pub returns-clause-number : goal.returns-clause-number
returns-clause-number c =
    let old = c.args.store.now in
    let mid = c.part_term.new.store in
    let term = c.in_ok-term.term in
    binary_held c.add_binary.result mid c.add_binary.new.store Binary.Add c.args.before term (tree_at old c.args.before) (part_term (part_at old c.args.part))
    (Grows-tree_at old mid c.args.before c.part_term.ensures.grows c.requires.before) (tree_at-Holds mid term _ c.in_ok-term.ensures.number) c.add_binary.ensures.number
