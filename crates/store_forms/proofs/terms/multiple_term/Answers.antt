use Rattle.std.proofs.Common.{ap, ◌∙◌}
use Rattle.std.specs.Int.{w128}
use Rattle.std.proofs.lemmas.Int.{to_z-of_z}
use Rattle.slang_values.specs.Tree.{literal}
use Rattle.slang_values.specs.declared.operators.Binary.{Binary}
use Rattle.term_store.specs.Store.{tree_at}
use Rattle.term_store.proofs.Stores.{Holds-within, tree_at-Holds, Grows-tree_at}
use Rattle.store_forms.proofs.Added.{binary_held}
use Rattle.store_forms.proofs.terms.multiple_term.Goals as goal

pub add_binary-requires-clause-left : goal.add_binary-requires-clause-left
add_binary-requires-clause-left c = Holds-within c.add_literal.new.store c.in_ok-times.times _ c.in_ok-times.ensures.number

pub returns-clause-number : goal.returns-clause-number
returns-clause-number c =
    let mid = c.add_literal.new.store in
    let times = c.in_ok-times.times in
    let is = tree_at-Holds mid times _ c.in_ok-times.ensures.number ∙ ap literal (to_z-of_z w128 c.args.times c.ranges.times) in
    binary_held c.add_binary.result mid c.add_binary.new.store Binary.Mul times c.args.atom (literal c.args.times) (tree_at c.args.store.now c.args.atom) is
    (Grows-tree_at c.args.store.now mid c.args.atom c.add_literal.ensures.grows c.requires) c.add_binary.ensures.number
