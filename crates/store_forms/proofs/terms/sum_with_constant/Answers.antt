use Rattle.std.proofs.Common.{ap, ◌∙◌}
use Rattle.std.specs.Int.{w128}
use Rattle.std.proofs.lemmas.Int.{to_z-of_z}
use Rattle.slang_values.specs.Tree.{literal}
use Rattle.slang_values.specs.declared.operators.Binary.{Binary}
use Rattle.term_store.specs.Store.{tree_at}
use Rattle.term_store.proofs.Stores.{Holds-within, tree_at-Holds, Grows-tree_at}
use Rattle.store_forms.proofs.Added.{binary_held}
use Rattle.store_forms.proofs.terms.sum_with_constant.Goals as goal

pub add_binary-requires-clause-right : goal.add_binary-requires-clause-right
add_binary-requires-clause-right c = Holds-within c.add_literal.new.store c.in_ok-constant.constant _ c.in_ok-constant.ensures.number

pub returns-clause-number : goal.returns-clause-number
returns-clause-number c =
    let mid = c.add_literal.new.store in
    let constant = c.in_ok-constant.constant in
    let is = tree_at-Holds mid constant _ c.in_ok-constant.ensures.number ∙ ap literal (to_z-of_z w128 c.args.constant c.ranges.constant) in
    binary_held c.add_binary.result mid c.add_binary.new.store Binary.Add c.args.term constant (tree_at c.args.store.now c.args.term) (literal c.args.constant)
    (Grows-tree_at c.args.store.now mid c.args.term c.add_literal.ensures.grows c.requires) is c.add_binary.ensures.number
