use Rattle.std.proofs.Common.{◌<◌, length, ap, ◌∙◌}
use Rattle.std.specs.Int.{w128}
use Rattle.std.proofs.lemmas.Int.{to_z-of_z}
use Rattle.slang_values.specs.Tree.{literal}
use Rattle.slang_values.specs.declared.operators.Binary.{Binary}
use Rattle.tree_forms.specs.Form.{form_term}
use Rattle.term_store.proofs.Stores.{Holds-within, tree_at-Holds, Grows-tree_at}
use Rattle.store_forms.specs.Form.{form_at}
use Rattle.store_forms.proofs.Added.{binary_held, within_grown}
use Rattle.store_forms.proofs.operators.quotient_term.Goals as goal

pub add_binary-requires-clause-left : goal.add_binary-requires-clause-left
add_binary-requires-clause-left c =
    within_grown c.form_term.new.store c.add_literal.new.store c.in_ok-dividend.dividend c.add_literal.ensures.grows (Holds-within c.form_term.new.store c.in_ok-dividend.dividend _ c.in_ok-dividend.ensures.number)

pub add_binary-requires-clause-right : goal.add_binary-requires-clause-right
add_binary-requires-clause-right c = Holds-within c.add_literal.new.store c.in_ok-divisor.divisor _ c.in_ok-divisor.ensures.number

pub returns-clause-number : goal.returns-clause-number
returns-clause-number c =
    let first = c.form_term.new.store in
    let mid = c.add_literal.new.store in
    let a = c.in_ok-dividend.dividend in
    let b = c.in_ok-divisor.divisor in
    let there : a < length first = Holds-within first a _ c.in_ok-dividend.ensures.number in
    let left = Grows-tree_at first mid a c.add_literal.ensures.grows there ∙ tree_at-Holds first a _ c.in_ok-dividend.ensures.number in
    let right = tree_at-Holds mid b _ c.in_ok-divisor.ensures.number ∙ ap literal (to_z-of_z w128 c.args.divisor c.ranges.divisor) in
    binary_held c.add_binary.result mid c.add_binary.new.store Binary.Div a b (form_term (form_at c.args.store.now c.args.form.now)) (literal c.args.divisor) left right c.add_binary.ensures.number
