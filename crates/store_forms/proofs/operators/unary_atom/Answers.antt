use Rattle.std.proofs.Common.{subst}
use Rattle.slang_values.specs.Tree.{Tree, unary}
use Rattle.std.proofs.Common.{ℕ}
use Rattle.tree_forms.specs.Form.{form_term}
use Rattle.term_store.specs.Store.{Holds}
use Rattle.term_store.proofs.Stores.{Holds-within, tree_at-Holds}
use Rattle.store_forms.specs.Form.{form_at}
use Rattle.store_forms.proofs.Added.{atom_of}
use Rattle.store_forms.proofs.operators.unary_atom.Goals as goal

pub add_unary-requires : goal.add_unary-requires
add_unary-requires c = Holds-within c.form_term.new.store c.in_ok-part.part _ c.in_ok-part.ensures.number

pub returns-clause-form : goal.returns-clause-form
returns-clause-form c =
    let mid = c.form_term.new.store in
    let new = c.add_unary.new.store in
    let term = form_term (form_at c.args.store.now c.args.form.now) in
    let held =
    subst (λ (t : Tree ℕ). Holds new c.in_ok-atom.atom (unary c.args.op t)) (tree_at-Holds mid c.in_ok-part.part term c.in_ok-part.ensures.number)
    c.in_ok-atom.ensures.number in
    atom_of c.of_atom.result new c.in_ok-atom.atom (unary c.args.op term) held c.of_atom.ensures
