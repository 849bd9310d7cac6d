use Rattle.std.proofs.Common.{[], ◌∷◌}
use Rattle.slang_values.specs.declared.operators.Binary.{Binary}
use Rattle.term_store.proofs.Stores.{Grows-Holds}
use Rattle.store_alternatives.proofs.Numbers.{ok_weaker, kept, binary_holds}
use Rattle.store_alternatives.proofs.AlternativeLists.{two_at, single_at}
use Rattle.store_alternatives.proofs.formulas.unequal.Goals as goal

pub returns-clause-numbers : goal.returns-clause-numbers
returns-clause-numbers c =
    let old = c.args.store.now in
    let first = c.add_binary.new.store in
    let new = c.add_binary-2.new.store in
    let less = c.in_ok-less.less in
    let greater = c.in_ok-greater.greater in
    let grows = c.in_ok-less.ensures.grows in
    let one = Grows-Holds first new less _ c.in_ok-greater.ensures.grows c.in_ok-less.ensures.number in
    let other = binary_holds first new Binary.Lt greater c.args.b c.args.a _ _ (kept old first c.args.b grows c.requires.right) (kept old first c.args.a grows c.requires.left) c.in_ok-greater.ensures.number in
    ok_weaker c.two_lists.result _ _ (λ ls e. two_at new (less ∷ []) (greater ∷ []) _ _ ls (single_at new less _ one) (single_at new greater _ other) e) c.two_lists.ensures
