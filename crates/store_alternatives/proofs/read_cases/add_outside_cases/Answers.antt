use Rattle.std.proofs.Common.{pos, ◌++◌, ◌∷◌, [], sym, ap, ◌∙◌, subst}
use Rattle.slang_values.specs.Tree.{literal, binary}
use Rattle.slang_values.specs.declared.operators.Binary.{Binary}
use Rattle.term_store.specs.Store.{tree_at, Holds}
use Rattle.term_store.proofs.Stores.{Grows-Grows, Grows-Holds, Grows-tree_at}
use Rattle.store_alternatives.specs.ReadCases.{AreCasesAt}
use Rattle.store_alternatives.proofs.Numbers.{on_weaker, kept}
use Rattle.store_alternatives.proofs.ReadCases.{outside_at}
use Rattle.read_rules.specs.Reads.{outside_cases}
use Rattle.store_alternatives.proofs.read_cases.add_outside_cases.Goals as goal

pub returns-clause-cases : goal.returns-clause-cases
returns-clause-cases c =
    let old = c.args.store.now in
    let first = c.below_count.new.store in
    let new = c.at_least.new.store in
    let before = c.in_ok-below.ensures.grows in
    let after = c.in_ok-behind.ensures.grows in
    let whole = Grows-Grows old first new before after in
    let below = c.in_ok-below.below in
    let behind = c.in_ok-behind.behind in
    let default = c.args.default in
    let j = tree_at old c.args.j in
    let lower = Grows-Holds first new below _ after c.in_ok-below.ensures.number in
    let upper : Holds new behind (binary Binary.Le (literal (pos c.args.count)) j) = subst (Holds new behind) (ap (binary Binary.Le (literal (pos c.args.count))) (Grows-tree_at old first c.args.j before c.requires.place)) c.in_ok-behind.ensures.number in
    on_weaker c.push-2.result _ _
    (λ e ds h. subst (λ cs. AreCasesAt new cs (ds ++ outside_cases c.args.count (tree_at old default) j)) (sym (e ∙ ap (λ cs. cs ++ record { condition = behind; instead = default } ∷ []) c.in_ok-push.ensures.ok))
    (outside_at old new c.args.cases.now ds below behind default c.args.count j (tree_at old default) h whole lower upper (kept old new default whole c.requires.default))) c.push-2.ensures.ok
