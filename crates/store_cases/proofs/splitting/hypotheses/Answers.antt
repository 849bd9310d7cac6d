use Rattle.std.proofs.Common.{[], ◌∷◌, ◌++◌, refl, sym, ap, subst, ◌∙◌, map}
use Rattle.slang_values.specs.Tree.{unary}
use Rattle.slang_values.specs.declared.operators.Unary.{Unary}
use Rattle.case_rules.specs.Cases.{hypotheses}
use Rattle.term_store.specs.Store.{tree_at, AreTreesOf}
use Rattle.term_store.specs.Sequent.{sequent_at}
use Rattle.store_alternatives.proofs.Numbers.{trees_push}
use Rattle.store_cases.proofs.splitting.hypotheses.Goals as goal

pub returns-clause-numbers : goal.returns-clause-numbers
returns-clause-numbers c =
    let old = c.args.store.now in
    let new = c.add_unary.new.store in
    let sequent = c.args.sequent.now in
    let denied = c.in_ok-denied.denied in
    subst (λ ks. AreTreesOf new ks (hypotheses (sequent_at old sequent))) (sym (c.in_ok-push.ensures.ok ∙ ap (λ ks. ks ++ denied ∷ []) (c.in_ok-ids.ensures ∙ c.as_slice.ensures)))
    (trees_push old new sequent.facts (map (tree_at old) sequent.facts) denied (unary Unary.Not (tree_at old sequent.goal)) (record { within = c.requires.facts; trees = refl }) c.in_ok-denied.ensures.grows c.in_ok-denied.ensures.number)
