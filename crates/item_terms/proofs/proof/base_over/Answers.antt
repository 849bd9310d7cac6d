use Rattle.std.proofs.Common.{◌∷◌, [], map, refl, sym, ap, subst, ◌∙◌}
use Rattle.std.proofs.lemmas.Result.{IfOk-weaker}
use Rattle.slang_values.specs.Tree.{truth_literal}
use Rattle.std.specs.Prelude.{true}
use Rattle.term_trees.specs.Term.{sort_type}
use Rattle.term_nodes.specs.declared.node.Node.TheVariants as nodes
use Rattle.term_store.specs.Store.{GainsAmong}
use Rattle.term_store.proofs.Stores.{Holds-within, tree_at-Holds}
use Rattle.term_store.proofs.Gains.{GainsAmong-itself, GainsAmong-node}
use Rattle.leg_rules.specs.Sequents.{sequent}
use Rattle.leg_states.specs.State.{state_of}
use Rattle.item_terms.proofs.proof.base_over.Goals as goal

pub returns-in-Err-clause-gains : goal.returns-in-Err-clause-gains
returns-in-Err-clause-gains c =
    subst (λ s. GainsAmong c.args.store.now s (truth_literal true ∷ [])) (sym c.in-Err.ensures.err)
    (GainsAmong-itself c.args.store.now (truth_literal true ∷ []))

pub returns-in-Ok-clause-base : goal.returns-in-Ok-clause-base
returns-in-Ok-clause-base c =
    let new = c.add_node.new.self in
    IfOk-weaker c.sequent_over.result _ _
    (λ it h. h new ∙ ap (sequent (map (map sort_type) c.args.records.now) (state_of new c.args.state.now))
    (tree_at-Holds new c.in-Ok.goal (truth_literal true) c.in-Ok.ensures.number))
    c.sequent_over.ensures.sequent

pub returns-in-Ok-clause-within : goal.returns-in-Ok-clause-within
returns-in-Ok-clause-within c =
    let new = c.add_node.new.self in
    IfOk-weaker c.sequent_over.result _ _
    (λ it h count over. h count new over (Holds-within new c.in-Ok.goal (truth_literal true) c.in-Ok.ensures.number))
    c.sequent_over.ensures.within

pub returns-in-Ok-clause-gains : goal.returns-in-Ok-clause-gains
returns-in-Ok-clause-gains c = GainsAmong-node c.args.store.now c.add_node.new.self nodes.True (truth_literal true) refl c.in-Ok.ensures.gains
