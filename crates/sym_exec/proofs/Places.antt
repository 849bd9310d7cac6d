-- Places in a leg.
use Rattle.std.proofs.Common.{◌≡◌, List, map, length, sym, ap, ◌∙◌, subst}
use Rattle.std.proofs.lemmas.List.{length-map}
use Rattle.term_trees.specs.declared.term.Sort.{Sort}
use Rattle.term_trees.specs.Term.{sort_type}
use Rattle.lk_claims.specs.declared.ty.Ty.{Ty}
use Rattle.lk_claims.specs.Claim.{value_type}
use Rattle.leg_rules.specs.Sequents.{obligations_from}
use Rattle.leg_states.specs.State.{lists_of}
use Rattle.leg_states.proofs.States.{grown_state, grown_over}
use Rattle.sym_exec.specs.Steps.{types_of, items_ahead}
use Rattle.sym_exec.specs.Laws.{ExecGrowthLaws}

-- what holds of what is shown of two lists holds of the lists
pub both_shown : {A B : Type 0} (P : A → B → Type 0) {a shown_a : A} {b shown_b : B} → shown_a ≡ a → shown_b ≡ b → P shown_a shown_b → P a b
both_shown P {a} {shown_a} {b} {shown_b} e f p = subst (λ y. P a y) f (subst (λ x. P x shown_b) e p)

pub as_many_sorts : (types : List Ty) (shown : List Ty) (sorts : List Sort) → shown ≡ types → map sort_type sorts ≡ map value_type shown
    → length types ≡ length sorts
as_many_sorts types shown sorts e f =
    sym (length-map types value_type) ∙ ap length (sym (f ∙ ap (map value_type) e)) ∙ length-map sorts sort_type

pub growth_laws : ExecGrowthLaws
growth_laws = record {
  pending = λ old new exec leg g r.
      ap (λ s. obligations_from (map (map sort_type) exec.records) (types_of exec) exec.at s (items_ahead exec leg))
      (grown_state old new (length exec.sorts) exec.state.sorts (lists_of exec.state.versions) exec.state.lets exec.state.facts g r.over);
  ready = λ old new exec leg g r. record {
    place = r.place;
    over = grown_over old new (length exec.sorts) (lists_of exec.state.versions) exec.state.facts g r.over;
    items = r.items;
  };
}
