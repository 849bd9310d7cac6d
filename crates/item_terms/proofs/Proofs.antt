-- A proof over its base.
use Rattle.std.proofs.Common.{◌≡◌, ℕ, true, true≢false, List, [], ◌∷◌, ◌++◌, map, Bool, Option}
use Rattle.std.proofs.Common.{Result, Ok, Err, IfOk, OnOk, IsOk, refl, sym, ap, ap₂, ◌∙◌, subst, arith}
use Rattle.std.specs.BTreeMap.{BTreeMap}
use Rattle.std.proofs.lemmas.List.{map-append}
use Rattle.std.proofs.lemmas.List.Elements.{Contains-append_left, Contains-append_right}
use Rattle.slang_values.specs.Value.{Records}
use Rattle.slang_values.specs.Tree.{Tree, truth_literal}
use Rattle.term_trees.specs.declared.term.Sort.{Sort}
use Rattle.term_nodes.specs.declared.node.Node.{Node}
use Rattle.term_store.specs.Store.{tree_at, Grows, AreWithin, AreTreesOf, GainsAmong}
use Rattle.term_store.specs.Sequent.{sequent_at, IsSequentWithin}
use Rattle.term_store.specs.declared.sequent.IdSequent.{IdSequent}
use Rattle.term_store.proofs.Stores.{Grows-length}
use Rattle.term_store.proofs.Gains.{trees-grow, GainsAmong-more}
use Rattle.program_trees.specs.declared.answer.Kind.TheVariants as kinds
use Rattle.lk_terms.specs.declared.step.StepTerm.{StepTerm}
use Rattle.deduction_rules.specs.Step.{StepTrees}
use Rattle.deduction.specs.Steps as term_steps
use Rattle.leg_rules.specs.Store.{State}
use Rattle.leg_rules.specs.Sequents.{to_accept, base, with_facts}
use Rattle.leg_states.specs.State.{state_over, AreOver}
use Rattle.leg_states.proofs.States.{same_state, grown_state, grown_over}
use Rattle.step_terms.specs.Steps.{ClaimMore, IsPast}
use Rattle.step_terms.specs.declared.end.ItemEnd.{ItemEnd}
use Rattle.step_terms.specs.declared.end.ItemEnd.TheVariants as ends
use Rattle.step_terms.proofs.Places.{gains_wider}
use Rattle.item_terms.specs.Items.{asked_at, IsAskedWithin}
use Rattle.item_terms.specs.declared.asked.Asked.{Asked}

-- ---- facts

within_grows : (old new : List Node) (ids : List ℕ) → Grows old new → AreWithin old ids → AreWithin new ids
within_grows old new [] g h = tt
within_grows old new (k ∷ ids) g h = (omega (arith, h.0, Grows-length old new g), within_grows old new ids g h.1)

within_both : (store : List Node) (ids more : List ℕ) → AreWithin store ids → AreWithin store more → AreWithin store (ids ++ more)
within_both store [] more h k = k
within_both store (i ∷ ids) more h k = (h.0, within_both store ids more h.1 k)

-- more facts, as the store grows
pub facts_state : (old new : List Node) (count : ℕ) (sorts : List Sort) (lists : List (List (Option ℕ))) (lets : BTreeMap ℕ ℕ) (facts facts' more : List ℕ)
    → Grows old new → AreOver count old lists facts → AreWithin old more → facts' ≡ facts ++ more
    → state_over new sorts lists lets facts' ≡ with_facts (map (tree_at old) more) (state_over old sorts lists lets facts)
facts_state old new count sorts lists lets facts facts' more g h w e =
    same_state (state_over new sorts lists lets facts') (with_facts (map (tree_at new) more) (state_over new sorts lists lets facts)) refl (λ x. refl)
    (λ x k. refl) (λ label. refl) (ap (map (tree_at new)) e ∙ map-append (tree_at new) facts more)
    ∙ ap₂ with_facts (trees-grow old new more g w) (grown_state old new count sorts lists lets facts g h)

pub facts_over : (old new : List Node) (count : ℕ) (lists : List (List (Option ℕ))) (facts facts' more : List ℕ) → Grows old new
    → AreOver count old lists facts → AreWithin old more → facts' ≡ facts ++ more → AreOver count new lists facts'
facts_over old new count lists facts facts' more g h w e =
    let over = grown_over old new count lists facts g h in
    subst (AreOver count new lists) (sym e)
    (record { versions = over.versions; numbers = over.numbers; within = within_both new facts more over.within (within_grows old new more g w) })

pub first_claims : (old new : List Node) (start ids : List ℕ) (trees : List (Tree ℕ)) → start ≡ [] → ClaimMore old start new ids trees
    → AreTreesOf new ids trees
first_claims old new start ids trees e more = more [] (subst (λ ks. AreTreesOf old ks []) (sym e) (record { within = tt; trees = refl }))

-- ---- gains

pub gains_goal : (a b c : List Node) (ts : List (Tree ℕ)) → GainsAmong a b ts → GainsAmong b c (truth_literal true ∷ [])
    → GainsAmong a c (truth_literal true ∷ ts)
gains_goal a b c ts g h =
    GainsAmong-more a b c (truth_literal true ∷ ts)
    (gains_wider a b ts (truth_literal true ∷ ts) g (λ u i. Contains-append_right (truth_literal true ∷ []) ts u i))
    (gains_wider b c (truth_literal true ∷ []) (truth_literal true ∷ ts) h (λ u i. Contains-append_left (truth_literal true ∷ []) ts u i))

pub gains_steps : (a b : List Node) (ts : List (Tree ℕ)) → GainsAmong a b ts → GainsAmong a b (truth_literal true ∷ ts)
gains_steps a b ts g = gains_wider a b ts (truth_literal true ∷ ts) g (λ u i. Contains-append_right (truth_literal true ∷ []) ts u i)

-- ---- what is asked for

pub asked_of : (store : List Node) (place : ℕ) (it : Asked) (b : IdSequent) (steps : List StepTerm) (records : Records) (state : State) (terms : StepTrees)
    → it ≡ Asked.Proof b steps → sequent_at store b ≡ base records state → term_steps.step_trees steps ≡ terms
    → to_accept place (base records state) terms ∷ [] ≡ asked_at store place kinds.Deduce it
asked_of store place it b steps records state terms is same built =
    ap₂ (λ s ss. to_accept place s ss ∷ []) (sym same) (sym built) ∙ ap (asked_at store place kinds.Deduce) (sym is)

pub within_of : (store : List Node) (it : Asked) (b : IdSequent) (steps : List StepTerm) → it ≡ Asked.Proof b steps → IsSequentWithin store b
    → IsAskedWithin store it
within_of store it b steps is h = subst (IsAskedWithin store) (sym is) h

-- ---- results of other parts

-- the whole is there only where its part is
pub ok_through : {A B E F : Type 0} (P : Type 0) (r : Result A E) (part : Result B F) → OnOk r (IsOk part) → OnOk part P → OnOk r P
ok_through P (Ok x) (Ok y) h p = p
ok_through P (Ok x) (Err e) h p = absurd (true≢false (sym h))
ok_through P (Err e) part h p = tt

pub ok_value : {A B E F : Type 0} (Q : A → B → Type 0) (P : A → Type 0) (R : B → Type 0) (r : Result A E) (part : Result B F) → OnOk r (IsOk part)
    → IfOk r (λ x. IfOk part (λ y. Q x y)) → IfOk part R → ((x : A) (y : B) → Q x y → R y → P x) → IfOk r P
ok_value Q P R (Ok x) (Ok y) h q p f = f x y q p
ok_value Q P R (Ok x) (Err e) h q p f = absurd (true≢false (sym h))
ok_value Q P R (Err e) part h q p f = tt

-- ---- ends

pub no_memory : (end : ItemEnd) (small : Bool) → end ≡ ends.NoMemory → IsPast end small
no_memory end small is = subst (λ e. IsPast e small) (sym is) tt
