-- One step at a place among others.
use Rattle.std.proofs.Common.{◌≡◌, ℕ, zero, suc, ◌+◌, ◌*◌, ◌<◌, ◌≤◌, max, List, [], ◌∷◌, ◌++◌, length, take, drop, get_or, Bool, true, false, true≢false, Option, Some, Result, Ok, Err, IfOk, IfErr, OnOk, IsOk, refl, sym, ap, ap₂, ◌∙◌, subst, arith, append_assoc, drop-cons, add-one}
use Rattle.std.specs.Prelude.{◌&&◌}
use Rattle.std.specs.List.{Contains}
use Rattle.std.proofs.lemmas.List.{take_more, take-append-drop, append-nil, map_push}
use Rattle.std.proofs.lemmas.List.Elements.{Contains-append_left, Contains-append_right}
use denote.Param.Weighed.{most, at_most}
use Rattle.slang_values.specs.Value.{ValueType}
use Rattle.slang_values.specs.Tree.{Tree}
use Rattle.deduction_rules.specs.Step.{StepTree, StepTrees, no_steps, step_then}
use Rattle.term_nodes.specs.declared.node.Node.{Node}
use Rattle.term_store.specs.Store.{tree_at, Grows, Holds, AreWithin, AreTreesOf, GainsAmong, subtrees}
use Rattle.term_store.proofs.Stores.{Holds-within, tree_at-Holds, Grows-length}
use Rattle.term_store.proofs.Gains.{trees-grow}
use Rattle.lk_claims.specs.declared.claim.Claim.{Claim}
use Rattle.lk_claims.specs.declared.step.ProofStep.{ProofStep, size-ProofStep}
use Rattle.lk_claims.specs.declared.step.ProofStep.TheVariants.{Sub}
use Rattle.lk_claims.specs.declared.step.ProofStep.TheViews.{sized-Sub}
use Rattle.lk_claims.specs.Step as claim_steps
use Rattle.lk_terms.specs.declared.step.StepTerm.{StepTerm}
use Rattle.deduction.specs.Steps as term_steps
use Rattle.leg_rules.specs.Store.{State}
use Rattle.leg_rules.specs.Sequents.{after_step, after_steps, step_term, step_terms, is_small_step, are_small_steps, outermost}
use Rattle.step_terms.specs.Steps.{IsReadableStep, AreReadableSteps, own_claim, step_subtrees, steps_subtrees, ClaimMore, IsPast}
use Rattle.step_terms.specs.declared.end.ItemEnd.{ItemEnd}
use Rattle.step_terms.proofs.Joined.{join, small_join, outermost_join, outermost_one, subtrees_join, built_join, after_join, terms_join}

-- ---- results

-- what holds anyway
pub on_ok : {A E : Type 0} {P : Type 0} (r : Result A E) → P → OnOk r P
on_ok (Ok x) p = p
on_ok (Err e) p = tt

-- what holds where the parts are there holds of the whole, which is there only where they are
pub ok_through : {A B E : Type 0} (P : Type 0) (r : Result A E) (parts : Result B E) → OnOk r (IsOk parts) → OnOk parts P → OnOk r P
ok_through P (Ok x) (Ok y) h p = p
ok_through P (Ok x) (Err e) h p = absurd (true≢false (sym h))
ok_through P (Err e) parts h p = tt

pub ok_value : {A B E : Type 0} (Q : A → B → Type 0) (P : A → Type 0) (R : B → Type 0) (r : Result A E) (parts : Result B E) → OnOk r (IsOk parts)
    → IfOk r (λ x. IfOk parts (λ y. Q x y)) → IfOk parts R → ((x : A) (y : B) → Q x y → R y → P x) → IfOk r P
ok_value Q P R (Ok x) (Ok y) h q p f = f x y q p
ok_value Q P R (Ok x) (Err e) h q p f = absurd (true≢false (sym h))
ok_value Q P R (Err e) parts h q p f = tt

pub err_through : {A B E : Type 0} (Q : E → Type 0) (r : Result A E) (parts : Result B E) → IfErr r (λ e. parts ≡ Err e) → IfErr parts Q → IfErr r Q
err_through Q (Ok x) parts h q = tt
err_through Q (Err e) parts h q = subst (λ p. IfErr p Q) h q

-- ---- sizes

-- the steps of a block are less deep than the block
pub below_sub : (step : ProofStep) (label : ℕ) (has_symbol : Bool) (assumed : ℕ) (given : Claim) (steps shown : List ProofStep)
    → step ≡ Sub label has_symbol assumed given steps → shown ≡ steps → 3 * most size-ProofStep shown + 2 < 3 * size-ProofStep step
below_sub step label has_symbol assumed given steps shown is same =
    let deep : most size-ProofStep shown ≡ most size-ProofStep steps = ap (most size-ProofStep) same in
    let size : size-ProofStep step ≡ size-ProofStep (Sub label has_symbol assumed given steps) = ap size-ProofStep is in
    omega (arith, deep, size, sized-Sub label has_symbol assumed given steps)

-- ---- limits

pub past_first : (end : ItemEnd) (first rest : Bool) → IsPast end first → IsPast end (first && rest)
past_first ItemEnd.Size first rest h = ap (λ b. b && rest) h
past_first ItemEnd.NoMemory first rest h = tt

pub past_second : (end : ItemEnd) (first rest : Bool) → first ≡ true → IsPast end rest → IsPast end (first && rest)
past_second ItemEnd.Size first rest e h = ap (λ b. b && rest) e ∙ h
past_second ItemEnd.NoMemory first rest e h = tt

past_within : (end : ItemEnd) (before here rest : Bool) → IsPast end here → IsPast end (before && (here && rest))
past_within ItemEnd.Size true here rest h = ap (λ b. b && rest) h
past_within ItemEnd.Size false here rest h = refl
past_within ItemEnd.NoMemory before here rest h = tt

-- ---- numbers of claims

within_grows : (old new : List Node) (ids : List ℕ) → Grows old new → AreWithin old ids → AreWithin new ids
within_grows old new [] g h = tt
within_grows old new (k ∷ ids) g h = (omega (arith, h.0, Grows-length old new g), within_grows old new ids g h.1)

within_push : (new : List Node) (ids : List ℕ) (k : ℕ) → AreWithin new ids → k < length new → AreWithin new (ids ++ k ∷ [])
within_push new [] k h l = (l, tt)
within_push new (j ∷ ids) k h l = (h.0, within_push new ids k h.1 l)

pub claim_none : (old new : List Node) (ids : List ℕ) → Grows old new → ClaimMore old ids new ids []
claim_none old new ids g = λ ts h. record {
  within = within_grows old new ids g h.within;
  trees = trees-grow old new ids g h.within ∙ h.trees ∙ sym (append-nil ts);
}

pub claim_one : (old new : List Node) (ids : List ℕ) (k : ℕ) (t : Tree ℕ) → Grows old new → Holds new k t → ClaimMore old ids new (ids ++ k ∷ []) (t ∷ [])
claim_one old new ids k t g held = λ ts h. record {
  within = within_push new ids k (within_grows old new ids g h.within) (Holds-within new k t held);
  trees = map_push (tree_at new) ids k ∙ ap₂ (λ xs x. xs ++ x ∷ []) (trees-grow old new ids g h.within ∙ h.trees) (tree_at-Holds new k t held);
}

pub claim_then : (a b c : List Node) (ids ids' ids'' : List ℕ) (us vs : List (Tree ℕ)) → ClaimMore a ids b ids' us → ClaimMore b ids' c ids'' vs
    → ClaimMore a ids c ids'' (us ++ vs)
claim_then a b c ids ids' ids'' us vs f g = λ ts h. subst (AreTreesOf c ids'') (append_assoc ts us vs) (g (ts ++ us) (f ts h))

-- ---- gains

pub gains_wider : (old new : List Node) (ts us : List (Tree ℕ)) → GainsAmong old new ts → ((u : Tree ℕ) → Contains ts u → Contains us u) → GainsAmong old new us
gains_wider old new ts us g h = record { grows = g.grows; among = λ k l below. h _ (g.among k l below) }

pub gains_left : (old new : List Node) (ts us : List (Tree ℕ)) → GainsAmong old new ts → GainsAmong old new (ts ++ us)
gains_left old new ts us g = gains_wider old new ts (ts ++ us) g (λ u h. Contains-append_left ts us u h)

pub gains_right : (old new : List Node) (ts us : List (Tree ℕ)) → GainsAmong old new us → GainsAmong old new (ts ++ us)
gains_right old new ts us g = gains_wider old new us (ts ++ us) g (λ u h. Contains-append_right ts us u h)

-- ---- the step at a place

readable_part : (count : ℕ) (x : ProofStep) (xs ys : List ProofStep) → AreReadableSteps count (claim_steps.step_trees (xs ++ x ∷ ys))
    → IsReadableStep count (claim_steps.step_tree x)
readable_part count x [] ys h = h.0
readable_part count x (y ∷ xs) ys h = readable_part count x xs ys h.1

module _ (steps : List ProofStep) (i : ℕ) (x : ProofStep) (inside : i < length steps) (is : x ≡ get_or steps i x) where
  more : take (i + 1) steps ≡ take i steps ++ x ∷ []
  more = take_more steps i x inside ∙ ap (λ y. take i steps ++ y ∷ []) (sym is)

  split : steps ≡ take i steps ++ x ∷ drop (i + 1) steps
  split =
      sym (take-append-drop i steps)
      ∙ ap (λ ds. take i steps ++ ds) (drop-cons steps i x inside ∙ ap₂ ◌∷◌ (sym is) (ap (λ n. drop n steps) (sym (add-one i))))

  pub below_here : 3 * size-ProofStep x < 3 * most size-ProofStep steps + 1
  below_here =
      let size : size-ProofStep x ≡ size-ProofStep (get_or steps i x) = ap size-ProofStep is in
      omega (arith, size, at_most size-ProofStep steps i x inside)

  pub readable_here : (count : ℕ) → AreReadableSteps count (claim_steps.step_trees steps) → IsReadableStep count (claim_steps.step_tree x)
  readable_here count h =
      readable_part count x (take i steps) (drop (i + 1) steps) (subst (λ ss. AreReadableSteps count (claim_steps.step_trees ss)) split h)

  module _ (types : List ValueType) (first now : State) (so_far : now ≡ after_steps types first (claim_steps.step_trees (take i steps))) where
    abbrev before : StepTrees
    before = step_terms types first (claim_steps.step_trees (take i steps))

    abbrev here : StepTree
    here = step_term types now (claim_steps.step_tree x)

    abbrev then_on : StepTrees
    then_on = step_terms types (after_step types now (claim_steps.step_tree x)) (claim_steps.step_trees (drop (i + 1) steps))

    pub state_more : (new : State) → new ≡ after_step types now (claim_steps.step_tree x)
        → new ≡ after_steps types first (claim_steps.step_trees (take (i + 1) steps))
    state_more new e =
        e ∙ ap (λ s. after_step types s (claim_steps.step_tree x)) so_far
        ∙ sym (ap (λ ss. after_steps types first (claim_steps.step_trees ss)) more ∙ after_join types first (take i steps) (x ∷ []))

    terms_more : step_terms types first (claim_steps.step_trees (take (i + 1) steps)) ≡ join before (step_then here no_steps)
    terms_more =
        ap (λ ss. step_terms types first (claim_steps.step_trees ss)) more ∙ terms_join types first (take i steps) (x ∷ [])
        ∙ ap (λ s. join before (step_then (step_term types s (claim_steps.step_tree x)) no_steps)) (sym so_far)

    whole : step_terms types first (claim_steps.step_trees steps) ≡ join before (step_then here then_on)
    whole =
        ap (λ ss. step_terms types first (claim_steps.step_trees ss)) split ∙ terms_join types first (take i steps) (x ∷ drop (i + 1) steps)
        ∙ ap (λ s. join before (step_terms types s (claim_steps.step_trees (x ∷ drop (i + 1) steps)))) (sym so_far)

    pub built_more : (terms : List StepTerm) (term : StepTerm) → term_steps.step_trees terms ≡ before → term_steps.step_tree term ≡ here
        → term_steps.step_trees (terms ++ term ∷ []) ≡ step_terms types first (claim_steps.step_trees (take (i + 1) steps))
    built_more terms term e f = built_join terms (term ∷ []) ∙ ap₂ (λ b h. join b (step_then h no_steps)) e f ∙ sym terms_more

    pub small_more : are_small_steps before ≡ true → is_small_step here ≡ true
        → are_small_steps (step_terms types first (claim_steps.step_trees (take (i + 1) steps))) ≡ true
    small_more e f = ap are_small_steps terms_more ∙ small_join before (step_then here no_steps) ∙ ap₂ (λ b h. b && (h && true)) e f

    pub claims_more : (old mid new : List Node) (ids ids' ids'' : List ℕ) → ClaimMore old ids mid ids' (outermost before)
        → ClaimMore mid ids' new ids'' (own_claim here)
        → ClaimMore old ids new ids'' (outermost (step_terms types first (claim_steps.step_trees (take (i + 1) steps))))
    claims_more old mid new ids ids' ids'' f g =
        subst (ClaimMore old ids new ids'')
        (sym (ap outermost terms_more ∙ outermost_join before (step_then here no_steps) ∙ ap (λ ts. outermost before ++ ts) (outermost_one here)))
        (claim_then old mid new ids ids' ids'' (outermost before) (own_claim here) f g)

    pub end_here : (end : ItemEnd) → IsPast end (is_small_step here) → IsPast end (are_small_steps (step_terms types first (claim_steps.step_trees steps)))
    end_here end h =
        subst (IsPast end) (sym (ap are_small_steps whole ∙ small_join before (step_then here then_on)))
        (past_within end (are_small_steps before) (is_small_step here) (are_small_steps then_on) h)

    pub gains_here : (old new : List Node) → GainsAmong old new (step_subtrees here)
        → GainsAmong old new (steps_subtrees (step_terms types first (claim_steps.step_trees steps)))
    gains_here old new g =
        subst (GainsAmong old new) (sym (ap steps_subtrees whole ∙ subtrees_join before (step_then here then_on)))
        (gains_right old new (steps_subtrees before) (step_subtrees here ++ steps_subtrees then_on)
        (gains_left old new (step_subtrees here) (steps_subtrees then_on) g))
