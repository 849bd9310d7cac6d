-- Steps one after the other: what stands after them, and that all that stands visible is a claim.
use Rattle.std.proofs.Common.{◌≡◌, ℕ, zero, suc, ◌+◌, ◌<◌, ◌≤◌, List, [], ◌∷◌, ◌++◌, length, take, drop, get_or, Bool, true, false, cond, Option, Some, None, refl, sym, ap, ap₂, ◌∙◌, subst, arith, drop-cons, add-one, append_assoc, append-nil, eqb}
use Rattle.std.specs.List.{All, AllByRecursion}
use Rattle.std.proofs.Math.Seq.{take-append_seam}
use Rattle.std.proofs.lemmas.List.{take_more, take_all, take-append-drop}
use Rattle.std.proofs.lemmas.List.Elements.{All-append, recursion_from_All, All-from_recursion}
use Rattle.slang_values.specs.Tree.{Tree}
use Rattle.validity.specs.Validity.{SequentTree, symbol_types}
use Rattle.lk_terms.specs.declared.step.StepTerm.{StepTerm}
use Rattle.deduction_rules.specs.Step.{StepTree, line, block, IsSortedStep, AreSortedSteps, Cited, claimed, concluded, conclusion}
use Rattle.deduction_rules.specs.Replacement.{has_symbol}
use Rattle.deduction_rules.specs.Deduction.{Labelled, Before, Refusal, Symbol, is_used, with_claim, with_let, with_block, look_up, Citing, missing, found, add_cited, citing, claims_of, visible_claims, Progress, passed, refused_at, unless_refused, and_then, after_step, after_steps, line_refusal}
use Rattle.deduction.specs.declared.end.ProofEnd.{ProofEnd}
use Rattle.deduction.specs.End.{refusal_of, EndsSteps}
use Rattle.deduction.specs.Steps.{step_tree, step_trees}
use Rattle.proof_closing.proofs.Claims.{claims_of-append, visible_claims-append}
use Rattle.proof_scopes.specs.Scope.{AreClaims, IsClaimOver}

All-parts : {X : Type 0} (P : X → Type 0) (xs ys : List X) → All P (xs ++ ys) → All P xs × All P ys
All-parts P xs ys h =
    let p = parts xs (recursion_from_All P (xs ++ ys) h) in (All-from_recursion P xs p.0, All-from_recursion P ys p.1)
  where
    parts : (zs : List _) → AllByRecursion P (zs ++ ys) → AllByRecursion P zs × AllByRecursion P ys
    parts [] f = (tt, f)
    parts (z ∷ zs) f = let p = parts zs f.1 in ((f.0, p.0), p.1)

-- ---- steps one after the other

module _ (closes : SequentTree → Bool) (base : SequentTree) where
  abbrev after : Before → List StepTerm → Progress
  after before ss = after_steps closes base before (step_trees ss)

  after-append : (before mid : Before) (ss ts : List StepTerm) → after before ss ≡ passed mid → after before (ss ++ ts) ≡ after mid ts
  after-append before mid [] ts h = let is : before ≡ mid = cc in ap (λ b. after b ts) is
  after-append before mid (s ∷ ss) ts h = through (λ b e. after-append b mid ss ts e) (after_step closes base before (step_tree s)) h
    where
      through : ((b : Before) → after b ss ≡ passed mid → after b (ss ++ ts) ≡ after mid ts) → (p : Progress) → and_then p (λ b. after b ss) ≡ passed mid →
          and_then p (λ b. after b (ss ++ ts)) ≡ after mid ts
      through more (passed b) e = more b e
      through more (refused_at label why) e = absurd (cc)

  from_place : (ss : List StepTerm) (k : ℕ) (s : StepTerm) → k < length ss → s ≡ get_or ss k s → ss ≡ take k ss ++ s ∷ drop (k + 1) ss
  from_place ss k s h is =
      sym (take-append-drop k ss) ∙ ap (λ ds. take k ss ++ ds) (drop-cons ss k s h ∙ ap₂ ◌∷◌ (sym is) (ap (λ n. drop n ss) (sym (add-one k))))

  -- the step at a place passes, after those in front of it
  pub pass_more : (before mid next : Before) (ss : List StepTerm) (k : ℕ) (s : StepTerm) → k < length ss → s ≡ get_or ss k s →
      after before (take k ss) ≡ passed mid → after_step closes base mid (step_tree s) ≡ passed next → after before (take (k + 1) ss) ≡ passed next
  pass_more before mid next ss k s h is so_far here =
      ap (after before) (take_more ss k s h ∙ ap (λ x. take k ss ++ x ∷ []) (sym is)) ∙ after-append before mid (take k ss) (s ∷ []) so_far ∙
      ap (λ p. and_then p (λ b. passed b)) here

  -- it is refused
  pub refuse_at : (before mid : Before) (ss : List StepTerm) (k : ℕ) (s : StepTerm) (label : ℕ) (why : Refusal) → k < length ss → s ≡ get_or ss k s →
      after before (take k ss) ≡ passed mid → after_step closes base mid (step_tree s) ≡ refused_at label why → after before ss ≡ refused_at label why
  refuse_at before mid ss k s label why h is so_far here =
      ap (after before) (from_place ss k s h is) ∙ after-append before mid (take k ss) (s ∷ drop (k + 1) ss) so_far ∙
      ap (λ p. and_then p (λ b. after b (drop (k + 1) ss))) here

  -- the end of the step at a place is that of the steps
  pub end_at : (before mid : Before) (ss : List StepTerm) (k : ℕ) (s : StepTerm) (end : ProofEnd) → k < length ss → s ≡ get_or ss k s →
      after before (take k ss) ≡ passed mid → EndsSteps end (after_step closes base mid (step_tree s)) → EndsSteps end (after before ss)
  end_at before mid ss k s (ProofEnd.Bad step reason) h is so_far here = refuse_at before mid ss k s step (refusal_of reason) h is so_far here
  end_at before mid ss k s (ProofEnd.Stopped told) h is so_far here = tt
  end_at before mid ss k s ProofEnd.NoMemory h is so_far here = tt

  pub pass_all : (before next : Before) (ss : List StepTerm) (k : ℕ) → length ss ≤ k → after before (take k ss) ≡ passed next → after before ss ≡ passed next
  pass_all before next ss k h so_far = sym (ap (after before) (take_all k ss h)) ∙ so_far

  -- ---- what passed steps keep

  -- Visible labels stay, and where each visible claim is a claim, so it is afterwards.
  pub record Keeps (before next : Before) : Type 0 where
    pub more : List Labelled
    pub visible : next.visible ≡ before.visible ++ more
    pub claims : AreClaims base before → AreClaims base next

  keeps_then : (a b c : Before) → Keeps a b → Keeps b c → Keeps a c
  keeps_then a b c p q = record {
    more = p.more ++ q.more;
    visible = q.visible ∙ ap (λ v. v ++ q.more) p.visible ∙ append_assoc a.visible p.more q.more;
    claims = λ h. q.claims (p.claims h);
  }

  claims_beside : (xs ys : List Labelled) → All (IsClaimOver base) (visible_claims xs) → All (IsClaimOver base) (visible_claims ys) →
      All (IsClaimOver base) (visible_claims (xs ++ ys))
  claims_beside xs ys f g =
      subst (All (IsClaimOver base)) (sym (visible_claims-append xs ys)) (All-append (IsClaimOver base) (visible_claims xs) (visible_claims ys) f g)

  pub keeps-claim : (label : ℕ) (t : Tree ℕ) (before : Before) → IsClaimOver base t → Keeps before (with_claim label t before)
  keeps-claim label t before h = record {
    more = record { label = label; cited = claimed t } ∷ [];
    visible = refl;
    claims = λ f. claims_beside before.visible (record { label = label; cited = claimed t } ∷ []) f (All-from_recursion (IsClaimOver base) (t ∷ []) (h, tt));
  }

  keeps-block : (label : ℕ) (symbol : Option ℕ) (given : Tree ℕ) (shown : Option (Tree ℕ)) (before at_end : Before) →
      Keeps before (with_block label symbol given shown before at_end)
  keeps-block label symbol given shown before at_end = record {
    more = record { label = label; cited = concluded symbol given shown } ∷ [];
    visible = refl;
    claims = λ f. claims_beside before.visible (record { label = label; cited = concluded symbol given shown } ∷ []) f
        (All-from_recursion (IsClaimOver base) [] tt);
  }

  keeps_step : (before next : Before) (s : StepTree) → IsSortedStep base.records (symbol_types base) s → after_step closes base before s ≡ passed next → Keeps before next
  keeps_step before next (line label claim rule cites) typed h =
      is_next (line_refusal closes base before claim rule (citing before.visible cites)) h
    where
      is_next : (why : Option Refusal) → unless_refused label why (with_claim label claim before) ≡ passed next → Keeps before next
      is_next None e = let is : with_claim label claim before ≡ next = cc in subst (Keeps before) is (keeps-claim label claim before typed)
      is_next (Some why) e = absurd (cc)
  keeps_step before next (block label symbol assumed given steps) typed h =
      unused (is_used symbol before) h
    where
      inner : Progress
      inner = after_steps closes base (with_claim assumed given (with_let symbol before)) steps

      ending : Before → Progress
      ending at_end = passed (with_block label symbol given (conclusion given steps) before at_end)

      ended : (p : Progress) → and_then p ending ≡ passed next → Keeps before next
      ended (passed at_end) e =
          let is : with_block label symbol given (conclusion given steps) before at_end ≡ next = cc in
          subst (Keeps before) is (keeps-block label symbol given (conclusion given steps) before at_end)
      ended (refused_at l why) e = absurd (cc)

      inside : (b : Bool) → cond b (refused_at assumed Symbol) (and_then inner ending) ≡ passed next → Keeps before next
      inside true e = absurd (cc)
      inside false e = ended inner e

      unused : (b : Bool) → cond b (refused_at label Symbol) (cond (has_symbol (with_let symbol before).ended given) (refused_at assumed Symbol) (and_then inner ending)) ≡ passed next →
          Keeps before next
      unused true e = absurd (cc)
      unused false e = inside (has_symbol (with_let symbol before).ended given) e

  pub keeps_steps : (before next : Before) (ss : List StepTerm) → AreSortedSteps base.records (symbol_types base) (step_trees ss) → after before ss ≡ passed next → Keeps before next
  keeps_steps before next [] typed h =
      let is : before ≡ next = cc in
      subst (Keeps before) is (record { more = []; visible = sym (append-nil before.visible); claims = λ f. f })
  keeps_steps before next (s ∷ ss) typed h =
      through (λ b e. keeps_steps b next ss typed.1 e) (after_step closes base before (step_tree s)) refl h
    where
      through : ((b : Before) → after b ss ≡ passed next → Keeps b next) → (p : Progress) → after_step closes base before (step_tree s) ≡ p →
          and_then p (λ b. after b ss) ≡ passed next → Keeps before next
      through more (passed b) is e = keeps_then before b next (keeps_step before b (step_tree s) typed.0 is) (more b e)
      through more (refused_at label why) is e = absurd (cc)

  -- ---- the steps in front of a place, and the step there

  pub sorted_take : (k : ℕ) (ss : List StepTerm) → AreSortedSteps base.records (symbol_types base) (step_trees ss) →
      AreSortedSteps base.records (symbol_types base) (step_trees (take k ss))
  sorted_take zero ss h = tt
  sorted_take (suc k) [] h = tt
  sorted_take (suc k) (s ∷ ss) h = (h.0, sorted_take k ss h.1)

  pub sorted_at : (ss : List StepTerm) (k : ℕ) (s : StepTerm) → k < length ss → s ≡ get_or ss k s → AreSortedSteps base.records (symbol_types base) (step_trees ss) →
      IsSortedStep base.records (symbol_types base) (step_tree s)
  sorted_at ss k s h is typed = subst (λ x. IsSortedStep base.records (symbol_types base) (step_tree x)) (sym is) (there ss k s h typed)
    where
      there : (xs : List StepTerm) (j : ℕ) (d : StepTerm) → j < length xs → AreSortedSteps base.records (symbol_types base) (step_trees xs) →
          IsSortedStep base.records (symbol_types base) (step_tree (get_or xs j d))
      there [] j d l t = absurd (omega arith)
      there (x ∷ xs) zero d l t = t.0
      there (x ∷ xs) (suc j) d l t = there xs j d (omega arith) t.1

  pub claims_before : (before mid : Before) (ss : List StepTerm) (k : ℕ) → AreSortedSteps base.records (symbol_types base) (step_trees ss) →
      after before (take k ss) ≡ passed mid → AreClaims base before → AreClaims base mid
  claims_before before mid ss k typed so_far h = (keeps_steps before mid (take k ss) (sorted_take k ss typed) so_far).claims h

  -- what stands at the beginning of a block are claims
  pub claims_inside : (before inside : Before) (symbol : Option ℕ) (assumed : ℕ) (given : Tree ℕ) →
      inside ≡ with_claim assumed given (with_let symbol before) → IsClaimOver base given → AreClaims base before → AreClaims base inside
  claims_inside before inside symbol assumed given is h f =
      subst (AreClaims base) (sym is) ((keeps-claim assumed given (with_let symbol before) h).claims f)

  -- the labels in front of a block are those that were visible before it
  pub front_of_block : (before at_end : Before) (symbol : Option ℕ) (assumed : ℕ) (given : Tree ℕ) (ss : List StepTerm) (outside : ℕ) → outside ≡ length before.visible →
      AreSortedSteps base.records (symbol_types base) (step_trees ss) → after (with_claim assumed given (with_let symbol before)) ss ≡ passed at_end →
      take outside at_end.visible ≡ before.visible
  front_of_block before at_end symbol assumed given ss outside e typed h =
      let k = keeps_steps (with_claim assumed given (with_let symbol before)) at_end ss typed h in
      let new = record { label = assumed; cited = claimed given } ∷ [] in
      ap₂ take e (k.visible ∙ append_assoc before.visible new k.more) ∙ take-append_seam before.visible (new ++ k.more)

  -- ---- what is cited is visible

  abbrev Claims : List Cited → Type 0
  Claims cs = All (IsClaimOver base) (claims_of cs)

  look_claim : (l : ℕ) (v : List Labelled) → All (IsClaimOver base) (visible_claims v) → (c : Cited) → look_up v l ≡ Some c → Claims (c ∷ [])
  look_claim l [] f c is = absurd (cc)
  look_claim l (x ∷ xs) f c is =
      let p = All-parts (IsClaimOver base) (claims_of (x.cited ∷ [])) (visible_claims xs) f in
      either (eqb x.label l) p.0 (λ e. look_claim l xs p.1 c e) is
    where
      either : (b : Bool) → Claims (x.cited ∷ []) → (look_up xs l ≡ Some c → Claims (c ∷ [])) → cond b (Some x.cited) (look_up xs l) ≡ Some c → Claims (c ∷ [])
      either true here later e = let same : x.cited ≡ c = cc in subst (λ d. Claims (d ∷ [])) same here
      either false here later e = later e

  pub cited_claims : (visible : List Labelled) (labels : List ℕ) (cs : List Cited) → All (IsClaimOver base) (visible_claims visible) →
      citing visible labels ≡ found cs → All (IsClaimOver base) (claims_of cs)
  cited_claims visible [] cs h e =
      let is : [] ≡ cs = cc in subst Claims is (All-from_recursion (IsClaimOver base) [] tt)
  cited_claims visible (l ∷ ls) cs h e = here (λ ds d. cited_claims visible ls ds h d) (look_up visible l) (citing visible ls) refl refl e
    where
      here : ((ds : List Cited) → citing visible ls ≡ found ds → Claims ds) → (o : Option Cited) (rest : Citing) → look_up visible l ≡ o → citing visible ls ≡ rest →
          add_cited l o rest ≡ found cs → Claims cs
      here more None rest is_o is_rest f = absurd (cc)
      here more (Some c) (missing m) is_o is_rest f = absurd (cc)
      here more (Some c) (found ds) is_o is_rest f =
          let is : c ∷ ds ≡ cs = cc in
          subst Claims is
          (subst (All (IsClaimOver base)) (sym (claims_of-append (c ∷ []) ds))
          (All-append (IsClaimOver base) (claims_of (c ∷ [])) (claims_of ds) (look_claim l visible h c is_o) (more ds is_rest)))
