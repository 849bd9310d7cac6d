-- Steps that are made from the results of their parts.
use Rattle.std.proofs.Common.{◌≡◌, ℕ, Bool, Result, List, [], ◌∷◌, ◌++◌, map, refl, sym, ap, ap₂, ◌∙◌, subst}
use Rattle.std.specs.Prelude.{IfOk, OnOk}
use Rattle.std.proofs.lemmas.List.{map-append}
use Rattle.std.proofs.lemmas.Result.{IfOk-at_ok, IfOk-weaker}
use Rattle.slang_tree.specs.declared.statement.Step.{Step}
use Rattle.slang_tree.specs.StmtTree as text
use Rattle.program_trees.specs.Claims.{ClaimTree, ProofStepTree, line, block, step_then, renamed_steps}
use Rattle.program_trees.specs.Variables.{Variable}
use Rattle.lk_claims.specs.declared.claim.Claim.{Claim}
use Rattle.lk_claims.specs.declared.step.ProofStep.{ProofStep}
use Rattle.lk_claims.specs.Claim.{claim_tree}
use Rattle.lk_claims.specs.Step.{step_tree, step_trees, steps_of}
use Rattle.lk_programs.specs.declared.program.RecordTy.{RecordTy}
use Rattle.type_rules.specs.Meanings.{Scope}
use Rattle.typed_texts.specs.Claims.{step_of_tree, steps_of_trees}
use Rattle.name_scopes.specs.declared.scope.NameScope.{NameScope}
use Rattle.name_scopes.specs.Fits.{Fits}
use Rattle.typed_names.specs.declared.variables.Numbering.{Numbering}
use Rattle.typed_names.specs.Variables.{number_in}
use Rattle.typed_names.specs.Fields.{HasFields}
use Rattle.claim_making.specs.Parts.{FromTwo}
use Rattle.claim_making.specs.Made.{IsClaim}
use Rattle.claim_making.proofs.Combined.{two_scope}
use Rattle.step_making.specs.Made.{AreSteps, IsStep, numbered_step}

-- the steps of the text over numbers
abbrev pub made_each : Numbering → Scope → List Step → List (ProofStepTree ℕ)
made_each numbers at steps = map (λ (s : Step). numbered_step numbers (step_of_tree at (text.step_tree s))) steps

each_tree : (numbers : Numbering) (at : Scope) (steps : List Step) →
    steps_of (made_each numbers at steps) ≡ renamed_steps (number_in numbers) (steps_of_trees at (text.steps_of (map text.step_tree steps)))
each_tree numbers at [] = refl
each_tree numbers at (s ∷ steps) = ap (step_then (numbered_step numbers (step_of_tree at (text.step_tree s)))) (each_tree numbers at steps)

-- the trees of steps that were made
pub trees_made : (records : List RecordTy) (numbers : Numbering) (known : NameScope) (steps : List Step) (made : List ProofStep) (at : Scope) →
    AreSteps records numbers known steps made → Fits known at → HasFields records at →
    step_trees made ≡ renamed_steps (number_in numbers) (steps_of_trees at (text.steps_of (map text.step_tree steps)))
trees_made records numbers known steps made at are fits fields = ap steps_of (are.are at fits fields) ∙ each_tree numbers at steps

abbrev pub NodeLine : ℕ → ℕ → Claim → List ℕ → ProofStep → Type 0
NodeLine label rule c ns step = step_tree step ≡ line label (claim_tree c) rule ns

abbrev pub NodeBlock : ℕ → Bool → ℕ → Claim → List ProofStep → ProofStep → Type 0
NodeBlock label bind assumed c ss step = step_tree step ≡ block label bind assumed (claim_tree c) (step_trees ss)

module _ (records : List RecordTy) (numbers : Numbering) where
  -- the step of the same tree
  pub of_tree : {E : Type 0} (known : NameScope) (made : Result ProofStep E) (given tree : text.StepTree) → given ≡ tree →
      IfOk made (IsStep records numbers known (λ at. step_of_tree at tree)) → IfOk made (IsStep records numbers known (λ at. step_of_tree at given))
  of_tree known made given tree same h = subst (λ t. IfOk made (IsStep records numbers known (λ at. step_of_tree at t))) (sym same) h

  pub line_made : {E : Type 0} (known : NameScope) (a : Result Claim E) (cites : Result (List ℕ) E) (label rule : ℕ) (cited : List ℕ)
      (claim : Scope → ClaimTree Variable) (made : Result ProofStep E) →
      IfOk a (IsClaim records numbers known claim) → IfOk cites (λ ns. ns ≡ cited) → IfOk made (FromTwo a cites (NodeLine label rule)) →
      IfOk made (IsStep records numbers known (λ at. line label (claim at) rule cited))
  line_made known a cites label rule cited claim made one two all =
      IfOk-weaker made (FromTwo a cites (NodeLine label rule)) (IsStep records numbers known (λ at. line label (claim at) rule cited))
      (λ step from. record {
        is = λ at fits fields.
            from.is
            ∙ ap₂ (λ c ns. line label c rule ns) ((IfOk-at_ok (IsClaim records numbers known claim) from.was_first one).is at fits fields)
            (IfOk-at_ok (λ ns. ns ≡ cited) from.was_second two);
      }) all

  -- a block, whose parts stand in a scope of the block's own
  pub block_made : {E : Type 0} (known inner between : NameScope) (a : Result Claim E) (b : Result (List ProofStep) E) (label : ℕ) (bind : Bool) (assumed : ℕ)
      (inside : Scope → Scope) (claim : Scope → ClaimTree Variable) (steps : List Step) (made : Result ProofStep E) →
      ((at : Scope) → Fits known at → Fits inner (inside at)) → ((at : Scope) → HasFields records at → HasFields records (inside at)) →
      IfOk a (IsClaim records numbers inner claim) → OnOk a (between ≡ inner) → IfOk b (AreSteps records numbers between steps) →
      IfOk made (FromTwo a b (NodeBlock label bind assumed)) →
      IfOk made (IsStep records numbers known
      (λ at. block label bind assumed (claim (inside at)) (steps_of_trees (inside at) (text.steps_of (map text.step_tree steps)))))
  block_made known inner between a b label bind assumed inside claim steps made fit same one kept two all =
      IfOk-weaker made (FromTwo a b (NodeBlock label bind assumed)) (IsStep records numbers known
      (λ at. block label bind assumed (claim (inside at)) (steps_of_trees (inside at) (text.steps_of (map text.step_tree steps)))))
      (λ step from. record {
        is = λ at fits fields.
            let here : Fits inner (inside at) = fit at fits in
            let later : Fits between (inside at) = subst (λ k. Fits k (inside at)) (sym (IfOk-at_ok (λ _. between ≡ inner) from.was_first kept)) here in
            from.is
            ∙ ap₂ (λ c ss. block label bind assumed c ss)
            ((IfOk-at_ok (IsClaim records numbers inner claim) from.was_first one).is (inside at) here (same at fields))
            (trees_made records numbers between steps from.second (inside at) (IfOk-at_ok (AreSteps records numbers between steps) from.was_second two) later
            (same at fields));
      }) all

  -- one step more
  pub one_more : (known between : NameScope) (before all : List Step) (step : Step) (done : List ProofStep) (made : ProofStep) →
      between ≡ known → all ≡ before ++ step ∷ [] → AreSteps records numbers known before done →
      IsStep records numbers between (λ at. step_of_tree at (text.step_tree step)) made → AreSteps records numbers known all (done ++ made ∷ [])
  one_more known between before all step done made kept more are next = record {
    are = λ at fits fields.
        let f : Step → ProofStepTree ℕ = λ s. numbered_step numbers (step_of_tree at (text.step_tree s)) in
        map-append step_tree done (made ∷ [])
        ∙ ap₂ (λ (xs ys : List (ProofStepTree ℕ)). xs ++ ys) (are.are at fits fields)
        (ap (λ s. s ∷ []) (next.is at (subst (λ k. Fits k at) (sym kept) fits) fields))
        ∙ sym (map-append f before (step ∷ [])) ∙ ap (map f) (sym more);
  }

pub none_yet : (records : List RecordTy) (numbers : Numbering) (known : NameScope) (made : List ProofStep) → made ≡ [] → AreSteps records numbers known []
    made
none_yet records numbers known made none = record { are = λ at fits fields. ap (map step_tree) none }

-- ---- the scope is the same behind the parts

pub line_scope : {E : Type 0} (known after : NameScope) (label rule : ℕ) (a : Result Claim E) (cites : Result (List ℕ) E) (made : Result ProofStep E) →
    OnOk a (after ≡ known) → IfOk made (FromTwo a cites (NodeLine label rule)) → OnOk made (after ≡ known)
line_scope known after label rule a cites made same from =
    IfOk-weaker made (FromTwo a cites (NodeLine label rule)) (λ _. after ≡ known) (λ _ parts. IfOk-at_ok (λ _. after ≡ known) parts.was_first same) from

pub block_scope : {E : Type 0} (known between after : NameScope) (label : ℕ) (bind : Bool) (assumed : ℕ) (a : Result Claim E) (b : Result (List ProofStep)
    E) (made : Result ProofStep E) →
    OnOk a (between ≡ known) → OnOk b (after ≡ between) → IfOk made (FromTwo a b (NodeBlock label bind assumed)) → OnOk made (after ≡ known)
block_scope known between after label bind assumed a b made first second from = two_scope (NodeBlock label bind assumed) known between after a b made first
    second from
