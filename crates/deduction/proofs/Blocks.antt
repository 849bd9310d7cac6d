-- What becomes of a block, case by case.
use Rattle.std.proofs.Common.{◌≡◌, ℕ, [], ◌∷◌, ◌++◌, take, Bool, true, false, cond, Option, sym, ap, ap₂, ◌∙◌}
use Rattle.slang_values.specs.Tree.{Tree}
use Rattle.validity.specs.Validity.{SequentTree}
use Rattle.deduction_rules.specs.Step.{block, StepTrees, concluded, conclusion}
use Rattle.deduction_rules.specs.Replacement.{has_symbol}
use Rattle.deduction_rules.specs.Deduction.{Before, with_claim, with_let, with_block, is_used, Refusal, Symbol, Progress, passed, refused_at, and_then, after_step, after_steps}
use Rattle.proof_scopes.specs.Scope.{after_block}
use Rattle.deduction.specs.declared.end.ProofEnd.{ProofEnd}
use Rattle.deduction.specs.End.{refusal_of, EndsSteps}

module _ (closes : SequentTree → Bool) (base : SequentTree) (before : Before) (label : ℕ) (symbol : Option ℕ) (assumed : ℕ) (given : Tree ℕ) (steps : StepTrees) where
  abbrev ending : Before → Progress
  ending at_end = passed (with_block label symbol given (conclusion given steps) before at_end)

  abbrev inner : Progress
  inner = after_steps closes base (with_claim assumed given (with_let symbol before)) steps

  abbrev whole : Progress
  whole = after_step closes base before (block label symbol assumed given steps)

  -- what stands there once the Let has begun, with its ended symbols
  pub at_begin : (begun : Before) → begun ≡ with_let symbol before → (b : Bool) → b ≡ has_symbol begun.ended given →
      b ≡ has_symbol (with_let symbol before).ended given
  at_begin begun is b e = e ∙ ap (λ x. has_symbol x.ended given) is

  pub block_given : false ≡ is_used symbol before → true ≡ has_symbol (with_let symbol before).ended given → whole ≡ refused_at assumed Symbol
  block_given h e =
      ap₂ (λ b c. cond b (refused_at label Symbol) (cond c (refused_at assumed Symbol) (and_then inner ending))) (sym h) (sym e)

  pub block_inner : false ≡ is_used symbol before → false ≡ has_symbol (with_let symbol before).ended given → whole ≡ and_then inner ending
  block_inner h e =
      ap₂ (λ b c. cond b (refused_at label Symbol) (cond c (refused_at assumed Symbol) (and_then inner ending))) (sym h) (sym e)

  pub block_refused : false ≡ is_used symbol before → false ≡ has_symbol (with_let symbol before).ended given → (l : ℕ) (why : Refusal) →
      inner ≡ refused_at l why → whole ≡ refused_at l why
  block_refused h e l why r = block_inner h e ∙ ap (λ p. and_then p ending) r

  pub block_passes : false ≡ is_used symbol before → false ≡ has_symbol (with_let symbol before).ended given → (at_end : Before) → inner ≡ passed at_end →
      (outside : ℕ) → take outside at_end.visible ≡ before.visible →
      whole ≡ passed (after_block outside symbol (record { label = label; cited = concluded symbol given (conclusion given steps) }) at_end)
  block_passes h e at_end r outside front =
      block_inner h e ∙ ap (λ p. and_then p ending) r ∙
      ap (λ v. passed (record {
        visible = v ++ record { label = label; cited = concluded symbol given (conclusion given steps) } ∷ [];
        used = at_end.used;
        ended = (after_block outside symbol (record { label = label; cited = concluded symbol given (conclusion given steps) }) at_end).ended;
      })) (sym front)

  -- ---- from what the calls in it tell

  abbrev begun : Before
  begun = with_claim assumed given (with_let symbol before)

  pub block_end : false ≡ is_used symbol before → false ≡ has_symbol (with_let symbol before).ended given → (inside : Before) → inside ≡ begun → (end : ProofEnd) →
      EndsSteps end (after_steps closes base inside steps) → EndsSteps end whole
  block_end h e inside is (ProofEnd.Bad step reason) r =
      block_refused h e step (refusal_of reason) (ap (λ b. after_steps closes base b steps) (sym is) ∙ r)
  block_end h e inside is (ProofEnd.Stopped told) r = tt
  block_end h e inside is ProofEnd.NoMemory r = tt

  pub block_done : false ≡ is_used symbol before → false ≡ has_symbol (with_let symbol before).ended given → (at_end new : Before) →
      after_steps closes base begun steps ≡ passed at_end → (outside : ℕ) → take outside at_end.visible ≡ before.visible → (shown : Option (Tree ℕ)) →
      shown ≡ conclusion given steps → new ≡ after_block outside symbol (record { label = label; cited = concluded symbol given shown }) at_end →
      whole ≡ passed new
  block_done h e at_end new r outside front shown is made =
      block_passes h e at_end r outside front ∙
      ap (λ s. passed (after_block outside symbol (record { label = label; cited = concluded symbol given s }) at_end)) (sym is) ∙ ap passed (sym made)
