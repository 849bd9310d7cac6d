-- Which variables a claim names, by its shape; and when one of a list does.
use Rattle.std.proofs.Common.{◌≡◌, ℕ, ℤ, ◌+◌, ◌<◌, ◌≤◌, Bool, true, false, ◌||◌, List, [], ◌∷◌, map, take, length, get_or, refl, ap, sym, ◌∙◌, zero, suc, arith}
use Rattle.std.specs.List.{list_any}
use Rattle.std.proofs.lemmas.List.{take_all}
use Rattle.std.proofs.lemmas.List.Folds.{list_any_more}
use Rattle.slang_values.specs.Tree.{Listed, Trees, literal, truth_literal, name, bound, unary, binary, update, quantified, listed}
use Rattle.slang_values.specs.declared.operators.Unary.{Unary}
use Rattle.slang_values.specs.declared.operators.Binary.{Binary}
use Rattle.slang_values.specs.declared.operators.Quantifier.{Quantifier}
use Rattle.validity.specs.Bind.{bind_all}
use Rattle.program_trees.specs.Claims.{ClaimTree, renamed_name, renamed_step, renamed_steps, renamed_noted, variable, old_variable, let_symbol}
use Rattle.lk_claims.specs.declared.claim.Claim.{Claim}
use Rattle.lk_claims.specs.declared.step.ProofStep.{ProofStep}
use Rattle.lk_claims.specs.Claim.{claim_tree, claim_trees}
use Rattle.lk_claims.specs.Step.{step_tree, step_trees}
use Rattle.lk_programs.specs.declared.program.Noted.{Noted}
use Rattle.lk_programs.specs.Program.{noted_tree}
use Rattle.leg_rules.specs.LegNames.{LegName}
use Rattle.leg_rules.specs.Mentions.{have_name, on_variable, mentions, some_mention, step_mentions, steps_mention, item_mentions, leg_mentions}
use Rattle.leg_items.specs.declared.name.Frame.{Frame}
use Rattle.leg_items.specs.declared.draft.DraftItem.{DraftItem}
use Rattle.leg_items.specs.Names.{frame_name}
use Rattle.leg_items.specs.Drafts.{framed, draft_item, items_of}

module _ (test : LegName → Bool) (frame : Frame) where
  abbrev named : ClaimTree ℕ → Bool
  named t = mentions test (framed frame t)

  pub mentions-literal : (t : ClaimTree ℕ) (z : ℤ) → t ≡ literal z → mentions test (framed frame t) ≡ false
  mentions-literal t z e = ap named e

  pub mentions-truth : (t : ClaimTree ℕ) (b : Bool) → t ≡ truth_literal b → mentions test (framed frame t) ≡ false
  mentions-truth t b e = ap named e

  pub mentions-bound : (t : ClaimTree ℕ) (n : ℕ) → t ≡ bound n → mentions test (framed frame t) ≡ false
  mentions-bound t n e = ap named e

  pub mentions-symbol : (t : ClaimTree ℕ) (n : ℕ) → t ≡ name (let_symbol n) → mentions test (framed frame t) ≡ false
  mentions-symbol t n e = ap named e

  pub mentions-variable : (t : ClaimTree ℕ) (n : ℕ) (x : LegName) → t ≡ name (variable n) → x ≡ frame_name frame n → mentions test (framed frame t) ≡ test x
  mentions-variable t n x e h = ap named e ∙ ap test (sym h)

  pub mentions-old : (t : ClaimTree ℕ) (n : ℕ) (x : LegName) → t ≡ name (old_variable n) → x ≡ frame_name frame n → mentions test (framed frame t) ≡ test x
  mentions-old t n x e h = ap named e ∙ ap test (sym h)

  pub mentions-unary : (op : Unary) (t a : ClaimTree ℕ) → t ≡ unary op a → mentions test (framed frame t) ≡ mentions test (framed frame a)
  mentions-unary op t a e = ap named e

  pub mentions-binary : (op : Binary) (t a b : ClaimTree ℕ) → t ≡ binary op a b →
      mentions test (framed frame t) ≡ mentions test (framed frame a) || mentions test (framed frame b)
  mentions-binary op t a b e = ap named e

  pub mentions-update : (t a i x : ClaimTree ℕ) → t ≡ update a i x →
      mentions test (framed frame t) ≡ mentions test (framed frame a) || (mentions test (framed frame i) || mentions test (framed frame x))
  mentions-update t a i x e = ap named e

  pub mentions-quantified : (q : Quantifier) (t low high body : ClaimTree ℕ) → t ≡ quantified q low high body →
      mentions test (framed frame t) ≡ mentions test (framed frame low) || (mentions test (framed frame high) || mentions test (framed frame body))
  mentions-quantified q t low high body e = ap named e

  some_named : (cs : List Claim) → have_name (on_variable test) (bind_all (λ a. name (renamed_name (frame_name frame) a)) (claim_trees cs))
      ≡ list_any (λ c. mentions test (framed frame (claim_tree c))) cs
  some_named [] = refl
  some_named (c ∷ cs) = ap (λ later. mentions test (framed frame (claim_tree c)) || later) (some_named cs)

  pub mentions-listed : (l : Listed) (t : ClaimTree ℕ) (cs : List Claim) → t ≡ listed l (claim_trees cs) →
      mentions test (framed frame t) ≡ list_any (λ c. mentions test (framed frame (claim_tree c))) cs
  mentions-listed l t cs e = ap named e ∙ some_named cs

  pub some_step : (steps : List ProofStep) → steps_mention test (renamed_steps (frame_name frame) (step_trees steps))
      ≡ list_any (λ s. step_mentions test (renamed_step (frame_name frame) (step_tree s))) steps
  some_step [] = refl
  some_step (s ∷ steps) = ap (λ later. step_mentions test (renamed_step (frame_name frame) (step_tree s)) || later) (some_step steps)

pub ruleset mention_lines = (mentions-literal, mentions-truth, mentions-bound, mentions-symbol, mentions-variable, mentions-old, mentions-unary, mentions-binary, mentions-update, mentions-quantified, mentions-listed)

-- ---- lists

-- one that passes the test settles it
pub any_at : {X : Type 0} (p : X → Bool) (xs : List X) (k : ℕ) (d : X) → k < length xs → p (get_or xs k d) ≡ true → list_any p xs ≡ true
any_at p [] k d h e = absurd (omega arith)
any_at p (x ∷ xs) zero d h e = ap (λ b. b || list_any p xs) e
any_at p (x ∷ xs) (suc k) d h e =
    elim (p x) as (λ b. b || list_any p xs ≡ true) [ true ↦ refl | false ↦ any_at p xs k d (omega arith) e ]

-- none of those so far, nor this
pub none_yet : {X : Type 0} (p : X → Bool) (xs : List X) (k : ℕ) (d : X) → k < length xs → list_any p (take k xs) ≡ false → p (get_or xs k d) ≡ false →
    list_any p (take (k + 1) xs) ≡ false
none_yet p xs k d h e f = list_any_more p xs k d h ∙ ap (λ b. b || p (get_or xs k d)) e ∙ f

pub any-map : {X Y : Type 0} (p : Y → Bool) (f : X → Y) (xs : List X) → list_any p (map f xs) ≡ list_any (λ x. p (f x)) xs
any-map p f [] = refl
any-map p f (x ∷ xs) = ap (λ later. p (f x) || later) (any-map p f xs)

pub ruleset any_lines = (any_at, none_yet)

-- one that was met passes the test
pub found : {X : Type 0} (p : X → Bool) (xs : List X) (k : ℕ) (x : X) → k < length xs → x ≡ get_or xs k x → p x ≡ true → list_any p xs ≡ true
found p xs k x h at e = any_at p xs k x h (ap p (sym at) ∙ e)

-- none does of those that were met, which are all
pub none_left : {X : Type 0} (p : X → Bool) (xs : List X) (k : ℕ) → length xs ≤ k → list_any p (take k xs) ≡ false → list_any p xs ≡ false
none_left p xs k h e = ap (list_any p) (sym (take_all k xs h)) ∙ e
