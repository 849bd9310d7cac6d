-- Which lists of steps are accepted over a list of facts, and else which step is the first that is refused, and why.
use Rattle.std.specs.Prelude.{ℕ, List, [], ◌∷◌, ◌++◌, Bool, true, false, not, ◌&&◌, ◌||◌, ◌==◌, if◌then◌else◌, Option, Some, None, slice_get}
use Rattle.std.specs.List.{list_any}
use Rattle.slang_values.specs.Tree.{Tree}
use Rattle.validity.specs.Validity.{SequentTree}
use Rattle.deduction_rules.specs.Step.{StepTree, line, block, StepTrees, no_steps, step_then, Cited, claimed, concluded, conclusion}
use Rattle.deduction_rules.specs.Replacement.{has_symbol}
use Rattle.deduction_rules.specs.Rules.{Rule, Algebra, Auto, rules, fits_number}

-- ---- what a step sees

pub record Labelled : Type 0 where
  pub label : ℕ
  pub cited : Cited

-- What stands before a step.
pub record Before : Type 0 where
  -- The steps and assumptions that may be cited, in the order of the text: those earlier in the same block or in a block around it. A
  -- block that has ended is one of them, and nothing in it is.
  pub visible : List Labelled
  -- the symbols in the facts and in all earlier claims and assumptions, visible or not
  pub used : ℕ → Bool
  -- the symbols of the Lets whose blocks have ended, but for one that is a Let's again
  pub ended : ℕ → Bool

abbrev pub start : List (Tree ℕ) → Before
start facts = record { visible = []; used = λ n. list_any (has_symbol (λ m. m == n)) facts; ended = λ n. false }

-- after a claim, or the assumption of a block that begins, of that label
abbrev pub with_claim : ℕ → Tree ℕ → Before → Before
with_claim label t before = record {
  visible = before.visible ++ record { label = label; cited = claimed t } ∷ [];
  used = λ n. before.used n || has_symbol (λ m. m == n) t;
  ended = before.ended;
}

abbrev pub is_symbol : Option ℕ → ℕ → Bool
is_symbol None n = false
is_symbol (Some k) n = k == n

-- at the beginning of a block with that Let
abbrev pub with_let : Option ℕ → Before → Before
with_let symbol before = record before { ended = λ n. before.ended n && not (is_symbol symbol n) }

-- after a block, from what stood before it and what stands at its end: only the block itself may be cited
abbrev pub with_block : ℕ → Option ℕ → Tree ℕ → Option (Tree ℕ) → Before → Before → Before
with_block label symbol given shown before at_end = record {
  visible = before.visible ++ record { label = label; cited = concluded symbol given shown } ∷ [];
  used = at_end.used;
  ended = λ n. at_end.ended n || is_symbol symbol n;
}

-- ---- citing

abbrev pub look_up : List Labelled → ℕ → Option Cited
look_up [] label = None
look_up (e ∷ es) label = if e.label == label then Some e.cited else look_up es label

pub data Citing : Type 0 where
  -- the first label that is not visible
  missing : ℕ → Citing
  found : List Cited → Citing

abbrev pub add_cited : ℕ → Option Cited → Citing → Citing
add_cited label None rest = missing label
add_cited label (Some c) (missing l) = missing l
add_cited label (Some c) (found cs) = found (c ∷ cs)

-- what the labels stand for
abbrev pub citing : List Labelled → List ℕ → Citing
citing visible [] = found []
citing visible (l ∷ ls) = add_cited l (look_up visible l) (citing visible ls)

-- ---- why a step is refused

pub data Refusal : Type 0 where
  -- that label, the first of those cited, is not visible
  Cite : ℕ → Refusal
  -- the claim has not the form that the rule gives it, from what is cited
  Shape : Refusal
  -- a symbol outside its block
  Symbol : Refusal
  -- what is claimed by automation is not closed
  NotClosed : Refusal

abbrev pub claims_of : List Cited → List (Tree ℕ)
claims_of [] = []
claims_of (claimed t ∷ cs) = t ∷ claims_of cs
claims_of (concluded k a x ∷ cs) = claims_of cs

-- the visible assumptions and claims in the order of the text
abbrev pub visible_claims : List Labelled → List (Tree ℕ)
visible_claims [] = []
visible_claims (e ∷ es) = claims_of (e.cited ∷ []) ++ visible_claims es

-- the claim from these facts alone
abbrev pub sequent_of : SequentTree → List (Tree ℕ) → Tree ℕ → SequentTree
sequent_of base facts c = record base { facts = facts; goal = c }

-- Algebra is closed from the cited claims alone, in the order in which they are cited, and Auto from the facts and then all visible
-- assumptions and claims. Any other rule needs no closing.
abbrev pub is_closed_by : (SequentTree → Bool) → SequentTree → List Labelled → Option Rule → List Cited → Tree ℕ → Bool
is_closed_by closes base visible (Some Algebra) cs c = closes (sequent_of base (claims_of cs) c)
is_closed_by closes base visible (Some Auto) cs c = closes (sequent_of base (base.facts ++ visible_claims visible) c)
is_closed_by closes base visible rule cs c = true

abbrev pub line_refusal : (SequentTree → Bool) → SequentTree → Before → Tree ℕ → ℕ → Citing → Option Refusal
line_refusal closes base before c rule (missing label) = Some (Cite label)
line_refusal closes base before c rule (found cs) =
    if not (fits_number base.facts rule cs c) then Some Shape else (
    if has_symbol before.ended c then Some Symbol else (
    if not (is_closed_by closes base before.visible (slice_get rules rule) cs c) then Some NotClosed else None))

-- A Let's symbol stands nowhere before its block.
abbrev pub is_used : Option ℕ → Before → Bool
is_used None before = false
is_used (Some k) before = before.used k

-- ---- steps one after the other

pub data Progress : Type 0 where
  -- all steps are accepted, and this stands before what follows
  passed : Before → Progress
  -- at the step or assumption of that label
  refused_at : ℕ → Refusal → Progress

abbrev pub unless_refused : ℕ → Option Refusal → Before → Progress
unless_refused label None before = passed before
unless_refused label (Some why) before = refused_at label why

abbrev pub and_then : Progress → (Before → Progress) → Progress
and_then (passed before) next = next before
and_then (refused_at label why) next = refused_at label why

abbrev mutual
  pub after_step : (SequentTree → Bool) → SequentTree → Before → StepTree → Progress
  after_step closes base before (line label claim rule cites) =
      unless_refused label (line_refusal closes base before claim rule (citing before.visible cites)) (with_claim label claim before)
  after_step closes base before (block label symbol assumed given steps) =
      if is_used symbol before then refused_at label Symbol else (
      if has_symbol (with_let symbol before).ended given then refused_at assumed Symbol else
      and_then (after_steps closes base (with_claim assumed given (with_let symbol before)) steps)
      (λ at_end. passed (with_block label symbol given (conclusion given steps) before at_end)))

  pub after_steps : (SequentTree → Bool) → SequentTree → Before → StepTrees → Progress
  after_steps closes base before no_steps = passed before
  after_steps closes base before (step_then s ss) =
      and_then (after_step closes base before s) (λ next. after_steps closes base next ss)

-- ---- the answer

pub data Deduction : Type 0 where
  -- the claims of the outermost steps in order
  accepted : List (Tree ℕ) → Deduction
  -- the first step or assumption that is refused, by its label, and why
  refused : ℕ → Refusal → Deduction

abbrev pub deduction_of : Progress → Deduction
deduction_of (passed before) = accepted (visible_claims before.visible)
deduction_of (refused_at label why) = refused label why

-- The answer over the facts of the base; its goal is not looked at.
abbrev pub deduction : (SequentTree → Bool) → SequentTree → StepTrees → Deduction
deduction closes base steps = deduction_of (after_steps closes base (start base.facts) steps)
