-- From the plain data of a claim to the claim, and of several, one after the other.
use Rattle.std.proofs.Common.{◌≡◌, ℕ, suc, ◌+◌, ◌<◌, ◌≤◌, ℤ, List, [], ◌∷◌, ◌++◌, length, get_or, take, drop, Result, refl, sym, ap, ◌∙◌, subst}
use Rattle.std.proofs.Math.Seq.{drop-cons}
use Rattle.std.proofs.lemmas.List.{take-append-drop, take_more}
use Rattle.slang_values.specs.Number.{numbers_between}
use Rattle.slang_values.specs.Value.{Records, Values, value_then, with_value_last, number_of, truth}
use Rattle.slang_values.specs.Value as plain
use Rattle.slang_values.specs.Tree.{Bounds, value, values, holds_of}
use Rattle.slang_values.specs.declared.operators.Quantifier.{Quantifier}
use Rattle.program_trees.specs.Claims.{ClaimTree, renamed_claim}
use Rattle.lk_claims.specs.declared.claim.Claim.{Claim, size-Claim}
use Rattle.lk_claims.specs.Shape.{deepest}
use Rattle.lk_claims.proofs.Sizes.{size-deepest}
use Rattle.lk_claims.specs.Claim.{claim_tree}
use Rattle.run_stops.specs.ClaimStops.{Visited, left, wide, out, and_then, visit, visiting, visiting_all}
use Rattle.run_values.specs.declared.held.Held.{Held}
use Rattle.run_values.specs.declared.value.Value.{Value}
use Rattle.expression_values.specs.declared.environment.Env.{Env}
use Rattle.expression_values.specs.Environment.{variable_in}
use Rattle.claim_values.specs.declared.ending.ClaimEnd.{ClaimEnd}
use Rattle.claim_values.specs.Answers.{Tells, IsHeld, AnswersClaim, AnswersClaims, visits_of, claim_value, holds_at, visits_at}
use Rattle.claim_values.specs.Claims.{bounds_in, claims_in, names_in}
use Rattle.claim_values.proofs.Steps.{behind, stops_whole, stops_behind, tells_same, then_both}

pub over : (records : Records) (env : Env) (bound : List ℤ) (claim : Claim) (t : ClaimTree ℕ) (before after : ℕ) (answer : Result Held ClaimEnd) → claim_tree claim ≡ t
    → IsHeld (visiting records (names_in env) (bounds_in bound) (renamed_claim (variable_in env) t) before) after
    (value records (names_in env) (bounds_in bound) (renamed_claim (variable_in env) t)) answer
    → AnswersClaim records env bound claim before after answer
over records env bound claim t before after answer is h =
    subst (λ (x : ClaimTree ℕ). IsHeld (visiting records (names_in env) (bounds_in bound) (renamed_claim (variable_in env) x) before) after
    (value records (names_in env) (bounds_in bound) (renamed_claim (variable_in env) x)) answer) (sym is) h

-- the same bound variables
pub among : (records : Records) (env : Env) (bound other : List ℤ) (claim : Claim) (before after : ℕ) (answer : Result Held ClaimEnd) → other ≡ bound
    → AnswersClaim records env other claim before after answer → AnswersClaim records env bound claim before after answer
among records env bound other claim before after answer same h = subst (λ (b : List ℤ). AnswersClaim records env b claim before after answer) same h

-- ---- several claims

goes_both : (visited : Visited) (next : ℕ → Visited) (last : ℕ) → and_then visited next ≡ left last → (n : ℕ) × (visited ≡ left n) × (next n ≡ left last)
goes_both (left n) next last h = (n, refl, h)
goes_both wide next last h = absurd (cc)
goes_both out next last h = absurd (cc)

left_inj : {m n : ℕ} → left m ≡ left n → m ≡ n
left_inj e = cc

module _ (records : Records) (env : Env) (bound : List ℤ) where
  abbrev pub all_visits : List Claim → ℕ → Visited
  all_visits claims visits = visiting_all records (names_in env) (bounds_in bound) (claims_in env claims) visits

  abbrev pub all_values : List Claim → Values
  all_values claims = values records (names_in env) (bounds_in bound) (claims_in env claims)

  -- one more that does not stop
  pub goes_more : (claims : List Claim) (claim : Claim) (before mid after : ℕ) → all_visits claims before ≡ left mid → visits_of records env bound claim mid ≡ left after
      → all_visits (claims ++ claim ∷ []) before ≡ left after
  goes_more [] claim before mid after h g =
      ap (λ (n : ℕ). and_then (visits_of records env bound claim n) left) (left_inj h) ∙ ap (λ (v : Visited). and_then v left) g
  goes_more (first ∷ claims) claim before mid after h g =
      let parts = goes_both (visits_of records env bound first before) (all_visits claims) mid h in
      behind (visits_of records env bound first before) parts.0 (all_visits (claims ++ claim ∷ [])) parts.1
      ∙ goes_more claims claim parts.0 mid after parts.2 g

  -- behind those that do not stop, one stops
  pub stops_there : (end : ClaimEnd) (claims : List Claim) (claim : Claim) (others : List Claim) (before mid : ℕ) → all_visits claims before ≡ left mid
      → Tells end (visits_of records env bound claim mid) → Tells end (all_visits (claims ++ claim ∷ others) before)
  stops_there end [] claim others before mid h told =
      stops_whole end (visits_of records env bound claim before) (all_visits others)
      (subst (λ (n : ℕ). Tells end (visits_of records env bound claim n)) (sym (left_inj h)) told)
  stops_there end (first ∷ claims) claim others before mid h told =
      let parts = goes_both (visits_of records env bound first before) (all_visits claims) mid h in
      stops_behind end (visits_of records env bound first before) parts.0 (all_visits (claims ++ claim ∷ others)) parts.1
      (stops_there end claims claim others parts.0 mid parts.2 told)

  pub one_value_more : (claims : List Claim) (claim : Claim) → all_values (claims ++ claim ∷ []) ≡ with_value_last (all_values claims) (claim_value records env bound claim)
  one_value_more [] claim = refl
  one_value_more (first ∷ claims) claim = ap (value_then (claim_value records env bound first)) (one_value_more claims claim)

-- no claim of a list is deeper than the deepest
pub deepest_at : (claims : List Claim) (i : ℕ) (claim : Claim) → i < length claims → claim ≡ get_or claims i claim → size-Claim claim ≤ deepest claims
deepest_at claims i claim within is = subst (λ (x : Claim). size-Claim x ≤ deepest claims) (sym is) (size-deepest claims i claim within)

-- ---- quantifiers

module _ (records : Records) (env : Env) (bound : List ℤ) (quantifier : Quantifier) (low high body : Claim) where
  abbrev pub ends : ℕ → Visited
  ends before = and_then (visits_of records env bound low before) (visits_of records env bound high)

  abbrev numbers : List ℤ
  numbers = numbers_between (number_of (claim_value records env bound low)) (number_of (claim_value records env bound high))

  abbrev tests : ℕ → Visited
  tests rest = visit quantifier (holds_at records env bound body) (visits_at records env bound body) numbers rest

  abbrev whole : ℕ → Visited
  whole before = and_then (visits_of records env bound low before) (λ rest. and_then (visits_of records env bound high rest) tests)

  -- an end of the range stops
  pub ends_stop : (end : ClaimEnd) (before : ℕ) → Tells end (ends before) → Tells end (whole before)
  ends_stop end before told =
      tells_same end (whole before) (and_then (ends before) tests) (sym (then_both (visits_of records env bound low before) (visits_of records env bound high) tests))
      (stops_whole end (ends before) tests told)

  -- the ends are these numbers, and the bodies come to this
  pub bodies_come : (other : List ℤ) (from to : ℤ) (before mid after : ℕ) (answer : Result Held ClaimEnd) → other ≡ bound
      → from ≡ number_of (claim_value records env bound low) → to ≡ number_of (claim_value records env bound high) → ends before ≡ left mid
      → IsHeld (visit quantifier (holds_at records env other body) (visits_at records env other body) (numbers_between from to) mid) after
      (truth (holds_of quantifier (holds_at records env other body) (numbers_between from to))) answer
      → IsHeld (whole before) after (truth (holds_of quantifier (holds_at records env bound body) numbers)) answer
  bodies_come other from to before mid after answer same is_from is_to goes h =
      subst (λ (v : Visited). IsHeld v after (truth (holds_of quantifier (holds_at records env bound body) numbers)) answer)
      (sym (behind (ends before) mid tests goes) ∙ then_both (visits_of records env bound low before) (visits_of records env bound high) tests)
      (subst (λ (z : ℤ). IsHeld (visit quantifier (holds_at records env bound body) (visits_at records env bound body)
      (numbers_between (number_of (claim_value records env bound low)) z) mid) after
      (truth (holds_of quantifier (holds_at records env bound body) (numbers_between (number_of (claim_value records env bound low)) z))) answer) is_to
      (subst (λ (z : ℤ). IsHeld (visit quantifier (holds_at records env bound body) (visits_at records env bound body) (numbers_between z to) mid) after
      (truth (holds_of quantifier (holds_at records env bound body) (numbers_between z to))) answer) is_from
      (subst (λ (b : List ℤ). IsHeld (visit quantifier (holds_at records env b body) (visits_at records env b body) (numbers_between from to) mid) after
      (truth (holds_of quantifier (holds_at records env b body) (numbers_between from to))) answer) same h)))
