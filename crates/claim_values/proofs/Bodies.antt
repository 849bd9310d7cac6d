-- The bodies of a quantifier, one after the other.
use Rattle.std.proofs.Common.{◌≡◌, ℕ, zero, suc, ◌-◌, ◌<◌, ℤ, pos, negsuc, ◌+ℤ◌, ◌-ℤ◌, ◌<ℤ◌, ◌≤ℤ◌, Bool, true, false, not, ◌&&◌, ◌||◌, List, [], ◌∷◌, ◌++◌, Result, if◌then◌else◌, refl, sym, ap, ◌∙◌, subst, arith}
use Rattle.std.proofs.lemmas.Int.{ints}
use lib.Signed.{lt_z}
use Rattle.slang_values.specs.Number.{at_least_zero, numbers_from, numbers_between}
use Rattle.slang_values.specs.Value.{Records, truth_of}
use Rattle.slang_values.specs.Tree.{Bounds, inside, value, holds_of}
use Rattle.slang_values.specs.declared.operators.Quantifier.{Quantifier}
use Rattle.run_stops.specs.ClaimStops.{Visited, left, out, and_then, decides, visit, visiting}
use Rattle.lk_claims.specs.declared.claim.Claim.{Claim}
use Rattle.expression_values.specs.declared.environment.Env.{Env}
use Rattle.claim_values.specs.declared.ending.ClaimEnd.{ClaimEnd}
use Rattle.claim_values.specs.Answers.{Tells, IsTruth, counted, visits_of, claim_value, holds_at, visits_at}
use Rattle.claim_values.specs.Claims.{bounds_in, claim_in, names_in}
use Rattle.claim_values.proofs.Places.{inside_pushed}
use Rattle.claim_values.proofs.Steps.{behind, stops_whole, tells_same}

-- ---- numbers

pub less_is : (a b : ℤ) → lt_z a b ≡ true → a <ℤ b
less_is a b h = grind (arith, ints, h)

none_below : (d : ℤ) → d ≤ℤ pos 0 → at_least_zero d ≡ 0
none_below (pos n) h = omega (arith, ints, h)
none_below (negsuc n) h = refl

one_more : (d e : ℤ) → pos 0 <ℤ d → e ≡ d -ℤ pos 1 → at_least_zero d ≡ suc (at_least_zero e)
one_more (pos zero) e h is = absurd (omega (arith, ints, h))
one_more (pos (suc n)) e h is = let same : e ≡ pos n = omega (arith, ints, is) in sym (ap (λ (z : ℤ). suc (at_least_zero z)) same)
one_more (negsuc n) e h is = absurd (omega (arith, ints, h))

between_none : (k high : ℤ) → high ≤ℤ k → numbers_between k high ≡ []
between_none k high h = ap (numbers_from k) (none_below (high -ℤ k) (omega (arith, ints, h)))

between_next : (k high : ℤ) → k <ℤ high → numbers_between k high ≡ k ∷ numbers_between (k +ℤ pos 1) high
between_next k high h = ap (numbers_from k) (one_more (high -ℤ k) (high -ℤ (k +ℤ pos 1)) (omega (arith, ints, h)) (omega (arith, ints)))

-- ---- bodies

module _ (q : Quantifier) (test : ℤ → Bool) (body : ℤ → ℕ → Visited) where
  abbrev pub going : ℤ → ℤ → ℕ → Visited
  going k high visits = visit q test body (numbers_between k high) visits

  abbrev pub holding : ℤ → ℤ → Bool
  holding k high = holds_of q test (numbers_between k high)

  visit_next : (k : ℤ) (ks : List ℤ) (visits : ℕ) → visit q test body (k ∷ ks) visits
      ≡ and_then (counted (body k) visits) (λ rest. if decides q (test k) then left rest else visit q test body ks rest)
  visit_next k ks zero = refl
  visit_next k ks (suc visits) = refl

  abbrev next_of : ℤ → ℤ → ℕ → Visited
  next_of k high rest = if decides q (test k) then left rest else going (k +ℤ pos 1) high rest

  going_next : (k high : ℤ) (visits : ℕ) → k <ℤ high → going k high visits ≡ and_then (counted (body k) visits) (next_of k high)
  going_next k high visits h = ap (λ (ks : List ℤ). visit q test body ks visits) (between_next k high h) ∙ visit_next k (numbers_between (k +ℤ pos 1) high) visits

  pub goes_on : (k high : ℤ) (visits rest : ℕ) → k <ℤ high → counted (body k) visits ≡ left rest → decides q (test k) ≡ false
      → going k high visits ≡ going (k +ℤ pos 1) high rest
  goes_on k high visits rest h goes undecided =
      going_next k high visits h ∙ behind (counted (body k) visits) rest (next_of k high) goes
      ∙ ap (λ (b : Bool). if b then left rest else going (k +ℤ pos 1) high rest) undecided

  pub decided : (k high : ℤ) (visits rest : ℕ) → k <ℤ high → counted (body k) visits ≡ left rest → decides q (test k) ≡ true → going k high visits ≡ left rest
  decided k high visits rest h goes is =
      going_next k high visits h ∙ behind (counted (body k) visits) rest (next_of k high) goes
      ∙ ap (λ (b : Bool). if b then left rest else going (k +ℤ pos 1) high rest) is

  pub stopped : (end : ClaimEnd) (k high : ℤ) (visits : ℕ) → k <ℤ high → Tells end (counted (body k) visits) → Tells end (going k high visits)
  stopped end k high visits h told = tells_same end (going k high visits) _ (going_next k high visits h) (stops_whole end (counted (body k) visits) (next_of k high) told)

  pub no_more : (k high : ℤ) (visits : ℕ) → high ≤ℤ k → going k high visits ≡ left visits
  no_more k high visits h = ap (λ (ks : List ℤ). visit q test body ks visits) (between_none k high h)

-- ---- what the quantifier is

undecided_is : (q : Quantifier) (test : ℤ → Bool) (k : ℤ) (ks : List ℤ) → decides q (test k) ≡ false → holds_of q test (k ∷ ks) ≡ holds_of q test ks
undecided_is Quantifier.All test k ks h = by_truth (test k) h
  where
    by_truth : (b : Bool) → not b ≡ false → b && holds_of Quantifier.All test ks ≡ holds_of Quantifier.All test ks
    by_truth true h = refl
    by_truth false h = absurd (cc)
undecided_is Quantifier.Exists test k ks h = ap (λ (b : Bool). b || holds_of Quantifier.Exists test ks) h

decided_is : (q : Quantifier) (test : ℤ → Bool) (k : ℤ) (ks : List ℤ) → decides q (test k) ≡ true → holds_of q test (k ∷ ks) ≡ test k
decided_is Quantifier.All test k ks h = by_truth (test k) h
  where
    by_truth : (b : Bool) → not b ≡ true → b && holds_of Quantifier.All test ks ≡ b
    by_truth true h = absurd (cc)
    by_truth false h = refl
decided_is Quantifier.Exists test k ks h = ap (λ (b : Bool). b || holds_of Quantifier.Exists test ks) h ∙ sym h

module _ (q : Quantifier) (test : ℤ → Bool) where
  pub holds_on : (k high : ℤ) → k <ℤ high → decides q (test k) ≡ false → holds_of q test (numbers_between k high) ≡ holds_of q test (numbers_between (k +ℤ pos 1) high)
  holds_on k high h undecided = ap (holds_of q test) (between_next k high h) ∙ undecided_is q test k (numbers_between (k +ℤ pos 1) high) undecided

  pub holds_there : (k high : ℤ) → k <ℤ high → decides q (test k) ≡ true → holds_of q test (numbers_between k high) ≡ test k
  holds_there k high h is = ap (holds_of q test) (between_next k high h) ∙ decided_is q test k (numbers_between (k +ℤ pos 1) high) is

  pub holds_of_none : (k high : ℤ) → high ≤ℤ k → holds_of q test (numbers_between k high) ≡ holds_of q (λ z. false) []
  holds_of_none k high h = ap (holds_of q test) (between_none k high h) ∙ by_quantifier q
    where
      by_quantifier : (p : Quantifier) → holds_of p test [] ≡ holds_of p (λ z. false) []
      by_quantifier Quantifier.All = refl
      by_quantifier Quantifier.Exists = refl

-- ---- one body

pub none_left : (body : ℕ → Visited) (visits : ℕ) → visits ≡ 0 → counted body visits ≡ out
none_left body visits h = ap (counted body) h

pub one_counted : (body : ℕ → Visited) (visits : ℕ) → (visits ≡ 0 → ⊥) → counted body visits ≡ body (visits - 1)
one_counted body zero h = absurd (h refl)
one_counted body (suc n) h = ap body (let same : n ≡ suc n - 1 = omega arith in same)

pub falls : (k high : ℤ) → k <ℤ high → at_least_zero (high -ℤ (k +ℤ pos 1)) < at_least_zero (high -ℤ k)
falls k high h = less (one_more (high -ℤ k) (high -ℤ (k +ℤ pos 1)) (omega (arith, ints, h)) (omega (arith, ints)))
  where
    less : {m n : ℕ} → n ≡ suc m → m < n
    less e = omega (arith, e)

module _ (records : Records) (env : Env) where
  -- a body among other bound variables that are the same, for another number that is the same
  pub same_body : (bound other : List ℤ) (body : Claim) (k z : ℤ) (visits rest : ℕ) (answer : Result Bool ClaimEnd) → other ≡ bound → z ≡ k
      → IsTruth (counted (visits_at records env other body z) visits) rest (holds_at records env other body z) answer
      → IsTruth (counted (visits_at records env bound body k) visits) rest (holds_at records env bound body k) answer
  same_body bound other body k z visits rest answer same is h =
      subst (λ (y : ℤ). IsTruth (counted (visits_at records env bound body y) visits) rest (holds_at records env bound body y) answer) is
      (subst (λ (b : List ℤ). IsTruth (counted (visits_at records env b body z) visits) rest (holds_at records env b body z) answer) same h)

  -- the variable of a body was pushed, and one visit taken
  pub pushed_body : (bound other : List ℤ) (body : Claim) (k z : ℤ) (visits fewer rest : ℕ) (answer : Result Bool ClaimEnd) → other ≡ bound ++ z ∷ [] → z ≡ k
      → (visits ≡ 0 → ⊥) → fewer ≡ visits - 1
      → IsTruth (visits_of records env other body fewer) rest (truth_of (claim_value records env other body)) answer
      → IsTruth (counted (visits_at records env bound body k) visits) rest (holds_at records env bound body k) answer
  pushed_body bound other body k z visits fewer rest answer is same some less h =
      let at : Bounds → ℕ → Type 0 = λ e n. IsTruth (visiting records (names_in env) e (claim_in env body) n) rest
      (truth_of (value records (names_in env) e (claim_in env body))) answer in
      let pushed : bounds_in other ≡ inside k (bounds_in bound) =
      ap bounds_in is ∙ inside_pushed bound z ∙ ap (λ (y : ℤ). inside y (bounds_in bound)) same in
      subst (λ (v : Visited). IsTruth v rest (holds_at records env bound body k) answer) (sym (one_counted (visits_at records env bound body k) visits some))
      (subst (λ (n : ℕ). at (inside k (bounds_in bound)) n) less (subst (λ (e : Bounds). at e fewer) pushed h))
