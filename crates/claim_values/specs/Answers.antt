-- What the test of a claim answers.
use Rattle.std.specs.Prelude.{◌≡◌, ℕ, zero, suc, ℤ, Bool, true, false, ⊤, List, Option, Result, Ok, Err}
use Rattle.slang_values.specs.Value.{Records, Values, truth_of}
use Rattle.slang_values.specs.Value as plain
use Rattle.slang_values.specs.Tree.{Bounds, inside, value, values}
use Rattle.slang_values.specs.declared.operators.Quantifier.{Quantifier}
use Rattle.validity.specs.Validity.{no_bounds}
use Rattle.run_stops.specs.Wide.{is_wide}
use Rattle.run_stops.specs.ClaimStops.{Visited, left, out, visit, visiting, visiting_all}
use Rattle.run_stops.specs.ClaimStops as stops
use Rattle.run_values.specs.declared.held.Held.{Held}
use Rattle.run_values.specs.declared.value.Value.{Value}
use Rattle.run_values.specs.Value.{plain_value, held_value, plain_values}
use Rattle.lk_claims.specs.declared.claim.Claim.{Claim}
use Rattle.expression_values.specs.declared.environment.Env.{Env}
use Rattle.claim_values.specs.declared.ending.ClaimEnd.{ClaimEnd}
use Rattle.claim_values.specs.declared.ending.ClaimEnd.TheVariants as e
use Rattle.claim_values.specs.Claims.{bounds_in, claim_in, claims_in, names_in}

-- The ending tells why the test stops. Want of memory tells nothing.
abbrev pub Tells : ClaimEnd → Visited → Type 0
Tells e.Wide visited = visited ≡ stops.wide
Tells e.Visits visited = visited ≡ out
Tells e.NoMemory visited = ⊤

-- An answer where the test does not stop and leaves so many visits, and else why it stops.
abbrev pub Answers : {T : Type 0} → (T → Type 0) → Visited → ℕ → Result T ClaimEnd → Type 0
Answers IsValue visited rest (Ok value) = (visited ≡ left rest) × IsValue value
Answers IsValue visited rest (Err end) = Tells end visited

-- the value, held or on its own, and a truth value
abbrev pub IsHeld : Visited → ℕ → plain.Value → Result Held ClaimEnd → Type 0
IsHeld visited rest value answer = Answers (λ held. held_value held ≡ value) visited rest answer

abbrev pub IsOwned : Visited → ℕ → plain.Value → Result Value ClaimEnd → Type 0
IsOwned visited rest value answer = Answers (λ v. plain_value v ≡ value) visited rest answer

abbrev pub IsTruth : Visited → ℕ → Bool → Result Bool ClaimEnd → Type 0
IsTruth visited rest holds answer = Answers (λ b. b ≡ holds) visited rest answer

abbrev pub AreValues : Visited → ℕ → Values → Result (List Value) ClaimEnd → Type 0
AreValues visited rest values answer = Answers (λ vs. plain_values vs ≡ values) visited rest answer

-- the value that a claim makes of its parts, where that fits
abbrev pub IsMade : plain.Value → Result Held ClaimEnd → Type 0
IsMade value (Ok held) = (is_wide value ≡ false) × (held_value held ≡ value)
IsMade value (Err e.Wide) = is_wide value ≡ true
IsMade value (Err e.Visits) = ⊥
IsMade value (Err e.NoMemory) = ⊤

-- one body of a quantifier, which takes a visit
abbrev pub counted : (ℕ → Visited) → ℕ → Visited
counted body zero = out
counted body (suc visits) = body visits

module _ (records : Records) (env : Env) (bound : List ℤ) where
  abbrev pub claim_value : Claim → plain.Value
  claim_value claim = value records (names_in env) (bounds_in bound) (claim_in env claim)

  abbrev pub visits_of : Claim → ℕ → Visited
  visits_of claim visits = visiting records (names_in env) (bounds_in bound) (claim_in env claim) visits

  -- what the body of a quantifier comes to where its variable has this value
  abbrev pub holds_at : Claim → ℤ → Bool
  holds_at body k = truth_of (value records (names_in env) (inside k (bounds_in bound)) (claim_in env body))

  abbrev pub visits_at : Claim → ℤ → ℕ → Visited
  visits_at body k visits = visiting records (names_in env) (inside k (bounds_in bound)) (claim_in env body) visits

  abbrev pub AnswersClaim : Claim → ℕ → ℕ → Result Held ClaimEnd → Type 0
  AnswersClaim claim before after answer = IsHeld (visits_of claim before) after (claim_value claim) answer

  abbrev pub AnswersClaims : List Claim → ℕ → ℕ → Result (List Value) ClaimEnd → Type 0
  AnswersClaims claims before after answer =
      AreValues (visiting_all records (names_in env) (bounds_in bound) (claims_in env claims) before) after
      (values records (names_in env) (bounds_in bound) (claims_in env claims)) answer

-- The truth value of the claim, where its test does not stop.
abbrev pub AnswersTest : Records → Env → Claim → ℕ → ℕ → Result Bool ClaimEnd → Type 0
AnswersTest records env claim before after answer =
    IsTruth (visiting records (names_in env) no_bounds (claim_in env claim) before) after (truth_of (value records (names_in env) no_bounds (claim_in env claim))) answer

-- what a sequence gives where it has no element
abbrev pub default_element : Records → plain.Value → plain.Value
default_element records plain.unit = plain.unit
default_element records (plain.number z) = plain.unit
default_element records (plain.truth b) = plain.unit
default_element records (plain.sequence t vs) = plain.default records t
default_element records (plain.record_value n vs) = plain.unit
