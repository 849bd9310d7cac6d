-- What became of a claim from what became of its parts.
use Rattle.std.proofs.Common.{◌≡◌, ℕ, Bool, true, false, Result, Ok, Err, if◌then◌else◌, refl, sym, ap, ◌∙◌, subst}
use Rattle.slang_values.specs.Value as plain
use Rattle.run_stops.specs.Wide.{is_wide}
use Rattle.run_stops.specs.ClaimStops.{Visited, left, and_then, made}
use Rattle.run_stops.specs.ClaimStops as stops
use Rattle.run_values.specs.declared.held.Held.{Held}
use Rattle.claim_values.specs.declared.ending.ClaimEnd.{ClaimEnd}
use Rattle.claim_values.specs.declared.ending.ClaimEnd.TheVariants as e
use Rattle.claim_values.specs.Answers.{Tells, Answers, IsHeld, IsMade}

-- what comes behind a part that does not stop
pub behind : (visited : Visited) (rest : ℕ) (next : ℕ → Visited) → visited ≡ left rest → and_then visited next ≡ next rest
behind visited rest next h = ap (λ (v : Visited). and_then v next) h

-- a part that stops stops the whole
pub stops_whole : (end : ClaimEnd) (visited : Visited) (next : ℕ → Visited) → Tells end visited → Tells end (and_then visited next)
stops_whole e.Wide visited next h = ap (λ (v : Visited). and_then v next) h
stops_whole e.Visits visited next h = ap (λ (v : Visited). and_then v next) h
stops_whole e.NoMemory visited next h = tt

pub tells_same : (end : ClaimEnd) (visited other : Visited) → visited ≡ other → Tells end other → Tells end visited
tells_same e.Wide visited other same h = same ∙ h
tells_same e.Visits visited other same h = same ∙ h
tells_same e.NoMemory visited other same h = tt

pub stops_behind : (end : ClaimEnd) (visited : Visited) (rest : ℕ) (next : ℕ → Visited) → visited ≡ left rest → Tells end (next rest) → Tells end (and_then visited next)
stops_behind end visited rest next goes h = tells_same end (and_then visited next) (next rest) (behind visited rest next goes) h

-- a value that is made of no parts
pub leaf : (value : plain.Value) (visits : ℕ) (answer : Result Held ClaimEnd) → IsMade value answer → IsHeld (made value visits) visits value answer
leaf value visits (Ok held) h = (ap (λ (b : Bool). if b then stops.wide else left visits) h.0, h.1)
leaf value visits (Err e.Wide) h = ap (λ (b : Bool). if b then stops.wide else left visits) h
leaf value visits (Err e.Visits) h = absurd h
leaf value visits (Err e.NoMemory) h = tt

pub held_behind : (visited : Visited) (rest more : ℕ) (next : ℕ → Visited) (value : plain.Value) (answer : Result Held ClaimEnd) → visited ≡ left rest
    → IsHeld (next rest) more value answer → IsHeld (and_then visited next) more value answer
held_behind visited rest more next value answer goes h =
    subst (λ (v : Visited). IsHeld v more value answer) (sym (behind visited rest next goes)) h

-- a value that is made of one part, of two and of three
pub made_behind : (visited : Visited) (rest : ℕ) (value : plain.Value) (answer : Result Held ClaimEnd) → visited ≡ left rest → IsMade value answer
    → IsHeld (and_then visited (made value)) rest value answer
made_behind visited rest value answer goes h = held_behind visited rest rest (made value) value answer goes (leaf value rest answer h)

pub made_behind_two : (first : Visited) (second : ℕ → Visited) (rest more : ℕ) (value : plain.Value) (answer : Result Held ClaimEnd) → first ≡ left rest
    → second rest ≡ left more → IsMade value answer → IsHeld (and_then first (λ n. and_then (second n) (made value))) more value answer
made_behind_two first second rest more value answer goes on h =
    held_behind first rest more (λ n. and_then (second n) (made value)) value answer goes (made_behind (second rest) more value answer on h)

pub made_behind_three : (first : Visited) (second third : ℕ → Visited) (rest more last : ℕ) (value : plain.Value) (answer : Result Held ClaimEnd) → first ≡ left rest
    → second rest ≡ left more → third more ≡ left last → IsMade value answer
    → IsHeld (and_then first (λ n. and_then (second n) (λ m. and_then (third m) (made value)))) last value answer
made_behind_three first second third rest more last value answer goes on further h =
    held_behind first rest last (λ n. and_then (second n) (λ m. and_then (third m) (made value))) value answer goes
    (made_behind_two (second rest) third more last value answer on further h)

-- a value that is made of no parts, and is found as another one that is the same
pub leaf_same : (value found : plain.Value) (visits : ℕ) (answer : Result Held ClaimEnd) → found ≡ value → IsMade found answer → IsHeld (made value visits) visits value answer
leaf_same value found visits answer same h = subst (λ (v : plain.Value). IsHeld (made v visits) visits v answer) same (leaf found visits answer h)

-- two parts and what comes behind them
pub then_both : (first : Visited) (second next : ℕ → Visited) → and_then (and_then first second) next ≡ and_then first (λ n. and_then (second n) next)
then_both (left n) second next = refl
then_both stops.wide second next = refl
then_both stops.out second next = refl

pub ruleset step_lines = (stops_whole, stops_behind, leaf, made_behind, made_behind_two, made_behind_three)
