-- The cases of a sequent keep validity.
use Rattle.std.proofs.Common.{◌≡◌, ℕ, List, [], ◌∷◌, Bool, true, false, not, refl, ap}
use Rattle.std.specs.List.{AllByRecursion}
use Rattle.std.proofs.lemmas.List.Elements.{recursion_from_All}
use Rattle.slang_values.specs.Value.{Records, AreWellFormed, Value, truth_of}
use Rattle.slang_values.specs.Tree.{Tree, value}
use Rattle.slang_values.specs.Typing.{NameTypes, FitNames}
use Rattle.validity.specs.Validity.{SequentTree, symbol_types, IsClaim, IsWellSorted, IsTrueUnder, no_bounds}
use Rattle.read_rules.specs.Reads.{negation}
use Rattle.case_rules.specs.Cases.{cases_of, cases, hypotheses}
use Rattle.read_rules.specs.Some.{SomeIn}
use Rattle.case_rules.specs.Laws.{CaseHolds, TrueClaimsHaveACase, CasesKeepValidity}
use Rattle.case_rules.proofs.Covered.{some_case, all_some}
use Rattle.read_rules.proofs.ReadCases.{IsTrueTree, AllAreTrue}
use Rattle.read_rules.proofs.Some.{some_weaker, all_append}

module _ (records : Records) (fine : AreWellFormed records) (types : NameTypes ℕ) (names : ℕ → Value) (fit : FitNames records types names) where
  holds : (c : List (Tree ℕ)) → AllAreTrue records fine types names fit c → CaseHolds records names c
  holds [] h = tt
  holds (t ∷ ts) h = (h.0.true_there, holds ts h.1)

  facts_true : (ts : List (Tree ℕ)) → AllByRecursion (IsClaim records types) ts → AllByRecursion (IsTrueUnder records names) ts → AllAreTrue records fine types names fit ts
  facts_true [] h k = tt
  facts_true (t ∷ ts) h k = (record { typed = h.0.typed; true_there = k.0 }, facts_true ts h.1 k.1)

-- where the facts are true and the goal is not, some case holds, with its literals typed
pub case_of_sequent : (s : SequentTree) (sorted : IsWellSorted s) (names : ℕ → Value) (fit : FitNames s.records (symbol_types s) names) → AllByRecursion (IsTrueUnder s.records names) s.facts → truth_of (value s.records names no_bounds s.goal) ≡ false →
    SomeIn (AllAreTrue s.records sorted.records (symbol_types s) names fit) (cases s)
case_of_sequent s sorted names fit facts e =
    let types = symbol_types s in
    let Is = IsTrueTree s.records sorted.records types names fit in
    let hold = facts_true s.records sorted.records types names fit s.facts (recursion_from_All (IsClaim s.records types) s.facts sorted.facts) facts in
    let negated : Is (negation s.goal) = record { typed = (refl, sorted.goal.typed); true_there = ap not e } in
    all_some s.records sorted.records types names fit (cases_of s.records types) (λ t h. some_case s.records sorted.records types names fit _ t h) (hypotheses s)
    (all_append Is s.facts (negation s.goal ∷ []) hold (negated, tt))

pub cases_keep_validity : CasesKeepValidity
cases_keep_validity s sorted none names fit facts = by_goal (truth_of (value s.records names no_bounds s.goal)) refl
  where
    by_goal : (b : Bool) → truth_of (value s.records names no_bounds s.goal) ≡ b → IsTrueUnder s.records names s.goal
    by_goal true e = e
    by_goal false e =
        absurd (none names fit (some_weaker (AllAreTrue s.records sorted.records (symbol_types s) names fit) (CaseHolds s.records names) (holds s.records sorted.records (symbol_types s) names fit) (cases s)
        (case_of_sequent s sorted names fit (recursion_from_All (IsTrueUnder s.records names) s.facts facts) e)))

pub true_claims_have_a_case : TrueClaimsHaveACase
true_claims_have_a_case records fine types values fit n t h e =
    some_weaker (AllAreTrue records fine types values fit) (CaseHolds records values) (holds records fine types values fit) _ (some_case records fine types values fit n t (record { typed = h; true_there = e }))
