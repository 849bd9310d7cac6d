-- The claims from one on, by what became of it.
use Rattle.std.proofs.Common.{◌≡◌, ℕ, suc, ◌+◌, ◌<◌, ◌≤◌, Bool, true, false, List, [], ◌∷◌, length, get_or, drop, Option, Some, None, refl, sym, ap, ◌∙◌, subst}
use Rattle.std.proofs.Math.Numerals.{add-one}
use Rattle.std.proofs.Math.Seq.{drop-cons}
use Rattle.std.proofs.Math.ListN.{drop_of_length-le}
use Rattle.slang_values.specs.Value.{Records}
use Rattle.validity.specs.Validity.{no_bounds}
use Rattle.program_trees.specs.Claims.{NotedTree}
use Rattle.program_trees.specs.Variables.{Variable}
use Rattle.run_rules.specs.Values.{Values, name_value, is_true}
use Rattle.run_stops.specs.ClaimStops.{Visited, visiting}
use Rattle.stopped_runs.specs.Tests.{all_hold, claim_test, test}
use Rattle.stopped_runs.specs.Tests as plain
use Rattle.claim_tests.specs.declared.testing.Tested.{Tested}
use Rattle.lk_programs.specs.declared.program.Noted.{Noted}
use Rattle.expression_values.specs.declared.environment.Env.{Env}
use Rattle.expression_values.specs.Environment.{values_in}
use Rattle.claim_tests.specs.Tested.{one_noted, noted_in, tested, IsFailed}

module _ (limit : ℕ) (records : Records) (env : Env) where
  abbrev pub come_to : List Noted → plain.Tested
  come_to claims = test limit records (values_in env) (noted_in env claims)

  abbrev pub visited : Noted → Visited
  visited noted = visiting records (name_value (values_in env)) no_bounds (one_noted env noted).claim limit

  abbrev pub holds : Noted → Bool
  holds noted = is_true records (values_in env) (one_noted env noted).claim

  first_of : (claims : List Noted) (i : ℕ) (noted : Noted) → i < length claims → noted ≡ get_or claims i noted
      → come_to (drop i claims) ≡ claim_test noted.node.0 (visited noted) (holds noted) (come_to (drop (suc i) claims))
  first_of claims i noted within is =
      ap come_to (drop-cons claims i noted within) ∙ ap (λ (n : Noted). come_to (n ∷ drop (suc i) claims)) (sym is)

  module _ (claims : List Noted) (i : ℕ) (noted : Noted) (within : i < length claims) (is : noted ≡ get_or claims i noted)
      (so_far : come_to claims ≡ come_to (drop i claims)) where
    pub all_are : come_to claims ≡ claim_test noted.node.0 (visited noted) (holds noted) (come_to (drop (suc i) claims))
    all_are = so_far ∙ first_of claims i noted within is

    pub failed_there : (found : Option Tested) (t : Tested) → found ≡ Some t
        → IsFailed (claim_test noted.node.0 (visited noted) (holds noted) (come_to (drop (suc i) claims))) (come_to (drop (suc i) claims)) found
        → tested t ≡ come_to claims
    failed_there found t same h =
        subst (IsFailed (claim_test noted.node.0 (visited noted) (holds noted) (come_to (drop (suc i) claims))) (come_to (drop (suc i) claims))) same h ∙ sym all_are

    pub goes_on : (found : Option Tested) → found ≡ None
        → IsFailed (claim_test noted.node.0 (visited noted) (holds noted) (come_to (drop (suc i) claims))) (come_to (drop (suc i) claims)) found
        → come_to claims ≡ come_to (drop (i + 1) claims)
    goes_on found same h =
        all_are
        ∙ subst (IsFailed (claim_test noted.node.0 (visited noted) (holds noted) (come_to (drop (suc i) claims))) (come_to (drop (suc i) claims))) same h
        ∙ ap (λ (n : ℕ). come_to (drop n claims)) (sym (add-one i))

  module _ (noted : Noted) (found : Option Tested) (h : IsFailed (claim_test noted.node.0 (visited noted) (holds noted) all_hold) all_hold found) where
    pub one_failed : (t : Tested) → found ≡ Some t → tested t ≡ come_to (noted ∷ [])
    one_failed t same = subst (IsFailed (claim_test noted.node.0 (visited noted) (holds noted) all_hold) all_hold) same h

    pub one_holds : found ≡ None → all_hold ≡ come_to (noted ∷ [])
    one_holds same = sym (subst (IsFailed (claim_test noted.node.0 (visited noted) (holds noted) all_hold) all_hold) same h)

  pub all_hold_there : (claims : List Noted) (i : ℕ) → length claims ≤ i → come_to claims ≡ come_to (drop i claims) → all_hold ≡ come_to claims
  all_hold_there claims i h so_far = sym (so_far ∙ ap come_to (drop_of_length-le claims h))
