-- What appears, one after the other.
use Rattle.std.proofs.Common.{◌≡◌, ℕ, suc, ◌+◌, ◌<◌, List, [], ◌∷◌, ◌++◌, map, length, get_or, drop, drop-cons, add-one, Option, Some, None, refl, sym, ap, ◌∙◌}
use Rattle.std.specs.Option.{option_and_then}
use Rattle.slang_values.specs.Value.{ValueType}
use Rattle.leg_rules.specs.Numbering.{Appearance, of_variable}
use Rattle.leg_forms.specs.WellFormed.{leg_name}
use Rattle.record_checks.specs.declared.summary.Summary.{Summary}
use Rattle.leg_appearances.specs.declared.variables.Seen.{Seen}
use Rattle.leg_appearances.specs.Seen.{after, after_variable, after_variables, all_seen}

module _ (table : List Summary) (variables : List ValueType) where
  pub joined : (seen : Seen) (xs ys : List Appearance)
      → all_seen table variables seen (xs ++ ys) ≡ option_and_then (λ next. all_seen table variables next ys) (all_seen table variables seen xs)
  joined seen [] ys = refl
  joined seen (x ∷ xs) ys = by (after table variables seen x) (λ next. joined next xs ys)
    where
      by : (o : Option Seen)
          → ((next : Seen) → all_seen table variables next (xs ++ ys) ≡ option_and_then (λ n. all_seen table variables n ys) (all_seen table variables next xs))
          → option_and_then (λ next. all_seen table variables next (xs ++ ys)) o
          ≡ option_and_then (λ n. all_seen table variables n ys) (option_and_then (λ next. all_seen table variables next xs) o)
      by None rest = refl
      by (Some next) rest = rest next

  -- a first part, and what is behind it
  pub goes_on : (seen next : Seen) (xs ys : List Appearance) (first last : Option Seen) → first ≡ all_seen table variables seen xs → first ≡ Some next
      → last ≡ all_seen table variables next ys → last ≡ all_seen table variables seen (xs ++ ys)
  goes_on seen next xs ys first last is some rest =
      rest ∙ ap (option_and_then (λ n. all_seen table variables n ys)) (sym some ∙ is) ∙ sym (joined seen xs ys)

  pub ends : (seen : Seen) (xs ys : List Appearance) (first : Option Seen) → first ≡ all_seen table variables seen xs → first ≡ None
      → None ≡ all_seen table variables seen (xs ++ ys)
  ends seen xs ys first is none = ap (option_and_then (λ n. all_seen table variables n ys)) (sym none ∙ is) ∙ sym (joined seen xs ys)

  -- variables, each by itself
  pub variables_seen : (seen : Seen) (xs : List ℕ) → all_seen table variables seen (map of_variable (map leg_name xs)) ≡ after_variables table variables seen xs
  variables_seen seen [] = refl
  variables_seen seen (x ∷ xs) = by (after_variable table variables seen x) (λ next. variables_seen next xs)
    where
      by : (o : Option Seen) → ((next : Seen) → all_seen table variables next (map of_variable (map leg_name xs)) ≡ after_variables table variables next xs)
          → option_and_then (λ next. all_seen table variables next (map of_variable (map leg_name xs))) o
          ≡ option_and_then (λ next. after_variables table variables next xs) o
      by None rest = refl
      by (Some next) rest = rest next

  -- ---- at a place of a list

  module _ {X : Type 0} (f : X → List Appearance) (g : List X → List Appearance) (cons : (x : X) (xs : List X) → g (x ∷ xs) ≡ f x ++ g xs) where
    at_place : (now : Seen) (xs : List X) (i : ℕ) (d : X) → i < length xs → d ≡ get_or xs i d
        → all_seen table variables now (g (drop i xs))
        ≡ option_and_then (λ n. all_seen table variables n (g (drop (i + 1) xs))) (all_seen table variables now (f d))
    at_place now xs i d h is =
        ap (λ l. all_seen table variables now (g l)) (drop-cons xs i d h)
        ∙ ap (all_seen table variables now) (cons (get_or xs i d) (drop (suc i) xs))
        ∙ joined now (f (get_or xs i d)) (g (drop (suc i) xs))
        ∙ ap (λ x. option_and_then (λ n. all_seen table variables n (g (drop (suc i) xs))) (all_seen table variables now (f x))) (sym is)
        ∙ ap (λ k. option_and_then (λ n. all_seen table variables n (g (drop k xs))) (all_seen table variables now (f d))) (sym (add-one i))

    pub place_goes_on : (now next : Seen) (xs : List X) (i : ℕ) (d : X) (r : Option Seen) → i < length xs → d ≡ get_or xs i d
        → r ≡ all_seen table variables now (f d) → r ≡ Some next
        → all_seen table variables now (g (drop i xs)) ≡ all_seen table variables next (g (drop (i + 1) xs))
    place_goes_on now next xs i d r h is one some =
        at_place now xs i d h is ∙ ap (option_and_then (λ n. all_seen table variables n (g (drop (i + 1) xs)))) (sym one ∙ some)

    pub place_ends : (now : Seen) (xs : List X) (i : ℕ) (d : X) (r : Option Seen) → i < length xs → d ≡ get_or xs i d
        → r ≡ all_seen table variables now (f d) → r ≡ None → all_seen table variables now (g (drop i xs)) ≡ None
    place_ends now xs i d r h is one none =
        at_place now xs i d h is ∙ ap (option_and_then (λ n. all_seen table variables n (g (drop (i + 1) xs)))) (sym one ∙ none)
