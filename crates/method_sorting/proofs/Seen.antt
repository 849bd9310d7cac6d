-- What is seen of a list in its order.
use Rattle.std.proofs.Common.{◌≡◌, ℕ, Bool, true, false, cond, List, [], ◌∷◌, map, refl, sym, ap, ap₂, ◌∙◌}
use Rattle.type_rules.specs.Faults.{precedes}
use Rattle.method_sorting.specs.Ordered.{in_turn, put}

module _ {X Y : Type 0} (name : X → List ℕ) (seen_name : Y → List ℕ) (see : X → Y) (same : (x : X) → seen_name (see x) ≡ name x) where
  put_by : (b : Bool) (x next : X) (xs : List X) → map see (put name x xs) ≡ put seen_name (see x) (map see xs) →
      map see (cond b (next ∷ put name x xs) (x ∷ next ∷ xs)) ≡ cond b (see next ∷ put seen_name (see x) (map see xs)) (see x ∷ see next ∷ map see xs)
  put_by true x next xs rest = ap (λ ys. see next ∷ ys) rest
  put_by false x next xs rest = refl

  names_same : (x next : X) → precedes (name next) (name x) ≡ precedes (seen_name (see next)) (seen_name (see x))
  names_same x next = ap₂ precedes (sym (same next)) (sym (same x))

  put_seen : (x : X) (xs : List X) → map see (put name x xs) ≡ put seen_name (see x) (map see xs)
  put_seen x [] = refl
  put_seen x (next ∷ xs) =
      put_by (precedes (name next) (name x)) x next xs (put_seen x xs)
      ∙ ap (λ b. cond b (see next ∷ put seen_name (see x) (map see xs)) (see x ∷ see next ∷ map see xs)) (names_same x next)

  pub in_turn_seen : (xs : List X) → map see (in_turn name xs) ≡ in_turn seen_name (map see xs)
  in_turn_seen [] = refl
  in_turn_seen (x ∷ xs) = put_seen x (in_turn name xs) ∙ ap (put seen_name (see x)) (in_turn_seen xs)
