-- The place where a member first stands.
use Rattle.std.proofs.Common.{◌≡◌, ℕ, zero, suc, ◌+◌, ◌⊎◌, inl, inr, ◌<◌, ◌≤◌, Bool, true, false, cond, List, [], ◌∷◌, map, length, get_or, Some, None, refl, ap, sym, ◌∙◌, arith}
use Rattle.std.specs.Prelude.{nat_lt, nat_eq, unwrap_or, Result, Ok, Err, IfOk}
use Rattle.std.specs.Result.{OkIff}
use Rattle.std.specs.List.{position, position_or_len}
use Rattle.std.proofs.lemmas.Bool.{cases_lt, lt-ltb, le-ltb}
use Rattle.std.proofs.lemmas.List.{length-map, get_or-map}
use Rattle.std.proofs.lemmas.List.Sums.{position_or_len_is}
use Rattle.leg_rules.specs.LegNames.{LegName, same_name}
use Rattle.leg_rules.specs.Numbering.{number_in}
use Rattle.leg_items.specs.declared.name.Name.{Name}
use Rattle.leg_items.specs.Names.{leg_name}

placed : {X : Type 0} (p : X → Bool) (xs : List X) (k : ℕ) → position_or_len p xs ≡ k → k < length xs → unwrap_or (position p xs) 0 ≡ k
placed p xs k e h =
    ap (λ n. unwrap_or (cond (nat_lt n (length xs)) (Some n) None) 0) e ∙ ap (λ b. unwrap_or (cond b (Some k) None) 0) (lt-ltb k (length xs) h)

first_at : {X : Type 0} (p : X → Bool) (xs : List X) (k : ℕ) (d : X) → k < length xs → ((j : ℕ) → j < k → p (get_or xs j d) ≡ false) → p (get_or xs k d) ≡ true →
    unwrap_or (position p xs) 0 ≡ k
first_at p xs k d h before e = placed p xs k (position_or_len_is p xs k d (omega arith) before (λ l. e)) h

nowhere : {X : Type 0} (p : X → Bool) (xs : List X) (d : X) → ((j : ℕ) → j < length xs → p (get_or xs j d) ≡ false) → unwrap_or (position p xs) 0 ≡ 0
nowhere p xs d before =
    ap (λ n. unwrap_or (cond (nat_lt n (length xs)) (Some n) None) 0) (position_or_len_is p xs (length xs) d (omega arith) before (λ l. absurd (omega arith)))
    ∙ ap (λ b. unwrap_or (cond b (Some (length xs)) None) 0) (le-ltb (length xs) (length xs) (omega arith))

pub record_at : (xs : List ℕ) (x k : ℕ) → k < length xs → ((j : ℕ) → j < k → nat_eq x (get_or xs j 0) ≡ false) → nat_eq x (get_or xs k 0) ≡ true → k ≡ number_in nat_eq xs x
record_at xs x k h before e = sym (first_at (nat_eq x) xs k 0 h before e)

pub record_nowhere : (xs : List ℕ) (x k : ℕ) → length xs ≤ k → ((j : ℕ) → j < k → nat_eq x (get_or xs j 0) ≡ false) → 0 ≡ number_in nat_eq xs x
record_nowhere xs x k h before = sym (nowhere (nat_eq x) xs 0 (λ j l. before j (omega arith)))

module _ (xs : List Name) (x : LegName) (d : Name) where
  at_place : (j : ℕ) → j < length xs → same_name x (leg_name (get_or xs j d)) ≡ false → same_name x (get_or (map leg_name xs) j (leg_name d)) ≡ false
  at_place j l e = ap (same_name x) (get_or-map leg_name xs j d (leg_name d) l) ∙ e

  pub name_at : (k : ℕ) → k < length xs → ((j : ℕ) → j < k → same_name x (leg_name (get_or xs j d)) ≡ false) → same_name x (leg_name (get_or xs k d)) ≡ true →
      k ≡ number_in same_name (map leg_name xs) x
  name_at k h before e =
      let inside : k < length (map leg_name xs) = omega (arith, length-map xs leg_name) in
      sym (first_at (same_name x) (map leg_name xs) k (leg_name d) inside (λ j l. at_place j (omega arith) (before j l)) (ap (same_name x) (get_or-map leg_name xs k d (leg_name d) h) ∙ e))

  pub name_nowhere : (k : ℕ) → length xs ≤ k → ((j : ℕ) → j < k → same_name x (leg_name (get_or xs j d)) ≡ false) → 0 ≡ number_in same_name (map leg_name xs) x
  name_nowhere k h before =
      sym (nowhere (same_name x) (map leg_name xs) (leg_name d) (λ j l. at_place j (omega (arith, length-map xs leg_name)) (before j (omega (arith, length-map xs leg_name)))))

-- ---- loops

pub if_ok_map : {X Y : Type 0} (r : Result X Y) (P Q : X → Type 0) → ((x : X) → P x → Q x) → IfOk r P → IfOk r Q
if_ok_map (Ok x) P Q f h = f x h
if_ok_map (Err e) P Q f h = h

-- a number that is told exactly is that number
pub told_value : {X Y : Type 0} (r : Result X Y) (P : Type 0) (v : X) → OkIff r P v → IfOk r (λ x. x ≡ v)
told_value (Ok x) P v h = h.1
told_value (Err e) P v h = tt

-- what held below a place and holds at it holds below the next
pub one_more_record : (xs : List ℕ) (x k : ℕ) → ((j : ℕ) → j < k → nat_eq x (get_or xs j 0) ≡ false) → nat_eq x (get_or xs k 0) ≡ false → (j : ℕ) → j < k + 1 → nat_eq x (get_or xs j 0) ≡ false
one_more_record xs x k before e j h = by (cases_lt j k)
  where
    by : (j < k) ⊎ (k ≤ j) → nat_eq x (get_or xs j 0) ≡ false
    by (inl l) = before j l
    by (inr l) = let same : j ≡ k = omega arith in ap (λ i. nat_eq x (get_or xs i 0)) same ∙ e

pub one_more_name : (xs : List Name) (x : LegName) (k : ℕ) → ((j : ℕ) (d : Name) → j < k → same_name x (leg_name (get_or xs j d)) ≡ false) →
    ((d : Name) → same_name x (leg_name (get_or xs k d)) ≡ false) → (j : ℕ) (d : Name) → j < k + 1 → same_name x (leg_name (get_or xs j d)) ≡ false
one_more_name xs x k before e j d h = by (cases_lt j k)
  where
    by : (j < k) ⊎ (k ≤ j) → same_name x (leg_name (get_or xs j d)) ≡ false
    by (inl l) = before j d l
    by (inr l) = let same : j ≡ k = omega arith in ap (λ i. same_name x (leg_name (get_or xs i d))) same ∙ e d

pub any_default : {X : Type 0} (xs : List X) (k : ℕ) (c d : X) → k < length xs → get_or xs k c ≡ get_or xs k d
any_default [] k c d h = absurd (omega arith)
any_default (x ∷ xs) zero c d h = refl
any_default (x ∷ xs) (suc k) c d h = any_default xs k c d (omega arith)
