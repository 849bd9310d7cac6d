-- Members of orders.
use Rattle.std.proofs.Common.{◌≡◌, ℕ, Bool, true, false, ◌||◌, List, [], ◌∷◌, ◌++◌, if◌then◌else◌, refl, ap, sym, ◌∙◌, ◌⊎◌, inl, inr}
use Rattle.std.specs.Prelude.{nat_eq}
use Rattle.std.specs.Set.{is_member}
use Rattle.std.proofs.lemmas.List.Folds.{list_any-append}
use Rattle.std.proofs.lemmas.Bool.{false≢true}
use Rattle.std.proofs.lemmas.Bool.Decides.{Decides-eqb}
use Rattle.leg_rules.specs.Numbering.{with_new}
use Rattle.leg_orders.specs.Orders.{with_all_new}
use Rattle.leg_orders.specs.Closed.{AreIn}

pub same_number : (m n : ℕ) → nat_eq m n ≡ true → m ≡ n
same_number m n = (Decides-eqb m n).0

pub number_itself : (n : ℕ) → nat_eq n n ≡ true
number_itself n = (Decides-eqb n n).1 refl

or_left : (a b : Bool) → a ≡ true → a || b ≡ true
or_left a b e = ap (λ x. x || b) e

or_right : (a b : Bool) → b ≡ true → a || b ≡ true
or_right true b e = refl
or_right false b e = e

or_parts : (a b : Bool) → a || b ≡ true → (a ≡ true) ⊎ (b ≡ true)
or_parts true b e = inl refl
or_parts false b e = inr e

-- ---- one more member

at_end : (order : List ℕ) (x n : ℕ) → is_member nat_eq (order ++ x ∷ []) n ≡ is_member nat_eq order n || (nat_eq n x || false)
at_end order x n = list_any-append (nat_eq n) order (x ∷ [])

pub kept : (order : List ℕ) (x n : ℕ) → is_member nat_eq order n ≡ true → is_member nat_eq (with_new nat_eq order x) n ≡ true
kept order x n h = by (is_member nat_eq order x)
  where
    by : (b : Bool) → is_member nat_eq (if b then order else order ++ x ∷ []) n ≡ true
    by true = h
    by false = at_end order x n ∙ or_left _ _ h

pub added : (order : List ℕ) (x : ℕ) → is_member nat_eq (with_new nat_eq order x) x ≡ true
added order x = by (is_member nat_eq order x) refl
  where
    by : (b : Bool) → is_member nat_eq order x ≡ b → is_member nat_eq (if b then order else order ++ x ∷ []) x ≡ true
    by true e = e
    by false e = at_end order x x ∙ or_right _ _ (or_left (nat_eq x x) false (number_itself x))

-- what is in the longer order was there, or it is the new one
pub old_or_new : (order : List ℕ) (x n : ℕ) → is_member nat_eq (with_new nat_eq order x) n ≡ true → (is_member nat_eq order n ≡ true) ⊎ (n ≡ x)
old_or_new order x n = by (is_member nat_eq order x)
  where
    one : (nat_eq n x ≡ true) ⊎ (false ≡ true) → n ≡ x
    one (inl e) = same_number n x e
    one (inr e) = absurd (false≢true e)

    pick : (is_member nat_eq order n ≡ true) ⊎ (nat_eq n x || false ≡ true) → (is_member nat_eq order n ≡ true) ⊎ (n ≡ x)
    pick (inl e) = inl e
    pick (inr e) = inr (one (or_parts (nat_eq n x) false e))

    by : (b : Bool) → is_member nat_eq (if b then order else order ++ x ∷ []) n ≡ true → (is_member nat_eq order n ≡ true) ⊎ (n ≡ x)
    by true h = inl h
    by false h = pick (or_parts _ _ (sym (at_end order x n) ∙ h))

-- ---- several

pub all_kept : (order more : List ℕ) (n : ℕ) → is_member nat_eq order n ≡ true → is_member nat_eq (with_all_new order more) n ≡ true
all_kept order [] n h = h
all_kept order (x ∷ more) n h = all_kept (with_new nat_eq order x) more n (kept order x n h)

pub in_grown : (order more members : List ℕ) → AreIn order members → AreIn (with_all_new order more) members
in_grown order more [] h = tt
in_grown order more (n ∷ members) h = (all_kept order more n h.0, in_grown order more members h.1)

pub all_added : (order more : List ℕ) → AreIn (with_all_new order more) more
all_added order [] = tt
all_added order (x ∷ more) = (all_kept (with_new nat_eq order x) more x (added order x), all_added (with_new nat_eq order x) more)

-- what is there adds nothing
pub nothing_new : (order members : List ℕ) → AreIn order members → with_all_new order members ≡ order
nothing_new order [] h = refl
nothing_new order (n ∷ members) h =
    ap (λ o. with_all_new o members) (ap (λ b. if b then order else order ++ n ∷ []) h.0) ∙ nothing_new order members h.1

pub in_append : (order xs ys : List ℕ) → AreIn order xs → AreIn order ys → AreIn order (xs ++ ys)
in_append order [] ys h k = k
in_append order (x ∷ xs) ys h k = (h.0, in_append order xs ys h.1 k)
