-- What is cited, by its count.
use Rattle.std.proofs.Common.{◌≡◌, List, [], ◌∷◌, map, length, get_or, Bool, false, refl, sym, ap, arith}
use Rattle.deduction_rules.specs.Step as plain
use Rattle.rule_check.specs.declared.cited.Cited.{Cited}
use Rattle.rule_check.specs.Cited.{cited_tree, has_one, has_two, has_three}

-- ---- another count

pub not_one : (p : plain.Cited → Bool) (xs : List Cited) → (length xs ≡ 1 → ⊥) → has_one p (map cited_tree xs) ≡ false
not_one p [] h = refl
not_one p (x ∷ []) h = absurd (h refl)
not_one p (x ∷ y ∷ xs) h = refl

pub not_two : (p q : plain.Cited → Bool) (xs : List Cited) → (length xs ≡ 2 → ⊥) → has_two p q (map cited_tree xs) ≡ false
not_two p q [] h = refl
not_two p q (x ∷ []) h = refl
not_two p q (x ∷ y ∷ []) h = absurd (h refl)
not_two p q (x ∷ y ∷ z ∷ xs) h = refl

pub not_three : (p q r : plain.Cited → Bool) (xs : List Cited) → (length xs ≡ 3 → ⊥) → has_three p q r (map cited_tree xs) ≡ false
not_three p q r [] h = refl
not_three p q r (x ∷ []) h = refl
not_three p q r (x ∷ y ∷ []) h = refl
not_three p q r (x ∷ y ∷ z ∷ []) h = absurd (h refl)
not_three p q r (x ∷ y ∷ z ∷ w ∷ xs) h = refl

-- ---- that count

pub one_is : (xs : List Cited) (x : Cited) → length xs ≡ 1 → x ≡ get_or xs 0 x → xs ≡ x ∷ []
one_is [] x h e = absurd (omega (arith, h))
one_is (y ∷ []) x h e = ap (λ z. z ∷ []) (sym e)
one_is (y ∷ z ∷ xs) x h e = absurd (omega (arith, h))

pub two_are : (xs : List Cited) (x y : Cited) → length xs ≡ 2 → x ≡ get_or xs 0 x → y ≡ get_or xs 1 y → xs ≡ x ∷ y ∷ []
two_are [] x y h e f = absurd (omega (arith, h))
two_are (a ∷ []) x y h e f = absurd (omega (arith, h))
two_are (a ∷ b ∷ []) x y h e f = λ i. sym e i ∷ sym f i ∷ []
two_are (a ∷ b ∷ c ∷ xs) x y h e f = absurd (omega (arith, h))

pub three_are : (xs : List Cited) (x y z : Cited) → length xs ≡ 3 → x ≡ get_or xs 0 x → y ≡ get_or xs 1 y → z ≡ get_or xs 2 z → xs ≡ x ∷ y ∷ z ∷ []
three_are [] x y z h e f g = absurd (omega (arith, h))
three_are (a ∷ []) x y z h e f g = absurd (omega (arith, h))
three_are (a ∷ b ∷ []) x y z h e f g = absurd (omega (arith, h))
three_are (a ∷ b ∷ c ∷ []) x y z h e f g = λ i. sym e i ∷ sym f i ∷ sym g i ∷ []
three_are (a ∷ b ∷ c ∷ d ∷ xs) x y z h e f g = absurd (omega (arith, h))

pub ruleset one_lines = (not_one, one_is)

pub ruleset two_lines = (not_two, two_are)

pub ruleset three_lines = (not_three, three_are)
