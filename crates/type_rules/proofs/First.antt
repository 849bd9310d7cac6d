-- The first of several faults.
use Rattle.std.proofs.Common.{◌≡◌, Bool, true, false, cond, List, [], ◌∷◌, Some, refl, sym, ap, ◌∙◌, subst, true≢false, inl, inr, Ordering, Less, Equal, Greater, is_lt, is_gt, nat_cmp, unwrap_or, ℕ}
use Rattle.std.specs.Ordering.{ordering_reverse}
use Rattle.std.specs.Cmp.Lexicographic.{slice_cmp}
use Rattle.std.proofs.lemmas.Cmp.{nat_list_cmp_total, upto, tied_itself}
use Rattle.slang_tree.specs.declared.place.Fault.{Fault}
use Rattle.type_rules.specs.Faults.{precedes, position, comes_before, first_with, first_fault}
use Rattle.type_rules.specs.Laws.{IsOneOf, IsFirst, FirstFaultIsFirst}

gt-reverse : (o : Ordering) → is_gt (ordering_reverse o) ≡ is_lt o
gt-reverse Less = refl
gt-reverse Equal = refl
gt-reverse Greater = refl

-- the other way round
turned : (a b : List ℕ) → is_gt (slice_cmp nat_cmp b a) ≡ precedes a b
turned a b = ap is_gt (nat_list_cmp_total.antisymm b a) ∙ gt-reverse (slice_cmp nat_cmp a b)

none-trans : (a b c : List ℕ) → precedes a b ≡ false → precedes b c ≡ false → precedes a c ≡ false
none-trans a b c h k = sym (turned a c) ∙ upto nat_list_cmp_total c b a (turned b c ∙ k) (turned a b ∙ h)

none_itself : (a : List ℕ) → precedes a a ≡ false
none_itself a = ap is_lt (tied_itself nat_list_cmp_total a)

lt-asymm : (o : Ordering) → is_lt o ≡ true → is_lt (ordering_reverse o) ≡ false
lt-asymm Less e = refl
lt-asymm Equal e = refl
lt-asymm Greater e = absurd (true≢false (sym e))

asymm : (a b : List ℕ) → precedes a b ≡ true → precedes b a ≡ false
asymm a b h = ap is_lt (nat_list_cmp_total.antisymm b a) ∙ lt-asymm (slice_cmp nat_cmp a b) h

-- the first of two, and what is first of it and others
step : (first : Bool) (found next : Fault) (faults : List Fault) → comes_before next found ≡ first →
    IsFirst (first_with (cond first next found) faults) (cond first next found ∷ faults) →
    IsFirst (first_with (cond first next found) faults) (found ∷ next ∷ faults)
step true found next faults e rest = record {
  among = inr rest.among;
  none_before = (
    none-trans (position found) (position next) (position (first_with next faults)) (asymm (position next) (position found) e) rest.none_before.0,
    rest.none_before,
  );
}
step false found next faults e rest = record {
  among = moved rest.among;
  none_before = (
    rest.none_before.0,
    (none-trans (position next) (position found) (position (first_with found faults)) e rest.none_before.0, rest.none_before.1),
  );
}
  where
    moved : IsOneOf (first_with found faults) (found ∷ faults) → IsOneOf (first_with found faults) (found ∷ next ∷ faults)
    moved (inl h) = inl h
    moved (inr h) = inr (inr h)

first_with-first : (found : Fault) (faults : List Fault) → IsFirst (first_with found faults) (found ∷ faults)
first_with-first found [] = record { among = inl refl; none_before = (none_itself (position found), tt) }
first_with-first found (next ∷ faults) =
    step (comes_before next found) found next faults refl (first_with-first (cond (comes_before next found) next found) faults)

pub first_fault-first : FirstFaultIsFirst
first_fault-first [] found e = absurd (let h : first_fault [] ≡ Some found = e in cc)
first_fault-first (first ∷ faults) found e =
    subst (λ r. IsFirst r (first ∷ faults)) (ap (λ o. unwrap_or o found) e) (first_with-first first faults)
