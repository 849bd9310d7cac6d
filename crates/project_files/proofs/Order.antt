-- Which of two texts comes before the other.
use Rattle.std.proofs.Common.{◌≡◌, ℕ, Bool, true, false, List, refl, sym, ap, ◌∙◌, true≢false, Ordering, Less, Equal, Greater, is_lt, is_gt, nat_cmp}
use Rattle.std.specs.Ordering.{ordering_reverse}
use Rattle.std.specs.Str.{bytes_eq}
use Rattle.std.specs.Cmp.Lexicographic.{slice_cmp}
use Rattle.std.proofs.lemmas.Cmp.{nat_list_cmp_total, upto}
use Rattle.std.proofs.lemmas.Slice.Eq.{bytes_eq-Decides}
use Rattle.std.proofs.lemmas.Map.Lookups.{exact_bytes}
use Rattle.type_rules.specs.Faults.{precedes}

gt-reverse : (o : Ordering) → is_gt (ordering_reverse o) ≡ is_lt o
gt-reverse Less = refl
gt-reverse Equal = refl
gt-reverse Greater = refl

turned : (a b : List ℕ) → is_gt (slice_cmp nat_cmp b a) ≡ precedes a b
turned a b = ap is_gt (nat_list_cmp_total.antisymm b a) ∙ gt-reverse (slice_cmp nat_cmp a b)

pub none-trans : (a b c : List ℕ) → precedes a b ≡ false → precedes b c ≡ false → precedes a c ≡ false
none-trans a b c h k = sym (turned a c) ∙ upto nat_list_cmp_total c b a (turned b c ∙ k) (turned a b ∙ h)

is-Less : (o : Ordering) → is_lt o ≡ true → o ≡ Less
is-Less Less e = refl
is-Less Equal e = absurd (true≢false (sym e))
is-Less Greater e = absurd (true≢false (sym e))

pub trans : (a b c : List ℕ) → precedes a b ≡ true → precedes b c ≡ true → precedes a c ≡ true
trans a b c h k = ap is_lt (nat_list_cmp_total.trans a b c (is-Less _ h) (is-Less _ k))

lt-asymm : (o : Ordering) → is_lt o ≡ true → is_lt (ordering_reverse o) ≡ false
lt-asymm Less e = refl
lt-asymm Equal e = absurd (true≢false (sym e))
lt-asymm Greater e = absurd (true≢false (sym e))

asymm : (a b : List ℕ) → precedes a b ≡ true → precedes b a ≡ false
asymm a b h = ap is_lt (nat_list_cmp_total.antisymm b a) ∙ lt-asymm (slice_cmp nat_cmp a b) h

irrefl-by : (a : List ℕ) (b : Bool) → precedes a a ≡ b → precedes a a ≡ false
irrefl-by a true h = asymm a a h
irrefl-by a false h = h

pub irrefl : (a : List ℕ) → precedes a a ≡ false
irrefl a = irrefl-by a (precedes a a) refl

neither : (o : Ordering) → is_lt o ≡ false → is_lt (ordering_reverse o) ≡ false → o ≡ Equal
neither Less h k = absurd (true≢false h)
neither Equal h k = refl
neither Greater h k = absurd (true≢false k)

-- texts of which none comes before the other are the same
pub tied : (a b : List ℕ) → precedes a b ≡ false → precedes b a ≡ false → a ≡ b
tied a b h k = exact_bytes a b (neither (slice_cmp nat_cmp a b) h (sym (ap is_lt (nat_list_cmp_total.antisymm b a)) ∙ k))

first-by : (a b : List ℕ) (p : Bool) → precedes a b ≡ p → precedes b a ≡ false → bytes_eq a b ≡ false → precedes a b ≡ true
first-by a b true h k differ = h
first-by a b false h k differ = absurd (true≢false (sym ((bytes_eq-Decides a b).1 (tied a b h k)) ∙ differ))

-- of two that differ one comes before the other
pub first : (a b : List ℕ) → precedes b a ≡ false → bytes_eq a b ≡ false → precedes a b ≡ true
first a b k differ = first-by a b (precedes a b) refl k differ
