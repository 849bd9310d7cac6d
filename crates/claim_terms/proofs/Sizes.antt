-- Numbers that stop at the greatest u32, against the limits.
use Rattle.std.proofs.Common.{◌≡◌, ℕ, ◌-◌, ◌^◌, ◌≤◌, min, Bool, true, false, refl, sym, ap₂, arith}
use Rattle.std.specs.Prelude.{nat_le, ◌&&◌}
use Rattle.std.proofs.lemmas.Bool.Decides.{nat_tests}
use Rattle.slang_values.specs.Tree.{Tree}
use Rattle.slang_values.specs.Measure.{node_count, height}
use Rattle.term_store.specs.declared.measure.Measure.{Measure}
use Rattle.term_store.specs.Store.{IsMeasureOf}
use Rattle.leg_rules.specs.Store.{is_small}

same_bools : (a b : Bool) → (a ≡ true → b ≡ true) → (b ≡ true → a ≡ true) → a ≡ b
same_bools true true f g = refl
same_bools true false f g = sym (f refl)
same_bools false true f g = g refl
same_bools false false f g = refl

le_from_test : (m n : ℕ) → nat_le m n ≡ true → m ≤ n
le_from_test m n e = grind (arith, nat_tests)

test_from_le : (m n : ℕ) → m ≤ n → nat_le m n ≡ true
test_from_le m n h = grind (arith, nat_tests)

same_test : (m n limit : ℕ) → m ≡ min n (2 ^ 32 - 1) → limit ≤ 20000 → nat_le m limit ≡ nat_le n limit
same_test m n limit e h =
    same_bools (nat_le m limit) (nat_le n limit)
    (λ t. let l = le_from_test m limit t in test_from_le n limit (omega (arith, l, e, h)))
    (λ t. let l = le_from_test n limit t in test_from_le m limit (omega (arith, l, e)))

pub small_by_measure : (t : Tree ℕ) (m : Measure) → IsMeasureOf t m → nat_le m.nodes 20000 && nat_le m.height 1000 ≡ is_small t
small_by_measure t m h =
    ap₂ (λ a b. a && b) (same_test m.nodes (node_count t) 20000 h.nodes (omega arith)) (same_test m.height (height t) 1000 h.height (omega arith))
