-- Equal rows, as a test that computes, and that it decides equality.
use Rattle.std.specs.Prelude.{◌≡◌, ℕ, Bool, ◌==◌, List, ℤ}
use Rattle.std.proofs.Common.{ap₂, ap, sym, refl, ◌∙◌, Decides}
use Rattle.std.specs.Cmp.{IsPartialEquivalence, IsEquivalence, equiv}
use Rattle.std.specs.Ordering.{on, eq_of_both, int_eq}
use Rattle.std.proofs.lemmas.Bool.Decides.{Decides-eqb, Decides-int_eq, Decides-and, Decides-like, same_from_decides}
use lib.Pointwise.{pointwise, pointwise_decides}
use Rattle.lin_rows.specs.declared.row.RowPart.{RowPart}
use Rattle.lin_rows.specs.Inequality.{Inequality}

abbrev pub same_part : RowPart → RowPart → Bool
same_part p q = eq_of_both (on (λ r. r.var) ◌==◌) (on (λ r. r.times) int_eq) p q

abbrev pub same : Inequality → Inequality → Bool
same a b = eq_of_both (on (λ r. r.bound) int_eq) (on (λ r. r.parts) (pointwise same_part)) a b

pub Decides-same_part : (p q : RowPart) → Decides (same_part p q) (p ≡ q)
Decides-same_part p q =
    Decides-like _ (λ t. ap₂ (λ (v : ℕ) (z : ℤ). let r : RowPart = record { var = v; times = z } in r) t.0 t.1)
    (λ e. (ap (λ (r : RowPart). r.var) e, ap (λ (r : RowPart). r.times) e))
    (Decides-and _ _ (Decides-eqb p.var q.var) (Decides-int_eq p.times q.times))

pub Decides-same : (a b : Inequality) → Decides (same a b) (a ≡ b)
Decides-same a b =
    Decides-like _ (λ t. ap₂ (λ (z : ℤ) (ps : List RowPart). let r : Inequality = record { parts = ps; bound = z } in r) t.0 t.1)
    (λ e. (ap (λ (r : Inequality). r.bound) e, ap (λ (r : Inequality). r.parts) e))
    (Decides-and _ _ (Decides-int_eq a.bound b.bound) (pointwise_decides Decides-same_part a.parts b.parts))

-- so it is symmetric and transitive, as equality is
pub same_laws : IsPartialEquivalence same
same_laws = record {
  symm = λ x y. same_from_decides _ _ (Decides-same x y) (Decides-like _ sym sym (Decides-same y x));
  trans = λ x y z p q. (Decides-same x z).1 ((Decides-same x y).0 p ∙ (Decides-same y z).0 q);
}

pub same_equivalence : IsEquivalence same
same_equivalence = equiv same_laws (λ x. (Decides-same x x).1 refl)
