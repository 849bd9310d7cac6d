-- Rows at a place of a list.
use Rattle.std.proofs.Common.{◌≡◌, ◌↔◌, IsTrue, ℕ, zero, suc, ◌<◌, ◌≤◌, List, [], ◌∷◌, Some, slice_get, get_or, length, nat_lt, Bool, refl, sym, ap, ◌∙◌, arith, le-ltb}
use Rattle.std.proofs.lemmas.Bool.{false≢true}
use Rattle.lin_rows.specs.Inequality.{Inequality}
use Rattle.lin_rows.specs.Same.{same, Decides-same}

pub there : {X : Type 0} → (xs : List X) (i : ℕ) (d : X) → i < length xs → slice_get xs i ≡ Some (get_or xs i d)
there [] i d h = absurd (omega arith)
there (x ∷ xs) zero d h = refl
there (x ∷ xs) (suc i) d h = there xs i d (omega arith)

not_there : (rows : List Inequality) (i : ℕ) (row : Inequality) → length rows ≤ i → slice_get rows i ≡ Some row → ⊥
not_there [] i row h e = cc
not_there (x ∷ xs) zero row h e = omega arith
not_there (x ∷ xs) (suc i) row h e = not_there xs i row (omega arith) e

-- what the code reads at a place, compared with a row
pub compared_there : (rows : List Inequality) (i : ℕ) (x row : Inequality) (r : Bool) → i < length rows → x ≡ get_or rows i x → r ≡ same x row → IsTrue r ↔ (slice_get rows i ≡ Some row)
compared_there rows i x row r h e t =
    let at : slice_get rows i ≡ Some x = there rows i x h ∙ ap Some (sym e) in (
      (λ q. at ∙ ap Some ((Decides-same x row).0 (sym t ∙ q))),
      (λ q. t ∙ (Decides-same x row).1 (cc)),
    )

pub compared_past : (rows : List Inequality) (i : ℕ) (row : Inequality) → length rows ≤ i → IsTrue (nat_lt i (length rows)) ↔ (slice_get rows i ≡ Some row)
compared_past rows i row h =
    ((λ q. absurd (false≢true (sym (le-ltb i (length rows) h) ∙ q))), (λ q. absurd (not_there rows i row h q)))
