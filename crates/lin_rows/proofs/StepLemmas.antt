-- One step of the merge of two lists of parts, from places i and j on.
use Rattle.std.proofs.Common.{◌≡◌, ◌↔◌, IsTrue, ◌≢◌, ℕ, zero, suc, ◌+◌, ◌<◌, ◌≤◌, Bool, true, false, List, [], ◌∷◌, ◌++◌, length, take, drop, get_or, slice_get, Some, append_assoc, add-one, refl, ℤ, pos, ◌+ℤ◌, ◌*ℤ◌, ap, ap₂, sym, ◌∙◌, subst, arith}
use Rattle.std.proofs.lemmas.Bool.{and_parts, and_from, and_left, and_right, false≢true}
use Rattle.std.proofs.lemmas.List.{drop_more, drop_all}
use Rattle.whole_numbers.proofs.Products.{nonzero_product}
use Rattle.lin_rows.specs.declared.row.RowPart.{RowPart}
use Rattle.lin_rows.specs.Inequality.{Inequality, RisesFrom, IsCanonical, are_small, is_small, is_within}
use Rattle.lin_rows.specs.Sum.{with_part, sum_of_parts, combined}
use Rattle.lin_rows.specs.Step.{IsNextPart}
use Rattle.lin_rows.proofs.SumLemmas.{RisesFrom-weaker, times_part, with_part-nonzero, sum-right_front, sum-left_front, sum-both_front}

RisesFrom-drop : (n : ℕ) (ps : List RowPart) → RisesFrom 0 ps → RisesFrom 0 (drop n ps)
RisesFrom-drop zero ps r = r
RisesFrom-drop (suc n) [] r = tt
RisesFrom-drop (suc n) (p ∷ ps) r = RisesFrom-drop n ps (RisesFrom-weaker 0 (suc p.var) ps (omega arith) r.2)

-- each part of a list of small ones is small
pub small_at : (n : ℕ) (ps : List RowPart) (d : RowPart) → n < length ps → are_small ps ≡ true → is_small (get_or ps n d).times ≡ true
small_at n [] d h s = absurd (omega arith)
small_at zero (p ∷ ps) d h s = (and_parts (is_small p.times) (are_small ps) s).0
small_at (suc n) (p ∷ ps) d h s = small_at n ps d (omega arith) (and_parts (is_small p.times) (are_small ps) s).1

-- the list from a place on, where x is what stands there
from_place : (n : ℕ) (x d : RowPart) (ps : List RowPart) → n < length ps → x ≡ get_or ps n d → drop n ps ≡ x ∷ drop (n + 1) ps
from_place n x d ps h e = drop_more ps n d h ∙ ap (λ (z : RowPart). z ∷ drop (n + 1) ps) (sym e)

rises_from_place : (n : ℕ) (x d : RowPart) (ps : List RowPart) → IsCanonical ps → n < length ps → x ≡ get_or ps n d → RisesFrom 0 (x ∷ drop (n + 1) ps)
rises_from_place n x d ps c h e = subst (RisesFrom 0) (from_place n x d ps h e) (RisesFrom-drop n ps c)

-- from a place on, the variables rise from any number that the first one reaches, and from any at all where nothing is left
pub rises_above : (low n : ℕ) (x d : RowPart) (ps : List RowPart) → IsCanonical ps → n < length ps → x ≡ get_or ps n d → low ≤ x.var → RisesFrom low (drop n ps)
rises_above low n x d ps c h e l =
    let k = rises_from_place n x d ps c h e in subst (RisesFrom low) (sym (from_place n x d ps h e)) (l, k.1, k.2)

pub rises_at_end : (low n : ℕ) (ps : List RowPart) → length ps ≤ n → RisesFrom low (drop n ps)
rises_at_end low n ps h = subst (RisesFrom low) (sym (drop_all n ps h)) tt

module _ (left right : List RowPart) (i j : ℕ) (p q : ℤ) (np : p ≢ pos 0) (nq : q ≢ pos 0) (cl : IsCanonical left) (cr : IsCanonical right) (d : RowPart) where
  -- the part of the left list alone comes next
  pub next_left : (part x : RowPart) → i < length left → j ≤ length right → x ≡ get_or left i d → RisesFrom (suc x.var) (drop j right) → part ≡ times_part p x → IsNextPart left i p right j q part (i + 1) j
  next_left part x h k e r m =
      let c = rises_from_place i x d left cl h e in
      let rest = sum_of_parts (drop (i + 1) left) p (drop j right) q in
      record {
        sum = ap (λ (ps : List RowPart). sum_of_parts ps p (drop j right) q) (from_place i x d left h e)
            ∙ sum-left_front x (drop (i + 1) left) p (drop j right) q np c r
            ∙ sym (with_part-nonzero (times_part p x) rest (nonzero_product p x.times np c.1))
            ∙ ap (λ (z : RowPart). with_part z rest) (sym m);
        onward = omega arith;
        in_left = omega arith;
        in_right = k;
      }

  -- that of the right list alone does
  pub next_right : (part y : RowPart) → i ≤ length left → j < length right → y ≡ get_or right j d → RisesFrom (suc y.var) (drop i left) → part ≡ times_part q y → IsNextPart left i p right j q part i (j + 1)
  next_right part y h k e r m =
      let c = rises_from_place j y d right cr k e in
      let rest = sum_of_parts (drop i left) p (drop (j + 1) right) q in
      record {
        sum = ap (λ (ps : List RowPart). sum_of_parts (drop i left) p ps q) (from_place j y d right k e)
            ∙ sum-right_front (drop i left) p y (drop (j + 1) right) q nq r c
            ∙ sym (with_part-nonzero (times_part q y) rest (nonzero_product q y.times nq c.1))
            ∙ ap (λ (z : RowPart). with_part z rest) (sym m);
        onward = omega arith;
        in_left = h;
        in_right = omega arith;
      }

  -- those of both lists are of one variable
  pub next_both : (part x y : RowPart) → i < length left → j < length right → x ≡ get_or left i d → y ≡ get_or right j d → x.var ≡ y.var → part ≡ record { var = x.var; times = p *ℤ x.times +ℤ q *ℤ y.times } → IsNextPart left i p right j q part (i + 1) (j + 1)
  next_both part x y h k ex ey v m =
      let c = rises_from_place i x d left cl h ex in
      let f = rises_from_place j y d right cr k ey in
      let rest = sum_of_parts (drop (i + 1) left) p (drop (j + 1) right) q in
      record {
        sum = ap₂ (λ (ps qs : List RowPart). sum_of_parts ps p qs q) (from_place i x d left h ex) (from_place j y d right k ey)
            ∙ sum-both_front x (drop (i + 1) left) p y (drop (j + 1) right) q nq v c f
            ∙ ap (λ (z : RowPart). with_part z rest) (sym m);
        onward = omega arith;
        in_left = omega arith;
        in_right = omega arith;
      }

-- ---- a claimed list, compared part by part
part_there : (n : ℕ) (claimed rest : List RowPart) (part : RowPart) → claimed ≡ take n claimed ++ part ∷ rest → slice_get claimed n ≡ Some part
part_there zero [] rest part e = cc
part_there zero (x ∷ xs) rest part e = cc
part_there (suc n) [] rest part e = cc
part_there (suc n) (x ∷ xs) rest part e = part_there n xs rest part (cc)

-- the sum has this part next, and the claimed list does not
pub claim_fails : (n : ℕ) (claimed sum left after : List RowPart) (part : RowPart) → take n claimed ++ left ≡ sum → left ≡ with_part part after → part.times ≢ pos 0 → (slice_get claimed n ≡ Some part → ⊥) → claimed ≡ sum → ⊥
claim_fails n claimed sum left after part e f nz absent same =
    absent (part_there n claimed after part (same ∙ sym e ∙ ap (λ (ps : List RowPart). take n claimed ++ ps) (f ∙ with_part-nonzero part after nz)))

-- the claimed list has this part next
take_there : (n : ℕ) (claimed : List RowPart) (part : RowPart) → slice_get claimed n ≡ Some part → (n < length claimed) × (take (suc n) claimed ≡ take n claimed ++ part ∷ [])
take_there zero [] part e = cc
take_there zero (x ∷ xs) part e = (omega arith, cc)
take_there (suc n) [] part e = cc
take_there (suc n) (x ∷ xs) part e = let r = take_there n xs part e in (omega (arith, r.0), ap (λ (ps : List RowPart). x ∷ ps) r.1)

pub claim_goes_on : (n : ℕ) (claimed sum left after : List RowPart) (part : RowPart) → take n claimed ++ left ≡ sum → left ≡ with_part part after → part.times ≢ pos 0 → slice_get claimed n ≡ Some part → (n + 1 ≤ length claimed) × (take (n + 1) claimed ++ after ≡ sum)
claim_goes_on n claimed sum left after part e f nz there =
    let r = take_there n claimed part there in (
      omega (arith, r.0),
      ap (λ (ps : List RowPart). ps ++ after) (rw add-one r.1) ∙ append_assoc (take n claimed) (part ∷ []) after
          ∙ ap (λ (ps : List RowPart). take n claimed ++ ps) (sym (f ∙ with_part-nonzero part after nz)) ∙ e,
    )

-- ---- from parts to rows
pub wide_parts : (a b : Inequality) (p q : ℤ) (left right : List RowPart) → left ≡ a.parts → right ≡ b.parts → are_small (sum_of_parts left p right q) ≡ false → is_within (combined a p b q) ≡ false
wide_parts a b p q left right e f h =
    and_right (is_small (combined a p b q).bound) _ (ap₂ (λ (ps qs : List RowPart). are_small (sum_of_parts ps p qs q)) (sym e) (sym f) ∙ h)

pub claimed_sum : (claimed a b : Inequality) (p q : ℤ) (cs left right : List RowPart) (r : Bool) → cs ≡ claimed.parts → left ≡ a.parts → right ≡ b.parts → claimed.bound ≡ p *ℤ a.bound +ℤ q *ℤ b.bound → (IsTrue r ↔ (cs ≡ sum_of_parts left p right q)) → IsTrue r ↔ (claimed ≡ combined a p b q)
claimed_sum claimed a b p q cs left right r c e f bound h =
    let s = ap₂ (λ (ps qs : List RowPart). sum_of_parts ps p qs q) e f in (
      (λ t. ap₂ (λ (ps : List RowPart) (z : ℤ). let k : Inequality = record { parts = ps; bound = z } in k) (sym c ∙ h.0 t ∙ s) bound),
      (λ k. h.1 (c ∙ ap (λ (x : Inequality). x.parts) k ∙ sym s)),
    )

pub claimed_bound_fails : (claimed a b : Inequality) (p q : ℤ) (r : Bool) → r ≡ false → (IsTrue r ↔ (claimed.bound ≡ p *ℤ a.bound +ℤ q *ℤ b.bound)) → IsTrue r ↔ (claimed ≡ combined a p b q)
claimed_bound_fails claimed a b p q r e h =
    ((λ t. absurd (false≢true (sym e ∙ t))), (λ k. h.1 (ap (λ (x : Inequality). x.bound) k)))

-- ---- the parts of a sum, made one by one
small_parts-push : (ps : List RowPart) (part : RowPart) → are_small ps ≡ true → is_small part.times ≡ true → are_small (ps ++ part ∷ []) ≡ true
small_parts-push [] part h s = and_from _ _ s refl
small_parts-push (p ∷ ps) part h s =
    let t = and_parts (is_small p.times) (are_small ps) h in and_from _ _ t.0 (small_parts-push ps part t.1 s)

wide_within : (ps : List RowPart) (part : RowPart) (after : List RowPart) → is_small part.times ≡ false → are_small (ps ++ part ∷ after) ≡ false
wide_within [] part after s = and_left _ _ s
wide_within (p ∷ ps) part after s = and_right _ _ (wide_within ps part after s)

-- a part beyond the limit makes the sum so
pub sum_is_wide : (made sum left after : List RowPart) (part : RowPart) → made ++ left ≡ sum → left ≡ with_part part after → part.times ≢ pos 0 → is_small part.times ≡ false → are_small sum ≡ false
sum_is_wide made sum left after part e f nz s =
    ap are_small (sym e ∙ ap (λ (ps : List RowPart). made ++ ps) (f ∙ with_part-nonzero part after nz)) ∙ wide_within made part after s

-- one more part is made
pub sum_goes_on : (made sum left after : List RowPart) (part : RowPart) → made ++ left ≡ sum → left ≡ with_part part after → part.times ≢ pos 0 → (made ++ part ∷ []) ++ after ≡ sum
sum_goes_on made sum left after part e f nz =
    append_assoc made (part ∷ []) after ∙ ap (λ (ps : List RowPart). made ++ ps) (sym (f ∙ with_part-nonzero part after nz)) ∙ e

pub small_parts_go_on : (made : List RowPart) (part : RowPart) → are_small made ≡ true → is_small part.times ≡ true → are_small (made ++ part ∷ []) ≡ true
small_parts_go_on made part h s = small_parts-push made part h s
