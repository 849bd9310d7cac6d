-- Room for one more number in sums of forms with small numbers.
use Rattle.std.proofs.Common.{◌≡◌, ℕ, suc, ◌+◌, ◌*◌, ◌^◌, ◌<◌, ◌≤◌, ℤ, ◌+ℤ◌, unsigned_abs, List, [], ◌∷◌, map, length, true, Result, Ok, Err, IfOk, sym, ap}
use Rattle.std.proofs.Common.{subst, arith}
use Rattle.std.proofs.lemmas.Int.{ints}
use Rattle.std.proofs.lemmas.List.{length-map}
use Rattle.std.proofs.lemmas.Bool.{and_parts}
use Rattle.slang_values.specs.Tree.{Tree}
use Rattle.tree_forms.specs.Form.{FormPart, LinearForm, inserted, all_inserted, plus, atom_form}
use Rattle.term_nodes.specs.declared.node.Node.{Node}
use Rattle.term_forms.specs.Form.{TimesWithin}
use Rattle.term_forms.proofs.Joining.{TimesWithin-inserted}
use Rattle.store_forms.specs.declared.form.IdPart.{IdPart}
use Rattle.store_forms.specs.declared.form.IdForm.{IdForm}
use Rattle.store_forms.specs.Form.{part_at, form_at, IsForm, IsSmall, small_numbers}
use Rattle.store_forms.specs.Place.{TimesOfWithin}
use Rattle.store_forms.proofs.Atoms.{times_at, times_of, small_parts, small_number}
use Rattle.store_forms.proofs.Summing.{atom_small}
use Rattle.store_atoms.specs.Views.{HasRoom}

times_more : (m n : ℕ) (ps : List IdPart) → m ≤ n → TimesOfWithin m ps → TimesOfWithin n ps
times_more m n [] l h = tt
times_more m n (p ∷ ps) l h = let k = h.0 in (omega (arith, l, k), times_more m n ps l h.1)

all_within : (qs ps : List FormPart) → TimesWithin (2 ^ 60) qs → TimesWithin (2 ^ 60) ps → TimesWithin (2 ^ 60 * (1 + length qs)) (all_inserted qs ps)
all_within [] ps h k = k
all_within (q ∷ qs) ps h k =
    let e : 2 ^ 60 * (1 + length qs) + 2 ^ 60 ≡ 2 ^ 60 * (1 + suc (length qs)) = omega arith in
    subst (λ (n : ℕ). TimesWithin n (inserted q (all_inserted qs ps))) e
    (TimesWithin-inserted (2 ^ 60 * (1 + length qs)) (2 ^ 60) q (all_inserted qs ps) (all_within qs ps h.1 k) h.0)

small_constant : (f : IdForm) → small_numbers f ≡ true → unsigned_abs f.constant ≤ 2 ^ 60
small_constant f h = small_number f.constant (and_parts _ _ h).1

pub small_room : (f : IdForm) → small_numbers f ≡ true → HasRoom f
small_room f h = record {
  constant = let l = small_constant f h in omega (arith, l);
  times = times_more (2 ^ 60) (2 ^ 126) f.parts.items (omega arith) (small_parts f h);
}

pub atom_room : (store : List Node) (f : IdForm) (t : Tree ℕ) → IsForm store f (atom_form t) → HasRoom f
atom_room store f t h = small_room f (atom_small store f t h)

sum_abs : (x y : ℤ) (m n : ℕ) → unsigned_abs x ≤ m → unsigned_abs y ≤ n → unsigned_abs (x +ℤ y) ≤ m + n
sum_abs x y m n h k = omega (arith, ints, h, k)

module _ (store : List Node) (f x y : IdForm) (small : IsSmall store x) (other : IsSmall store y) (count : length y.parts.items < 2 ^ 64)
    (is : IsForm store f (plus (form_at store x) (form_at store y))) where
  pub sum_room : HasRoom f
  sum_room =
      let e : f.constant ≡ x.constant +ℤ y.constant = ap (λ (g : LinearForm). g.constant) is.same in
      let l = sum_abs x.constant y.constant (2 ^ 60) (2 ^ 60) (small_constant x small.small) (small_constant y other.small) in
      let parts : map (part_at store) f.parts.items ≡ all_inserted (map (part_at store) y.parts.items) (map (part_at store) x.parts.items) =
      ap (λ (g : LinearForm). g.parts) is.same in
      let n = length-map y.parts.items (part_at store) in
      let within = all_within (map (part_at store) y.parts.items) (map (part_at store) x.parts.items)
      (times_at store (2 ^ 60) y.parts.items (small_parts y other.small)) (times_at store (2 ^ 60) x.parts.items (small_parts x small.small)) in
      record {
        constant = subst (λ (z : ℤ). unsigned_abs z ≤ 2 ^ 126) (sym e) (omega (arith, l));
        times = times_more (2 ^ 60 * (1 + length (map (part_at store) y.parts.items))) (2 ^ 126) f.parts.items (omega (arith, n, count))
            (times_of store (2 ^ 60 * (1 + length (map (part_at store) y.parts.items))) f.parts.items
            (subst (TimesWithin (2 ^ 60 * (1 + length (map (part_at store) y.parts.items)))) (sym parts) within));
      }

pub room_of_sum : {E : Type 0} (r : Result IdForm E) (store : List Node) (x y : IdForm) → IsSmall store x → IsSmall store y → length y.parts.items < 2 ^ 64 →
    IfOk r (λ f. IsForm store f (plus (form_at store x) (form_at store y))) → IfOk r (λ f. HasRoom f)
room_of_sum (Ok f) store x y small other count h = sum_room store f x y small other count h
room_of_sum (Err e) store x y small other count h = tt
