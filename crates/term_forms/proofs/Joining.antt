-- A part that joins another.
use Rattle.std.proofs.Common.{◌≡◌, ℕ, zero, suc, ◌+◌, ◌<◌, ◌≤◌, ℤ, pos, ◌+ℤ◌, unsigned_abs, List, [], ◌∷◌, ◌++◌, map, length, get_or, set, take, drop, remove, insert, slice_get, Some, Ordering, Less, Equal, Greater, Bool, true, false, cond, int_eq, refl, sym, ap, ap₂, ◌∙◌, arith, add-one}
use Rattle.std.proofs.lemmas.List.{map-append, take-map, drop-map}
use Rattle.std.proofs.lemmas.Option.{slice_get-get_or, slice_get_read}
use Rattle.std.proofs.lemmas.Bool.{false_from_ne_true}
use Rattle.std.proofs.lemmas.Bool.Decides.{Decides-int_eq}
use Rattle.whole_numbers.proofs.Products.{abs_sum}
use Rattle.tree_forms.specs.Order.{tree_cmp}
use Rattle.tree_forms.specs.Form.{FormPart, joined, placed, inserted}
use Rattle.term_trees.specs.Term.{tree}
use Rattle.term_forms.specs.declared.form.Part.{Part}
use Rattle.term_forms.specs.Form.{part_of, TimesWithin}
use Rattle.term_forms.specs.Place.{JoinsAt, StandsAt, IsJoined}
use Rattle.term_forms.proofs.Places.{slice_get-parts}

-- the times at a place are within the bound
pub within_at : (n : ℕ) (parts : List Part) (at : ℕ) (p : Part) → TimesWithin n (map part_of parts) → at < length parts → unsigned_abs ((get_or parts at p).times) ≤ n
within_at n [] at p h l = absurd (omega arith)
within_at n (q ∷ parts) zero p h l = h.0
within_at n (q ∷ parts) (suc at) p h l = within_at n parts at p h.1 (omega arith)

map-remove : (parts : List Part) (at : ℕ) → map part_of (remove parts at) ≡ take at (map part_of parts) ++ drop (at + 1) (map part_of parts)
map-remove parts at = rw (add-one, map-append, take-map, drop-map) refl

map-set_at : (parts : List Part) (at : ℕ) (p : Part) → at < length parts → map part_of (set parts at p) ≡ take at (map part_of parts) ++ part_of p ∷ drop (at + 1) (map part_of parts)
map-set_at [] at p l = absurd (omega arith)
map-set_at (q ∷ parts) zero p l = refl
map-set_at (q ∷ parts) (suc at) p l = rw (add-one, map-set_at parts at p (omega arith), add-one) refl

pub same_element : (parts : List Part) (at : ℕ) (p q : Part) → at < length parts → p ≡ get_or parts at p → q ≡ get_or parts at q → p ≡ q
same_element parts at p q l e f =
    let g : Some p ≡ Some q = sym (slice_get_read parts (length parts) at p refl l e) ∙ slice_get_read parts (length parts) at q refl l f in cc

-- what stands at a place is what the slice has there
the_part : (parts : List Part) (at : ℕ) (p : Part) (q : FormPart) → at < length parts → p ≡ get_or parts at p → slice_get (map part_of parts) at ≡ Some q → part_of p ≡ q
the_part parts at p q l is e = let g : Some (part_of p) ≡ Some q = sym (slice_get-parts parts at p l is) ∙ e in cc

joined_zero : (p q : FormPart) (rest : List FormPart) → p.times +ℤ q.times ≡ pos 0 → joined p q rest ≡ rest
joined_zero p q rest e = ap (λ b. cond b rest (record { atom = p.atom; times = p.times +ℤ q.times } ∷ rest)) ((Decides-int_eq _ _).1 e)

joined_more : (p q : FormPart) (rest : List FormPart) → (p.times +ℤ q.times ≡ pos 0 → ⊥) → joined p q rest ≡ record { atom = p.atom; times = p.times +ℤ q.times } ∷ rest
joined_more p q rest n = ap (λ b. cond b rest (record { atom = p.atom; times = p.times +ℤ q.times } ∷ rest)) (false_from_ne_true _ (λ e. n ((Decides-int_eq _ _).0 e)))

pub IsJoined-removed : (parts new : List Part) (at : ℕ) (times : ℤ) (p : Part) → at < length parts → p ≡ get_or parts at p → p.times +ℤ times ≡ pos 0 → new ≡ remove parts at → IsJoined (map part_of parts) at times (map part_of new)
IsJoined-removed parts new at times p l is z e = record {
  joined_there = λ q r f g.
      let same = the_part parts at p q l is f in
      let sum : q.times +ℤ r.times ≡ pos 0 = ap₂ ◌+ℤ◌ (sym (ap (λ x. x.times) same)) g ∙ z in
      ap (map part_of) e ∙ map-remove parts at ∙ ap (λ rest. take at (map part_of parts) ++ rest) (sym (joined_zero q r (drop (at + 1) (map part_of parts)) sum));
}

pub IsJoined-set : (parts new : List Part) (at : ℕ) (times s : ℤ) (p : Part) → at < length parts → p ≡ get_or parts at p → s ≡ p.times +ℤ times → (s ≡ pos 0 → ⊥) → new ≡ set parts at (record { atom = p.atom; times = s }) → IsJoined (map part_of parts) at times (map part_of new)
IsJoined-set parts new at times s p l is z n e = record {
  joined_there = λ q r f g.
      let same = the_part parts at p q l is f in
      let sum : s ≡ q.times +ℤ r.times = z ∙ ap₂ ◌+ℤ◌ (ap (λ x. x.times) same) (sym g) in
      let made : part_of (record { atom = p.atom; times = s }) ≡ record { atom = q.atom; times = q.times +ℤ r.times } =
      λ i. record { atom = (same i).atom; times = sum i } in
      ap (map part_of) e ∙ map-set_at parts at (record { atom = p.atom; times = s }) l ∙ ap (λ x. take at (map part_of parts) ++ x ∷ drop (at + 1) (map part_of parts)) made ∙
      ap (λ rest. take at (map part_of parts) ++ rest) (sym (joined_more q r (drop (at + 1) (map part_of parts)) (λ x. n (sum ∙ x))));
}

-- ---- what inserting leaves

pub inserted_joined : (ps new : List FormPart) (q : FormPart) (at : ℕ) → JoinsAt ps q.atom at → IsJoined ps at q.times new → new ≡ inserted q ps
inserted_joined ps new q at j h =
    let p = get_or ps at q in
    let is = slice_get-get_or ps at q j.there in
    h.joined_there p q is refl ∙ sym (j.joins q.times p is)

-- a bound on the times, after one more part

within_joined : (b : Bool) (m n : ℕ) (p q : FormPart) (ps : List FormPart) → unsigned_abs p.times ≤ m → TimesWithin (m + n) ps → unsigned_abs q.times ≤ n → TimesWithin (m + n) (cond b ps (record { atom = p.atom; times = p.times +ℤ q.times } ∷ ps))
within_joined true m n p q ps h k l = k
within_joined false m n p q ps h k l = (omega (arith, abs_sum p.times q.times), k)

within_placed : (o : Ordering) (m n : ℕ) (p q : FormPart) (ps behind : List FormPart) → unsigned_abs p.times ≤ m → TimesWithin (m + n) ps → unsigned_abs q.times ≤ n → TimesWithin (m + n) behind → TimesWithin (m + n) (placed o p q ps behind)
within_placed Less m n p q ps behind h k l i = (omega arith, i)
within_placed Equal m n p q ps behind h k l i = within_joined (int_eq (p.times +ℤ q.times) (pos 0)) m n p q ps h k l
within_placed Greater m n p q ps behind h k l i = (omega arith, (omega arith, k))

within_more : (m n : ℕ) (ps : List FormPart) → m ≤ n → TimesWithin m ps → TimesWithin n ps
within_more m n [] l h = tt
within_more m n (p ∷ ps) l h = (omega (arith, h.0), within_more m n ps l h.1)

pub TimesWithin-inserted : (m n : ℕ) (q : FormPart) (ps : List FormPart) → TimesWithin m ps → unsigned_abs q.times ≤ n → TimesWithin (m + n) (inserted q ps)
TimesWithin-inserted m n q [] h k = (omega arith, tt)
TimesWithin-inserted m n q (p ∷ ps) h k =
    within_placed (tree_cmp p.atom q.atom) m n p q ps (inserted q ps) h.0 (within_more m (m + n) ps (omega arith) h.1) k (TimesWithin-inserted m n q ps h.1 k)

pub inserted_standing : (parts new : List Part) (part : Part) (at : ℕ) → StandsAt (map part_of parts) (tree part.atom) at → new ≡ insert parts at part → map part_of new ≡ inserted (part_of part) (map part_of parts)
inserted_standing parts new part at h e = ap (map part_of) e ∙ map-insert ∙ sym (h.stands part.times)
  where
    map-insert : map part_of (insert parts at part) ≡ take at (map part_of parts) ++ part_of part ∷ drop at (map part_of parts)
    map-insert = rw (map-append, take-map, drop-map) refl
