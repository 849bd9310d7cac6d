-- Parts whose atoms are in a store.
use Rattle.std.proofs.Common.{◌≡◌, ℕ, zero, suc, ◌+◌, ◌<◌, ◌≤◌, ◌^◌, ℤ, unsigned_abs, List, [], ◌∷◌, ◌++◌, map, length, take, drop, get_or, true, ◌&&◌, refl, sym, ap, ap₂, ◌∙◌, subst, arith}
use Rattle.std.specs.List.{list_all}
use Rattle.std.proofs.lemmas.Bool.{and_parts, leb-true}
use Rattle.tree_forms.specs.Form.{FormPart, LinearForm, is_within, has_small_numbers}
use Rattle.term_nodes.specs.declared.node.Node.{Node}
use Rattle.term_store.specs.Store.{Grows}
use Rattle.term_store.proofs.Stores.{Grows-length, Grows-tree_at}
use Rattle.term_forms.specs.Form.{TimesWithin}
use Rattle.store_forms.specs.declared.form.IdPart.{IdPart}
use Rattle.store_forms.specs.declared.form.IdForm.{IdForm}
use Rattle.store_forms.specs.Form.{part_at, form_at, HaveAtoms, IsForm, IsSmall, small_numbers}
use Rattle.store_forms.specs.Place.{TimesOfWithin}

-- ---- atoms

pub have-append : (store : List Node) (xs ys : List IdPart) → HaveAtoms store xs → HaveAtoms store ys → HaveAtoms store (xs ++ ys)
have-append store [] ys h k = k
have-append store (x ∷ xs) ys h k = (h.0, have-append store xs ys h.1 k)

pub have-take : (store : List Node) (n : ℕ) (xs : List IdPart) → HaveAtoms store xs → HaveAtoms store (take n xs)
have-take store zero xs h = tt
have-take store (suc n) [] h = tt
have-take store (suc n) (x ∷ xs) h = (h.0, have-take store n xs h.1)

pub have-drop : (store : List Node) (n : ℕ) (xs : List IdPart) → HaveAtoms store xs → HaveAtoms store (drop n xs)
have-drop store zero xs h = h
have-drop store (suc n) [] h = tt
have-drop store (suc n) (x ∷ xs) h = have-drop store n xs h.1

pub have-at : (store : List Node) (xs : List IdPart) (at : ℕ) (p : IdPart) → HaveAtoms store xs → at < length xs → p ≡ get_or xs at p → p.atom < length store
have-at store [] at p h l e = absurd (omega arith)
have-at store (x ∷ xs) zero p h l e = subst (λ (q : IdPart). q.atom < length store) (sym e) h.0
have-at store (x ∷ xs) (suc at) p h l e = have-at store xs at p h.1 (omega arith) e

-- ---- a store that grows

pub have-grows : (old new : List Node) (xs : List IdPart) → Grows old new → HaveAtoms old xs → HaveAtoms new xs
have-grows old new [] g h = tt
have-grows old new (x ∷ xs) g h = (omega (arith, h.0, Grows-length old new g), have-grows old new xs g h.1)

pub part-grows : (old new : List Node) (x : IdPart) → Grows old new → x.atom < length old → part_at new x ≡ part_at old x
part-grows old new x g l = let e = Grows-tree_at old new x.atom g l in λ i. record { atom = e i; times = x.times }

pub parts-grow : (old new : List Node) (xs : List IdPart) → Grows old new → HaveAtoms old xs → map (part_at new) xs ≡ map (part_at old) xs
parts-grow old new [] g h = refl
parts-grow old new (x ∷ xs) g h = ap₂ ◌∷◌ (part-grows old new x g h.0) (parts-grow old new xs g h.1)

pub form-grows : (old new : List Node) (f : IdForm) → Grows old new → HaveAtoms old f.parts.items → form_at new f ≡ form_at old f
form-grows old new f g h = let e = parts-grow old new f.parts.items g h in λ i. record { parts = e i; constant = f.constant }

pub IsForm-grows : (old new : List Node) (f : IdForm) (l : LinearForm) → Grows old new → IsForm old f l → IsForm new f l
IsForm-grows old new f l g h = record { within = have-grows old new f.parts.items g h.within; same = form-grows old new f g h.within ∙ h.same }

pub IsSmall-grows : (old new : List Node) (f : IdForm) → Grows old new → IsSmall old f → IsSmall new f
IsSmall-grows old new f g h = record { within = have-grows old new f.parts.items g h.within; small = h.small }

-- ---- numbers within 2^60

small-parts : (store : List Node) (xs : List IdPart) → list_all (λ (p : FormPart). is_within p.times) (map (part_at store) xs) ≡ list_all (λ (p : IdPart). is_within p.times) xs
small-parts store [] = refl
small-parts store (x ∷ xs) = ap (λ b. is_within x.times && b) (small-parts store xs)

pub small-form_at : (store : List Node) (f : IdForm) → has_small_numbers (form_at store f) ≡ small_numbers f
small-form_at store f = ap (λ b. b && is_within f.constant) (small-parts store f.parts.items)

pub small_number : (z : ℤ) → is_within z ≡ true → unsigned_abs z ≤ 2 ^ 60
small_number z h = leb-true (unsigned_abs z) (2 ^ 60) h

small_times : (xs : List IdPart) → list_all (λ p. is_within p.times) xs ≡ true → TimesOfWithin (2 ^ 60) xs
small_times [] h = tt
small_times (x ∷ xs) h = let k = and_parts _ _ h in (small_number x.times k.0, small_times xs k.1)

pub small_parts : (f : IdForm) → small_numbers f ≡ true → TimesOfWithin (2 ^ 60) f.parts.items
small_parts f h = small_times f.parts.items (and_parts _ _ h).0

-- ---- bounds of the times

pub times_at : (store : List Node) (n : ℕ) (xs : List IdPart) → TimesOfWithin n xs → TimesWithin n (map (part_at store) xs)
times_at store n [] h = tt
times_at store n (x ∷ xs) h = (h.0, times_at store n xs h.1)

pub times_of : (store : List Node) (n : ℕ) (xs : List IdPart) → TimesWithin n (map (part_at store) xs) → TimesOfWithin n xs
times_of store n [] h = tt
times_of store n (x ∷ xs) h = (h.0, times_of store n xs h.1)

pub times_there : (n : ℕ) (xs : List IdPart) (at : ℕ) (p : IdPart) → TimesOfWithin n xs → at < length xs → p ≡ get_or xs at p → unsigned_abs p.times ≤ n
times_there n [] at p h l e = absurd (omega arith)
times_there n (x ∷ xs) zero p h l e = subst (λ (q : IdPart). unsigned_abs q.times ≤ n) (sym e) h.0
times_there n (x ∷ xs) (suc at) p h l e = times_there n xs at p h.1 (omega arith) e
