-- Sums and multiples of forms.
use Rattle.std.proofs.Common.{◌≡◌, ℕ, suc, ◌+◌, ◌-◌, ◌*◌, ◌<◌, ◌^◌, ℤ, pos, negsuc, ◌*ℤ◌, List, [], ◌∷◌, map, length, get_or, drop, true, cond, Result, Ok, Err, IfOk, SFits, to_z, of_z, refl, sym, ap, ap₂, ◌∙◌, subst, arith, drop-cons}
use Rattle.std.specs.Int.{w128}
use Rattle.std.proofs.lemmas.Int.{to_z-of_z}
use Rattle.std.proofs.lemmas.Bool.{false_from_ne_true}
use Rattle.std.proofs.lemmas.Bool.Decides.{Decides-int_eq}
use Rattle.slang_values.specs.Tree.{Tree}
use Rattle.tree_forms.specs.Form as forms
use Rattle.tree_forms.specs.Form.{is_within, has_small_numbers, scaled, constant_form, inserted, all_inserted}
use Rattle.term_nodes.specs.declared.node.Node.{Node}
use Rattle.term_forms.specs.Form.{TimesWithin}
use Rattle.term_forms.proofs.Joining.{TimesWithin-inserted}
use Rattle.term_forms.proofs.SumLemmas.{small_multiple, small_difference}
use Rattle.store_forms.specs.declared.form.IdPart.{IdPart}
use Rattle.store_forms.specs.declared.form.IdForm.{IdForm}
use Rattle.store_forms.specs.Form.{part_at, form_at, HaveAtoms, AreParts, IsForm, IsSmall, small_numbers}
use Rattle.store_forms.specs.Place.{TimesOfWithin, multiplied}
use Rattle.store_forms.proofs.Atoms.{times_at, times_of, times_there, small-form_at}

-- ---- all the others, from the last on

pub record AddedSoFar (store : List Node) (parts others new : List IdPart) (count : ℕ) : Type 0 where
  pub parts_are : AreParts store new (all_inserted (map (part_at store) (drop (length others - count) others)) (map (part_at store) parts))
  pub within : TimesOfWithin (2 ^ 60 * (1 + count)) new

pub one_added : (store : List Node) (parts others old new : List IdPart) (count : ℕ) (part : IdPart) → count < length others → part ≡ get_or others (length others - 1 - count) part → TimesOfWithin (2 ^ 60) others → AddedSoFar store parts others old count →
    AreParts store new (inserted (part_at store part) (map (part_at store) old)) → AddedSoFar store parts others new (count + 1)
one_added store parts others old new count part l is small h now =
    let at = length others - 1 - count in
    let lower : at < length others = omega arith in
    let here : length others - (count + 1) ≡ at = omega arith in
    let next : suc at ≡ length others - count = omega arith in
    let more : drop (length others - (count + 1)) others ≡ part ∷ drop (length others - count) others =
    ap (λ (n : ℕ). drop n others) here ∙ drop-cons others at part lower ∙ ap₂ (λ (x : IdPart) (n : ℕ). x ∷ drop n others) (sym is) next in
    let bound : 2 ^ 60 * (1 + count) + 2 ^ 60 ≡ 2 ^ 60 * (1 + (count + 1)) = omega arith in
    let same : map (part_at store) new ≡ all_inserted (map (part_at store) (drop (length others - (count + 1)) others)) (map (part_at store) parts) =
    now.same ∙ ap (inserted (part_at store part)) h.parts_are.same ∙ ap (λ (xs : List IdPart). all_inserted (map (part_at store) xs) (map (part_at store) parts)) (sym more) in
    record {
      parts_are = record { within = now.within; same = same };
      within = times_of store (2 ^ 60 * (1 + (count + 1))) new
          (subst (λ (n : ℕ). TimesWithin n (map (part_at store) new)) bound
          (subst (TimesWithin (2 ^ 60 * (1 + count) + 2 ^ 60)) (sym now.same)
          (TimesWithin-inserted (2 ^ 60 * (1 + count)) (2 ^ 60) (part_at store part) (map (part_at store) old) (times_at store (2 ^ 60 * (1 + count)) old h.within) (times_there (2 ^ 60) others at part small lower is))));
    }

-- ---- multiples

map_multiplied : (store : List Node) (k : ℤ) (ps : List IdPart) → map (part_at store) (map (multiplied k) ps) ≡ map (forms.multiplied k) (map (part_at store) ps)
map_multiplied store k [] = refl
map_multiplied store k (p ∷ ps) = ap (λ xs. forms.multiplied k (part_at store p) ∷ xs) (map_multiplied store k ps)

have_multiplied : (store : List Node) (k : ℤ) (ps : List IdPart) → HaveAtoms store ps → HaveAtoms store (map (multiplied k) ps)
have_multiplied store k [] h = tt
have_multiplied store k (p ∷ ps) h = (h.0, have_multiplied store k ps h.1)

pub IsForm-zero : (store : List Node) (f g : IdForm) (k : ℤ) → k ≡ pos 0 → IsForm store g (constant_form (pos 0)) → IsForm store g (scaled k (form_at store f))
IsForm-zero store f g k e h = record {
  within = h.within;
  same = h.same ∙ sym (ap (λ b. cond b (constant_form (pos 0)) (record { parts = map (forms.multiplied k) (map (part_at store) f.parts.items); constant = k *ℤ f.constant })) ((Decides-int_eq _ _).1 e));
}

pub IsForm-multiple : (store : List Node) (f g : IdForm) (k : ℤ) → (k ≡ pos 0 → ⊥) → HaveAtoms store f.parts.items → g.parts.items ≡ map (multiplied k) f.parts.items → g.constant ≡ k *ℤ f.constant → IsForm store g (scaled k (form_at store f))
IsForm-multiple store f g k n h e c =
    let parts = ap (map (part_at store)) e ∙ map_multiplied store k f.parts.items in
    let made : form_at store g ≡ record { parts = map (forms.multiplied k) (map (part_at store) f.parts.items); constant = k *ℤ f.constant } = (λ i. record { parts = parts i; constant = c i }) in
    record {
      within = subst (HaveAtoms store) (sym e) (have_multiplied store k f.parts.items h);
      same = made ∙ sym (ap (λ b. cond b (constant_form (pos 0)) (record { parts = map (forms.multiplied k) (map (part_at store) f.parts.items); constant = k *ℤ f.constant })) (false_from_ne_true _ (λ z. n ((Decides-int_eq _ _).0 z))));
    }

-- ---- multiples that stay small

pub atom_small : (store : List Node) (f : IdForm) (t : Tree ℕ) → IsForm store f (forms.atom_form t) → small_numbers f ≡ true
atom_small store f t h = sym (small-form_at store f) ∙ ap has_small_numbers h.same

pub multiple_small : {E : Type 0} (r : Result IdForm E) (store : List Node) (f : IdForm) (j k : ℤ) (t : Tree ℕ) → IsForm store f (forms.atom_form t) → j ≡ k → is_within k ≡ true →
    IfOk r (λ g. (s : List Node) → HaveAtoms s f.parts.items → IsForm s g (scaled j (form_at s f))) → IfOk r (IsSmall store)
multiple_small (Ok g) store f j k t h e w m =
    let i : IsForm store g (scaled j (form_at store f)) = m store h.within in
    record { within = i.within; small = sym (small-form_at store g) ∙ small_multiple k t (form_at store g) (i.same ∙ ap₂ scaled e h.same) w }
multiple_small (Err x) store f j k t h e w m = tt

pub small_negative : (store : List Node) (f g : IdForm) → IsSmall store f → ((s : List Node) → HaveAtoms s f.parts.items → IsForm s g (scaled (negsuc 0) (form_at s f))) → IsSmall store g
small_negative store f g h m =
    let i : IsForm store g (scaled (negsuc 0) (form_at store f)) = m store h.within in
    record { within = i.within; small = sym (small-form_at store g) ∙ small_difference (form_at store f) (form_at store g) i.same (small-form_at store f ∙ h.small) }

-- ---- numbers of 128 bits

pub of_zero : (z : ℤ) → SFits w128 z → of_z w128 z ≡ 0 → z ≡ pos 0
of_zero z f e = sym (to_z-of_z w128 z f) ∙ ap (to_z w128) e

pub of_one : (z : ℤ) → SFits w128 z → of_z w128 z ≡ 1 → z ≡ pos 1
of_one z f e = sym (to_z-of_z w128 z f) ∙ ap (to_z w128) e

pub bare : (f : ℤ → ℤ → ℤ) (s x y : ℤ) → SFits w128 x → SFits w128 y → s ≡ f (to_z w128 (of_z w128 x)) (to_z w128 (of_z w128 y)) → s ≡ f x y
bare f s x y p q e = e ∙ ap₂ f (to_z-of_z w128 x p) (to_z-of_z w128 y q)
