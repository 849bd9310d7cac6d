-- A part that joins another, or comes to stand among others.
use Rattle.std.proofs.Common.{◌≡◌, ℕ, zero, suc, ◌+◌, ◌<◌, ℤ, pos, ◌+ℤ◌, int_eq, List, [], ◌∷◌, ◌++◌, map, length, get_or, set, insert, take, drop, slice_get, Some, Bool, true, false, cond, refl, sym, ap, ap₂, ◌∙◌, subst, arith, add-one}
use Rattle.std.proofs.lemmas.List.{map-append, take-map, drop-map}
use Rattle.std.proofs.lemmas.Option.{slice_get-get_or, slice_get_read}
use Rattle.std.proofs.lemmas.Bool.{false_from_ne_true}
use Rattle.std.proofs.lemmas.Bool.Decides.{Decides-int_eq}
use Rattle.tree_forms.specs.Form.{joined, inserted}
use Rattle.term_nodes.specs.declared.node.Node.{Node}
use Rattle.term_store.specs.Store.{tree_at}
use Rattle.term_forms.specs.Place.{JoinsAt, StandsAt}
use Rattle.store_forms.specs.declared.form.IdPart.{IdPart}
use Rattle.store_forms.specs.Form.{part_at, HaveAtoms, AreParts}
use Rattle.store_forms.specs.Place.{part_more, IsJoinedThere}
use Rattle.store_forms.proofs.Atoms.{have-append, have-take, have-drop, have-at}
use Rattle.store_forms.proofs.Placing.{slice_get-parts}

-- ---- joining

same_there : (parts : List IdPart) (at : ℕ) (p q : IdPart) → at < length parts → p ≡ get_or parts at p → slice_get parts at ≡ Some q → p ≡ q
same_there parts at p q l e f = let g : Some p ≡ Some q = sym (slice_get_read parts (length parts) at p refl l e) ∙ f in cc

part_kept : (p : IdPart) (times : ℤ) (rest : List IdPart) → (p.times +ℤ times ≡ pos 0 → ⊥) → part_more p times rest ≡ record { atom = p.atom; times = p.times +ℤ times } ∷ rest
part_kept p times rest n = ap (λ b. cond b rest (record { atom = p.atom; times = p.times +ℤ times } ∷ rest)) (false_from_ne_true _ (λ e. n ((Decides-int_eq _ _).0 e)))

set_at : (parts : List IdPart) (at : ℕ) (p : IdPart) → at < length parts → set parts at p ≡ take at parts ++ p ∷ drop (at + 1) parts
set_at [] at p l = absurd (omega arith)
set_at (q ∷ parts) zero p l = refl
set_at (q ∷ parts) (suc at) p l = rw (add-one, set_at parts at p (omega arith), add-one) refl

pub IsJoinedThere-set : (parts new : List IdPart) (at : ℕ) (times s : ℤ) (p : IdPart) → at < length parts → p ≡ get_or parts at p → s ≡ p.times +ℤ times → (s ≡ pos 0 → ⊥) → new ≡ set parts at (record { atom = p.atom; times = s }) → IsJoinedThere parts at times new
IsJoinedThere-set parts new at times s p l is z n e = record {
  there = λ q f.
      let made : record { atom = p.atom; times = s } ≡ record { atom = p.atom; times = p.times +ℤ times } = (λ i. record { atom = p.atom; times = z i }) in
      subst (λ (r : IdPart). new ≡ take at parts ++ part_more r times (drop (at + 1) parts)) (same_there parts at p q l is f)
      (e ∙ set_at parts at (record { atom = p.atom; times = s }) l ∙ ap (λ (x : IdPart). take at parts ++ x ∷ drop (at + 1) parts) made ∙
      ap (λ rest. take at parts ++ rest) (sym (part_kept p times (drop (at + 1) parts) (λ x. n (z ∙ x)))));
}

-- ---- inserting

module _ (store : List Node) where
  more_parts : (b : Bool) (p : IdPart) (times : ℤ) (rest : List IdPart) → map (part_at store) (cond b rest (record { atom = p.atom; times = p.times +ℤ times } ∷ rest)) ≡ cond b (map (part_at store) rest) (record { atom = tree_at store p.atom; times = p.times +ℤ times } ∷ map (part_at store) rest)
  more_parts true p times rest = refl
  more_parts false p times rest = refl

  more_atoms : (b : Bool) (p : IdPart) (times : ℤ) (rest : List IdPart) → p.atom < length store → HaveAtoms store rest → HaveAtoms store (cond b rest (record { atom = p.atom; times = p.times +ℤ times } ∷ rest))
  more_atoms true p times rest l h = h
  more_atoms false p times rest l h = (l, h)

  pub inserted_joined : (parts new : List IdPart) (part : IdPart) (at : ℕ) → HaveAtoms store parts → JoinsAt (map (part_at store) parts) (tree_at store part.atom) at → at < length parts → IsJoinedThere parts at part.times new →
      AreParts store new (inserted (part_at store part) (map (part_at store) parts))
  inserted_joined parts new part at h j l is =
      let p = get_or parts at part in
      let read : slice_get parts at ≡ Some p = slice_get-get_or parts at part l in
      let stays : p ≡ get_or parts at p = (let g : Some p ≡ Some (get_or parts at p) = sym read ∙ slice_get-get_or parts at p l in cc) in
      let new_is = is.there p read in
      record {
        within = subst (HaveAtoms store) (sym new_is)
            (have-append store (take at parts) (part_more p part.times (drop (at + 1) parts)) (have-take store at parts h)
            (more_atoms (int_eq (p.times +ℤ part.times) (pos 0)) p part.times (drop (at + 1) parts) (have-at store parts at p h l stays) (have-drop store (at + 1) parts h)));
        same =
            ap (map (part_at store)) new_is ∙ map-append (part_at store) (take at parts) (part_more p part.times (drop (at + 1) parts)) ∙
            ap₂ ◌++◌ (sym (take-map (part_at store) at parts)) (more_parts (int_eq (p.times +ℤ part.times) (pos 0)) p part.times (drop (at + 1) parts) ∙ ap (joined (part_at store p) (part_at store part)) (sym (drop-map (part_at store) (at + 1) parts))) ∙
            sym (j.joins part.times (part_at store p) (slice_get-parts store parts at p l stays));
      }

  pub inserted_standing : (parts new : List IdPart) (part : IdPart) (at : ℕ) → HaveAtoms store parts → part.atom < length store → StandsAt (map (part_at store) parts) (tree_at store part.atom) at → new ≡ insert parts at part →
      AreParts store new (inserted (part_at store part) (map (part_at store) parts))
  inserted_standing parts new part at h l j e = record {
    within = subst (HaveAtoms store) (sym e) (have-append store (take at parts) (part ∷ drop at parts) (have-take store at parts h) (l, have-drop store at parts h));
    same = ap (map (part_at store)) e ∙ map-insert ∙ sym (j.stands part.times);
  }
    where
      map-insert : map (part_at store) (insert parts at part) ≡ take at (map (part_at store) parts) ++ part_at store part ∷ drop at (map (part_at store) parts)
      map-insert = rw (map-append, take-map, drop-map) refl
