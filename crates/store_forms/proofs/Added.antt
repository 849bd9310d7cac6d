-- Terms and atoms that are added to a store.
use Rattle.std.proofs.Common.{◌≡◌, ℕ, suc, ◌+◌, ◌<◌, ℤ, pos, List, ◌∷◌, map, length, get_or, drop, Option, Some, None, Result, Ok, Err, IfOk, cond, sym, ap, ◌∙◌, subst, arith, add-one, drop-cons}
use Rattle.std.specs.Option.{option_map}
use Rattle.std.proofs.lemmas.Bool.Decides.{Decides-int_eq}
use Rattle.slang_values.specs.Tree.{Tree, binary, literal}
use Rattle.slang_values.specs.declared.operators.Binary.{Binary}
use Rattle.tree_forms.specs.Form.{FormPart, LinearForm, atom_form, part_term, added, sum_of_parts, with_constant}
use Rattle.term_nodes.specs.declared.node.Node.{Node}
use Rattle.term_store.specs.Store.{tree_at, Holds, Grows}
use Rattle.term_store.proofs.Stores.{Holds-within, Holds-tree_at, tree_at-Holds, Grows-Grows, Grows-length}
use Rattle.store_forms.specs.declared.form.IdPart.{IdPart}
use Rattle.store_forms.specs.declared.form.IdForm.{IdForm}
use Rattle.store_forms.specs.Form.{part_at, HaveAtoms, IsForm, HasSum}
use Rattle.store_forms.proofs.Atoms.{have-at, part-grows}

-- ---- numbers in a store that has grown

pub within_grown : (old new : List Node) (k : ℕ) → Grows old new → k < length old → k < length new
within_grown old new k g l = omega (arith, l, Grows-length old new g)

pub binary_held : {E : Type 0} (r : Result ℕ E) (mid new : List Node) (op : Binary) (a b : ℕ) (s t : Tree ℕ) → tree_at mid a ≡ s → tree_at mid b ≡ t → IfOk r (λ k. Holds new k (binary op (tree_at mid a) (tree_at mid b))) → IfOk r (λ k. Holds new k (binary op s t))
binary_held (Ok k) mid new op a b s t e f h = subst (Holds new k) (λ i. binary op (e i) (f i)) h
binary_held (Err x) mid new op a b s t e f h = tt

-- ---- the sum of the parts

pub record SumSoFar (old now : List Node) (parts : List IdPart) (i : ℕ) (sum : Option ℕ) : Type 0 where
  pub grows : Grows old now
  pub within : HasSum now sum
  pub same : sum_of_parts (option_map (tree_at now) sum) (map (part_at old) (drop i parts)) ≡ sum_of_parts None (map (part_at old) parts)

pub sum_more : (old now new : List Node) (parts : List IdPart) (i : ℕ) (sum : Option ℕ) (p : IdPart) (k : ℕ) → HaveAtoms old parts → i < length parts → p ≡ get_or parts i p → SumSoFar old now parts i sum → Grows now new →
    Holds new k (added (option_map (tree_at now) sum) (part_term (part_at now p))) → SumSoFar old new parts (i + 1) (Some k)
sum_more old now new parts i sum p k h l is so g held = record {
  grows = Grows-Grows old now new so.grows g;
  within = Holds-within new k _ held;
  same =
      let old_part : part_at now p ≡ part_at old p = part-grows old now p so.grows (have-at old parts i p h l is) in
      let made : tree_at new k ≡ added (option_map (tree_at now) sum) (part_term (part_at old p)) = tree_at-Holds new k _ held ∙ ap (λ (q : FormPart). added (option_map (tree_at now) sum) (part_term q)) old_part in
      let first : drop i parts ≡ p ∷ drop (i + 1) parts = rw add-one (drop-cons parts i p l ∙ ap (λ (x : IdPart). x ∷ drop (suc i) parts) (sym is)) in
      ap (λ (t : Tree ℕ). sum_of_parts (Some t) (map (part_at old) (drop (i + 1) parts))) made ∙
      sym (ap (λ (xs : List IdPart). sum_of_parts (option_map (tree_at now) sum) (map (part_at old) xs)) first) ∙ so.same;
}

-- ---- forms

pub atom_of : {E : Type 0} (r : Result IdForm E) (store : List Node) (atom : ℕ) (t : Tree ℕ) → Holds store atom t → IfOk r (λ f. (s : List Node) → atom < length s → IsForm s f (atom_form (tree_at s atom))) → IfOk r (λ f. IsForm store f (atom_form t))
atom_of (Ok f) store atom t held h = subst (λ (x : Tree ℕ). IsForm store f (atom_form x)) (tree_at-Holds store atom t held) (h store (Holds-within store atom t held))
atom_of (Err x) store atom t held h = tt

pub form_same : {E : Type 0} (r : Result IdForm E) (store : List Node) (l m : LinearForm) → l ≡ m → IfOk r (λ f. IsForm store f l) → IfOk r (λ f. IsForm store f m)
form_same (Ok f) store l m e h = subst (IsForm store f) e h
form_same (Err x) store l m e h = tt

-- ---- the simplest terms

pub one_part : (store : List Node) (p : IdPart) → p.atom < length store → p.times ≡ pos 1 → Holds store p.atom (part_term (part_at store p))
one_part store p l e =
    subst (Holds store p.atom) (sym (ap (λ b. cond b (tree_at store p.atom) (binary Binary.Mul (literal p.times) (tree_at store p.atom))) ((Decides-int_eq _ _).1 e))) (Holds-tree_at store p.atom l)

pub no_constant : (store : List Node) (k : ℕ) (z : ℤ) → k < length store → z ≡ pos 0 → Holds store k (with_constant (Some (tree_at store k)) z)
no_constant store k z l e =
    subst (Holds store k) (sym (ap (λ b. cond b (tree_at store k) (binary Binary.Add (tree_at store k) (literal z))) ((Decides-int_eq _ _).1 e))) (Holds-tree_at store k l)
