-- What is found of a term, as the store and the table grow.
use Rattle.std.proofs.Common.{◌≡◌, ℕ, ◌<◌, ℤ, List, Bool, true, false, ◌&&◌, Result, Ok, Err, IfOk, refl, sym, ap, ◌∙◌, subst}
use Rattle.std.proofs.lemmas.Bool.{and_from, and_left, and_right}
use Rattle.slang_values.specs.Tree.{Tree, literal, unary, binary}
use Rattle.slang_values.specs.declared.operators.Unary.{Unary}
use Rattle.slang_values.specs.declared.operators.Binary.{Binary}
use Rattle.tree_forms.specs.Form.{LinearForm, form, unary_form, binary_form, constant_form, has_small_numbers, is_narrow}
use Rattle.tree_forms.proofs.Narrow.{is_narrow-literal, is_narrow-unary, is_narrow-binary}
use Rattle.term_nodes.specs.declared.node.Node.{Node}
use Rattle.term_nodes.specs.declared.node.NodeShape.{NodeShape}
use Rattle.term_nodes.specs.Node.{shape_numbers, IsShapeOf}
use Rattle.term_store.specs.Store.{IsPlaced}
use Rattle.std.specs.List.{AllByRecursion}
use Rattle.store_forms.specs.declared.form.IdForm.{IdForm}
use Rattle.store_forms.specs.Form.{form_at, IsForm, IsSmall}
use Rattle.store_forms.proofs.Atoms.{small-form_at}
use Rattle.store_entries.specs.declared.entry.Entry.{Entry}
use Rattle.store_entries.specs.declared.entry.Entry.TheVariants.{Form, Wide}
use Rattle.store_entries.specs.Entries.{HasForm, IsEntryOf}
use Rattle.store_linear.specs.Entries.{IsNarrowed}

-- ---- nodes

narrowed_node : (store : List Node) (t : Tree ℕ) (f : IdForm) (e : Entry) (rest : Bool) → IsForm store f (form t) →
    is_narrow t ≡ (has_small_numbers (form t) && rest) → rest ≡ true → IsNarrowed f e → IsEntryOf store t e
narrowed_node store t f (Form g) rest h is r k = record {
  is = subst (λ (x : IdForm). IsForm store x (form t)) (sym k.0) h;
  narrow = is ∙ and_from _ _ (ap has_small_numbers (sym h.same) ∙ small-form_at store f ∙ k.1) r;
}
narrowed_node store t f Wide rest h is r k = is ∙ and_left _ _ (ap has_small_numbers (sym h.same) ∙ small-form_at store f ∙ k)

pub narrowed_literal : (store : List Node) (z : ℤ) (f : IdForm) (e : Entry) → IsForm store f (constant_form z) → IsNarrowed f e → IsEntryOf store (literal z) e
narrowed_literal store z f e h k = narrowed_node store (literal z) f e true h (is_narrow-literal z) refl k

-- the form of a part, in the store as it was
pub same_form : (store : List Node) (t : Tree ℕ) (f : IdForm) → HasForm store t f → form_at store f ≡ form t
same_form store t f h = h.is.same

pub small_entry : (store : List Node) (t : Tree ℕ) (f : IdForm) → HasForm store t f → (has_small_numbers (form t) ≡ true) → IsSmall store f
small_entry store t f h s = record { within = h.is.within; small = sym (small-form_at store f) ∙ ap has_small_numbers h.is.same ∙ s }

pub narrowed_unary : (old new : List Node) (op : Unary) (a : Tree ℕ) (f g : IdForm) (e : Entry) → HasForm old a f →
    IsForm new g (unary_form op (form_at old f)) → IsNarrowed g e → IsEntryOf new (unary op a) e
narrowed_unary old new op a f g e h k n =
    narrowed_node new (unary op a) g e (is_narrow a) (subst (λ (x : LinearForm). IsForm new g (unary_form op x)) h.is.same k) (is_narrow-unary op a) h.narrow n

pub narrowed_binary : (old new : List Node) (op : Binary) (a b : Tree ℕ) (f g x : IdForm) (e : Entry) → HasForm old a f → HasForm old b g →
    IsForm new x (binary_form op (form_at old f) (form_at old g)) → IsNarrowed x e → IsEntryOf new (binary op a b) e
narrowed_binary old new op a b f g x e h i k n =
    let whole : IsForm new x (binary_form op (form a) (form b)) = subst (IsForm new x) (λ j. binary_form op (h.is.same j) (i.is.same j)) k in
    narrowed_node new (binary op a b) x e (is_narrow a && is_narrow b) whole (is_narrow-binary op a b) (and_from _ _ h.narrow i.narrow) n

pub wide_unary : (op : Unary) (a : Tree ℕ) → is_narrow a ≡ false → is_narrow (unary op a) ≡ false
wide_unary op a h = is_narrow-unary op a ∙ and_right _ _ h

pub wide_left : (op : Binary) (a b : Tree ℕ) → is_narrow a ≡ false → is_narrow (binary op a b) ≡ false
wide_left op a b h = is_narrow-binary op a b ∙ and_right _ _ (and_left _ _ h)

pub wide_right : (op : Binary) (a b : Tree ℕ) → is_narrow b ≡ false → is_narrow (binary op a b) ≡ false
wide_right op a b h = is_narrow-binary op a b ∙ and_right _ _ (and_right _ _ h)

-- ---- terms by their shapes

pub entry_as : {E : Type 0} (r : Result Entry E) (store : List Node) (s t : Tree ℕ) → s ≡ t → IfOk r (IsEntryOf store s) → IfOk r (IsEntryOf store t)
entry_as (Ok e) store s t is h = subst (λ (x : Tree ℕ). IsEntryOf store x e) is h
entry_as (Err x) store s t is h = tt

pub parts_below : (store : List Node) (id : ℕ) (n : Node) (s : NodeShape) → IsPlaced store id n → IsShapeOf n s → AllByRecursion (λ k. k < id) (shape_numbers s)
parts_below store id n s p g = subst (AllByRecursion (λ k. k < id)) g.numbers p.below
