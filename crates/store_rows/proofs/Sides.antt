-- Parts of narrow terms of a store are narrow, and have forms with small numbers.
use Rattle.std.proofs.Common.{◌≡◌, ℕ, ◌<◌, ◌≤◌, ℤ, pos, negsuc, ◌≤ℤ◌, List, [], ◌∷◌, map, length, get_or, zero, suc, true, Result, Ok, Err, IfOk, sym, ap}
use Rattle.std.proofs.Common.{ap₂, ◌∙◌, arith}
use Rattle.std.specs.List.{list_all}
use Rattle.std.proofs.lemmas.Bool.{and_parts}
use Rattle.slang_values.specs.Tree.{Tree, literal, unary, binary}
use Rattle.slang_values.specs.declared.operators.Unary.{Unary}
use Rattle.slang_values.specs.declared.operators.Binary.{Binary}
use Rattle.tree_forms.specs.Form.{LinearForm, is_narrow, is_within, has_small_numbers, form, plus, scaled}
use Rattle.tree_forms.proofs.Narrow.{is_narrow-literal, is_narrow-unary, is_narrow-binary, small-form}
use Rattle.term_nodes.specs.declared.node.Node.{Node}
use Rattle.term_store.specs.Store.{tree_at}
use Rattle.store_forms.specs.declared.form.IdForm.{IdForm}
use Rattle.store_forms.specs.Form.{form_at, IsForm, IsSmall, HaveAtoms}
use Rattle.store_forms.proofs.Atoms.{small-form_at}
use Rattle.store_entries.specs.Entries.{HasForm}
use Rattle.store_rows.specs.declared.literals.Relation.{Relation}
use Rattle.store_rows.specs.Said.{AreSides, AreNarrowParts, IsRelationBelow}

-- ---- parts of a narrow tree

pub narrow-under : (op : Unary) (a : Tree ℕ) → is_narrow (unary op a) ≡ true → is_narrow a ≡ true
narrow-under op a h = (and_parts _ _ (sym (is_narrow-unary op a) ∙ h)).1

pub narrow-left : (op : Binary) (a b : Tree ℕ) → is_narrow (binary op a b) ≡ true → is_narrow a ≡ true
narrow-left op a b h = (and_parts _ _ (and_parts _ _ (sym (is_narrow-binary op a b) ∙ h)).1).0

pub narrow-right : (op : Binary) (a b : Tree ℕ) → is_narrow (binary op a b) ≡ true → is_narrow b ≡ true
narrow-right op a b h = (and_parts _ _ (and_parts _ _ (sym (is_narrow-binary op a b) ∙ h)).1).1

pub sides : (store : List Node) (op : Binary) (a b bound : ℕ) → is_narrow (binary op (tree_at store a) (tree_at store b)) ≡ true → a < bound → b < bound →
    AreSides store bound a b
sides store op a b bound h l m = record {
  left = l;
  right = m;
  left_narrow = narrow-left op (tree_at store a) (tree_at store b) h;
  right_narrow = narrow-right op (tree_at store a) (tree_at store b) h;
}

pub turned-sides : (store : List Node) (op : Binary) (a b bound : ℕ) → is_narrow (binary op (tree_at store a) (tree_at store b)) ≡ true → a < bound →
    b < bound → AreSides store bound b a
turned-sides store op a b bound h l m = record {
  left = m;
  right = l;
  left_narrow = narrow-right op (tree_at store a) (tree_at store b) h;
  right_narrow = narrow-left op (tree_at store a) (tree_at store b) h;
}

sides-below : (store : List Node) (a b m n : ℕ) → m ≤ n → AreSides store m a b → AreSides store n a b
sides-below store a b m n l h = record {
  left = let k = h.left in omega (arith, k, l);
  right = let k = h.right in omega (arith, k, l);
  left_narrow = h.left_narrow;
  right_narrow = h.right_narrow;
}

pub below-weaker : (store : List Node) (m n : ℕ) (r : Relation) → m ≤ n → IsRelationBelow store m r → IsRelationBelow store n r
below-weaker store m n (Relation.AtMost a b) l h = sides-below store a b m n l h
below-weaker store m n (Relation.Below a b) l h = sides-below store a b m n l h
below-weaker store m n (Relation.Equal a b) l h = sides-below store a b m n l h
below-weaker store m n Relation.Nothing l h = tt

within-literal : (t : Tree ℕ) (z : ℤ) → t ≡ literal z → is_narrow t ≡ true → is_within z ≡ true
within-literal t z e h = (and_parts _ _ (sym (is_narrow-literal z) ∙ ap is_narrow (sym e) ∙ h)).0

pub narrow_parts : (store : List Node) (a d : ℕ) (z w : ℤ) → tree_at store d ≡ literal z → w ≡ z → pos 1 ≤ℤ w →
    is_narrow (binary Binary.Div (tree_at store a) (tree_at store d)) ≡ true → AreNarrowParts store a w
narrow_parts store a d z w e f l h = record {
  dividend = narrow-left Binary.Div (tree_at store a) (tree_at store d) h;
  divisor = ap is_within f ∙ within-literal (tree_at store d) z e (narrow-right Binary.Div (tree_at store a) (tree_at store d) h);
  positive = l;
}

-- ---- forms of narrow terms

pub small_there : (store : List Node) (t : Tree ℕ) (f : IdForm) → HasForm store t f → IsSmall store f
small_there store t f h = record { within = h.is.within; small = sym (small-form_at store f) ∙ ap has_small_numbers h.is.same ∙ small-form t h.narrow }

-- the sum of a form and one that stands for another, as the sum of those
pub sum_is : {E : Type 0} (r : Result IdForm E) (store : List Node) (f g : IdForm) (x y : LinearForm) → IsForm store f x → IsForm store g y →
    IfOk r (λ s. IsForm store s (plus (form_at store f) (form_at store g))) → IfOk r (λ s. IsForm store s (plus x y))
sum_is (Ok s) store f g x y h k i = record { within = i.within; same = i.same ∙ ap₂ plus h.same k.same }
sum_is (Err e) store f g x y h k i = tt

pub negative_is : (store : List Node) (t : Tree ℕ) (f g : IdForm) → HasForm store t f →
    ((s : List Node) → HaveAtoms s f.parts.items → IsForm s g (scaled (negsuc 0) (form_at s f))) → IsForm store g (scaled (negsuc 0) (form t))
negative_is store t f g h m = let i = m store h.is.within in record { within = i.within; same = i.same ∙ ap (scaled (negsuc 0)) h.is.same }

-- ---- a literal of the case

pub narrow-at : (store : List Node) (ks : List ℕ) (i k : ℕ) → list_all is_narrow (map (tree_at store) ks) ≡ true → i < length ks → k ≡ get_or ks i k →
    is_narrow (tree_at store k) ≡ true
narrow-at store [] i k h l e = absurd (omega arith)
narrow-at store (x ∷ ks) zero k h l e = ap (λ y. is_narrow (tree_at store y)) e ∙ (and_parts _ _ h).0
narrow-at store (x ∷ ks) (suc i) k h l e = narrow-at store ks i k (and_parts _ _ h).1 (omega arith) e
