-- The parts of a form ascend, and none is taken 0 times.
use Rattle.std.proofs.Common.{◌≡◌, ◌≢◌, ℕ, ℤ, pos, negsuc, ◌+ℤ◌, ◌*ℤ◌, neg_ℤ, List, [], ◌∷◌, map, Bool, true, false, ◌&&◌, cond, int_eq, int_le, refl, ap, ◌∙◌, arith, Ordering, Less, Equal, Greater}
use Rattle.std.specs.Ordering.{ordering_reverse}
use Rattle.std.specs.List.{AllByRecursion}
use Rattle.std.proofs.lemmas.Bool.{false≢true}
use Rattle.std.proofs.lemmas.Bool.Decides.{Decides-int_eq}
use Rattle.std.proofs.lemmas.Int.{ints}
use Rattle.whole_numbers.proofs.Products.{nonzero_product}
use Rattle.slang_values.specs.Tree.{Tree, literal, truth_literal, name, bound, unary, binary, update, quantified, listed}
use Rattle.slang_values.specs.declared.operators.Unary.{Unary}
use Rattle.slang_values.specs.declared.operators.Binary.{Binary}
use Rattle.tree_forms.specs.Order.{tree_cmp}
use Rattle.tree_forms.specs.Form.{FormPart, LinearForm, constant_form, atom_form, placed, inserted, all_inserted, plus, multiplied, scaled, form_term, product_atom, is_constant, product, remainder_form, form}
use Rattle.tree_forms.specs.Laws.{Ascend, IsInOrder}
use Rattle.tree_forms.proofs.Ordered.{tree_cmp_total}

abbrev AllAbove : Tree ℕ → List FormPart → Type 0
AllAbove t ps = AllByRecursion (λ p. tree_cmp t p.atom ≡ Less) ps

abbrev pub AreNotZero : List FormPart → Type 0
AreNotZero ps = AllByRecursion (λ p. p.times ≢ pos 0) ps

above_more : (s t : Tree ℕ) (ps : List FormPart) → tree_cmp s t ≡ Less → AllAbove t ps → AllAbove s ps
above_more s t [] l h = tt
above_more s t (p ∷ ps) l h = (tree_cmp_total.trans s t p.atom l h.0, above_more s t ps l h.1)

-- ---- above an atom

above_joined : (b : Bool) (t : Tree ℕ) (p q : FormPart) (rest : List FormPart) → tree_cmp t p.atom ≡ Less → AllAbove t rest → AllAbove t (cond b rest (record { atom = p.atom; times = p.times +ℤ q.times } ∷ rest))
above_joined true t p q rest l h = h
above_joined false t p q rest l h = (l, h)

above_placed : (o : Ordering) (t : Tree ℕ) (p q : FormPart) (ps behind : List FormPart) → tree_cmp t q.atom ≡ Less → AllAbove t (p ∷ ps) → AllAbove t behind → AllAbove t (placed o p q ps behind)
above_placed Less t p q ps behind l h k = (h.0, k)
above_placed Equal t p q ps behind l h k = above_joined (int_eq (p.times +ℤ q.times) (pos 0)) t p q ps h.0 h.1
above_placed Greater t p q ps behind l h k = (l, h)

above_inserted : (t : Tree ℕ) (q : FormPart) (ps : List FormPart) → tree_cmp t q.atom ≡ Less → AllAbove t ps → AllAbove t (inserted q ps)
above_inserted t q [] l h = (l, tt)
above_inserted t q (p ∷ ps) l h = above_placed (tree_cmp p.atom q.atom) t p q ps (inserted q ps) l h (above_inserted t q ps l h.1)

-- ---- ascending

ascend_joined : (b : Bool) (p q : FormPart) (rest : List FormPart) → Ascend (p ∷ rest) → Ascend (cond b rest (record { atom = p.atom; times = p.times +ℤ q.times } ∷ rest))
ascend_joined true p q rest h = h.1
ascend_joined false p q rest h = h

ascend_placed : (o : Ordering) (p q : FormPart) (ps behind : List FormPart) → tree_cmp p.atom q.atom ≡ o → Ascend (p ∷ ps) → (o ≡ Less → AllAbove p.atom behind) → Ascend behind → Ascend (placed o p q ps behind)
ascend_placed Less p q ps behind c h above k = (above refl, k)
ascend_placed Equal p q ps behind c h above k = ascend_joined (int_eq (p.times +ℤ q.times) (pos 0)) p q ps h
ascend_placed Greater p q ps behind c h above k =
    let below : tree_cmp q.atom p.atom ≡ Less = tree_cmp_total.antisymm q.atom p.atom ∙ ap ordering_reverse c in
    ((below, above_more q.atom p.atom ps below h.0), h)

ascend_inserted : (q : FormPart) (ps : List FormPart) → Ascend ps → Ascend (inserted q ps)
ascend_inserted q [] h = (tt, tt)
ascend_inserted q (p ∷ ps) h =
    ascend_placed (tree_cmp p.atom q.atom) p q ps (inserted q ps) refl h (λ l. above_inserted p.atom q ps l h.0) (ascend_inserted q ps h.1)

ascend_all : (qs ps : List FormPart) → Ascend ps → Ascend (all_inserted qs ps)
ascend_all [] ps h = h
ascend_all (q ∷ qs) ps h = ascend_inserted q (all_inserted qs ps) (ascend_all qs ps h)

above_multiplied : (t : Tree ℕ) (k : ℤ) (ps : List FormPart) → AllAbove t ps → AllAbove t (map (multiplied k) ps)
above_multiplied t k [] h = tt
above_multiplied t k (p ∷ ps) h = (h.0, above_multiplied t k ps h.1)

ascend_multiplied : (k : ℤ) (ps : List FormPart) → Ascend ps → Ascend (map (multiplied k) ps)
ascend_multiplied k [] h = tt
ascend_multiplied k (p ∷ ps) h = (above_multiplied p.atom k ps h.0, ascend_multiplied k ps h.1)

-- ---- not 0

zero_joined : (b : Bool) (p q : FormPart) (rest : List FormPart) → (p.times +ℤ q.times ≡ pos 0 → b ≡ true) → AreNotZero rest → AreNotZero (cond b rest (record { atom = p.atom; times = p.times +ℤ q.times } ∷ rest))
zero_joined true p q rest z h = h
zero_joined false p q rest z h = (λ e. false≢true (z e), h)

zero_placed : (o : Ordering) (p q : FormPart) (ps behind : List FormPart) → q.times ≢ pos 0 → AreNotZero (p ∷ ps) → AreNotZero behind → AreNotZero (placed o p q ps behind)
zero_placed Less p q ps behind n h k = (h.0, k)
zero_placed Equal p q ps behind n h k = zero_joined (int_eq (p.times +ℤ q.times) (pos 0)) p q ps (λ e. (Decides-int_eq _ _).1 e) h.1
zero_placed Greater p q ps behind n h k = (n, h)

zero_inserted : (q : FormPart) (ps : List FormPart) → q.times ≢ pos 0 → AreNotZero ps → AreNotZero (inserted q ps)
zero_inserted q [] n h = (n, tt)
zero_inserted q (p ∷ ps) n h = zero_placed (tree_cmp p.atom q.atom) p q ps (inserted q ps) n h (zero_inserted q ps n h.1)

zero_all : (qs ps : List FormPart) → AreNotZero qs → AreNotZero ps → AreNotZero (all_inserted qs ps)
zero_all [] ps h k = k
zero_all (q ∷ qs) ps h k = zero_inserted q (all_inserted qs ps) h.0 (zero_all qs ps h.1 k)

zero_multiplied : (k : ℤ) (ps : List FormPart) → k ≢ pos 0 → AreNotZero ps → AreNotZero (map (multiplied k) ps)
zero_multiplied k [] n h = tt
zero_multiplied k (p ∷ ps) n h = (nonzero_product k p.times n h.0, zero_multiplied k ps n h.1)

-- ---- forms

one≢zero : pos 1 ≢ pos 0
one≢zero e = absurd (omega (arith, ints, e))

pub order_atom : (t : Tree ℕ) → IsInOrder (atom_form t)
order_atom t = record { ascending = (tt, tt); not_zero = (one≢zero, tt) }

pub order_plus : (f g : LinearForm) → IsInOrder f → IsInOrder g → IsInOrder (plus f g)
order_plus f g h k = record {
  ascending = ascend_all g.parts f.parts h.ascending;
  not_zero = zero_all g.parts f.parts k.not_zero h.not_zero;
}

scaled_at : (b : Bool) (k : ℤ) (f : LinearForm) → (k ≡ pos 0 → b ≡ true) → IsInOrder f → IsInOrder (cond b (constant_form (pos 0)) (record { parts = map (multiplied k) f.parts; constant = k *ℤ f.constant }))
scaled_at true k f z h = record { ascending = tt; not_zero = tt }
scaled_at false k f z h = record {
  ascending = ascend_multiplied k f.parts h.ascending;
  not_zero = zero_multiplied k f.parts (λ e. false≢true (z e)) h.not_zero;
}

pub order_scaled : (k : ℤ) (f : LinearForm) → IsInOrder f → IsInOrder (scaled k f)
order_scaled k f h = scaled_at (int_eq k (pos 0)) k f (λ e. (Decides-int_eq _ _).1 e) h

order_if : (b : Bool) (f g : LinearForm) → IsInOrder f → IsInOrder g → IsInOrder (cond b f g)
order_if true f g h k = h
order_if false f g h k = k

order_product : (f g : LinearForm) → IsInOrder f → IsInOrder g → IsInOrder (product f g)
order_product f g h k =
    order_if (is_constant f) _ _ (order_scaled f.constant g k)
    (order_if (is_constant g) _ _ (order_scaled g.constant f h) (order_atom (product_atom (form_term f) (form_term g))))

order_remainder : (f g : LinearForm) → IsInOrder f → IsInOrder g → IsInOrder (remainder_form f g)
order_remainder f g h k =
    order_if (is_constant g && int_le (pos 1) g.constant) _ _
    (order_plus f _ h (order_scaled (neg_ℤ g.constant) _ (order_atom _)))
    (order_atom (binary Binary.Rem (form_term f) (form_term g)))

pub IsInOrder-form : (t : Tree ℕ) → IsInOrder (form t)
IsInOrder-form (literal z) = record { ascending = tt; not_zero = tt }
IsInOrder-form (truth_literal b) = order_atom _
IsInOrder-form (name n) = order_atom _
IsInOrder-form (bound n) = order_atom _
IsInOrder-form (unary Unary.Neg a) = order_scaled (negsuc 0) (form a) (IsInOrder-form a)
IsInOrder-form (unary Unary.Not a) = order_atom _
IsInOrder-form (unary Unary.Size a) = order_atom _
IsInOrder-form (unary (Unary.Field k) a) = order_atom _
IsInOrder-form (binary Binary.Add a b) = order_plus (form a) (form b) (IsInOrder-form a) (IsInOrder-form b)
IsInOrder-form (binary Binary.Sub a b) =
    order_plus (form a) (scaled (negsuc 0) (form b)) (IsInOrder-form a) (order_scaled (negsuc 0) (form b) (IsInOrder-form b))
IsInOrder-form (binary Binary.Mul a b) = order_product (form a) (form b) (IsInOrder-form a) (IsInOrder-form b)
IsInOrder-form (binary Binary.Div a b) = order_atom _
IsInOrder-form (binary Binary.Rem a b) = order_remainder (form a) (form b) (IsInOrder-form a) (IsInOrder-form b)
IsInOrder-form (binary Binary.And a b) = order_atom _
IsInOrder-form (binary Binary.Or a b) = order_atom _
IsInOrder-form (binary Binary.Imply a b) = order_atom _
IsInOrder-form (binary Binary.Eq a b) = order_atom _
IsInOrder-form (binary Binary.Lt a b) = order_atom _
IsInOrder-form (binary Binary.Le a b) = order_atom _
IsInOrder-form (binary Binary.Read a b) = order_atom _
IsInOrder-form (binary Binary.Append a b) = order_atom _
IsInOrder-form (update a i x) = order_atom _
IsInOrder-form (quantified q low high body) = order_atom _
IsInOrder-form (listed l ts) = order_atom _
