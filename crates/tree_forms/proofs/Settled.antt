-- The form of an atom of a form is that atom alone. So the term of a form has that form again, and of a narrow tree both the
-- atoms of the form and the term of the form are narrow.
use Rattle.std.proofs.Common.{◌≡◌, ◌≢◌, ℕ, ℤ, pos, negsuc, ◌+ℤ◌, ◌*ℤ◌, neg_ℤ, List, [], ◌∷◌, ◌++◌, map, Bool, true, false, ◌&&◌, cond, Some, None, int_eq, int_le, refl, sym, ap, ap₂, ◌∙◌, subst, arith, Ordering, Less, Equal, Greater}
use Rattle.std.specs.Ordering.{ordering_reverse, is_lt}
use Rattle.std.specs.List.{AllByRecursion, list_all}
use Rattle.std.proofs.lemmas.Bool.{false≢true, and_from, and_parts}
use Rattle.std.proofs.lemmas.Bool.Decides.{Decides-int_eq}
use Rattle.std.proofs.lemmas.Int.{ints}
use Rattle.std.proofs.lemmas.List.{append-nil, append_assoc}
use Rattle.std.proofs.lemmas.List.Folds.{list_all-append}
use Rattle.slang_values.specs.Tree.{Tree, literal, truth_literal, name, bound, unary, binary, update, quantified, listed, Trees, no_trees, tree_then}
use Rattle.slang_values.specs.declared.operators.Unary.{Unary}
use Rattle.slang_values.specs.declared.operators.Binary.{Binary}
use Rattle.tree_forms.specs.Order.{tree_cmp}
use Rattle.tree_forms.specs.Form.{FormPart, LinearForm, constant_form, atom_form, placed, inserted, all_inserted, plus, multiplied, scaled, part_term, sum_of_parts, with_constant, form_term, product_atom, is_constant, product, remainder_form, unary_form, binary_form, form, form_terms, is_within, has_small_numbers, is_narrow, are_narrow}
use Rattle.tree_forms.specs.Laws.{Ascend, IsInOrder}
use Rattle.tree_forms.proofs.Ordered.{tree_cmp_total}
use Rattle.tree_forms.proofs.FormOrder.{AreNotZero, IsInOrder-form}
use Rattle.tree_forms.proofs.Narrow.{is_narrow-literal, is_narrow-unary, is_narrow-binary, is_narrow-update, is_narrow-quantified, is_narrow-listed, are_narrow-none, are_narrow-then, small-form}

-- ---- what holds of the atoms of forms holds of those of their sums

-- each atom of the parts has the property
abbrev pub AllAtoms : (Tree ℕ → Type 0) → List FormPart → Type 0
AllAtoms P ps = AllByRecursion (λ p. P p.atom) ps

module _ (P : Tree ℕ → Type 0) where
  atoms-joined : (b : Bool) (p q : FormPart) (rest : List FormPart) → P p.atom → AllAtoms P rest →
      AllAtoms P (cond b rest (record { atom = p.atom; times = p.times +ℤ q.times } ∷ rest))
  atoms-joined true p q rest h k = k
  atoms-joined false p q rest h k = (h, k)

  atoms-placed : (o : Ordering) (p q : FormPart) (ps behind : List FormPart) → P q.atom → AllAtoms P (p ∷ ps) → AllAtoms P behind → AllAtoms P (placed o p q ps behind)
  atoms-placed Less p q ps behind h k l = (k.0, l)
  atoms-placed Equal p q ps behind h k l = atoms-joined (int_eq (p.times +ℤ q.times) (pos 0)) p q ps k.0 k.1
  atoms-placed Greater p q ps behind h k l = (h, k)

  atoms-inserted : (q : FormPart) (ps : List FormPart) → P q.atom → AllAtoms P ps → AllAtoms P (inserted q ps)
  atoms-inserted q [] h k = (h, tt)
  atoms-inserted q (p ∷ ps) h k = atoms-placed (tree_cmp p.atom q.atom) p q ps (inserted q ps) h k (atoms-inserted q ps h k.1)

  atoms-all_inserted : (qs ps : List FormPart) → AllAtoms P qs → AllAtoms P ps → AllAtoms P (all_inserted qs ps)
  atoms-all_inserted [] ps h k = k
  atoms-all_inserted (q ∷ qs) ps h k = atoms-inserted q (all_inserted qs ps) h.0 (atoms-all_inserted qs ps h.1 k)

  pub atoms-plus : (f g : LinearForm) → AllAtoms P f.parts → AllAtoms P g.parts → AllAtoms P (plus f g).parts
  atoms-plus f g h k = atoms-all_inserted g.parts f.parts k h

  atoms-multiplied : (k : ℤ) (ps : List FormPart) → AllAtoms P ps → AllAtoms P (map (multiplied k) ps)
  atoms-multiplied k [] h = tt
  atoms-multiplied k (p ∷ ps) h = (h.0, atoms-multiplied k ps h.1)

  atoms-if : (b : Bool) (f g : LinearForm) → AllAtoms P f.parts → AllAtoms P g.parts → AllAtoms P (cond b f g).parts
  atoms-if true f g h k = h
  atoms-if false f g h k = k

  pub atoms-scaled : (k : ℤ) (f : LinearForm) → AllAtoms P f.parts → AllAtoms P (scaled k f).parts
  atoms-scaled k f h = atoms-if (int_eq k (pos 0)) (constant_form (pos 0)) (record { parts = map (multiplied k) f.parts; constant = k *ℤ f.constant }) tt (atoms-multiplied k f.parts h)

-- ---- the term of a form has that form, where its atoms are settled

-- the form of the tree is the tree alone, as it stands
abbrev pub IsSettled : Tree ℕ → Type 0
IsSettled t = form t ≡ atom_form t

abbrev parts_only : List FormPart → LinearForm
parts_only ps = record { parts = ps; constant = pos 0 }

inserted-last : (q : FormPart) (ps : List FormPart) → AllByRecursion (λ p. tree_cmp p.atom q.atom ≡ Less) ps → inserted q ps ≡ ps ++ q ∷ []
inserted-last q [] h = refl
inserted-last q (p ∷ ps) h = ap (λ o. placed o p q ps (inserted q ps)) h.0 ∙ ap (λ rs. p ∷ rs) (inserted-last q ps h.1)

below-next : (qs : List FormPart) (p : FormPart) (ps : List FormPart) → Ascend (qs ++ p ∷ ps) → AllByRecursion (λ q. tree_cmp q.atom p.atom ≡ Less) qs
below-next [] p ps h = tt
below-next (q ∷ qs) p ps h = (least qs h.0, below-next qs p ps h.1)
  where
    least : (rs : List FormPart) → AllByRecursion (λ r. tree_cmp q.atom r.atom ≡ Less) (rs ++ p ∷ ps) → tree_cmp q.atom p.atom ≡ Less
    least [] k = k.0
    least (r ∷ rs) k = least rs k.1

scaled-atom : (b : Bool) (k : ℤ) (t : Tree ℕ) → (b ≡ true → k ≡ pos 0) → k ≢ pos 0 →
    cond b (constant_form (pos 0)) (record { parts = map (multiplied k) (atom_form t).parts; constant = k *ℤ pos 0 }) ≡ parts_only (record { atom = t; times = k } ∷ [])
scaled-atom true k t z n = absurd (n (z refl))
scaled-atom false k t z n =
    let one : k *ℤ pos 1 ≡ k = omega (arith, ints) in
    let none : k *ℤ pos 0 ≡ pos 0 = omega (arith, ints) in
    ap₂ (λ (x y : ℤ). let f : LinearForm = record { parts = record { atom = t; times = x } ∷ []; constant = y } in f) one none

form-part_at : (b : Bool) (p : FormPart) → (b ≡ true → p.times ≡ pos 1) → p.times ≢ pos 0 → IsSettled p.atom →
    form (cond b p.atom (binary Binary.Mul (literal p.times) p.atom)) ≡ parts_only (p ∷ [])
form-part_at true p one n h = h ∙ ap (λ z. parts_only (record { atom = p.atom; times = z } ∷ [])) (sym (one refl))
form-part_at false p one n h =
    ap (scaled p.times) h ∙ scaled-atom (int_eq p.times (pos 0)) p.times p.atom (λ e. (Decides-int_eq _ _).0 e) n

form-part_term : (p : FormPart) → p.times ≢ pos 0 → IsSettled p.atom → form (part_term p) ≡ parts_only (p ∷ [])
form-part_term p n h = form-part_at (int_eq p.times (pos 1)) p (λ e. (Decides-int_eq _ _).0 e) n h

form-constant_at : (b : Bool) (s : Tree ℕ) (z : ℤ) (ps : List FormPart) → (b ≡ true → z ≡ pos 0) → form s ≡ parts_only ps →
    form (cond b s (binary Binary.Add s (literal z))) ≡ record { parts = ps; constant = z }
form-constant_at true s z ps e h = h ∙ ap (λ x. let f : LinearForm = record { parts = ps; constant = x } in f) (sym (e refl))
form-constant_at false s z ps e h =
    let sum : pos 0 +ℤ z ≡ z = omega (arith, ints) in
    ap (λ f. plus f (constant_form z)) h ∙ ap (λ x. let f : LinearForm = record { parts = ps; constant = x } in f) sum

form-added : (qs : List FormPart) (p : FormPart) (s : Tree ℕ) → form s ≡ parts_only qs → p.times ≢ pos 0 → IsSettled p.atom → AllByRecursion (λ q. tree_cmp q.atom p.atom ≡ Less) qs →
    form (binary Binary.Add s (part_term p)) ≡ parts_only (qs ++ p ∷ [])
form-added qs p s h n settled below =
    ap₂ plus h (form-part_term p n settled) ∙ ap parts_only (inserted-last p qs below)

form-sum : (qs ps : List FormPart) (s : Tree ℕ) (z : ℤ) → form s ≡ parts_only qs → Ascend (qs ++ ps) → AreNotZero ps → AllAtoms IsSettled ps →
    form (with_constant (sum_of_parts (Some s) ps) z) ≡ record { parts = qs ++ ps; constant = z }
form-sum qs [] s z h up n settled =
    form-constant_at (int_eq z (pos 0)) s z (qs ++ []) (λ e. (Decides-int_eq _ _).0 e) (h ∙ ap parts_only (sym (append-nil qs)))
form-sum qs (p ∷ ps) s z h up n settled =
    let same : qs ++ p ∷ [] ++ ps ≡ qs ++ (p ∷ ps) = append_assoc qs (p ∷ []) ps in
    form-sum (qs ++ p ∷ []) ps (binary Binary.Add s (part_term p)) z
    (form-added qs p s h n.0 settled.0 (below-next qs p ps up)) (subst Ascend (sym same) up) n.1 settled.1
    ∙ ap (λ rs. let f : LinearForm = record { parts = rs; constant = z } in f) same

form-of_parts : (ps : List FormPart) (z : ℤ) → Ascend ps → AreNotZero ps → AllAtoms IsSettled ps →
    form (with_constant (sum_of_parts None ps) z) ≡ record { parts = ps; constant = z }
form-of_parts [] z up n settled = refl
form-of_parts (p ∷ ps) z up n settled = form-sum (p ∷ []) ps (part_term p) z (form-part_term p n.0 settled.0) up n.1 settled.1

form-again : (f : LinearForm) → IsInOrder f → AllAtoms IsSettled f.parts → form (form_term f) ≡ f
form-again f order settled = form-of_parts f.parts f.constant order.ascending order.not_zero settled

-- ---- products and remainders

not-reversed : (o : Ordering) → is_lt o ≡ true → is_lt (ordering_reverse o) ≡ false
not-reversed Less h = refl
not-reversed Equal h = absurd (false≢true h)
not-reversed Greater h = absurd (false≢true h)

product-of_atoms : (f g : LinearForm) → is_constant f ≡ false → is_constant g ≡ false → product f g ≡ atom_form (product_atom (form_term f) (form_term g))
product-of_atoms f g nf ng =
    ap (λ b. cond b (scaled f.constant g) (cond (is_constant g) (scaled g.constant f) (atom_form (product_atom (form_term f) (form_term g))))) nf
    ∙ ap (λ b. cond b (scaled g.constant f) (atom_form (product_atom (form_term f) (form_term g)))) ng

settled-product_at : (b : Bool) (f g : LinearForm) → is_lt (tree_cmp (form_term g) (form_term f)) ≡ b → form (form_term f) ≡ f → form (form_term g) ≡ g → is_constant f ≡ false → is_constant g ≡ false →
    IsSettled (cond b (binary Binary.Mul (form_term g) (form_term f)) (binary Binary.Mul (form_term f) (form_term g)))
settled-product_at true f g less fx fy nf ng =
    let x = form_term f in
    let y = form_term g in
    let more : is_lt (tree_cmp x y) ≡ false = ap is_lt (tree_cmp_total.antisymm x y) ∙ not-reversed (tree_cmp y x) less in
    ap₂ product fy fx ∙ product-of_atoms g f ng nf ∙ ap (λ c. atom_form (cond c (binary Binary.Mul x y) (binary Binary.Mul y x))) more
settled-product_at false f g less fx fy nf ng =
    let x = form_term f in
    let y = form_term g in
    ap₂ product fx fy ∙ product-of_atoms f g nf ng ∙ ap (λ c. atom_form (cond c (binary Binary.Mul y x) (binary Binary.Mul x y))) less

settled-product_of : (b c : Bool) (f g : LinearForm) → is_constant f ≡ b → is_constant g ≡ c → form (form_term f) ≡ f → form (form_term g) ≡ g → AllAtoms IsSettled f.parts → AllAtoms IsSettled g.parts →
    AllAtoms IsSettled (cond b (scaled f.constant g) (cond c (scaled g.constant f) (atom_form (product_atom (form_term f) (form_term g))))).parts
settled-product_of true c f g nf ng fx fy h k = atoms-scaled IsSettled f.constant g k
settled-product_of false true f g nf ng fx fy h k = atoms-scaled IsSettled g.constant f h
settled-product_of false false f g nf ng fx fy h k = (settled-product_at (is_lt (tree_cmp (form_term g) (form_term f))) f g refl fx fy nf ng, tt)

settled-quotient : (f : LinearForm) (z : ℤ) → form (form_term f) ≡ f → IsSettled (binary Binary.Div (form_term f) (literal z))
settled-quotient f z fx = ap (λ g. atom_form (binary Binary.Div (form_term g) (literal z))) fx

settled-remainder_of : (b : Bool) (f g : LinearForm) → (is_constant g && int_le (pos 1) g.constant) ≡ b → form (form_term f) ≡ f → form (form_term g) ≡ g → AllAtoms IsSettled f.parts →
    AllAtoms IsSettled (cond b (plus f (scaled (neg_ℤ g.constant) (atom_form (binary Binary.Div (form_term f) (literal g.constant))))) (atom_form (binary Binary.Rem (form_term f) (form_term g)))).parts
settled-remainder_of true f g e fx fy h =
    let atom = binary Binary.Div (form_term f) (literal g.constant) in
    atoms-plus IsSettled f (scaled (neg_ℤ g.constant) (atom_form atom)) h
    (atoms-scaled IsSettled (neg_ℤ g.constant) (atom_form atom) (settled-quotient f g.constant fx, tt))
settled-remainder_of false f g e fx fy h = (
  ap₂ remainder_form fx fy
      ∙ ap (λ b. cond b (plus f (scaled (neg_ℤ g.constant) (atom_form (binary Binary.Div (form_term f) (literal g.constant))))) (atom_form (binary Binary.Rem (form_term f) (form_term g)))) e,
  tt,
)

-- ---- operators

settled-binary : (op : Binary) (f g : LinearForm) → AllAtoms IsSettled f.parts → AllAtoms IsSettled g.parts → form (form_term f) ≡ f → form (form_term g) ≡ g →
    AllAtoms IsSettled (binary_form op f g).parts
settled-binary Binary.Add f g h k fx fy = atoms-plus IsSettled f g h k
settled-binary Binary.Sub f g h k fx fy = atoms-plus IsSettled f (scaled (negsuc 0) g) h (atoms-scaled IsSettled (negsuc 0) g k)
settled-binary Binary.Mul f g h k fx fy = settled-product_of (is_constant f) (is_constant g) f g refl refl fx fy h k
settled-binary Binary.Rem f g h k fx fy = settled-remainder_of (is_constant g && int_le (pos 1) g.constant) f g refl fx fy h
settled-binary Binary.Div f g h k fx fy = (ap₂ (binary_form Binary.Div) fx fy, tt)
settled-binary Binary.And f g h k fx fy = (ap₂ (binary_form Binary.And) fx fy, tt)
settled-binary Binary.Or f g h k fx fy = (ap₂ (binary_form Binary.Or) fx fy, tt)
settled-binary Binary.Imply f g h k fx fy = (ap₂ (binary_form Binary.Imply) fx fy, tt)
settled-binary Binary.Eq f g h k fx fy = (ap₂ (binary_form Binary.Eq) fx fy, tt)
settled-binary Binary.Lt f g h k fx fy = (ap₂ (binary_form Binary.Lt) fx fy, tt)
settled-binary Binary.Le f g h k fx fy = (ap₂ (binary_form Binary.Le) fx fy, tt)
settled-binary Binary.Read f g h k fx fy = (ap₂ (binary_form Binary.Read) fx fy, tt)
settled-binary Binary.Append f g h k fx fy = (ap₂ (binary_form Binary.Append) fx fy, tt)

-- ---- the atoms of every form are settled

mutual
  -- the form of each atom of a form is that atom alone
  pub settled-atoms : (t : Tree ℕ) → AllAtoms IsSettled (form t).parts
  settled-atoms (literal z) = tt
  settled-atoms (truth_literal b) = (refl, tt)
  settled-atoms (name n) = (refl, tt)
  settled-atoms (bound n) = (refl, tt)
  settled-atoms (unary Unary.Neg a) = atoms-scaled IsSettled (negsuc 0) (form a) (settled-atoms a)
  settled-atoms (unary Unary.Not a) = (ap (unary_form Unary.Not) (form-again (form a) (IsInOrder-form a) (settled-atoms a)), tt)
  settled-atoms (unary Unary.Size a) = (ap (unary_form Unary.Size) (form-again (form a) (IsInOrder-form a) (settled-atoms a)), tt)
  settled-atoms (unary (Unary.Field k) a) = (ap (unary_form (Unary.Field k)) (form-again (form a) (IsInOrder-form a) (settled-atoms a)), tt)
  settled-atoms (binary op a b) =
      settled-binary op (form a) (form b) (settled-atoms a) (settled-atoms b)
      (form-again (form a) (IsInOrder-form a) (settled-atoms a)) (form-again (form b) (IsInOrder-form b) (settled-atoms b))
  settled-atoms (update a i x) =
      let p = form-again (form a) (IsInOrder-form a) (settled-atoms a) in
      let q = form-again (form i) (IsInOrder-form i) (settled-atoms i) in
      let r = form-again (form x) (IsInOrder-form x) (settled-atoms x) in
      ((λ j. atom_form (update (form_term (p j)) (form_term (q j)) (form_term (r j)))), tt)
  settled-atoms (quantified k low high body) =
      let p = form-again (form low) (IsInOrder-form low) (settled-atoms low) in
      let q = form-again (form high) (IsInOrder-form high) (settled-atoms high) in
      let r = form-again (form body) (IsInOrder-form body) (settled-atoms body) in
      ((λ j. atom_form (quantified k (form_term (p j)) (form_term (q j)) (form_term (r j)))), tt)
  settled-atoms (listed l ts) = (ap (λ us. atom_form (listed l us)) (form_terms-again ts), tt)

  form_terms-again : (ts : Trees ℕ) → form_terms (form_terms ts) ≡ form_terms ts
  form_terms-again no_trees = refl
  form_terms-again (tree_then t ts) =
      ap₂ tree_then (ap form_term (form-again (form t) (IsInOrder-form t) (settled-atoms t))) (form_terms-again ts)

-- the term of a form has that form
pub form-form_term : (t : Tree ℕ) → form (form_term (form t)) ≡ form t
form-form_term t = form-again (form t) (IsInOrder-form t) (settled-atoms t)

-- ---- the atoms and the term of the form of a narrow tree

abbrev pub IsNarrow : Tree ℕ → Type 0
IsNarrow t = is_narrow t ≡ true

abbrev are_small : List FormPart → Bool
are_small ps = list_all (λ p. is_within p.times) ps

narrow-literal : (z : ℤ) → is_within z ≡ true → IsNarrow (literal z)
narrow-literal z h = is_narrow-literal z ∙ ap (λ b. b && true) h

narrow-unary : (op : Unary) (a : Tree ℕ) → has_small_numbers (form (unary op a)) ≡ true → IsNarrow a → IsNarrow (unary op a)
narrow-unary op a s h = is_narrow-unary op a ∙ and_from _ _ s h

narrow-binary : (op : Binary) (a b : Tree ℕ) → has_small_numbers (form (binary op a b)) ≡ true → IsNarrow a → IsNarrow b → IsNarrow (binary op a b)
narrow-binary op a b s h k = is_narrow-binary op a b ∙ and_from _ _ s (and_from _ _ h k)

-- parts of which each is settled, narrow and taken a small number of times, but not 0 times
record AreFine (ps : List FormPart) : Type 0 where
  not_zero : AreNotZero ps
  settled : AllAtoms IsSettled ps
  narrow : AllAtoms IsNarrow ps
  small : are_small ps ≡ true

fine-rest : (p : FormPart) (ps : List FormPart) → AreFine (p ∷ ps) → AreFine ps
fine-rest p ps h = record { not_zero = h.not_zero.1; settled = h.settled.1; narrow = h.narrow.1; small = (and_parts _ _ h.small).1 }

narrow-part_at : (b : Bool) (p : FormPart) (ps : List FormPart) → (b ≡ true → p.times ≡ pos 1) → AreFine (p ∷ ps) → IsNarrow (cond b p.atom (binary Binary.Mul (literal p.times) p.atom))
narrow-part_at true p ps one h = h.narrow.0
narrow-part_at false p ps one h =
    let within : is_within p.times ≡ true = (and_parts _ _ h.small).0 in
    narrow-binary Binary.Mul (literal p.times) p.atom
    (ap has_small_numbers (form-part_at false p one h.not_zero.0 h.settled.0) ∙ ap (λ b. b && true && true) within)
    (narrow-literal p.times within) h.narrow.0

narrow-part_term : (p : FormPart) (ps : List FormPart) → AreFine (p ∷ ps) → IsNarrow (part_term p)
narrow-part_term p ps h = narrow-part_at (int_eq p.times (pos 1)) p ps (λ e. (Decides-int_eq _ _).0 e) h

narrow-constant_at : (b : Bool) (s : Tree ℕ) (z : ℤ) (ps : List FormPart) → (b ≡ true → z ≡ pos 0) → form s ≡ parts_only ps → IsNarrow s → are_small ps ≡ true → is_within z ≡ true →
    IsNarrow (cond b s (binary Binary.Add s (literal z)))
narrow-constant_at true s z ps e h k small within = k
narrow-constant_at false s z ps e h k small within =
    narrow-binary Binary.Add s (literal z) (ap has_small_numbers (form-constant_at false s z ps e h) ∙ and_from _ _ small within) k (narrow-literal z within)

small-more : (qs : List FormPart) (p : FormPart) (ps : List FormPart) → are_small qs ≡ true → AreFine (p ∷ ps) → are_small (qs ++ p ∷ []) ≡ true
small-more qs p ps h k =
    list_all-append (λ q. is_within q.times) qs (p ∷ []) ∙ and_from _ _ h (ap (λ b. b && true) (and_parts _ _ k.small).0)

narrow-sum : (qs ps : List FormPart) (s : Tree ℕ) (z : ℤ) → form s ≡ parts_only qs → IsNarrow s → are_small qs ≡ true → Ascend (qs ++ ps) → AreFine ps → is_within z ≡ true →
    IsNarrow (with_constant (sum_of_parts (Some s) ps) z)
narrow-sum qs [] s z h k small up fine within =
    narrow-constant_at (int_eq z (pos 0)) s z qs (λ e. (Decides-int_eq _ _).0 e) h k small within
narrow-sum qs (p ∷ ps) s z h k small up fine within =
    let same : qs ++ p ∷ [] ++ ps ≡ qs ++ (p ∷ ps) = append_assoc qs (p ∷ []) ps in
    let sum = form-added qs p s h fine.not_zero.0 fine.settled.0 (below-next qs p ps up) in
    let more = small-more qs p ps small fine in
    narrow-sum (qs ++ p ∷ []) ps (binary Binary.Add s (part_term p)) z sum
    (narrow-binary Binary.Add s (part_term p) (ap has_small_numbers sum ∙ ap (λ b. b && true) more) k (narrow-part_term p ps fine))
    more (subst Ascend (sym same) up) (fine-rest p ps fine) within

narrow-of_parts : (ps : List FormPart) (z : ℤ) → Ascend ps → AreFine ps → is_within z ≡ true → IsNarrow (with_constant (sum_of_parts None ps) z)
narrow-of_parts [] z up fine within = narrow-literal z within
narrow-of_parts (p ∷ ps) z up fine within =
    narrow-sum (p ∷ []) ps (part_term p) z (form-part_term p fine.not_zero.0 fine.settled.0) (narrow-part_term p ps fine)
    (ap (λ b. b && true) (and_parts _ _ fine.small).0) up (fine-rest p ps fine) within

-- a form that its term has again, where both are narrow
record IsFine (f : LinearForm) : Type 0 where
  again : form (form_term f) ≡ f
  atoms : AllAtoms IsNarrow f.parts
  term : IsNarrow (form_term f)
  small : has_small_numbers f ≡ true

fine-form : (t : Tree ℕ) → IsNarrow t → AllAtoms IsNarrow (form t).parts → IsFine (form t)
fine-form t h narrow =
    let order = IsInOrder-form t in
    let small = small-form t h in
    let parts : AreFine (form t).parts = record { not_zero = order.not_zero; settled = settled-atoms t; narrow = narrow; small = (and_parts _ _ small).0 } in
    record {
      again = form-form_term t;
      atoms = narrow;
      term = narrow-of_parts (form t).parts (form t).constant order.ascending parts (and_parts _ _ small).1;
      small = small;
    }

narrow-product_at : (b : Bool) (x y : Tree ℕ) → IsSettled (cond b (binary Binary.Mul y x) (binary Binary.Mul x y)) → IsNarrow x → IsNarrow y → IsNarrow (cond b (binary Binary.Mul y x) (binary Binary.Mul x y))
narrow-product_at true x y settled h k = narrow-binary Binary.Mul y x (ap has_small_numbers settled) k h
narrow-product_at false x y settled h k = narrow-binary Binary.Mul x y (ap has_small_numbers settled) h k

narrow-product : (b c : Bool) (f g : LinearForm) → is_constant f ≡ b → is_constant g ≡ c → IsFine f → IsFine g →
    AllAtoms IsNarrow (cond b (scaled f.constant g) (cond c (scaled g.constant f) (atom_form (product_atom (form_term f) (form_term g))))).parts
narrow-product true c f g nf ng h k = atoms-scaled IsNarrow f.constant g k.atoms
narrow-product false true f g nf ng h k = atoms-scaled IsNarrow g.constant f h.atoms
narrow-product false false f g nf ng h k =
    let less = is_lt (tree_cmp (form_term g) (form_term f)) in
    (narrow-product_at less (form_term f) (form_term g) (settled-product_at less f g refl h.again k.again nf ng) h.term k.term, tt)

narrow-remainder : (b : Bool) (f g : LinearForm) → (is_constant g && int_le (pos 1) g.constant) ≡ b → IsFine f → IsFine g →
    AllAtoms IsNarrow (cond b (plus f (scaled (neg_ℤ g.constant) (atom_form (binary Binary.Div (form_term f) (literal g.constant))))) (atom_form (binary Binary.Rem (form_term f) (form_term g)))).parts
narrow-remainder true f g e h k =
    let atom = binary Binary.Div (form_term f) (literal g.constant) in
    let narrow : IsNarrow atom = narrow-binary Binary.Div (form_term f) (literal g.constant) refl h.term (narrow-literal g.constant (and_parts _ _ k.small).1) in
    atoms-plus IsNarrow f (scaled (neg_ℤ g.constant) (atom_form atom)) h.atoms (atoms-scaled IsNarrow (neg_ℤ g.constant) (atom_form atom) (narrow, tt))
narrow-remainder false f g e h k =
    let settled : IsSettled (binary Binary.Rem (form_term f) (form_term g)) =
    ap₂ remainder_form h.again k.again
    ∙ ap (λ b. cond b (plus f (scaled (neg_ℤ g.constant) (atom_form (binary Binary.Div (form_term f) (literal g.constant))))) (atom_form (binary Binary.Rem (form_term f) (form_term g)))) e in
    (narrow-binary Binary.Rem (form_term f) (form_term g) (ap has_small_numbers settled) h.term k.term, tt)

narrow-operator : (op : Binary) (f g : LinearForm) → IsFine f → IsFine g → AllAtoms IsNarrow (binary_form op f g).parts
narrow-operator Binary.Add f g h k = atoms-plus IsNarrow f g h.atoms k.atoms
narrow-operator Binary.Sub f g h k = atoms-plus IsNarrow f (scaled (negsuc 0) g) h.atoms (atoms-scaled IsNarrow (negsuc 0) g k.atoms)
narrow-operator Binary.Mul f g h k = narrow-product (is_constant f) (is_constant g) f g refl refl h k
narrow-operator Binary.Rem f g h k = narrow-remainder (is_constant g && int_le (pos 1) g.constant) f g refl h k
narrow-operator Binary.Div f g h k = (narrow-binary Binary.Div (form_term f) (form_term g) refl h.term k.term, tt)
narrow-operator Binary.And f g h k = (narrow-binary Binary.And (form_term f) (form_term g) refl h.term k.term, tt)
narrow-operator Binary.Or f g h k = (narrow-binary Binary.Or (form_term f) (form_term g) refl h.term k.term, tt)
narrow-operator Binary.Imply f g h k = (narrow-binary Binary.Imply (form_term f) (form_term g) refl h.term k.term, tt)
narrow-operator Binary.Eq f g h k = (narrow-binary Binary.Eq (form_term f) (form_term g) refl h.term k.term, tt)
narrow-operator Binary.Lt f g h k = (narrow-binary Binary.Lt (form_term f) (form_term g) refl h.term k.term, tt)
narrow-operator Binary.Le f g h k = (narrow-binary Binary.Le (form_term f) (form_term g) refl h.term k.term, tt)
narrow-operator Binary.Read f g h k = (narrow-binary Binary.Read (form_term f) (form_term g) refl h.term k.term, tt)
narrow-operator Binary.Append f g h k = (narrow-binary Binary.Append (form_term f) (form_term g) refl h.term k.term, tt)

narrow-part : (op : Unary) (a : Tree ℕ) → IsNarrow (unary op a) → IsNarrow a
narrow-part op a h = (and_parts _ _ (sym (is_narrow-unary op a) ∙ h)).1

mutual
  -- the atoms of the form of a narrow tree are narrow
  pub narrow-atoms : (t : Tree ℕ) → IsNarrow t → AllAtoms IsNarrow (form t).parts
  narrow-atoms (literal z) h = tt
  narrow-atoms (truth_literal b) h = (h, tt)
  narrow-atoms (name n) h = (h, tt)
  narrow-atoms (bound n) h = (h, tt)
  narrow-atoms (unary Unary.Neg a) h = atoms-scaled IsNarrow (negsuc 0) (form a) (narrow-atoms a (narrow-part Unary.Neg a h))
  narrow-atoms (unary Unary.Not a) h =
      let n = narrow-part Unary.Not a h in
      (narrow-unary Unary.Not (form_term (form a)) refl (fine-form a n (narrow-atoms a n)).term, tt)
  narrow-atoms (unary Unary.Size a) h =
      let n = narrow-part Unary.Size a h in
      (narrow-unary Unary.Size (form_term (form a)) refl (fine-form a n (narrow-atoms a n)).term, tt)
  narrow-atoms (unary (Unary.Field k) a) h =
      let n = narrow-part (Unary.Field k) a h in
      (narrow-unary (Unary.Field k) (form_term (form a)) refl (fine-form a n (narrow-atoms a n)).term, tt)
  narrow-atoms (binary op a b) h =
      let both = and_parts _ _ (and_parts _ _ (sym (is_narrow-binary op a b) ∙ h)).1 in
      narrow-operator op (form a) (form b) (fine-form a both.0 (narrow-atoms a both.0)) (fine-form b both.1 (narrow-atoms b both.1))
  narrow-atoms (update a i x) h =
      let all = and_parts _ _ (sym (is_narrow-update a i x) ∙ h) in
      let both = and_parts _ _ all.0 in (
        is_narrow-update (form_term (form a)) (form_term (form i)) (form_term (form x))
            ∙ and_from _ _ (and_from _ _ (fine-form a both.0 (narrow-atoms a both.0)).term (fine-form i both.1 (narrow-atoms i both.1)).term) (fine-form x all.1 (narrow-atoms x all.1)).term,
        tt,
      )
  narrow-atoms (quantified q low high body) h =
      let all = and_parts _ _ (sym (is_narrow-quantified q low high body) ∙ h) in
      let both = and_parts _ _ all.0 in (
        is_narrow-quantified q (form_term (form low)) (form_term (form high)) (form_term (form body))
            ∙ and_from _ _ (and_from _ _ (fine-form low both.0 (narrow-atoms low both.0)).term (fine-form high both.1 (narrow-atoms high both.1)).term) (fine-form body all.1 (narrow-atoms body all.1)).term,
        tt,
      )
  narrow-atoms (listed l ts) h = (is_narrow-listed l (form_terms ts) ∙ narrow-terms ts (sym (is_narrow-listed l ts) ∙ h), tt)

  narrow-terms : (ts : Trees ℕ) → are_narrow ts ≡ true → are_narrow (form_terms ts) ≡ true
  narrow-terms no_trees h = are_narrow-none
  narrow-terms (tree_then t ts) h =
      let both = and_parts _ _ (sym (are_narrow-then t ts) ∙ h) in
      are_narrow-then (form_term (form t)) (form_terms ts) ∙ and_from _ _ (fine-form t both.0 (narrow-atoms t both.0)).term (narrow-terms ts both.1)

-- and so is its term
pub narrow-form_term : (t : Tree ℕ) → IsNarrow t → IsNarrow (form_term (form t))
narrow-form_term t h = (fine-form t h (narrow-atoms t h)).term
