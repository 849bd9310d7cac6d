-- A form has the value of its tree.
use Rattle.std.proofs.Common.{◌≡◌, ℕ, ℤ, pos, negsuc, ◌+ℤ◌, ◌*ℤ◌, neg_ℤ, ◌≤ℤ◌, List, [], ◌∷◌, map, Bool, true, false, ◌&&◌, cond, Some, None, int_le, int_eq, refl, sym, ap, ap₂, ◌∙◌, subst, arith, Ordering, Less, Equal, Greater}
use Rattle.std.proofs.Math.Dec.{T}
use Rattle.std.specs.Ordering.{is_lt}
use lib.Signed.{le_z_yes}
use Rattle.std.specs.List.{AllByRecursion}
use Rattle.std.proofs.lemmas.Bool.{false≢true, and_parts}
use Rattle.std.proofs.lemmas.Bool.Decides.{Decides-int_eq}
use Rattle.std.proofs.lemmas.Int.{ints}
use Rattle.std.proofs.Math.IntN.{zero-*ℤ, *ℤ-zero, *ℤ_comm}
use Rattle.whole_numbers.proofs.Products.{mul-sum, sum-mul, mul-mul, neg-mul}
use Rattle.slang_values.specs.Number.{quotient, remainder, numbers_between}
use Rattle.slang_values.specs.Value.{ValueType, number_type, truth_type, Records, AreWellFormed, fields, Value, number, truth, unit, sequence, record_value, number_of, truth_of, updated, value_then, HasType}
use Rattle.slang_values.specs.Tree.{Tree, literal, truth_literal, name, bound, unary, binary, update, quantified, listed, Trees, no_trees, tree_then, sequence_of, record_of, Bounds, inside, unary_value, binary_value, holds_of, listed_value, value, values}
use Rattle.slang_values.specs.Typing.{NameTypes, IsTyped, EachIsTyped, AreTyped, FitNames}
use Rattle.slang_values.specs.declared.operators.Unary.{Unary}
use Rattle.slang_values.specs.declared.operators.Binary.{Binary}
use Rattle.slang_values.proofs.Typed.{HasType-value}
use Rattle.slang_values.proofs.Numbers.{quotient-remainder}
use Rattle.tree_forms.specs.Order.{tree_cmp}
use Rattle.tree_forms.specs.Form.{FormPart, LinearForm, constant_form, atom_form, placed, inserted, all_inserted, plus, multiplied, scaled, part_term, sum_of_parts, with_constant, form_term, product_atom, has_no_parts, is_constant, product, remainder_form, form, form_terms, sum_value, form_value}
use Rattle.tree_forms.specs.Laws.{HasValueOf}
use Rattle.tree_forms.proofs.TreesApart.{tree_cmp-Equal}

-- ---- sums and multiples

le_from : (c : ℤ) → int_le (pos 1) c ≡ true → pos 1 ≤ℤ c
le_from c h = le_z_yes (subst T (sym h) tt)

one_times : (z : ℤ) → pos 1 *ℤ z ≡ z
one_times z = omega (arith, ints)

module _ (records : Records) (names : ℕ → Value) (e : Bounds) where
  abbrev times_value : FormPart → ℤ
  times_value p = p.times *ℤ number_of (value records names e p.atom)

  abbrev parts_value : List FormPart → ℤ
  parts_value = sum_value records names e

  joined_at : (b : Bool) (p q : FormPart) (rest : List FormPart) → (b ≡ true → p.times +ℤ q.times ≡ pos 0) → p.atom ≡ q.atom →
      parts_value (cond b rest (record { atom = p.atom; times = p.times +ℤ q.times } ∷ rest)) ≡ times_value q +ℤ (times_value p +ℤ parts_value rest)
  joined_at true p q rest z same =
      let v = number_of (value records names e q.atom) in
      let w : number_of (value records names e p.atom) ≡ v = ap (λ t. number_of (value records names e t)) same in
      let s : (p.times +ℤ q.times) *ℤ v ≡ pos 0 = ap (λ x. x *ℤ v) (z refl) ∙ zero-*ℤ v in
      let d = sum-mul p.times q.times v in
      let g : times_value p ≡ p.times *ℤ v = ap (λ x. p.times *ℤ x) w in
      omega (arith, ints, s, d, g)
  joined_at false p q rest z same =
      let v = number_of (value records names e q.atom) in
      let w : number_of (value records names e p.atom) ≡ v = ap (λ t. number_of (value records names e t)) same in
      let d = sum-mul p.times q.times v in
      let g : times_value p ≡ p.times *ℤ v = ap (λ x. p.times *ℤ x) w in
      let h : (p.times +ℤ q.times) *ℤ number_of (value records names e p.atom) ≡ (p.times +ℤ q.times) *ℤ v = ap (λ x. (p.times +ℤ q.times) *ℤ x) w in
      omega (arith, ints, d, g, h)

  placed_value : (o : Ordering) (p q : FormPart) (ps behind : List FormPart) → tree_cmp p.atom q.atom ≡ o → parts_value behind ≡ times_value q +ℤ parts_value ps →
      parts_value (placed o p q ps behind) ≡ times_value q +ℤ (times_value p +ℤ parts_value ps)
  placed_value Less p q ps behind c h = omega (arith, ints, h)
  placed_value Equal p q ps behind c h =
      joined_at (int_eq (p.times +ℤ q.times) (pos 0)) p q ps (λ z. (Decides-int_eq _ _).0 z) (tree_cmp-Equal p.atom q.atom c)
  placed_value Greater p q ps behind c h = refl

  parts_value-inserted : (q : FormPart) (ps : List FormPart) → parts_value (inserted q ps) ≡ times_value q +ℤ parts_value ps
  parts_value-inserted q [] = refl
  parts_value-inserted q (p ∷ ps) =
      placed_value (tree_cmp p.atom q.atom) p q ps (inserted q ps) refl (parts_value-inserted q ps)

  parts_value-all_inserted : (qs ps : List FormPart) → parts_value (all_inserted qs ps) ≡ parts_value ps +ℤ parts_value qs
  parts_value-all_inserted [] ps = omega (arith, ints)
  parts_value-all_inserted (q ∷ qs) ps =
      omega (arith, ints, parts_value-inserted q (all_inserted qs ps), parts_value-all_inserted qs ps)

  pub form_value-plus : (f g : LinearForm) → form_value records names e (plus f g) ≡ form_value records names e f +ℤ form_value records names e g
  form_value-plus f g = omega (arith, ints, parts_value-all_inserted g.parts f.parts)

  parts_value-multiplied : (k : ℤ) (ps : List FormPart) → parts_value (map (multiplied k) ps) ≡ k *ℤ parts_value ps
  parts_value-multiplied k [] = omega (arith, ints, *ℤ-zero k)
  parts_value-multiplied k (p ∷ ps) =
      let v = number_of (value records names e p.atom) in
      omega (arith, ints, parts_value-multiplied k ps, mul-mul k p.times v, mul-sum k (p.times *ℤ v) (parts_value ps))

  scaled_at : (b : Bool) (k : ℤ) (f : LinearForm) → (b ≡ true → k ≡ pos 0) →
      form_value records names e (cond b (constant_form (pos 0)) (record { parts = map (multiplied k) f.parts; constant = k *ℤ f.constant })) ≡ k *ℤ form_value records names e f
  scaled_at true k f z = omega (arith, ints, ap (λ x. x *ℤ form_value records names e f) (z refl), zero-*ℤ (form_value records names e f))
  scaled_at false k f z = omega (arith, ints, parts_value-multiplied k f.parts, mul-sum k (parts_value f.parts) f.constant)

  pub form_value-scaled : (k : ℤ) (f : LinearForm) → form_value records names e (scaled k f) ≡ k *ℤ form_value records names e f
  form_value-scaled k f = scaled_at (int_eq k (pos 0)) k f (λ z. (Decides-int_eq _ _).0 z)

  -- ---- the atoms are numbers

  abbrev IsNumber : Tree ℕ → Type 0
  IsNumber t = value records names e t ≡ number (number_of (value records names e t))

  abbrev pub AtomsAreNumbers : List FormPart → Type 0
  AtomsAreNumbers ps = AllByRecursion (λ p. IsNumber p.atom) ps

  numbers_joined : (b : Bool) (p q : FormPart) (rest : List FormPart) → IsNumber p.atom → AtomsAreNumbers rest →
      AtomsAreNumbers (cond b rest (record { atom = p.atom; times = p.times +ℤ q.times } ∷ rest))
  numbers_joined true p q rest h k = k
  numbers_joined false p q rest h k = (h, k)

  numbers_placed : (o : Ordering) (p q : FormPart) (ps behind : List FormPart) → IsNumber q.atom → AtomsAreNumbers (p ∷ ps) → AtomsAreNumbers behind → AtomsAreNumbers (placed o p q ps behind)
  numbers_placed Less p q ps behind h k l = (k.0, l)
  numbers_placed Equal p q ps behind h k l = numbers_joined (int_eq (p.times +ℤ q.times) (pos 0)) p q ps k.0 k.1
  numbers_placed Greater p q ps behind h k l = (h, k)

  numbers_inserted : (q : FormPart) (ps : List FormPart) → IsNumber q.atom → AtomsAreNumbers ps → AtomsAreNumbers (inserted q ps)
  numbers_inserted q [] h k = (h, tt)
  numbers_inserted q (p ∷ ps) h k = numbers_placed (tree_cmp p.atom q.atom) p q ps (inserted q ps) h k (numbers_inserted q ps h k.1)

  numbers_all_inserted : (qs ps : List FormPart) → AtomsAreNumbers qs → AtomsAreNumbers ps → AtomsAreNumbers (all_inserted qs ps)
  numbers_all_inserted [] ps h k = k
  numbers_all_inserted (q ∷ qs) ps h k = numbers_inserted q (all_inserted qs ps) h.0 (numbers_all_inserted qs ps h.1 k)

  numbers_multiplied : (k : ℤ) (ps : List FormPart) → AtomsAreNumbers ps → AtomsAreNumbers (map (multiplied k) ps)
  numbers_multiplied k [] h = tt
  numbers_multiplied k (p ∷ ps) h = (h.0, numbers_multiplied k ps h.1)

  numbers_scaled_at : (b : Bool) (k : ℤ) (f : LinearForm) → AtomsAreNumbers f.parts → AtomsAreNumbers ((cond b (constant_form (pos 0)) (record { parts = map (multiplied k) f.parts; constant = k *ℤ f.constant })).parts)
  numbers_scaled_at true k f h = tt
  numbers_scaled_at false k f h = numbers_multiplied k f.parts h

  numbers_scaled : (k : ℤ) (f : LinearForm) → AtomsAreNumbers f.parts → AtomsAreNumbers ((scaled k f).parts)
  numbers_scaled k f h = numbers_scaled_at (int_eq k (pos 0)) k f h

  -- ---- the term of a form

  part_at : (b : Bool) (p : FormPart) → (b ≡ true → p.times ≡ pos 1) → IsNumber p.atom →
      value records names e (cond b p.atom (binary Binary.Mul (literal p.times) p.atom)) ≡ number (times_value p)
  part_at true p one h =
      h ∙ ap number (sym (one_times (number_of (value records names e p.atom))) ∙ ap (λ x. x *ℤ number_of (value records names e p.atom)) (sym (one refl)))
  part_at false p one h = refl

  value-part_term : (p : FormPart) → IsNumber p.atom → value records names e (part_term p) ≡ number (times_value p)
  value-part_term p h = part_at (int_eq p.times (pos 1)) p (λ z. (Decides-int_eq _ _).0 z) h

  constant_at : (b : Bool) (t : Tree ℕ) (n z : ℤ) → (b ≡ true → z ≡ pos 0) → value records names e t ≡ number n →
      value records names e (cond b t (binary Binary.Add t (literal z))) ≡ number (n +ℤ z)
  constant_at true t n z none h = h ∙ ap number (omega (arith, ints, none refl))
  constant_at false t n z none h = ap (λ v. number (number_of v +ℤ z)) h

  sum_after : (ps : List FormPart) (s : Tree ℕ) (n z : ℤ) → value records names e s ≡ number n → AtomsAreNumbers ps →
      value records names e (with_constant (sum_of_parts (Some s) ps) z) ≡ number ((n +ℤ parts_value ps) +ℤ z)
  sum_after [] s n z h k =
      constant_at (int_eq z (pos 0)) s n z (λ y. (Decides-int_eq _ _).0 y) h ∙ ap number (omega (arith, ints))
  sum_after (p ∷ ps) s n z h k =
      let next : value records names e (binary Binary.Add s (part_term p)) ≡ number (n +ℤ times_value p) =
      λ i. number (number_of (h i) +ℤ number_of (value-part_term p k.0 i)) in
      sum_after ps (binary Binary.Add s (part_term p)) (n +ℤ times_value p) z next k.1 ∙ ap number (omega (arith, ints))

  value-sum : (ps : List FormPart) (z : ℤ) → AtomsAreNumbers ps → value records names e (with_constant (sum_of_parts None ps) z) ≡ number (parts_value ps +ℤ z)
  value-sum [] z k = ap number (omega (arith, ints))
  value-sum (p ∷ ps) z k =
      sum_after ps (part_term p) (times_value p) z (value-part_term p k.0) k.1

  pub value-form_term : (f : LinearForm) → AtomsAreNumbers f.parts → value records names e (form_term f) ≡ number (form_value records names e f)
  value-form_term f k = value-sum f.parts f.constant k

  -- ---- products and remainders

  constant_value : (f : LinearForm) → is_constant f ≡ true → form_value records names e f ≡ f.constant
  constant_value f h = no_parts f.parts h
    where
      no_parts : (ps : List FormPart) → has_no_parts ps ≡ true → parts_value ps +ℤ f.constant ≡ f.constant
      no_parts [] h = omega (arith, ints)
      no_parts (p ∷ ps) h = absurd (false≢true h)

  form_value-atom : (t : Tree ℕ) (z : ℤ) → value records names e t ≡ number z → form_value records names e (atom_form t) ≡ z
  form_value-atom t z h = let n = ap number_of h in omega (arith, ints, one_times (number_of (value records names e t)), n)

  product_atom_at : (b : Bool) (s t : Tree ℕ) (x y : ℤ) → value records names e s ≡ number x → value records names e t ≡ number y →
      value records names e (cond b (binary Binary.Mul t s) (binary Binary.Mul s t)) ≡ number (x *ℤ y)
  product_atom_at true s t x y h k = (λ i. number (number_of (k i) *ℤ number_of (h i))) ∙ ap number (*ℤ_comm y x)
  product_atom_at false s t x y h k = λ i. number (number_of (h i) *ℤ number_of (k i))

  module _ (f g : LinearForm) (h : AtomsAreNumbers f.parts) (k : AtomsAreNumbers g.parts) where
    abbrev product_of : Bool → Bool → LinearForm
    product_of b c = cond b (scaled f.constant g) (cond c (scaled g.constant f) (atom_form (product_atom (form_term f) (form_term g))))

    atom_value : value records names e (product_atom (form_term f) (form_term g)) ≡ number (form_value records names e f *ℤ form_value records names e g)
    atom_value = product_atom_at (is_lt (tree_cmp (form_term g) (form_term f))) (form_term f) (form_term g) (form_value records names e f) (form_value records names e g) (value-form_term f h) (value-form_term g k)

    product_value_at : (b c : Bool) → (b ≡ true → is_constant f ≡ true) → (c ≡ true → is_constant g ≡ true) →
        form_value records names e (product_of b c) ≡ form_value records names e f *ℤ form_value records names e g
    product_value_at true c p q =
        form_value-scaled f.constant g ∙ ap (λ z. z *ℤ form_value records names e g) (sym (constant_value f (p refl)))
    product_value_at false true p q =
        form_value-scaled g.constant f ∙ ap (λ z. z *ℤ form_value records names e f) (sym (constant_value g (q refl))) ∙ *ℤ_comm (form_value records names e g) (form_value records names e f)
    product_value_at false false p q = form_value-atom (product_atom (form_term f) (form_term g)) _ atom_value

    form_value-product : form_value records names e (product f g) ≡ form_value records names e f *ℤ form_value records names e g
    form_value-product = product_value_at (is_constant f) (is_constant g) (λ p. p) (λ q. q)

    product_numbers_at : (b c : Bool) → AtomsAreNumbers ((product_of b c).parts)
    product_numbers_at true c = numbers_scaled f.constant g k
    product_numbers_at false true = numbers_scaled g.constant f h
    product_numbers_at false false = (atom_value ∙ ap number (sym (ap number_of atom_value)), tt)

    numbers_product : AtomsAreNumbers ((product f g).parts)
    numbers_product = product_numbers_at (is_constant f) (is_constant g)

    abbrev quotient_atom : Tree ℕ
    quotient_atom = binary Binary.Div (form_term f) (literal g.constant)

    abbrev remainder_of : Bool → LinearForm
    remainder_of b = cond b (plus f (scaled (neg_ℤ g.constant) (atom_form quotient_atom))) (atom_form (binary Binary.Rem (form_term f) (form_term g)))

    quotient_value : value records names e quotient_atom ≡ number (quotient (form_value records names e f) g.constant)
    quotient_value = ap (λ v. number (quotient (number_of v) g.constant)) (value-form_term f h)

    remainder_value : value records names e (binary Binary.Rem (form_term f) (form_term g)) ≡ number (remainder (form_value records names e f) (form_value records names e g))
    remainder_value = λ i. number (remainder (number_of (value-form_term f h i)) (number_of (value-form_term g k i)))

    remainder_value_at : (b : Bool) → (b ≡ true → (is_constant g ≡ true) × (int_le (pos 1) g.constant ≡ true)) →
        form_value records names e (remainder_of b) ≡ remainder (form_value records names e f) (form_value records names e g)
    remainder_value_at true p =
        let c = g.constant in
        let x = form_value records names e f in
        let is : form_value records names e g ≡ c = constant_value g ((p refl).0) in
        let one : pos 1 ≤ℤ c = le_from c ((p refl).1) in
        let whole = quotient-remainder x c (λ z. absurd (omega (arith, ints, z))) in
        let q = form_value-atom quotient_atom (quotient x c) quotient_value in
        let s = form_value-scaled (neg_ℤ c) (atom_form quotient_atom) in
        let t : neg_ℤ c *ℤ form_value records names e (atom_form quotient_atom) ≡ neg_ℤ (quotient x c *ℤ c) =
        ap (λ z. neg_ℤ c *ℤ z) q ∙ neg-mul c (quotient x c) ∙ ap neg_ℤ (*ℤ_comm c (quotient x c)) in
        form_value-plus f (scaled (neg_ℤ c) (atom_form quotient_atom)) ∙
        (let r : form_value records names e f +ℤ form_value records names e (scaled (neg_ℤ c) (atom_form quotient_atom)) ≡ remainder x c = omega (arith, ints, whole, s, t) in r) ∙
        ap (remainder x) (sym is)
    remainder_value_at false p = form_value-atom (binary Binary.Rem (form_term f) (form_term g)) _ remainder_value

    form_value-remainder : form_value records names e (remainder_form f g) ≡ remainder (form_value records names e f) (form_value records names e g)
    form_value-remainder = remainder_value_at (is_constant g && int_le (pos 1) g.constant) (λ p. and_parts _ _ p)

    numbers_remainder_at : (b : Bool) → AtomsAreNumbers ((remainder_of b).parts)
    numbers_remainder_at true =
        numbers_all_inserted ((scaled (neg_ℤ g.constant) (atom_form quotient_atom)).parts) f.parts
        (numbers_scaled (neg_ℤ g.constant) (atom_form quotient_atom) (quotient_value ∙ ap number (sym (ap number_of quotient_value)), tt)) h
    numbers_remainder_at false = (remainder_value ∙ ap number (sym (ap number_of remainder_value)), tt)

    numbers_remainder : AtomsAreNumbers ((remainder_form f g).parts)
    numbers_remainder = numbers_remainder_at (is_constant g && int_le (pos 1) g.constant)

-- ---- trees

number_has_type : (records : Records) (v : Value) → HasType records v number_type → v ≡ number (number_of v)
number_has_type records unit h = absurd (cc)
number_has_type records (number z) h = refl
number_has_type records (truth b) h = absurd (cc)
number_has_type records (sequence t vs) h = absurd (let k = h.0 in cc)
number_has_type records (record_value n vs) h = absurd (let k = h.0 in cc)

-- the term of the form has the tree's value, and where that is a number, so has the form, and each atom has a number
pub record Keeps (records : Records) (names : ℕ → Value) (t : Tree ℕ) (f : LinearForm) (s : ValueType) : Type 0 where
  pub same : (e : Bounds) → value records names e (form_term f) ≡ value records names e t
  pub sum : s ≡ number_type → (e : Bounds) → value records names e t ≡ number (form_value records names e f)
  pub numbers : s ≡ number_type → (e : Bounds) → AtomsAreNumbers records names e f.parts

module _ (records : Records) (fine : AreWellFormed records) (types : NameTypes ℕ) (names : ℕ → Value) (fit : FitNames records types names) where
  is_number : (t : Tree ℕ) (s : ValueType) → IsTyped records types t s → s ≡ number_type → (e : Bounds) → value records names e t ≡ number (number_of (value records names e t))
  is_number t s h is e =
      number_has_type records (value records names e t) (subst (λ u. HasType records (value records names e t) u) is (HasType-value records fine types names fit t s e h))

  keeps_atom : (t u : Tree ℕ) (s : ValueType) → IsTyped records types t s → ((e : Bounds) → value records names e u ≡ value records names e t) → Keeps records names t (atom_form u) s
  keeps_atom t u s h same = record {
    same = same;
    sum = λ is e. is_number t s h is e ∙ ap number (sym (form_value-atom records names e u (number_of (value records names e t)) (same e ∙ is_number t s h is e)));
    numbers = λ is e. (same e ∙ is_number t s h is e ∙ ap number (sym (ap number_of (same e))), tt);
  }

  keeps_sum : (t : Tree ℕ) (f : LinearForm) (s : ValueType) → ((e : Bounds) → value records names e t ≡ number (form_value records names e f)) → ((e : Bounds) → AtomsAreNumbers records names e f.parts) → Keeps records names t f s
  keeps_sum t f s sum numbers = record {
    same = λ e. value-form_term records names e f (numbers e) ∙ sym (sum e);
    sum = λ is e. sum e;
    numbers = λ is e. numbers e;
  }

  -- one part, or two
  via_unary : (op : Unary) (a b : Tree ℕ) → ((e : Bounds) → value records names e b ≡ value records names e a) → (e : Bounds) → value records names e (unary op b) ≡ value records names e (unary op a)
  via_unary op a b same e = ap (unary_value op) (same e)

  via_binary : (op : Binary) (a b c d : Tree ℕ) → ((e : Bounds) → value records names e c ≡ value records names e a) → ((e : Bounds) → value records names e d ≡ value records names e b) → (e : Bounds) → value records names e (binary op c d) ≡ value records names e (binary op a b)
  via_binary op a b c d p q e = ap₂ (binary_value records op) (p e) (q e)

  mutual
    pub keeps_form : (t : Tree ℕ) (s : ValueType) → IsTyped records types t s → Keeps records names t (form t) s
    keeps_form (literal z) s h = keeps_sum (literal z) (constant_form z) s (λ e. ap number (omega (arith, ints))) (λ e. tt)
    keeps_form (truth_literal b) s h = keeps_atom (truth_literal b) (truth_literal b) s h (λ e. refl)
    keeps_form (name n) s h = keeps_atom (name n) (name n) s h (λ e. refl)
    keeps_form (bound n) s h = keeps_atom (bound n) (bound n) s h (λ e. refl)
    keeps_form (unary Unary.Neg a) s h =
        let k = keeps_form a number_type h.1 in
        keeps_sum (unary Unary.Neg a) (form (unary Unary.Neg a)) s
        (λ e. ap (unary_value Unary.Neg) (k.sum refl e) ∙ ap number (omega (arith, ints, form_value-scaled records names e (negsuc 0) (form a))))
        (λ e. numbers_scaled records names e (negsuc 0) (form a) (k.numbers refl e))
    keeps_form (unary Unary.Not a) s h =
        keeps_atom (unary Unary.Not a) (unary Unary.Not (form_term (form a))) s h (via_unary Unary.Not a (form_term (form a)) ((keeps_form a truth_type h.1).same))
    keeps_form (unary Unary.Size a) s h =
        keeps_atom (unary Unary.Size a) (unary Unary.Size (form_term (form a))) s h (via_unary Unary.Size a (form_term (form a)) ((keeps_form a _ h.1).same))
    keeps_form (unary (Unary.Field n) a) s h =
        keeps_atom (unary (Unary.Field n) a) (unary (Unary.Field n) (form_term (form a))) s h (via_unary (Unary.Field n) a (form_term (form a)) ((keeps_form a _ h.1).same))
    keeps_form (binary Binary.Add a b) s h =
        let k = keeps_form a number_type h.1 in
        let l = keeps_form b number_type h.2 in
        keeps_sum (binary Binary.Add a b) (form (binary Binary.Add a b)) s
        (λ e. ap₂ (binary_value records Binary.Add) (k.sum refl e) (l.sum refl e) ∙ ap number (sym (form_value-plus records names e (form a) (form b))))
        (λ e. numbers_all_inserted records names e ((form b).parts) ((form a).parts) (l.numbers refl e) (k.numbers refl e))
    keeps_form (binary Binary.Sub a b) s h =
        let k = keeps_form a number_type h.1 in
        let l = keeps_form b number_type h.2 in
        keeps_sum (binary Binary.Sub a b) (form (binary Binary.Sub a b)) s
        (λ e. ap₂ (binary_value records Binary.Sub) (k.sum refl e) (l.sum refl e) ∙ ap number (omega (arith, ints, form_value-plus records names e (form a) (scaled (negsuc 0) (form b)), form_value-scaled records names e (negsuc 0) (form b))))
        (λ e. numbers_all_inserted records names e ((scaled (negsuc 0) (form b)).parts) ((form a).parts) (numbers_scaled records names e (negsuc 0) (form b) (l.numbers refl e)) (k.numbers refl e))
    keeps_form (binary Binary.Mul a b) s h =
        let k = keeps_form a number_type h.1 in
        let l = keeps_form b number_type h.2 in
        keeps_sum (binary Binary.Mul a b) (product (form a) (form b)) s
        (λ e. ap₂ (binary_value records Binary.Mul) (k.sum refl e) (l.sum refl e) ∙ ap number (sym (form_value-product records names e (form a) (form b) (k.numbers refl e) (l.numbers refl e))))
        (λ e. numbers_product records names e (form a) (form b) (k.numbers refl e) (l.numbers refl e))
    keeps_form (binary Binary.Div a b) s h =
        keeps_atom (binary Binary.Div a b) (binary Binary.Div (form_term (form a)) (form_term (form b))) s h (via_binary Binary.Div a b (form_term (form a)) (form_term (form b)) ((keeps_form a _ h.1).same) ((keeps_form b _ h.2).same))
    keeps_form (binary Binary.Rem a b) s h =
        let k = keeps_form a number_type h.1 in
        let l = keeps_form b number_type h.2 in
        keeps_sum (binary Binary.Rem a b) (remainder_form (form a) (form b)) s
        (λ e. ap₂ (binary_value records Binary.Rem) (k.sum refl e) (l.sum refl e) ∙ ap number (sym (form_value-remainder records names e (form a) (form b) (k.numbers refl e) (l.numbers refl e))))
        (λ e. numbers_remainder records names e (form a) (form b) (k.numbers refl e) (l.numbers refl e))
    keeps_form (binary Binary.And a b) s h =
        keeps_atom (binary Binary.And a b) (binary Binary.And (form_term (form a)) (form_term (form b))) s h (via_binary Binary.And a b (form_term (form a)) (form_term (form b)) ((keeps_form a _ h.1).same) ((keeps_form b _ h.2).same))
    keeps_form (binary Binary.Or a b) s h =
        keeps_atom (binary Binary.Or a b) (binary Binary.Or (form_term (form a)) (form_term (form b))) s h (via_binary Binary.Or a b (form_term (form a)) (form_term (form b)) ((keeps_form a _ h.1).same) ((keeps_form b _ h.2).same))
    keeps_form (binary Binary.Imply a b) s h =
        keeps_atom (binary Binary.Imply a b) (binary Binary.Imply (form_term (form a)) (form_term (form b))) s h (via_binary Binary.Imply a b (form_term (form a)) (form_term (form b)) ((keeps_form a _ h.1).same) ((keeps_form b _ h.2).same))
    keeps_form (binary Binary.Eq a b) s h =
        keeps_atom (binary Binary.Eq a b) (binary Binary.Eq (form_term (form a)) (form_term (form b))) s h (via_binary Binary.Eq a b (form_term (form a)) (form_term (form b)) ((keeps_form a _ h.1).same) ((keeps_form b _ h.2).same))
    keeps_form (binary Binary.Lt a b) s h =
        keeps_atom (binary Binary.Lt a b) (binary Binary.Lt (form_term (form a)) (form_term (form b))) s h (via_binary Binary.Lt a b (form_term (form a)) (form_term (form b)) ((keeps_form a _ h.1).same) ((keeps_form b _ h.2).same))
    keeps_form (binary Binary.Le a b) s h =
        keeps_atom (binary Binary.Le a b) (binary Binary.Le (form_term (form a)) (form_term (form b))) s h (via_binary Binary.Le a b (form_term (form a)) (form_term (form b)) ((keeps_form a _ h.1).same) ((keeps_form b _ h.2).same))
    keeps_form (binary Binary.Read a b) s h =
        keeps_atom (binary Binary.Read a b) (binary Binary.Read (form_term (form a)) (form_term (form b))) s h (via_binary Binary.Read a b (form_term (form a)) (form_term (form b)) ((keeps_form a _ h.0).same) ((keeps_form b _ h.1).same))
    keeps_form (binary Binary.Append a b) s h =
        keeps_atom (binary Binary.Append a b) (binary Binary.Append (form_term (form a)) (form_term (form b))) s h (via_binary Binary.Append a b (form_term (form a)) (form_term (form b)) ((keeps_form a _ h.1).same) ((keeps_form b _ h.2).same))
    keeps_form (update a i x) s h =
        let p = (keeps_form a _ h.1).same in
        let q = (keeps_form i _ h.2).same in
        let r = (keeps_form x _ h.3).same in
        keeps_atom (update a i x) (update (form_term (form a)) (form_term (form i)) (form_term (form x))) s h (λ e j. updated (p e j) (number_of (q e j)) (r e j))
    keeps_form (quantified q low high body) s h =
        let l = (keeps_form low _ h.1).same in
        let g = (keeps_form high _ h.2).same in
        let b = (keeps_form body _ h.3).same in
        keeps_atom (quantified q low high body) (quantified q (form_term (form low)) (form_term (form high)) (form_term (form body))) s h
        (λ e j. truth (holds_of q (λ k. truth_of (b (inside k e) j)) (numbers_between (number_of (l e j)) (number_of (g e j)))))
    keeps_form (listed (sequence_of t) ts) s h =
        keeps_atom (listed (sequence_of t) ts) (listed (sequence_of t) (form_terms ts)) s h (λ e. ap (listed_value (sequence_of t)) (keeps_each ts t h.2 e))
    keeps_form (listed (record_of n) ts) s h =
        keeps_atom (listed (record_of n) ts) (listed (record_of n) (form_terms ts)) s h (λ e. ap (listed_value (record_of n)) (keeps_all ts (fields records n) h.2 e))

    keeps_each : (ts : Trees ℕ) (s : ValueType) → EachIsTyped records types ts s → (e : Bounds) → values records names e (form_terms ts) ≡ values records names e ts
    keeps_each no_trees s h e = refl
    keeps_each (tree_then t ts) s h e = ap₂ value_then ((keeps_form t s h.0).same e) (keeps_each ts s h.1 e)

    keeps_all : (ts : Trees ℕ) (ss : List ValueType) → AreTyped records types ts ss → (e : Bounds) → values records names e (form_terms ts) ≡ values records names e ts
    keeps_all no_trees [] h e = refl
    keeps_all no_trees (s ∷ ss) h e = refl
    keeps_all (tree_then t ts) [] h e = absurd h
    keeps_all (tree_then t ts) (s ∷ ss) h e = ap₂ value_then ((keeps_form t s h.0).same e) (keeps_all ts ss h.1 e)

pub HasValueOf-form : (t : Tree ℕ) → HasValueOf t (form t)
HasValueOf-form t = record {
  sum = λ records fine types names fit e h. (keeps_form records fine types names fit t number_type h).sum refl e;
  term = λ records fine types names fit e s h. (keeps_form records fine types names fit t s h).same e;
}
