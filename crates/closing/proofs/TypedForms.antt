-- The term of a form has the type of the tree, and the atoms of a number's form are numbers.
use Rattle.std.proofs.Common.{◌≡◌, ℕ, ℤ, pos, negsuc, neg_ℤ, List, [], ◌∷◌, Bool, true, false, ◌&&◌, cond, None, Some, int_le, refl, sym, ap, ◌∙◌, subst}
use Rattle.std.specs.Ordering.{int_eq, is_lt}
use Rattle.slang_values.specs.Value.{ValueType, number_type, truth_type, sequence_type, Records, fields, element_type}
use Rattle.slang_values.specs.Tree.{Tree, literal, truth_literal, name, bound, unary, binary, update, quantified, listed, Trees, no_trees, tree_then, sequence_of, record_of}
use Rattle.slang_values.specs.Typing.{NameTypes, type_of, IsFieldType, IsTyped, EachIsTyped, AreTyped}
use Rattle.slang_values.specs.declared.operators.Unary.{Unary}
use Rattle.slang_values.specs.declared.operators.Binary.{Binary}
use Rattle.validity.proofs.TypeOf.{type_of_typed}
use Rattle.tree_forms.specs.Order.{tree_cmp}
use Rattle.tree_forms.specs.Form.{FormPart, LinearForm, constant_form, atom_form, plus, scaled, part_term, sum_of_parts, with_constant, form_term, is_constant, product, remainder_form, form, form_terms}
use Rattle.tree_forms.proofs.Settled.{AllAtoms, atoms-plus, atoms-scaled}
use Rattle.closing.proofs.FormAtoms.{atoms-difference, atoms-if}

module _ (records : Records) (types : NameTypes ℕ) where
  abbrev pub IsNumberTree : Tree ℕ → Type 0
  IsNumberTree t = IsTyped records types t number_type

  -- ---- the term of a form over numbers

  part_at : (b : Bool) (p : FormPart) → IsNumberTree p.atom → IsNumberTree (cond b p.atom (binary Binary.Mul (literal p.times) p.atom))
  part_at true p h = h
  part_at false p h = (refl, refl, h)

  constant_at : (b : Bool) (t : Tree ℕ) (z : ℤ) → IsNumberTree t → IsNumberTree (cond b t (binary Binary.Add t (literal z)))
  constant_at true t z h = h
  constant_at false t z h = (refl, h, refl)

  sum_after : (ps : List FormPart) (s : Tree ℕ) (z : ℤ) → IsNumberTree s → AllAtoms IsNumberTree ps → IsNumberTree (with_constant (sum_of_parts (Some s) ps) z)
  sum_after [] s z h k = constant_at (int_eq z (pos 0)) s z h
  sum_after (p ∷ ps) s z h k = sum_after ps (binary Binary.Add s (part_term p)) z (refl, h, part_at (int_eq p.times (pos 1)) p k.0) k.1

  sum_typed : (ps : List FormPart) (z : ℤ) → AllAtoms IsNumberTree ps → IsNumberTree (with_constant (sum_of_parts None ps) z)
  sum_typed [] z k = refl
  sum_typed (p ∷ ps) z k = sum_after ps (part_term p) z (part_at (int_eq p.times (pos 1)) p k.0) k.1

  pub number-form_term : (f : LinearForm) → AllAtoms IsNumberTree f.parts → IsNumberTree (form_term f)
  number-form_term f k = sum_typed f.parts f.constant k

  -- ---- the form of a tree

  pub record HasTypedForm (t : Tree ℕ) (f : LinearForm) (s : ValueType) : Type 0 where
    pub term : IsTyped records types (form_term f) s
    pub atoms : s ≡ number_type → AllAtoms IsNumberTree f.parts

  typed_atom : (t u : Tree ℕ) (s : ValueType) → IsTyped records types u s → HasTypedForm t (atom_form u) s
  typed_atom t u s h = record { term = h; atoms = λ e. (subst (λ r. IsTyped records types u r) e h, tt) }

  typed_number : (t : Tree ℕ) (f : LinearForm) (s : ValueType) → s ≡ number_type → AllAtoms IsNumberTree f.parts → HasTypedForm t f s
  typed_number t f s e k = record { term = subst (λ r. IsTyped records types (form_term f) r) (sym e) (number-form_term f k); atoms = λ _. k }

  product_atom_at : (b : Bool) (x y : Tree ℕ) → IsNumberTree x → IsNumberTree y → IsNumberTree (cond b (binary Binary.Mul y x) (binary Binary.Mul x y))
  product_atom_at true x y h k = (refl, k, h)
  product_atom_at false x y h k = (refl, h, k)

  product_numbers : (f g : LinearForm) → AllAtoms IsNumberTree f.parts → AllAtoms IsNumberTree g.parts → AllAtoms IsNumberTree (product f g).parts
  product_numbers f g h k =
      atoms-if IsNumberTree (is_constant f) _ _ (atoms-scaled IsNumberTree f.constant g k)
      (atoms-if IsNumberTree (is_constant g) _ _ (atoms-scaled IsNumberTree g.constant f h)
      (product_atom_at (is_lt (tree_cmp (form_term g) (form_term f))) (form_term f) (form_term g) (number-form_term f h) (number-form_term g k), tt))

  remainder_numbers : (f g : LinearForm) → AllAtoms IsNumberTree f.parts → AllAtoms IsNumberTree g.parts → AllAtoms IsNumberTree (remainder_form f g).parts
  remainder_numbers f g h k =
      let division = binary Binary.Div (form_term f) (literal g.constant) in
      atoms-if IsNumberTree (is_constant g && int_le (pos 1) g.constant)
      (plus f (scaled (neg_ℤ g.constant) (atom_form division))) (atom_form (binary Binary.Rem (form_term f) (form_term g)))
      (atoms-plus IsNumberTree f (scaled (neg_ℤ g.constant) (atom_form division)) h
      (atoms-scaled IsNumberTree (neg_ℤ g.constant) (atom_form division) ((refl, number-form_term f h, refl), tt)))
      ((refl, number-form_term f h, number-form_term g k), tt)

  mutual
    pub typed_form : (t : Tree ℕ) (s : ValueType) → IsTyped records types t s → HasTypedForm t (form t) s
    typed_form (literal z) s h = typed_number (literal z) (constant_form z) s h tt
    typed_form (truth_literal b) s h = typed_atom (truth_literal b) (truth_literal b) s h
    typed_form (name n) s h = typed_atom (name n) (name n) s h
    typed_form (bound n) s h = typed_atom (bound n) (bound n) s h
    typed_form (unary Unary.Neg a) s h =
        typed_number (unary Unary.Neg a) (scaled (negsuc 0) (form a)) s h.0 (atoms-scaled IsNumberTree (negsuc 0) (form a) ((typed_form a number_type h.1).atoms refl))
    typed_form (unary Unary.Not a) s h = typed_atom (unary Unary.Not a) _ s (h.0, (typed_form a truth_type h.1).term)
    typed_form (unary Unary.Size a) s h =
        let k = (typed_form a (sequence_type (element_type (type_of records types a))) h.1).term in
        typed_atom (unary Unary.Size a) _ s
        (h.0, subst (λ r. IsTyped records types (form_term (form a)) (sequence_type (element_type r))) (type_of_typed records types a _ h.1 ∙ sym (type_of_typed records types (form_term (form a)) _ k)) k)
    typed_form (unary (Unary.Field n) a) s h =
        let k = (typed_form a (type_of records types a) h.1).term in
        let e = sym (type_of_typed records types (form_term (form a)) _ k) in
        typed_atom (unary (Unary.Field n) a) _ s (subst (λ r. IsFieldType records n r s) e h.0, subst (λ r. IsTyped records types (form_term (form a)) r) e k)
    typed_form (binary Binary.Add a b) s h =
        typed_number (binary Binary.Add a b) (plus (form a) (form b)) s h.0 (atoms-plus IsNumberTree (form a) (form b) ((typed_form a number_type h.1).atoms refl) ((typed_form b number_type h.2).atoms refl))
    typed_form (binary Binary.Sub a b) s h =
        typed_number (binary Binary.Sub a b) (form (binary Binary.Sub a b)) s h.0 (atoms-difference IsNumberTree a b ((typed_form a number_type h.1).atoms refl) ((typed_form b number_type h.2).atoms refl))
    typed_form (binary Binary.Mul a b) s h =
        typed_number (binary Binary.Mul a b) (product (form a) (form b)) s h.0 (product_numbers (form a) (form b) ((typed_form a number_type h.1).atoms refl) ((typed_form b number_type h.2).atoms refl))
    typed_form (binary Binary.Rem a b) s h =
        typed_number (binary Binary.Rem a b) (remainder_form (form a) (form b)) s h.0 (remainder_numbers (form a) (form b) ((typed_form a number_type h.1).atoms refl) ((typed_form b number_type h.2).atoms refl))
    typed_form (binary Binary.Div a b) s h = typed_atom (binary Binary.Div a b) _ s (h.0, (typed_form a number_type h.1).term, (typed_form b number_type h.2).term)
    typed_form (binary Binary.And a b) s h = typed_atom (binary Binary.And a b) _ s (h.0, (typed_form a truth_type h.1).term, (typed_form b truth_type h.2).term)
    typed_form (binary Binary.Or a b) s h = typed_atom (binary Binary.Or a b) _ s (h.0, (typed_form a truth_type h.1).term, (typed_form b truth_type h.2).term)
    typed_form (binary Binary.Imply a b) s h = typed_atom (binary Binary.Imply a b) _ s (h.0, (typed_form a truth_type h.1).term, (typed_form b truth_type h.2).term)
    typed_form (binary Binary.Lt a b) s h = typed_atom (binary Binary.Lt a b) _ s (h.0, (typed_form a number_type h.1).term, (typed_form b number_type h.2).term)
    typed_form (binary Binary.Le a b) s h = typed_atom (binary Binary.Le a b) _ s (h.0, (typed_form a number_type h.1).term, (typed_form b number_type h.2).term)
    typed_form (binary Binary.Eq a b) s h =
        let k = (typed_form a (type_of records types a) h.1).term in
        let l = (typed_form b (type_of records types a) h.2).term in
        let e = sym (type_of_typed records types (form_term (form a)) _ k) in
        typed_atom (binary Binary.Eq a b) _ s
        (h.0, subst (λ r. IsTyped records types (form_term (form a)) r) e k, subst (λ r. IsTyped records types (form_term (form b)) r) e l)
    typed_form (binary Binary.Read a i) s h =
        typed_atom (binary Binary.Read a i) _ s ((typed_form a (sequence_type s) h.0).term, (typed_form i number_type h.1).term)
    typed_form (binary Binary.Append a x) s h =
        let k = (typed_form x (type_of records types x) h.2).term in
        let e = sym (type_of_typed records types (form_term (form x)) _ k) in
        typed_atom (binary Binary.Append a x) _ s
        (h.0 ∙ ap sequence_type e, (typed_form a s h.1).term, subst (λ r. IsTyped records types (form_term (form x)) r) e k)
    typed_form (update a i x) s h =
        let k = (typed_form x (type_of records types x) h.3).term in
        let e = sym (type_of_typed records types (form_term (form x)) _ k) in
        typed_atom (update a i x) _ s
        (h.0 ∙ ap sequence_type e, (typed_form a s h.1).term, (typed_form i number_type h.2).term, subst (λ r. IsTyped records types (form_term (form x)) r) e k)
    typed_form (quantified q low high body) s h =
        typed_atom (quantified q low high body) _ s (h.0, (typed_form low number_type h.1).term, (typed_form high number_type h.2).term, (typed_form body truth_type h.3).term)
    typed_form (listed (sequence_of r) ts) s h = typed_atom (listed (sequence_of r) ts) _ s (h.0, h.1, each_typed ts r h.2)
    typed_form (listed (record_of n) ts) s h = typed_atom (listed (record_of n) ts) _ s (h.0, h.1, all_typed ts (fields records n) h.2)

    each_typed : (ts : Trees ℕ) (s : ValueType) → EachIsTyped records types ts s → EachIsTyped records types (form_terms ts) s
    each_typed no_trees s h = tt
    each_typed (tree_then t ts) s h = ((typed_form t s h.0).term, each_typed ts s h.1)

    all_typed : (ts : Trees ℕ) (ss : List ValueType) → AreTyped records types ts ss → AreTyped records types (form_terms ts) ss
    all_typed no_trees [] h = tt
    all_typed no_trees (s ∷ ss) h = h
    all_typed (tree_then t ts) [] h = h
    all_typed (tree_then t ts) (s ∷ ss) h = ((typed_form t s h.0).term, all_typed ts ss h.1)

  -- the atoms of a number are numbers
  pub number_atoms : (t : Tree ℕ) → IsNumberTree t → AllAtoms IsNumberTree (form t).parts
  number_atoms t h = (typed_form t number_type h).atoms refl
