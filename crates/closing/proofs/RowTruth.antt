-- The rows of a case whose literals hold are true of the values of its atoms.
use Rattle.std.proofs.Common.{◌≡◌, ℕ, zero, suc, ℤ, pos, negsuc, neg_ℤ, ◌+ℤ◌, ◌-ℤ◌, ◌*ℤ◌, ◌≤ℤ◌, ◌<ℤ◌, int_le, int_lt, int_div, List, [], ◌∷◌, map, get_or, Bool, true, false, not, refl, sym, ap, ap₂, subst, arith}
use Rattle.std.specs.List.{AllByRecursion}
use Rattle.std.proofs.lemmas.Bool.{false≢true}
use Rattle.std.proofs.lemmas.Int.{ints}
use Rattle.whole_numbers.proofs.Truncation.{remainder_bounds}
use Rattle.slang_values.specs.Number.{quotient}
use Rattle.slang_values.specs.Value.{number_type, same_type, Records, AreWellFormed, Value, number_of}
use Rattle.slang_values.specs.Tree.{Tree, literal, unary, binary, value}
use Rattle.slang_values.specs.Typing.{NameTypes, type_of, IsTyped, FitNames}
use Rattle.slang_values.specs.declared.operators.Unary.{Unary}
use Rattle.slang_values.specs.declared.operators.Binary.{Binary}
use Rattle.slang_values.proofs.Equality.{same_type-true, same_value-true}
use Rattle.tree_forms.specs.Form.{FormPart, form, sum_value, form_value}
use Rattle.tree_forms.proofs.FormValues.{keeps_form}
use Rattle.validity.specs.Validity.{no_bounds}
use Rattle.lin_rows.specs.Inequality.{Holds, sum_at}
use Rattle.closing.specs.Rows.{AtomRow, at_most, at_least, eq_rows, difference, rows_of_literal, rows_of_atom, ordered_atoms, completed, numbered_parts, numbered, numbered_rows, rows_of_literals, atom_nodes}
use Rattle.closing.proofs.TypedForms.{IsNumberTree, number_atoms}
use Rattle.closing.proofs.AtomOrder.{Among, at_place}
use Rattle.closing.proofs.RowShape.{IsInShape, in_shape, rest_tree, rest_is_form, at_least_one}
use Rattle.closing.proofs.RowCases.{quotient_rows, rows_of_division, by_atom, rows_of_equality, by_literal}
use Rattle.closing.proofs.Completion.{AllRows, all-append, among-ordered, rows_within, completed_keeps}
use Rattle.read_rules.proofs.ReadCases.{IsTrueTree, AllAreTrue}
use Rattle.tree_forms.proofs.Settled.{AllAtoms, IsSettled}

quotient_is : (a c : ℤ) → pos 0 <ℤ c → quotient a c ≡ int_div a c
quotient_is a (pos zero) h = absurd (omega (arith, ints, h))
quotient_is a (pos (suc c)) h = refl
quotient_is a (negsuc c) h = absurd (omega (arith, ints, h))

-- ---- true rows

module _ (records : Records) (fine : AreWellFormed records) (types : NameTypes ℕ) (names : ℕ → Value) (fit : FitNames records types names) where
  abbrev at : Tree ℕ → ℤ
  at t = number_of (value records names no_bounds t)

  abbrev IsNumber : Tree ℕ → Type 0
  IsNumber t = IsNumberTree records types t

  pub record IsGoodAtom (t : Tree ℕ) : Type 0 where
    pub settled : IsSettled t
    pub number : IsNumber t

  -- the row is in shape, over numbers, and true
  pub record IsTrueRow (row : AtomRow) : Type 0 where
    pub shape : IsInShape row
    pub numbers : AllAtoms IsNumber row.parts
    pub holds : sum_value records names no_bounds row.parts ≤ℤ row.bound

  good_atoms : (ps : List FormPart) → AllAtoms IsSettled ps → AllAtoms IsNumber ps → AllAtoms IsGoodAtom ps
  good_atoms [] h k = tt
  good_atoms (p ∷ ps) h k = (record { settled = h.0; number = k.0 }, good_atoms ps h.1 k.1)

  atoms_of_true : (row : AtomRow) → IsTrueRow row → AllAtoms IsGoodAtom row.parts
  atoms_of_true row h = good_atoms row.parts h.shape.settled h.numbers

  form_at : (t : Tree ℕ) → IsNumber t → at t ≡ form_value records names no_bounds (form t)
  form_at t h = ap number_of ((keeps_form records fine types names fit t number_type h).sum refl no_bounds)

  true_at_most : (t : Tree ℕ) (z : ℤ) → IsNumber t → at t ≤ℤ z → IsTrueRow (at_most (form t) z)
  true_at_most t z h l = record { shape = in_shape t z; numbers = number_atoms records types t h; holds = omega (arith, ints, form_at t h, l) }

  -- the negative of a form is the form of the negation
  true_at_least : (t : Tree ℕ) (z : ℤ) → IsNumber t → z ≤ℤ at t → IsTrueRow (at_least (form t) z)
  true_at_least t z h l = true_at_most (unary Unary.Neg t) (neg_ℤ z) (refl, h) (omega (arith, ints, l))

  -- ---- literals

  minus : (a b : Tree ℕ) → IsNumber a → IsNumber b → IsNumber (binary Binary.Sub a b)
  minus a b h k = (refl, h, k)

  true_le : (a b : Tree ℕ) → IsNumber a → IsNumber b → at a ≤ℤ at b → IsTrueRow (at_most (difference a b) (pos 0))
  true_le a b h k l = true_at_most (binary Binary.Sub a b) (pos 0) (minus a b h k) (omega (arith, ints, l))

  true_lt : (a b : Tree ℕ) → IsNumber a → IsNumber b → at a <ℤ at b → IsTrueRow (at_most (difference a b) (negsuc 0))
  true_lt a b h k l = true_at_most (binary Binary.Sub a b) (negsuc 0) (minus a b h k) (omega (arith, ints, l))

  true_ge : (a b : Tree ℕ) → IsNumber a → IsNumber b → at b ≤ℤ at a → IsTrueRow (at_least (difference a b) (pos 0))
  true_ge a b h k l = true_at_least (binary Binary.Sub a b) (pos 0) (minus a b h k) (omega (arith, ints, l))

  le_there : (a b : ℤ) → int_le a b ≡ true → a ≤ℤ b
  le_there a b h = omega (arith, ints, h)

  lt_there : (a b : ℤ) → int_lt a b ≡ true → a <ℤ b
  lt_there a b h = omega (arith, ints, h)

  not_le_there : (a b : ℤ) → not (int_le a b) ≡ true → b <ℤ a
  not_le_there a b h = by_order (int_le a b) refl h
    where
      by_order : (c : Bool) → int_le a b ≡ c → not c ≡ true → b <ℤ a
      by_order true e k = absurd (false≢true k)
      by_order false e k = omega (arith, ints, e)

  not_lt_there : (a b : ℤ) → not (int_lt a b) ≡ true → b ≤ℤ a
  not_lt_there a b h = by_order (int_lt a b) refl h
    where
      by_order : (c : Bool) → int_lt a b ≡ c → not c ≡ true → b ≤ℤ a
      by_order true e k = absurd (false≢true k)
      by_order false e k = omega (arith, ints, e)

  abbrev AllTrue : List AtomRow → Type 0
  AllTrue rows = AllRows IsTrueRow rows

  abbrev Here : Tree ℕ → Type 0
  Here = IsTrueTree records fine types names fit

  equal_true : (a b : Tree ℕ) → same_type (type_of records types a) number_type ≡ true → Here (binary Binary.Eq a b) → AllTrue (eq_rows a b)
  equal_true a b e h =
      let is = same_type-true (type_of records types a) number_type e in
      let p = subst (λ r. IsTyped records types a r) is h.typed.1 in
      let q = subst (λ r. IsTyped records types b r) is h.typed.2 in
      let z : at a ≡ at b = ap number_of (same_value-true (value records names no_bounds a) (value records names no_bounds b) h.true_there) in
      (true_le a b p q (omega (arith, ints, z)), (true_ge a b p q (omega (arith, ints, z)), tt))

  literal_true : (t : Tree ℕ) → Here t → AllTrue (rows_of_literal records types t)
  literal_true =
      by_literal records types (λ t. Here t → AllTrue (rows_of_literal records types t))
      (λ a b h. (true_lt a b h.typed.1 h.typed.2 (lt_there (at a) (at b) h.true_there), tt)) (λ a b h. (true_le a b h.typed.1 h.typed.2 (le_there (at a) (at b) h.true_there), tt))
      (λ a b e h. subst AllTrue (sym (rows_of_equality records types a b e)) (equal_true a b e h))
      (λ a b h. (true_le b a h.typed.1.2 h.typed.1.1 (not_lt_there (at a) (at b) h.true_there), tt))
      (λ a b h. (true_lt b a h.typed.1.2 h.typed.1.1 (not_le_there (at a) (at b) h.true_there), tt))
      (λ t none h. subst AllTrue (sym none) tt)

  literals_true : (c : List (Tree ℕ)) → AllAreTrue records fine types names fit c → AllTrue (rows_of_literals records types c)
  literals_true [] h = tt
  literals_true (t ∷ c) h = all-append IsTrueRow (rows_of_literal records types t) (rows_of_literals records types c) (literal_true t h.0) (literals_true c h.1)

  -- ---- atoms

  size_true : (a : Tree ℕ) → IsGoodAtom (unary Unary.Size a) → AllTrue (rows_of_atom (unary Unary.Size a))
  size_true a h =
      let t = unary Unary.Size a in
      (subst (λ f. IsTrueRow (at_least f (pos 0))) h.settled (true_at_least t (pos 0) h.number (omega (arith, ints))), tt)

  quotient_true : (a : Tree ℕ) (c : ℤ) → int_le (pos 1) c ≡ true → IsGoodAtom (binary Binary.Div a (literal c)) → AllTrue (quotient_rows a c)
  quotient_true a c e h =
      let t = binary Binary.Div a (literal c) in
      let positive = at_least_one c e in
      let r = rest_tree a c t in
      let is = sym (rest_is_form a c t h.settled positive.1) in
      let typed : IsNumber r = (refl, h.number.1, (refl, refl, h.number)) in
      let bounds = remainder_bounds (at a) c positive.0 in
      let same : at r ≡ at a -ℤ c *ℤ int_div (at a) c = ap (λ z. at a -ℤ c *ℤ z) (quotient_is (at a) c positive.0) in (
        subst (λ f. IsTrueRow (at_least f (pos 1 -ℤ c))) is (true_at_least r (pos 1 -ℤ c) typed (omega (arith, ints, same, bounds))),
        (subst (λ f. IsTrueRow (at_most f (c -ℤ pos 1))) is (true_at_most r (c -ℤ pos 1) typed (omega (arith, ints, same, bounds))), tt),
      )

  atom_true : (t : Tree ℕ) → IsGoodAtom t → AllTrue (rows_of_atom t)
  atom_true =
      by_atom (λ t. IsGoodAtom t → AllTrue (rows_of_atom t)) size_true (λ a c e h. subst AllTrue (sym (rows_of_division a c e)) (quotient_true a c e h))
      (λ t none h. subst AllTrue (sym none) tt)

  pub case_rows_true : (c : List (Tree ℕ)) → AllAreTrue records fine types names fit c → AllTrue (completed (rows_of_literals records types c))
  case_rows_true c h =
      let rows = rows_of_literals records types c in
      completed_keeps IsTrueRow IsGoodAtom atoms_of_true atom_true (atom_nodes rows) [] rows (literals_true c h)

  -- ---- numbers for atoms

  abbrev pub value_of_place : List (Tree ℕ) → ℕ → ℤ
  value_of_place atoms n = at (get_or atoms n (literal (pos 0)))

  numbered_sum : (atoms : List (Tree ℕ)) (ps : List FormPart) → AllAtoms (Among atoms) ps →
      sum_at (value_of_place atoms) (numbered_parts atoms ps) ≡ sum_value records names no_bounds ps
  numbered_sum atoms [] h = refl
  numbered_sum atoms (p ∷ ps) h =
      ap₂ (λ t z. p.times *ℤ at t +ℤ z) (at_place atoms p.atom (literal (pos 0)) h.0) (numbered_sum atoms ps h.1)

  numbered_holds : (atoms : List (Tree ℕ)) (rows : List AtomRow) → AllRows (λ row. AllAtoms (Among atoms) row.parts) rows → AllTrue rows →
      AllByRecursion (Holds (value_of_place atoms)) (map (numbered atoms) rows)
  numbered_holds atoms [] h k = tt
  numbered_holds atoms (row ∷ rows) h k =
      (subst (λ z. z ≤ℤ row.bound) (sym (numbered_sum atoms row.parts h.0)) k.0.holds, numbered_holds atoms rows h.1 k.1)

  pub numbered_rows_hold : (rows : List AtomRow) → AllTrue rows → AllByRecursion (Holds (value_of_place (ordered_atoms rows))) (numbered_rows rows)
  numbered_rows_hold rows h = numbered_holds (ordered_atoms rows) rows (rows_within (ordered_atoms rows) rows (among-ordered rows)) h
