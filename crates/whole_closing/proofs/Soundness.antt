-- What is closed is valid.
use Rattle.std.proofs.Common.{◌≡◌, ℕ, List, [], ◌∷◌, length, nat_lt, Bool, true, false, not, ◌||◌, cond, ◌⊎◌, inl, inr, refl, sym, ap, ◌∙◌}
use Rattle.std.specs.List.{list_all, list_any}
use Rattle.std.proofs.lemmas.Bool.{false≢true, and_parts}
use Rattle.std.proofs.lemmas.List.Elements.{recursion_from_All}
use Rattle.slang_values.specs.Value.{truth_type, Records, AreWellFormed, Value, truth_of}
use Rattle.slang_values.specs.Tree.{Tree, literal, truth_literal, name, bound, unary, binary, update, quantified, listed, value}
use Rattle.slang_values.specs.Typing.{NameTypes, type_of, IsTyped, FitNames}
use Rattle.slang_values.specs.declared.operators.Unary.{Unary}
use Rattle.slang_values.specs.declared.operators.Binary.{Binary}
use Rattle.slang_values.proofs.Equality.{same_value-equal}
use Rattle.tree_forms.proofs.CanonicalValues.{value-canonical}
use Rattle.validity.specs.Validity.{SequentTree, symbol_types, IsWellSorted, IsTrueUnder, IsValid, no_bounds}
use Rattle.lin_rows.specs.Inequality.{Inequality, is_within}
use Rattle.elimination.specs.Elimination.{Ending, Closed, Open, TooManyRows, TooWide, elimination}
use Rattle.elimination.proofs.Soundness.{Closed-refutes}
use Rattle.case_rules.specs.Cases.{hypotheses, cases, case_limit}
use Rattle.read_rules.specs.Some.{SomeIn}
use Rattle.read_rules.proofs.ReadCases.{IsTrueTree, AllAreTrue}
use Rattle.case_rules.proofs.Sequents.{case_of_sequent}
use Rattle.instance_rules.specs.Instances.{Instancing, too_many_instances, too_large_instance, instanced, instancing}
use Rattle.instance_rules.proofs.Instancing.{instances_keep_validity}
use Rattle.closing.specs.Literals.{is_false, is_opposite, is_narrow_outside, are_all_narrow}
use Rattle.closing.specs.Rows.{ordered_atoms, completed, rows_of_literals, rows_of_case}
use Rattle.closing.proofs.LiteralTruth.{with_test, alike_trees, closed_literals_are_not_true}
use Rattle.closing.proofs.RowShape.{case_rows_canonical}
use Rattle.closing.proofs.RowTruth.{case_rows_true, value_of_place, numbered_rows_hold}
use Rattle.whole_closing.specs.Literals.{equates_alike, is_same_sequence, is_unequal_itself, closed_by_literals}
use Rattle.whole_closing.specs.Closing.{Closing, closed, left_open, too_many, too_large, too_many_cases, too_many_rows, too_wide, by_ending, by_rows, closing_of_case, unless_closed, closing_of_cases, closing_with_instances, by_instancing}
use Rattle.whole_closing.specs.Laws.{ClosedIsValid}

-- ---- what is closed

closed_ending : (e : Ending) → by_ending e ≡ closed → e ≡ Closed
closed_ending Closed h = refl
closed_ending Open h = absurd (cc)
closed_ending TooManyRows h = absurd (cc)
closed_ending TooWide h = absurd (cc)

closed_rows_at : (b : Bool) (rows : List Inequality) → cond b (by_ending (elimination rows)) too_wide ≡ closed → elimination rows ≡ Closed
closed_rows_at true rows h = closed_ending (elimination rows) h
closed_rows_at false rows h = absurd (cc)

both_closed : (c d : Closing) → unless_closed c d ≡ closed → (c ≡ closed) × (d ≡ closed)
both_closed closed d h = (refl, h)
both_closed left_open d h = absurd (cc)
both_closed too_many d h = absurd (cc)
both_closed too_large d h = absurd (cc)
both_closed too_many_cases d h = absurd (cc)
both_closed too_many_rows d h = absurd (cc)
both_closed too_wide d h = absurd (cc)

closed_sequent_at : (b c : Bool) (d : Closing) → cond b (cond c too_many_cases d) too_wide ≡ closed → d ≡ closed
closed_sequent_at true true d h = absurd (cc)
closed_sequent_at true false d h = h
closed_sequent_at false c d h = absurd (cc)

either_bool : (a b : Bool) → (a || b) ≡ true → (a ≡ true) ⊎ (b ≡ true)
either_bool true b h = inl refl
either_bool false b h = inr h

or_later : (a b : Bool) → b ≡ true → (a || b) ≡ true
or_later true b h = refl
or_later false b h = h

-- ---- a closed case does not hold

module _ (records : Records) (fine : AreWellFormed records) (types : NameTypes ℕ) (names : ℕ → Value) (fit : FitNames records types names) where
  abbrev Is : Tree ℕ → Type 0
  Is = IsTrueTree records fine types names fit

  abbrev Hold : List (Tree ℕ) → Type 0
  Hold c = AllAreTrue records fine types names fit c

  abbrev at : Tree ℕ → Value
  at t = value records names no_bounds t

  -- an equality of sequences that are alike is true
  equates_true : (op : Binary) (a b : Tree ℕ) → IsTyped records types (binary op a b) truth_type → equates_alike records types op a b ≡ true → truth_of (at (binary op a b)) ≡ true
  equates_true Binary.Eq a b h e =
      let p = and_parts _ _ e in
      let keeps = value-canonical records fine types names fit in
      let same = sym (keeps a (type_of records types a) no_bounds h.1) ∙ ap at (alike_trees records types a b p.1) ∙ keeps b (type_of records types a) no_bounds h.2 in
      same_value-equal (at a) (at b) same
  equates_true Binary.Add a b h e = absurd (false≢true e)
  equates_true Binary.Sub a b h e = absurd (false≢true e)
  equates_true Binary.Mul a b h e = absurd (false≢true e)
  equates_true Binary.Div a b h e = absurd (false≢true e)
  equates_true Binary.Rem a b h e = absurd (false≢true e)
  equates_true Binary.And a b h e = absurd (false≢true e)
  equates_true Binary.Or a b h e = absurd (false≢true e)
  equates_true Binary.Imply a b h e = absurd (false≢true e)
  equates_true Binary.Lt a b h e = absurd (false≢true e)
  equates_true Binary.Le a b h e = absurd (false≢true e)
  equates_true Binary.Read a b h e = absurd (false≢true e)
  equates_true Binary.Append a b h e = absurd (false≢true e)

  same_sequence_true : (t : Tree ℕ) → IsTyped records types t truth_type → is_same_sequence records types t ≡ true → truth_of (at t) ≡ true
  same_sequence_true (binary op a b) h e = equates_true op a b h e
  same_sequence_true (literal z) h e = absurd (false≢true e)
  same_sequence_true (truth_literal b) h e = absurd (false≢true e)
  same_sequence_true (name n) h e = absurd (false≢true e)
  same_sequence_true (bound n) h e = absurd (false≢true e)
  same_sequence_true (unary op a) h e = absurd (false≢true e)
  same_sequence_true (update a i x) h e = absurd (false≢true e)
  same_sequence_true (quantified q low high body) h e = absurd (false≢true e)
  same_sequence_true (listed l ts) h e = absurd (false≢true e)

  unequal_itself_fails : (t : Tree ℕ) → Is t → is_unequal_itself records types t ≡ true → ⊥
  unequal_itself_fails (unary Unary.Not a) h e = false≢true (sym (ap not (same_sequence_true a h.typed.1 e)) ∙ h.true_there)
  unequal_itself_fails (unary Unary.Neg a) h e = false≢true e
  unequal_itself_fails (unary Unary.Size a) h e = false≢true e
  unequal_itself_fails (unary (Unary.Field k) a) h e = false≢true e
  unequal_itself_fails (literal z) h e = false≢true e
  unequal_itself_fails (truth_literal b) h e = false≢true e
  unequal_itself_fails (name n) h e = false≢true e
  unequal_itself_fails (bound n) h e = false≢true e
  unequal_itself_fails (binary op a b) h e = false≢true e
  unequal_itself_fails (update a i x) h e = false≢true e
  unequal_itself_fails (quantified q low high body) h e = false≢true e
  unequal_itself_fails (listed l ts) h e = false≢true e

  by_literals_fails : (c : List (Tree ℕ)) → Hold c → closed_by_literals records types c ≡ true → ⊥
  by_literals_fails c h e = by_first (either_bool (list_any is_false c) _ e)
    where
      opposite : Bool
      opposite = list_any (λ s. list_any (is_opposite records types s) c) c

      by_second : (list_any (is_unequal_itself records types) c ≡ true) ⊎ (opposite ≡ true) → ⊥
      by_second (inl k) = let w = with_test Is (is_unequal_itself records types) c h k in unequal_itself_fails w.0 w.1 w.2
      by_second (inr k) = closed_literals_are_not_true records fine types names fit c h (or_later (list_any is_false c) opposite k)

      by_first : (list_any is_false c ≡ true) ⊎ ((list_any (is_unequal_itself records types) c || opposite) ≡ true) → ⊥
      by_first (inl k) = closed_literals_are_not_true records fine types names fit c h (ap (λ b. b || opposite) k)
      by_first (inr k) = by_second (either_bool (list_any (is_unequal_itself records types) c) opposite k)

  closed_case_at : (b d : Bool) (c : List (Tree ℕ)) → closed_by_literals records types c ≡ b →
      cond b closed (cond d (by_rows (rows_of_case records types c)) too_wide) ≡ closed → Hold c → ⊥
  closed_case_at true d c e h hold = by_literals_fails c hold e
  closed_case_at false true c e h hold =
      Closed-refutes (rows_of_case records types c) (case_rows_canonical records types c) (closed_rows_at (list_all is_within (rows_of_case records types c)) (rows_of_case records types c) h)
      (value_of_place records fine types names fit (ordered_atoms (completed (rows_of_literals records types c))))
      (numbered_rows_hold records fine types names fit (completed (rows_of_literals records types c)) (case_rows_true records fine types names fit c hold))
  closed_case_at false false c e h hold = absurd (cc)

  closed_cases_fail : (cs : List (List (Tree ℕ))) → closing_of_cases records types cs ≡ closed → SomeIn Hold cs → ⊥
  closed_cases_fail [] h some = some
  closed_cases_fail (c ∷ cs) h (inl hold) =
      closed_case_at (closed_by_literals records types c) (are_all_narrow c) c refl ((both_closed (closing_of_case records types c) (closing_of_cases records types cs) h).0) hold
  closed_cases_fail (c ∷ cs) h (inr some) = closed_cases_fail cs ((both_closed (closing_of_case records types c) (closing_of_cases records types cs) h).1) some

-- ---- sequents

closed_with_instances : (s : SequentTree) → IsWellSorted s → closing_with_instances s ≡ closed → IsValid s
closed_with_instances s sorted h names fit facts = by_goal (truth_of (value s.records names no_bounds s.goal)) refl
  where
    by_goal : (b : Bool) → truth_of (value s.records names no_bounds s.goal) ≡ b → IsTrueUnder s.records names s.goal
    by_goal true e = e
    by_goal false e =
        let types = symbol_types s in
        absurd (closed_cases_fail s.records sorted.records types names fit (cases s)
        (closed_sequent_at (list_all (is_narrow_outside s.records types) (hypotheses s)) (nat_lt case_limit (length (cases s))) (closing_of_cases s.records types (cases s)) h)
        (case_of_sequent s sorted names fit (recursion_from_All (IsTrueUnder s.records names) s.facts facts) e))

by_instances : (s : SequentTree) (i : Instancing) → IsWellSorted s → instancing s ≡ i → by_instancing i ≡ closed → IsValid s
by_instances s too_many_instances sorted e h = absurd (cc)
by_instances s too_large_instance sorted e h = absurd (cc)
by_instances s (instanced r) sorted e h = let proves = instances_keep_validity s r sorted e in proves.valid (closed_with_instances r proves.sorted h)

pub closed_is_valid : ClosedIsValid
closed_is_valid s sorted h = by_instances s (instancing s) sorted refl h
