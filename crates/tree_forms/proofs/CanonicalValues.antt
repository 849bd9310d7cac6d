-- A canonical tree has the value of the tree.
use Rattle.std.proofs.Common.{◌≡◌, ℕ, List, [], ◌∷◌, Bool, true, false, cond, refl, ap, ap₂}
use Rattle.slang_values.specs.Number.{numbers_between}
use Rattle.slang_values.specs.Value.{ValueType, number_type, truth_type, Records, AreWellFormed, fields, same_type, Value, number_of, truth_of, truth, updated, value_then}
use Rattle.slang_values.specs.Tree.{Tree, literal, truth_literal, name, bound, unary, binary, update, quantified, listed, Trees, no_trees, tree_then, sequence_of, record_of, Bounds, inside, unary_value, binary_value, holds_of, listed_value, value, values}
use Rattle.slang_values.specs.Typing.{NameTypes, type_of, IsTyped, EachIsTyped, AreTyped, FitNames}
use Rattle.slang_values.specs.declared.operators.Unary.{Unary}
use Rattle.slang_values.specs.declared.operators.Binary.{Binary}
use Rattle.tree_forms.specs.Form.{form, form_term, is_narrow}
use Rattle.tree_forms.specs.Canonical.{canonical_number, canonical, all_canonical}
use Rattle.tree_forms.proofs.FormValues.{keeps_form}

module _ (records : Records) (fine : AreWellFormed records) (types : NameTypes ℕ) (names : ℕ → Value) (fit : FitNames records types names) where
  number_at : (b : Bool) (t : Tree ℕ) (s : ValueType) (e : Bounds) → IsTyped records types t s → value records names e (cond b (form_term (form t)) t) ≡ value records names e t
  number_at true t s e h = (keeps_form records fine types names fit t s h).same e
  number_at false t s e h = refl

  of_at : (b : Bool) (t u : Tree ℕ) (s : ValueType) (e : Bounds) → IsTyped records types t s → value records names e u ≡ value records names e t → value records names e (cond b (canonical_number t) u) ≡ value records names e t
  of_at true t u s e h same = number_at (is_narrow t) t s e h
  of_at false t u s e h same = same

  -- the parts of a well-typed node are well typed
  unary_part : (op : Unary) (a : Tree ℕ) (s : ValueType) → IsTyped records types (unary op a) s → (t : ValueType) × IsTyped records types a t
  unary_part Unary.Neg a s h = (_, h.1)
  unary_part Unary.Not a s h = (_, h.1)
  unary_part Unary.Size a s h = (_, h.1)
  unary_part (Unary.Field k) a s h = (_, h.1)

  binary_parts : (op : Binary) (a b : Tree ℕ) (s : ValueType) → IsTyped records types (binary op a b) s → (t : ValueType) × IsTyped records types a t × (u : ValueType) × IsTyped records types b u
  binary_parts Binary.Add a b s h = (_, h.1, _, h.2)
  binary_parts Binary.Sub a b s h = (_, h.1, _, h.2)
  binary_parts Binary.Mul a b s h = (_, h.1, _, h.2)
  binary_parts Binary.Div a b s h = (_, h.1, _, h.2)
  binary_parts Binary.Rem a b s h = (_, h.1, _, h.2)
  binary_parts Binary.And a b s h = (_, h.1, _, h.2)
  binary_parts Binary.Or a b s h = (_, h.1, _, h.2)
  binary_parts Binary.Imply a b s h = (_, h.1, _, h.2)
  binary_parts Binary.Eq a b s h = (_, h.1, _, h.2)
  binary_parts Binary.Lt a b s h = (_, h.1, _, h.2)
  binary_parts Binary.Le a b s h = (_, h.1, _, h.2)
  binary_parts Binary.Read a b s h = (_, h.0, _, h.1)
  binary_parts Binary.Append a b s h = (_, h.1, _, h.2)

  mutual
    pub value-canonical : (t : Tree ℕ) (s : ValueType) (e : Bounds) → IsTyped records types t s → value records names e (canonical records types t) ≡ value records names e t
    value-canonical (literal z) s e h = number_at (is_narrow (literal z)) (literal z) s e h
    value-canonical (truth_literal b) s e h = refl
    value-canonical (name n) s e h = of_at (same_type (type_of records types (name n)) number_type) (name n) (name n) s e h refl
    value-canonical (bound n) s e h = number_at (is_narrow (bound n)) (bound n) s e h
    value-canonical (unary op a) s e h =
        of_at (same_type (type_of records types (unary op a)) number_type) (unary op a) (unary op (canonical records types a)) s e h
        (ap (unary_value op) (let p = unary_part op a s h in value-canonical a p.0 e p.1))
    value-canonical (binary op a b) s e h =
        of_at (same_type (type_of records types (binary op a b)) number_type) (binary op a b) (binary op (canonical records types a) (canonical records types b)) s e h
        (let p = binary_parts op a b s h in ap₂ (binary_value records op) (value-canonical a p.0 e p.1) (value-canonical b p.2 e p.3))
    value-canonical (update a i x) s e h =
        of_at (same_type (type_of records types (update a i x)) number_type) (update a i x) (update (canonical records types a) (canonical records types i) (canonical records types x)) s e h
        (let p = value-canonical a _ e h.1 in let q = value-canonical i _ e h.2 in let r = value-canonical x _ e h.3 in λ j. updated (p j) (number_of (q j)) (r j))
    value-canonical (quantified q low high body) s e h =
        let l = value-canonical low number_type e h.1 in
        let g = value-canonical high number_type e h.2 in
        λ j. truth (holds_of q (λ k. truth_of (value-canonical body truth_type (inside k e) h.3 j)) (numbers_between (number_of (l j)) (number_of (g j))))
    value-canonical (listed (sequence_of t) ts) s e h = ap (listed_value (sequence_of t)) (each_canonical ts t e h.2)
    value-canonical (listed (record_of n) ts) s e h = ap (listed_value (record_of n)) (values-canonical ts (fields records n) e h.2)

    each_canonical : (ts : Trees ℕ) (s : ValueType) (e : Bounds) → EachIsTyped records types ts s → values records names e (all_canonical records types ts) ≡ values records names e ts
    each_canonical no_trees s e h = refl
    each_canonical (tree_then t ts) s e h = ap₂ value_then (value-canonical t s e h.0) (each_canonical ts s e h.1)

    values-canonical : (ts : Trees ℕ) (ss : List ValueType) (e : Bounds) → AreTyped records types ts ss → values records names e (all_canonical records types ts) ≡ values records names e ts
    values-canonical no_trees [] e h = refl
    values-canonical no_trees (s ∷ ss) e h = refl
    values-canonical (tree_then t ts) [] e h = absurd h
    values-canonical (tree_then t ts) (s ∷ ss) e h = ap₂ value_then (value-canonical t s e h.0) (values-canonical ts ss e h.1)
