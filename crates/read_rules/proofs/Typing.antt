-- Trees that are typed as others are, in the place of these.
use Rattle.std.proofs.Common.{◌≡◌, ℕ, List, [], ◌∷◌, sym, ◌∙◌, subst}
use Rattle.slang_values.specs.Value.{ValueType, number_type, truth_type, sequence_type, Records, element_type, fields}
use Rattle.slang_values.specs.Tree.{Tree, unary, binary, update, quantified, listed, Trees, no_trees, tree_then, Listed, sequence_of, record_of}
use Rattle.slang_values.specs.Typing.{NameTypes, type_of, IsFieldType, IsTyped, EachIsTyped, AreTyped}
use Rattle.slang_values.specs.declared.operators.Unary.{Unary}
use Rattle.slang_values.specs.declared.operators.Binary.{Binary}
use Rattle.slang_values.specs.declared.operators.Quantifier.{Quantifier}
use Rattle.validity.proofs.TypeOf.{type_of_typed}

module _ (records : Records) (types : NameTypes ℕ) where
  -- u has each type that t has
  abbrev pub TypedAs : Tree ℕ → Tree ℕ → Type 0
  TypedAs t u = (s : ValueType) → IsTyped records types t s → IsTyped records types u s

  pub record ListTypedAs (ts us : Trees ℕ) : Type 0 where
    pub each : (s : ValueType) → EachIsTyped records types ts s → EachIsTyped records types us s
    pub all : (ss : List ValueType) → AreTyped records types ts ss → AreTyped records types us ss

  same_type_of : (t u : Tree ℕ) (s : ValueType) → TypedAs t u → IsTyped records types t s → type_of records types t ≡ type_of records types u
  same_type_of t u s h k = type_of_typed records types t s k ∙ sym (type_of_typed records types u s (h s k))

  -- a tree has one type
  pub typed_from : (t u : Tree ℕ) (s : ValueType) → IsTyped records types t s → IsTyped records types u s → TypedAs t u
  typed_from t u s h k r l = subst (IsTyped records types u) (sym (type_of_typed records types t s h) ∙ type_of_typed records types t r l) k

  pub typed_unary : (op : Unary) (a b : Tree ℕ) → TypedAs a b → TypedAs (unary op a) (unary op b)
  typed_unary Unary.Neg a b f s h = (h.0, f number_type h.1)
  typed_unary Unary.Not a b f s h = (h.0, f truth_type h.1)
  typed_unary Unary.Size a b f s h =
      let t = sequence_type (element_type (type_of records types a)) in
      (h.0, subst (λ r. IsTyped records types b (sequence_type (element_type r))) (same_type_of a b t f h.1) (f t h.1))
  typed_unary (Unary.Field k) a b f s h =
      let e = same_type_of a b (type_of records types a) f h.1 in
      (subst (λ r. IsFieldType records k r s) e h.0, subst (IsTyped records types b) e (f (type_of records types a) h.1))

  pub typed_binary : (op : Binary) (a c b d : Tree ℕ) → TypedAs a c → TypedAs b d → TypedAs (binary op a b) (binary op c d)
  typed_binary Binary.Add a c b d f g s h = (h.0, f number_type h.1, g number_type h.2)
  typed_binary Binary.Sub a c b d f g s h = (h.0, f number_type h.1, g number_type h.2)
  typed_binary Binary.Mul a c b d f g s h = (h.0, f number_type h.1, g number_type h.2)
  typed_binary Binary.Div a c b d f g s h = (h.0, f number_type h.1, g number_type h.2)
  typed_binary Binary.Rem a c b d f g s h = (h.0, f number_type h.1, g number_type h.2)
  typed_binary Binary.And a c b d f g s h = (h.0, f truth_type h.1, g truth_type h.2)
  typed_binary Binary.Or a c b d f g s h = (h.0, f truth_type h.1, g truth_type h.2)
  typed_binary Binary.Imply a c b d f g s h = (h.0, f truth_type h.1, g truth_type h.2)
  typed_binary Binary.Eq a c b d f g s h =
      let t = type_of records types a in
      let e = same_type_of a c t f h.1 in
      (h.0, subst (IsTyped records types c) e (f t h.1), subst (IsTyped records types d) e (g t h.2))
  typed_binary Binary.Lt a c b d f g s h = (h.0, f number_type h.1, g number_type h.2)
  typed_binary Binary.Le a c b d f g s h = (h.0, f number_type h.1, g number_type h.2)
  typed_binary Binary.Read a c b d f g s h = (f (sequence_type s) h.0, g number_type h.1)
  typed_binary Binary.Append a c b d f g s h =
      let t = type_of records types b in
      let e = same_type_of b d t g h.2 in
      (subst (λ r. s ≡ sequence_type r) e h.0, f s h.1, subst (IsTyped records types d) e (g t h.2))

  pub typed_update : (a b i j x y : Tree ℕ) → TypedAs a b → TypedAs i j → TypedAs x y → TypedAs (update a i x) (update b j y)
  typed_update a b i j x y f g k s h =
      let t = type_of records types x in
      let e = same_type_of x y t k h.3 in
      (subst (λ r. s ≡ sequence_type r) e h.0, f s h.1, g number_type h.2, subst (IsTyped records types y) e (k t h.3))

  pub typed_quantified : (q : Quantifier) (l m h n b c : Tree ℕ) → TypedAs l m → TypedAs h n → TypedAs b c → TypedAs (quantified q l h b) (quantified q m n c)
  typed_quantified q l m h n b c f g k s t = (t.0, f number_type t.1, g number_type t.2, k truth_type t.3)

  pub typed_listed : (l : Listed) (ts us : Trees ℕ) → ListTypedAs ts us → TypedAs (listed l ts) (listed l us)
  typed_listed (sequence_of t) ts us f s h = (h.0, h.1, f.each t h.2)
  typed_listed (record_of n) ts us f s h = (h.0, h.1, f.all (fields records n) h.2)

  pub typed_then : (t u : Tree ℕ) (ts us : Trees ℕ) → TypedAs t u → ListTypedAs ts us → ListTypedAs (tree_then t ts) (tree_then u us)
  typed_then t u ts us f g = record { each = λ s h. (f s h.0, g.each s h.1); all = all }
    where
      all : (ss : List ValueType) → AreTyped records types (tree_then t ts) ss → AreTyped records types (tree_then u us) ss
      all [] h = h
      all (s ∷ ss) h = (f s h.0, g.all ss h.1)

  pub typed_none : ListTypedAs no_trees no_trees
  typed_none = record { each = λ s h. h; all = λ ss h. h }

  -- ---- parts of what is typed

  -- the tree is typed
  abbrev pub HasSomeType : Tree ℕ → Type 0
  HasSomeType t = (s : ValueType) × IsTyped records types t s

  pub unary_part : (op : Unary) (a : Tree ℕ) (s : ValueType) → IsTyped records types (unary op a) s → HasSomeType a
  unary_part Unary.Neg a s h = (number_type, h.1)
  unary_part Unary.Not a s h = (truth_type, h.1)
  unary_part Unary.Size a s h = (sequence_type (element_type (type_of records types a)), h.1)
  unary_part (Unary.Field k) a s h = (type_of records types a, h.1)

  pub left_part : (op : Binary) (a b : Tree ℕ) (s : ValueType) → IsTyped records types (binary op a b) s → HasSomeType a
  left_part Binary.Add a b s h = (number_type, h.1)
  left_part Binary.Sub a b s h = (number_type, h.1)
  left_part Binary.Mul a b s h = (number_type, h.1)
  left_part Binary.Div a b s h = (number_type, h.1)
  left_part Binary.Rem a b s h = (number_type, h.1)
  left_part Binary.And a b s h = (truth_type, h.1)
  left_part Binary.Or a b s h = (truth_type, h.1)
  left_part Binary.Imply a b s h = (truth_type, h.1)
  left_part Binary.Eq a b s h = (type_of records types a, h.1)
  left_part Binary.Lt a b s h = (number_type, h.1)
  left_part Binary.Le a b s h = (number_type, h.1)
  left_part Binary.Read a b s h = (sequence_type s, h.0)
  left_part Binary.Append a b s h = (s, h.1)

  pub right_part : (op : Binary) (a b : Tree ℕ) (s : ValueType) → IsTyped records types (binary op a b) s → HasSomeType b
  right_part Binary.Add a b s h = (number_type, h.2)
  right_part Binary.Sub a b s h = (number_type, h.2)
  right_part Binary.Mul a b s h = (number_type, h.2)
  right_part Binary.Div a b s h = (number_type, h.2)
  right_part Binary.Rem a b s h = (number_type, h.2)
  right_part Binary.And a b s h = (truth_type, h.2)
  right_part Binary.Or a b s h = (truth_type, h.2)
  right_part Binary.Imply a b s h = (truth_type, h.2)
  right_part Binary.Eq a b s h = (type_of records types a, h.2)
  right_part Binary.Lt a b s h = (number_type, h.2)
  right_part Binary.Le a b s h = (number_type, h.2)
  right_part Binary.Read a b s h = (number_type, h.1)
  right_part Binary.Append a b s h = (type_of records types b, h.2)

  -- every tree of the list is typed
  abbrev pub EachHasSomeType : Trees ℕ → Type 0
  EachHasSomeType no_trees = Unit {0}
  EachHasSomeType (tree_then t ts) = HasSomeType t × EachHasSomeType ts

  each_typed : (ts : Trees ℕ) (s : ValueType) → EachIsTyped records types ts s → EachHasSomeType ts
  each_typed no_trees s h = tt
  each_typed (tree_then t ts) s h = ((s, h.0), each_typed ts s h.1)

  are_typed : (ts : Trees ℕ) (ss : List ValueType) → AreTyped records types ts ss → EachHasSomeType ts
  are_typed no_trees ss h = tt
  are_typed (tree_then t ts) [] h = absurd h
  are_typed (tree_then t ts) (s ∷ ss) h = ((s, h.0), are_typed ts ss h.1)

  pub listed_parts : (l : Listed) (ts : Trees ℕ) (s : ValueType) → IsTyped records types (listed l ts) s → EachHasSomeType ts
  listed_parts (sequence_of t) ts s h = each_typed ts t h.2
  listed_parts (record_of n) ts s h = are_typed ts (fields records n) h.2
