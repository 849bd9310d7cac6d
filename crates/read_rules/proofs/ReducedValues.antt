-- Reducing keeps types and values.
use Rattle.std.proofs.Common.{◌≡◌, ℕ, zero, suc, ◌<◌, ◌+ℤ◌, ℤ, pos, negsuc, List, [], ◌∷◌, length, get_or, refl, sym, ap, ap₂, ◌∙◌, subst, arith}
use Rattle.std.proofs.lemmas.Int.{ints}
use Rattle.slang_values.specs.Number.{numbers_between}
use Rattle.slang_values.specs.Value.{ValueType, unit_type, number_type, truth_type, sequence_type, record_type, Records, fields, element_type, AreWellFormed, Value, unit, number, truth, sequence, record_value, Values, no_values, value_then, number_of, truth_of, count, value_at, with_value_at, with_value_last, size_of, field_of, updated, appended, HasType}
use Rattle.slang_values.specs.Tree.{Tree, literal, truth_literal, name, bound, unary, binary, update, quantified, listed, Trees, no_trees, tree_then, sequence_of, record_of, Bounds, inside, unary_value, binary_value, holds_of, listed_value, value, values}
use Rattle.slang_values.specs.Typing.{NameTypes, type_of, IsFieldType, IsTyped, AreTyped, FitNames}
use Rattle.slang_values.specs.declared.operators.Unary.{Unary}
use Rattle.slang_values.specs.declared.operators.Binary.{Binary}
use Rattle.slang_values.proofs.Typed.{HasType-value}
use Rattle.validity.proofs.TypeOf.{type_of_typed}
use Rattle.read_rules.specs.Reduced.{trees_length, tree_at_place, size_tree, field_tree, unary_tree, reduced, all_reduced}
use Rattle.read_rules.proofs.Typing.{TypedAs, ListTypedAs, typed_unary, typed_binary, typed_update, typed_quantified, typed_listed, typed_then, typed_none, EachHasSomeType, unary_part, left_part, right_part, listed_parts}

pub sequence_inj : {s t : ValueType} → sequence_type s ≡ sequence_type t → s ≡ t
sequence_inj e = cc

pub record_inj : {m n : ℕ} → record_type m ≡ record_type n → m ≡ n
record_inj e = cc

-- ---- values

count-with_value_at : (vs : Values) (n : ℕ) (x : Value) → count (with_value_at vs n x) ≡ count vs
count-with_value_at no_values n x = refl
count-with_value_at (value_then v vs) zero x = refl
count-with_value_at (value_then v vs) (suc n) x = ap suc (count-with_value_at vs n x)

count-with_value_last : (vs : Values) (x : Value) → count (with_value_last vs x) ≡ suc (count vs)
count-with_value_last no_values x = refl
count-with_value_last (value_then v vs) x = ap suc (count-with_value_last vs x)

size-updated : (v : Value) (i : ℤ) (x : Value) → size_of (updated v i x) ≡ size_of v
size-updated unit i x = refl
size-updated (number z) i x = refl
size-updated (truth b) i x = refl
size-updated (sequence t vs) (pos n) x = count-with_value_at vs n x
size-updated (sequence t vs) (negsuc n) x = refl
size-updated (record_value n vs) i x = refl

size-appended : (records : Records) (v x : Value) (t : ValueType) → HasType records v (sequence_type t) → size_of (appended v x) ≡ suc (size_of v)
size-appended records unit x t h = absurd (cc)
size-appended records (number z) x t h = absurd (cc)
size-appended records (truth b) x t h = absurd (cc)
size-appended records (sequence s vs) x t h = count-with_value_last vs x
size-appended records (record_value n vs) x t h = absurd (let e = h.0 in cc)

value_at-again : (vs : Values) (k : ℕ) (d : Value) → value_at vs k (value_at vs k d) ≡ value_at vs k d
value_at-again no_values k d = refl
value_at-again (value_then v vs) zero d = refl
value_at-again (value_then v vs) (suc k) d = value_at-again vs k d

one_more : (n : ℕ) → number (pos n +ℤ pos 1) ≡ number (pos (suc n))
one_more n = ap number (omega (arith, ints))

module _ (records : Records) (types : NameTypes ℕ) where
  -- ---- types

  pub size_unary : (a : Tree ℕ) (t : ValueType) → IsTyped records types a (sequence_type t) → IsTyped records types (unary Unary.Size a) number_type
  size_unary a t h = (refl, subst (λ r. IsTyped records types a (sequence_type (element_type r))) (sym (type_of_typed records types a (sequence_type t) h)) h)

  typed_size : (a : Tree ℕ) (t : ValueType) → IsTyped records types a (sequence_type t) → IsTyped records types (size_tree a) number_type
  typed_size (literal z) t h = size_unary (literal z) t h
  typed_size (truth_literal b) t h = size_unary (truth_literal b) t h
  typed_size (name n) t h = size_unary (name n) t h
  typed_size (bound n) t h = size_unary (bound n) t h
  typed_size (unary op a) t h = size_unary (unary op a) t h
  typed_size (binary Binary.Append a x) t h = (refl, typed_size a t h.1, refl)
  typed_size (binary Binary.Add a x) t h = size_unary (binary Binary.Add a x) t h
  typed_size (binary Binary.Sub a x) t h = size_unary (binary Binary.Sub a x) t h
  typed_size (binary Binary.Mul a x) t h = size_unary (binary Binary.Mul a x) t h
  typed_size (binary Binary.Div a x) t h = size_unary (binary Binary.Div a x) t h
  typed_size (binary Binary.Rem a x) t h = size_unary (binary Binary.Rem a x) t h
  typed_size (binary Binary.And a x) t h = size_unary (binary Binary.And a x) t h
  typed_size (binary Binary.Or a x) t h = size_unary (binary Binary.Or a x) t h
  typed_size (binary Binary.Imply a x) t h = size_unary (binary Binary.Imply a x) t h
  typed_size (binary Binary.Eq a x) t h = size_unary (binary Binary.Eq a x) t h
  typed_size (binary Binary.Lt a x) t h = size_unary (binary Binary.Lt a x) t h
  typed_size (binary Binary.Le a x) t h = size_unary (binary Binary.Le a x) t h
  typed_size (binary Binary.Read a x) t h = size_unary (binary Binary.Read a x) t h
  typed_size (update a i x) t h = typed_size a t h.1
  typed_size (quantified q low high body) t h = size_unary (quantified q low high body) t h
  typed_size (listed (sequence_of s) ts) t h = refl
  typed_size (listed (record_of n) ts) t h = size_unary (listed (record_of n) ts) t h

  typed_place : (ts : Trees ℕ) (ss : List ValueType) (k : ℕ) (past : Tree ℕ) → AreTyped records types ts ss → k < length ss → IsTyped records types (tree_at_place ts k past) (get_or ss k unit_type)
  typed_place no_trees [] k past h l = absurd (omega arith)
  typed_place no_trees (s ∷ ss) k past h l = absurd h
  typed_place (tree_then t ts) [] k past h l = absurd h
  typed_place (tree_then t ts) (s ∷ ss) zero past h l = h.0
  typed_place (tree_then t ts) (s ∷ ss) (suc k) past h l = typed_place ts ss k past h.1 (omega arith)

  field_unary : (k : ℕ) (a : Tree ℕ) (r s : ValueType) → IsFieldType records k r s → IsTyped records types a r → IsTyped records types (unary (Unary.Field k) a) s
  field_unary k a r s f h =
      let e = sym (type_of_typed records types a r h) in (subst (λ u. IsFieldType records k u s) e f, subst (IsTyped records types a) e h)

  typed_field : (k : ℕ) (a : Tree ℕ) (r s : ValueType) → IsFieldType records k r s → IsTyped records types a r → IsTyped records types (field_tree k a) s
  typed_field k (listed (record_of n) ts) r s f h =
      let g : IsFieldType records k (record_type n) s = subst (λ u. IsFieldType records k u s) h.0 f in
      subst (IsTyped records types (field_tree k (listed (record_of n) ts))) (sym g.1) (typed_place ts (fields records n) k (unary (Unary.Field k) (listed (record_of n) ts)) h.2 g.0)
  typed_field k (listed (sequence_of t) ts) r s f h = field_unary k (listed (sequence_of t) ts) r s f h
  typed_field k (literal z) r s f h = field_unary k (literal z) r s f h
  typed_field k (truth_literal b) r s f h = field_unary k (truth_literal b) r s f h
  typed_field k (name n) r s f h = field_unary k (name n) r s f h
  typed_field k (bound n) r s f h = field_unary k (bound n) r s f h
  typed_field k (unary op a) r s f h = field_unary k (unary op a) r s f h
  typed_field k (binary op a b) r s f h = field_unary k (binary op a b) r s f h
  typed_field k (update a i x) r s f h = field_unary k (update a i x) r s f h
  typed_field k (quantified q low high body) r s f h = field_unary k (quantified q low high body) r s f h

  typed_unary_tree : (op : Unary) (a b : Tree ℕ) → TypedAs records types a b → TypedAs records types (unary op a) (unary_tree op b)
  typed_unary_tree Unary.Neg a b f s h = typed_unary records types Unary.Neg a b f s h
  typed_unary_tree Unary.Not a b f s h = typed_unary records types Unary.Not a b f s h
  typed_unary_tree Unary.Size a b f s h =
      let t = element_type (type_of records types a) in
      subst (IsTyped records types (size_tree b)) (sym h.0) (typed_size b t (f (sequence_type t) h.1))
  typed_unary_tree (Unary.Field k) a b f s h = typed_field k b (type_of records types a) s h.0 (f (type_of records types a) h.1)

  mutual
    pub typed_reduced : (t : Tree ℕ) → TypedAs records types t (reduced t)
    typed_reduced (literal z) s h = h
    typed_reduced (truth_literal b) s h = h
    typed_reduced (name n) s h = h
    typed_reduced (bound n) s h = h
    typed_reduced (unary op a) s h = typed_unary_tree op a (reduced a) (typed_reduced a) s h
    typed_reduced (binary op a b) s h = typed_binary records types op a (reduced a) b (reduced b) (typed_reduced a) (typed_reduced b) s h
    typed_reduced (update a i x) s h =
        typed_update records types a (reduced a) i (reduced i) x (reduced x) (typed_reduced a) (typed_reduced i) (typed_reduced x) s h
    typed_reduced (quantified q low high body) s h =
        typed_quantified records types q low (reduced low) high (reduced high) body (reduced body) (typed_reduced low) (typed_reduced high) (typed_reduced body) s h
    typed_reduced (listed l ts) s h = typed_listed records types l ts (all_reduced ts) (all_typed_reduced ts) s h

    all_typed_reduced : (ts : Trees ℕ) → ListTypedAs records types ts (all_reduced ts)
    all_typed_reduced no_trees = typed_none records types
    all_typed_reduced (tree_then t ts) = typed_then records types t (reduced t) ts (all_reduced ts) (typed_reduced t) (all_typed_reduced ts)

module _ (records : Records) (fine : AreWellFormed records) (types : NameTypes ℕ) (names : ℕ → Value) (fit : FitNames records types names) where
  pub count-values : (e : Bounds) (ts : Trees ℕ) → count (values records names e ts) ≡ trees_length ts
  count-values e no_trees = refl
  count-values e (tree_then t ts) = ap suc (count-values e ts)

  value-place : (e : Bounds) (ts : Trees ℕ) (k : ℕ) (past : Tree ℕ) → value records names e (tree_at_place ts k past) ≡ value_at (values records names e ts) k (value records names e past)
  value-place e no_trees k past = refl
  value-place e (tree_then t ts) zero past = refl
  value-place e (tree_then t ts) (suc k) past = value-place e ts k past

  value_size : (e : Bounds) (a : Tree ℕ) (t : ValueType) → IsTyped records types a (sequence_type t) → value records names e (size_tree a) ≡ number (pos (size_of (value records names e a)))
  value_size e (literal z) t h = refl
  value_size e (truth_literal b) t h = refl
  value_size e (name n) t h = refl
  value_size e (bound n) t h = refl
  value_size e (unary op a) t h = refl
  value_size e (binary Binary.Append a x) t h =
      ap (λ v. number (number_of v +ℤ pos 1)) (value_size e a t h.1) ∙ one_more (size_of (value records names e a)) ∙
      ap (λ n. number (pos n)) (sym (size-appended records (value records names e a) (value records names e x) t (HasType-value records fine types names fit a (sequence_type t) e h.1)))
  value_size e (binary Binary.Add a x) t h = refl
  value_size e (binary Binary.Sub a x) t h = refl
  value_size e (binary Binary.Mul a x) t h = refl
  value_size e (binary Binary.Div a x) t h = refl
  value_size e (binary Binary.Rem a x) t h = refl
  value_size e (binary Binary.And a x) t h = refl
  value_size e (binary Binary.Or a x) t h = refl
  value_size e (binary Binary.Imply a x) t h = refl
  value_size e (binary Binary.Eq a x) t h = refl
  value_size e (binary Binary.Lt a x) t h = refl
  value_size e (binary Binary.Le a x) t h = refl
  value_size e (binary Binary.Read a x) t h = refl
  value_size e (update a i x) t h =
      value_size e a t h.1 ∙ ap (λ n. number (pos n)) (sym (size-updated (value records names e a) (number_of (value records names e i)) (value records names e x)))
  value_size e (quantified q low high body) t h = refl
  value_size e (listed (sequence_of s) ts) t h = ap (λ n. number (pos n)) (sym (count-values e ts))
  value_size e (listed (record_of n) ts) t h = refl

  value_field : (e : Bounds) (k : ℕ) (a : Tree ℕ) → value records names e (field_tree k a) ≡ field_of k (value records names e a)
  value_field e k (listed (record_of n) ts) = value-place e ts k (unary (Unary.Field k) (listed (record_of n) ts)) ∙ value_at-again (values records names e ts) k unit
  value_field e k (listed (sequence_of t) ts) = refl
  value_field e k (literal z) = refl
  value_field e k (truth_literal b) = refl
  value_field e k (name n) = refl
  value_field e k (bound n) = refl
  value_field e k (unary op a) = refl
  value_field e k (binary op a b) = refl
  value_field e k (update a i x) = refl
  value_field e k (quantified q low high body) = refl

  value_unary : (e : Bounds) (op : Unary) (a b : Tree ℕ) (s : ValueType) → IsTyped records types (unary op a) s → TypedAs records types a b → value records names e b ≡ value records names e a →
      value records names e (unary_tree op b) ≡ unary_value op (value records names e a)
  value_unary e Unary.Neg a b s h f same = ap (unary_value Unary.Neg) same
  value_unary e Unary.Not a b s h f same = ap (unary_value Unary.Not) same
  value_unary e Unary.Size a b s h f same =
      let t = element_type (type_of records types a) in value_size e b t (f (sequence_type t) h.1) ∙ ap (λ v. number (pos (size_of v))) same
  value_unary e (Unary.Field k) a b s h f same = value_field e k b ∙ ap (field_of k) same

  mutual
    pub value_reduced : (t : Tree ℕ) (s : ValueType) (e : Bounds) → IsTyped records types t s → value records names e (reduced t) ≡ value records names e t
    value_reduced (literal z) s e h = refl
    value_reduced (truth_literal b) s e h = refl
    value_reduced (name n) s e h = refl
    value_reduced (bound n) s e h = refl
    value_reduced (unary op a) s e h =
        let p = unary_part records types op a s h in value_unary e op a (reduced a) s h (typed_reduced records types a) (value_reduced a p.0 e p.1)
    value_reduced (binary op a b) s e h =
        let p = left_part records types op a b s h in
        let q = right_part records types op a b s h in
        ap₂ (binary_value records op) (value_reduced a p.0 e p.1) (value_reduced b q.0 e q.1)
    value_reduced (update a i x) s e h =
        let p = value_reduced a s e h.1 in
        let q = value_reduced i number_type e h.2 in
        let r = value_reduced x (type_of records types x) e h.3 in
        λ j. updated (p j) (number_of (q j)) (r j)
    value_reduced (quantified q low high body) s e h =
        let l = value_reduced low number_type e h.1 in
        let r = value_reduced high number_type e h.2 in
        let b : (k : ℤ) → value records names (inside k e) (reduced body) ≡ value records names (inside k e) body = λ k. value_reduced body truth_type (inside k e) h.3 in
        λ j. truth (holds_of q (λ k. truth_of (b k j)) (numbers_between (number_of (l j)) (number_of (r j))))
    value_reduced (listed l ts) s e h = ap (listed_value l) (values_reduced ts e (listed_parts records types l ts s h))

    values_reduced : (ts : Trees ℕ) (e : Bounds) → EachHasSomeType records types ts → values records names e (all_reduced ts) ≡ values records names e ts
    values_reduced no_trees e h = refl
    values_reduced (tree_then t ts) e h = ap₂ value_then (value_reduced t h.0.0 e h.0.1) (values_reduced ts e h.1)
