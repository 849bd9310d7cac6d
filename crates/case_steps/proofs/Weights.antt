-- A reduced tree weighs no more.
use Rattle.std.proofs.Common.{◌≡◌, ℕ, zero, suc, ◌+◌, ◌≤◌, refl, sym, ◌∙◌, subst, arith}
use Rattle.slang_values.specs.Value.{ValueType, number_type, Records}
use Rattle.slang_values.specs.Tree.{Tree, literal, truth_literal, name, bound, unary, binary, update, quantified, listed, Trees, no_trees, tree_then, Listed, sequence_of, record_of}
use Rattle.slang_values.specs.Typing.{NameTypes, type_of}
use Rattle.slang_values.specs.declared.operators.Unary.{Unary}
use Rattle.slang_values.specs.declared.operators.Binary.{Binary}
use Rattle.validity.proofs.TypeOf.{type_of_typed}
use Rattle.read_rules.specs.Reduced.{tree_at_place, size_tree, field_tree, unary_tree, reduced, all_reduced}
use Rattle.read_rules.proofs.ReducedValues.{typed_reduced}
use Rattle.read_rules.proofs.Typing.{TypedAs, HasSomeType, EachHasSomeType, unary_part, left_part, right_part, listed_parts}
use Rattle.case_rules.specs.Cases.{equality_weight, binary_weight, weight, total_weight}

pub no_equality_weight : (records : Records) (depth : ℕ) → equality_weight records depth number_type ≡ 0
no_equality_weight records zero = refl
no_equality_weight records (suc depth) = refl

module _ (records : Records) where
  -- a tree over a heavier left part is heavier by as much at least
  pub left_heavier : (op : Binary) (t : ValueType) (a b c d k : ℕ) → a + k ≤ c → b ≤ d → binary_weight records op t a b + k ≤ binary_weight records op t c d
  left_heavier Binary.Add t a b c d k h g = omega arith
  left_heavier Binary.Sub t a b c d k h g = omega arith
  left_heavier Binary.Mul t a b c d k h g = omega arith
  left_heavier Binary.Div t a b c d k h g = omega arith
  left_heavier Binary.Rem t a b c d k h g = omega arith
  left_heavier Binary.And t a b c d k h g = omega arith
  left_heavier Binary.Or t a b c d k h g = omega arith
  left_heavier Binary.Imply t a b c d k h g = omega arith
  left_heavier Binary.Eq t a b c d k h g = omega arith
  left_heavier Binary.Lt t a b c d k h g = omega arith
  left_heavier Binary.Le t a b c d k h g = omega arith
  left_heavier Binary.Read t a b c d k h g = omega arith
  left_heavier Binary.Append t a b c d k h g = omega arith

  pub right_heavier : (op : Binary) (t : ValueType) (a b c d k : ℕ) → a ≤ c → b + k ≤ d → binary_weight records op t a b + k ≤ binary_weight records op t c d
  right_heavier Binary.Add t a b c d k h g = omega arith
  right_heavier Binary.Sub t a b c d k h g = omega arith
  right_heavier Binary.Mul t a b c d k h g = omega arith
  right_heavier Binary.Div t a b c d k h g = omega arith
  right_heavier Binary.Rem t a b c d k h g = omega arith
  right_heavier Binary.And t a b c d k h g = omega arith
  right_heavier Binary.Or t a b c d k h g = omega arith
  right_heavier Binary.Imply t a b c d k h g = omega arith
  right_heavier Binary.Eq t a b c d k h g = omega arith
  right_heavier Binary.Lt t a b c d k h g = omega arith
  right_heavier Binary.Le t a b c d k h g = omega arith
  right_heavier Binary.Read t a b c d k h g = omega arith
  right_heavier Binary.Append t a b c d k h g = omega arith

  pub above_left : (op : Binary) (t : ValueType) (a b : ℕ) → a ≤ binary_weight records op t a b
  above_left Binary.Add t a b = omega arith
  above_left Binary.Sub t a b = omega arith
  above_left Binary.Mul t a b = omega arith
  above_left Binary.Div t a b = omega arith
  above_left Binary.Rem t a b = omega arith
  above_left Binary.And t a b = omega arith
  above_left Binary.Or t a b = omega arith
  above_left Binary.Imply t a b = omega arith
  above_left Binary.Eq t a b = omega arith
  above_left Binary.Lt t a b = omega arith
  above_left Binary.Le t a b = omega arith
  above_left Binary.Read t a b = omega arith
  above_left Binary.Append t a b = omega arith

  pub above_right : (op : Binary) (t : ValueType) (a b : ℕ) → b ≤ binary_weight records op t a b
  above_right Binary.Add t a b = omega arith
  above_right Binary.Sub t a b = omega arith
  above_right Binary.Mul t a b = omega arith
  above_right Binary.Div t a b = omega arith
  above_right Binary.Rem t a b = omega arith
  above_right Binary.And t a b = omega arith
  above_right Binary.Or t a b = omega arith
  above_right Binary.Imply t a b = omega arith
  above_right Binary.Eq t a b = omega arith
  above_right Binary.Lt t a b = omega arith
  above_right Binary.Le t a b = omega arith
  above_right Binary.Read t a b = omega arith
  above_right Binary.Append t a b = omega arith

  pub some_weight : (op : Binary) (t : ValueType) (a b : ℕ) → 1 ≤ binary_weight records op t a b
  some_weight Binary.Add t a b = omega arith
  some_weight Binary.Sub t a b = omega arith
  some_weight Binary.Mul t a b = omega arith
  some_weight Binary.Div t a b = omega arith
  some_weight Binary.Rem t a b = omega arith
  some_weight Binary.And t a b = omega arith
  some_weight Binary.Or t a b = omega arith
  some_weight Binary.Imply t a b = omega arith
  some_weight Binary.Eq t a b = omega arith
  some_weight Binary.Lt t a b = omega arith
  some_weight Binary.Le t a b = omega arith
  some_weight Binary.Read t a b = omega arith
  some_weight Binary.Append t a b = omega arith

  module _ (types : NameTypes ℕ) where
    pub weighs : (t : Tree ℕ) → 1 ≤ weight records types t
    weighs (literal z) = omega arith
    weighs (truth_literal b) = omega arith
    weighs (name n) = omega arith
    weighs (bound n) = omega arith
    weighs (unary op a) = omega arith
    weighs (binary op a b) = some_weight op (type_of records types a) (weight records types a) (weight records types b)
    weighs (update a i x) = omega arith
    weighs (quantified q low high body) = omega arith
    weighs (listed (sequence_of t) ts) = omega arith
    weighs (listed (record_of n) ts) = omega arith

    -- ---- sizes and fields

    size_lighter : (a : Tree ℕ) → weight records types (size_tree a) ≤ 1 + weight records types a
    size_lighter (literal z) = omega arith
    size_lighter (truth_literal b) = omega arith
    size_lighter (name n) = omega arith
    size_lighter (bound n) = omega arith
    size_lighter (unary op a) = omega arith
    size_lighter (binary Binary.Add a x) = omega arith
    size_lighter (binary Binary.Sub a x) = omega arith
    size_lighter (binary Binary.Mul a x) = omega arith
    size_lighter (binary Binary.Div a x) = omega arith
    size_lighter (binary Binary.Rem a x) = omega arith
    size_lighter (binary Binary.And a x) = omega arith
    size_lighter (binary Binary.Or a x) = omega arith
    size_lighter (binary Binary.Imply a x) = omega arith
    size_lighter (binary Binary.Eq a x) = omega arith
    size_lighter (binary Binary.Lt a x) = omega arith
    size_lighter (binary Binary.Le a x) = omega arith
    size_lighter (binary Binary.Read a x) = omega arith
    size_lighter (binary Binary.Append a x) = omega (arith, size_lighter a)
    size_lighter (update a i x) = omega (arith, size_lighter a)
    size_lighter (quantified q low high body) = omega arith
    size_lighter (listed (sequence_of t) ts) = omega arith
    size_lighter (listed (record_of n) ts) = omega arith

    place_lighter : (ts : Trees ℕ) (k : ℕ) (past : Tree ℕ) (m : ℕ) → weight records types past ≤ m → total_weight records types ts ≤ m → weight records types (tree_at_place ts k past) ≤ m
    place_lighter no_trees k past m h g = h
    place_lighter (tree_then t ts) zero past m h g = omega arith
    place_lighter (tree_then t ts) (suc k) past m h g = place_lighter ts k past m h (omega arith)

    field_lighter : (k : ℕ) (a : Tree ℕ) → weight records types (field_tree k a) ≤ 1 + weight records types a
    field_lighter k (listed (record_of n) ts) =
        place_lighter ts k (unary (Unary.Field k) (listed (record_of n) ts)) (1 + (1 + total_weight records types ts)) (omega arith) (omega arith)
    field_lighter k (listed (sequence_of t) ts) = omega arith
    field_lighter k (literal z) = omega arith
    field_lighter k (truth_literal b) = omega arith
    field_lighter k (name n) = omega arith
    field_lighter k (bound n) = omega arith
    field_lighter k (unary op a) = omega arith
    field_lighter k (binary op a b) = omega arith
    field_lighter k (update a i x) = omega arith
    field_lighter k (quantified q low high body) = omega arith

    unary_lighter : (op : Unary) (a : Tree ℕ) → weight records types (unary_tree op a) ≤ 1 + weight records types a
    unary_lighter Unary.Neg a = omega arith
    unary_lighter Unary.Not a = omega arith
    unary_lighter Unary.Size a = size_lighter a
    unary_lighter (Unary.Field k) a = field_lighter k a

    -- ---- what is typed as a tree has its type

    pub same_type_as : (a b : Tree ℕ) → HasSomeType records types a → TypedAs records types a b → type_of records types b ≡ type_of records types a
    same_type_as a b h f = type_of_typed records types b h.0 (f h.0 h.1) ∙ sym (type_of_typed records types a h.0 h.1)

    list_lighter : (l : Listed) (ts us : Trees ℕ) → total_weight records types us ≤ total_weight records types ts → weight records types (listed l us) ≤ weight records types (listed l ts)
    list_lighter (sequence_of t) ts us h = omega arith
    list_lighter (record_of n) ts us h = omega arith

    mutual
      pub reduced_lighter : (t : Tree ℕ) → HasSomeType records types t → weight records types (reduced t) ≤ weight records types t
      reduced_lighter (literal z) h = omega arith
      reduced_lighter (truth_literal b) h = omega arith
      reduced_lighter (name n) h = omega arith
      reduced_lighter (bound n) h = omega arith
      reduced_lighter (unary op a) h = omega (arith, unary_lighter op (reduced a), reduced_lighter a (unary_part records types op a h.0 h.1))
      reduced_lighter (binary op a b) h =
          let p = left_part records types op a b h.0 h.1 in
          let l = reduced_lighter a p in
          let r = reduced_lighter b (right_part records types op a b h.0 h.1) in
          let e = same_type_as a (reduced a) p (typed_reduced records types a) in
          subst (λ s. binary_weight records op s (weight records types (reduced a)) (weight records types (reduced b)) ≤ weight records types (binary op a b)) (sym e)
          (let m = left_heavier op (type_of records types a) (weight records types (reduced a)) (weight records types (reduced b)) (weight records types a) (weight records types b) 0 (omega arith) r in omega arith)
      reduced_lighter (update a i x) h =
          let l = reduced_lighter a (h.0, h.1.1) in
          let m = reduced_lighter i (number_type, h.1.2) in
          let r = reduced_lighter x (type_of records types x, h.1.3) in
          omega arith
      reduced_lighter (quantified q low high body) h =
          let l = reduced_lighter low (number_type, h.1.1) in
          let r = reduced_lighter high (number_type, h.1.2) in
          omega arith
      reduced_lighter (listed l ts) h = list_lighter l ts (all_reduced ts) (all_lighter ts (listed_parts records types l ts h.0 h.1))

      all_lighter : (ts : Trees ℕ) → EachHasSomeType records types ts → total_weight records types (all_reduced ts) ≤ total_weight records types ts
      all_lighter no_trees h = omega arith
      all_lighter (tree_then t ts) h = omega (arith, reduced_lighter t h.0, all_lighter ts h.1)
