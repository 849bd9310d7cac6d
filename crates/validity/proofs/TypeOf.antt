-- The type that a well-typed tree has is the one that is read off it.
use Rattle.std.proofs.Common.{◌≡◌, ℕ, sym, ap}
use Rattle.std.specs.Option.{unwrap_or}
use Rattle.slang_values.specs.Value.{ValueType, unit_type, number_type, truth_type, sequence_type, record_type, Records, element_type, field_type}
use Rattle.slang_values.specs.Tree.{Tree, literal, truth_literal, name, bound, unary, binary, update, quantified, listed, sequence_of, record_of}
use Rattle.slang_values.specs.Typing.{NameTypes, type_of, IsFieldType, IsTyped}
use Rattle.slang_values.specs.declared.operators.Unary.{Unary}
use Rattle.slang_values.specs.declared.operators.Binary.{Binary}

field_type_is : (records : Records) (k : ℕ) (r t : ValueType) → IsFieldType records k r t → field_type records k r ≡ t
field_type_is records k unit_type t h = absurd h
field_type_is records k number_type t h = absurd h
field_type_is records k truth_type t h = absurd h
field_type_is records k (sequence_type s) t h = absurd h
field_type_is records k (record_type n) t h = sym h.1

module _ {A : Type 0} (records : Records) (types : NameTypes A) where
  pub type_of_typed : (a : Tree A) (t : ValueType) → IsTyped records types a t → type_of records types a ≡ t
  type_of_typed (literal z) t h = sym h
  type_of_typed (truth_literal b) t h = sym h
  type_of_typed (name a) t h = ap (λ o. unwrap_or o unit_type) h
  type_of_typed (bound n) t h = sym h
  type_of_typed (unary Unary.Neg a) t h = sym h.0
  type_of_typed (unary Unary.Not a) t h = sym h.0
  type_of_typed (unary Unary.Size a) t h = sym h.0
  type_of_typed (unary (Unary.Field k) a) t h = field_type_is records k (type_of records types a) t h.0
  type_of_typed (binary Binary.Add a b) t h = sym h.0
  type_of_typed (binary Binary.Sub a b) t h = sym h.0
  type_of_typed (binary Binary.Mul a b) t h = sym h.0
  type_of_typed (binary Binary.Div a b) t h = sym h.0
  type_of_typed (binary Binary.Rem a b) t h = sym h.0
  type_of_typed (binary Binary.And a b) t h = sym h.0
  type_of_typed (binary Binary.Or a b) t h = sym h.0
  type_of_typed (binary Binary.Imply a b) t h = sym h.0
  type_of_typed (binary Binary.Eq a b) t h = sym h.0
  type_of_typed (binary Binary.Lt a b) t h = sym h.0
  type_of_typed (binary Binary.Le a b) t h = sym h.0
  type_of_typed (binary Binary.Read a i) t h = ap element_type (type_of_typed a (sequence_type t) h.0)
  type_of_typed (binary Binary.Append a x) t h = type_of_typed a t h.1
  type_of_typed (update a i x) t h = type_of_typed a t h.1
  type_of_typed (quantified q low high body) t h = sym h.0
  type_of_typed (listed (sequence_of s) ts) t h = sym h.0
  type_of_typed (listed (record_of n) ts) t h = sym h.0
