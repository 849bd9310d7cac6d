-- Which trees are well typed, and of which type.
use Rattle.std.specs.Prelude.{◌≡◌, ℕ, suc, ◌<◌, List, [], ◌∷◌, length, get_or, Option, Some, true, ⊤}
use Rattle.std.specs.Option.{unwrap_or}
use Rattle.slang_values.specs.Value.{ValueType, unit_type, number_type, truth_type, sequence_type, record_type, Records, fields, element_type, field_type, is_known, Value, HasType}
use Rattle.slang_values.specs.Tree.{Tree, literal, truth_literal, name, bound, unary, binary, update, quantified, listed, Trees, no_trees, tree_then, sequence_of, record_of}
use Rattle.slang_values.specs.declared.operators.Unary.{Unary}
use Rattle.slang_values.specs.declared.operators.Binary.{Binary}

-- the type of each known name
abbrev pub NameTypes : Type 0 → Type 0
NameTypes A = A → Option ValueType

-- the type of a well-typed tree
abbrev pub type_of : {A : Type 0} → Records → NameTypes A → Tree A → ValueType
type_of records types (literal z) = number_type
type_of records types (truth_literal b) = truth_type
type_of records types (name a) = unwrap_or (types a) unit_type
type_of records types (bound n) = number_type
type_of records types (unary Unary.Neg a) = number_type
type_of records types (unary Unary.Not a) = truth_type
type_of records types (unary Unary.Size a) = number_type
type_of records types (unary (Unary.Field k) a) = field_type records k (type_of records types a)
type_of records types (binary Binary.Add a b) = number_type
type_of records types (binary Binary.Sub a b) = number_type
type_of records types (binary Binary.Mul a b) = number_type
type_of records types (binary Binary.Div a b) = number_type
type_of records types (binary Binary.Rem a b) = number_type
type_of records types (binary Binary.And a b) = truth_type
type_of records types (binary Binary.Or a b) = truth_type
type_of records types (binary Binary.Imply a b) = truth_type
type_of records types (binary Binary.Eq a b) = truth_type
type_of records types (binary Binary.Lt a b) = truth_type
type_of records types (binary Binary.Le a b) = truth_type
type_of records types (binary Binary.Read a i) = element_type (type_of records types a)
type_of records types (binary Binary.Append a x) = type_of records types a
type_of records types (update a i x) = type_of records types a
type_of records types (quantified q low high body) = truth_type
type_of records types (listed (sequence_of t) ts) = sequence_type t
type_of records types (listed (record_of n) ts) = record_type n

-- the type of the field at place k of a record of type r is t
abbrev pub IsFieldType : Records → ℕ → ValueType → ValueType → Type 0
IsFieldType records k unit_type t = ⊥
IsFieldType records k number_type t = ⊥
IsFieldType records k truth_type t = ⊥
IsFieldType records k (sequence_type s) t = ⊥
IsFieldType records k (record_type n) t = (k < length (fields records n)) × (t ≡ get_or (fields records n) k unit_type)

abbrev mutual
  -- The tree is well typed, of type t. Bound variables are numbers, also those that are loose.
  pub IsTyped : {A : Type 0} → Records → NameTypes A → Tree A → ValueType → Type 0
  IsTyped records types (literal z) t = t ≡ number_type
  IsTyped records types (truth_literal b) t = t ≡ truth_type
  IsTyped records types (name a) t = types a ≡ Some t
  IsTyped records types (bound n) t = t ≡ number_type
  IsTyped records types (unary Unary.Neg a) t = (t ≡ number_type) × IsTyped records types a number_type
  IsTyped records types (unary Unary.Not a) t = (t ≡ truth_type) × IsTyped records types a truth_type
  IsTyped records types (unary Unary.Size a) t =
      (t ≡ number_type) × IsTyped records types a (sequence_type (element_type (type_of records types a)))
  IsTyped records types (unary (Unary.Field k) a) t =
      IsFieldType records k (type_of records types a) t × IsTyped records types a (type_of records types a)
  IsTyped records types (binary Binary.Add a b) t = (t ≡ number_type) × IsTyped records types a number_type × IsTyped records types b number_type
  IsTyped records types (binary Binary.Sub a b) t = (t ≡ number_type) × IsTyped records types a number_type × IsTyped records types b number_type
  IsTyped records types (binary Binary.Mul a b) t = (t ≡ number_type) × IsTyped records types a number_type × IsTyped records types b number_type
  IsTyped records types (binary Binary.Div a b) t = (t ≡ number_type) × IsTyped records types a number_type × IsTyped records types b number_type
  IsTyped records types (binary Binary.Rem a b) t = (t ≡ number_type) × IsTyped records types a number_type × IsTyped records types b number_type
  IsTyped records types (binary Binary.And a b) t = (t ≡ truth_type) × IsTyped records types a truth_type × IsTyped records types b truth_type
  IsTyped records types (binary Binary.Or a b) t = (t ≡ truth_type) × IsTyped records types a truth_type × IsTyped records types b truth_type
  IsTyped records types (binary Binary.Imply a b) t = (t ≡ truth_type) × IsTyped records types a truth_type × IsTyped records types b truth_type
  -- both parts are of one type
  IsTyped records types (binary Binary.Eq a b) t =
      (t ≡ truth_type) × IsTyped records types a (type_of records types a) × IsTyped records types b (type_of records types a)
  IsTyped records types (binary Binary.Lt a b) t = (t ≡ truth_type) × IsTyped records types a number_type × IsTyped records types b number_type
  IsTyped records types (binary Binary.Le a b) t = (t ≡ truth_type) × IsTyped records types a number_type × IsTyped records types b number_type
  IsTyped records types (binary Binary.Read a i) t = IsTyped records types a (sequence_type t) × IsTyped records types i number_type
  IsTyped records types (binary Binary.Append a x) t =
      (t ≡ sequence_type (type_of records types x)) × IsTyped records types a t × IsTyped records types x (type_of records types x)
  IsTyped records types (update a i x) t =
      (t ≡ sequence_type (type_of records types x)) × IsTyped records types a t × IsTyped records types i number_type × IsTyped records types x (type_of records types x)
  IsTyped records types (quantified q low high body) t =
      (t ≡ truth_type) × IsTyped records types low number_type × IsTyped records types high number_type × IsTyped records types body truth_type
  IsTyped records types (listed (sequence_of s) ts) t = (t ≡ sequence_type s) × (is_known records s ≡ true) × EachIsTyped records types ts s
  IsTyped records types (listed (record_of n) ts) t = (t ≡ record_type n) × (n < length records) × AreTyped records types ts (fields records n)

  -- each of the trees is of type t
  pub EachIsTyped : {A : Type 0} → Records → NameTypes A → Trees A → ValueType → Type 0
  EachIsTyped records types no_trees t = ⊤
  EachIsTyped records types (tree_then a ts) t = IsTyped records types a t × EachIsTyped records types ts t

  -- the trees are of those types, one after the other
  pub AreTyped : {A : Type 0} → Records → NameTypes A → Trees A → List ValueType → Type 0
  AreTyped records types no_trees [] = ⊤
  AreTyped records types no_trees (t ∷ ts) = ⊥
  AreTyped records types (tree_then a as') [] = ⊥
  AreTyped records types (tree_then a as') (t ∷ ts) = IsTyped records types a t × AreTyped records types as' ts

-- the names have values of their types
abbrev pub FitNames : {A : Type 0} → Records → NameTypes A → (A → Value) → Type 0
FitNames {A} records types names = (a : A) (t : ValueType) → types a ≡ Some t → HasType records (names a) t

abbrev mutual
  -- Inside that many quantifiers no bound variable of the tree is loose.
  pub IsClosed : {A : Type 0} → ℕ → Tree A → Type 0
  IsClosed n (literal z) = ⊤
  IsClosed n (truth_literal b) = ⊤
  IsClosed n (name a) = ⊤
  IsClosed n (bound m) = m < n
  IsClosed n (unary op a) = IsClosed n a
  IsClosed n (binary op a b) = IsClosed n a × IsClosed n b
  IsClosed n (update a i x) = IsClosed n a × IsClosed n i × IsClosed n x
  IsClosed n (quantified q low high body) = IsClosed n low × IsClosed n high × IsClosed (suc n) body
  IsClosed n (listed l ts) = AreClosed n ts

  pub AreClosed : {A : Type 0} → ℕ → Trees A → Type 0
  AreClosed n no_trees = ⊤
  AreClosed n (tree_then a as') = IsClosed n a × AreClosed n as'
