-- What stands in the places of a typed tree's own names decides its type.
use Rattle.std.proofs.Common.{◌≡◌, List, [], ◌∷◌, Some, sym, ap, ◌∙◌, subst}
use Rattle.slang_values.specs.Value.{ValueType, number_type, truth_type, sequence_type, Records, fields, element_type}
use Rattle.slang_values.specs.Tree.{Tree, literal, truth_literal, name, bound, unary, binary, update, quantified, listed, Trees, no_trees, tree_then, sequence_of, record_of}
use Rattle.slang_values.specs.Typing.{NameTypes, type_of, IsFieldType, IsTyped, EachIsTyped, AreTyped}
use Rattle.slang_values.specs.declared.operators.Unary.{Unary}
use Rattle.slang_values.specs.declared.operators.Binary.{Binary}
use Rattle.validity.specs.Bind.{bind, bind_all, EachName, EachNameOfAll}
use Rattle.validity.proofs.TypeOf.{type_of_typed}

module _ {A B : Type 0} (records : Records) (types : NameTypes A) (new_types : NameTypes B) (f : A → Tree B) where
  -- what stands in the place of the name has the name's type
  abbrev pub FitsPlace : A → Type 0
  FitsPlace a = (t : ValueType) → types a ≡ Some t → IsTyped records new_types (f a) t

  mutual
    pub IsTyped-bind_names : (a : Tree A) (t : ValueType) → EachName FitsPlace a → IsTyped records types a t → IsTyped records new_types (bind f a) t
    IsTyped-bind_names (literal z) t e h = h
    IsTyped-bind_names (truth_literal b) t e h = h
    IsTyped-bind_names (name a) t e h = e t h
    IsTyped-bind_names (bound n) t e h = h
    IsTyped-bind_names (unary Unary.Neg a) t e h = (h.0, IsTyped-bind_names a number_type e h.1)
    IsTyped-bind_names (unary Unary.Not a) t e h = (h.0, IsTyped-bind_names a truth_type e h.1)
    IsTyped-bind_names (unary Unary.Size a) t e h =
        let inner = IsTyped-bind_names a (sequence_type (element_type (type_of records types a))) e h.1 in
        let is = type_of_typed records new_types (bind f a) (sequence_type (element_type (type_of records types a))) inner in
        (h.0, subst (λ s. IsTyped records new_types (bind f a) (sequence_type (element_type s))) (sym is) inner)
    IsTyped-bind_names (unary (Unary.Field k) a) t e h =
        let inner = IsTyped-bind_names a (type_of records types a) e h.1 in
        let is = sym (type_of_typed records new_types (bind f a) (type_of records types a) inner) in
        (subst (λ s. IsFieldType records k s t) is h.0, subst (λ s. IsTyped records new_types (bind f a) s) is inner)
    IsTyped-bind_names (binary Binary.Add a b) t e h = (h.0, IsTyped-bind_names a number_type e.0 h.1, IsTyped-bind_names b number_type e.1 h.2)
    IsTyped-bind_names (binary Binary.Sub a b) t e h = (h.0, IsTyped-bind_names a number_type e.0 h.1, IsTyped-bind_names b number_type e.1 h.2)
    IsTyped-bind_names (binary Binary.Mul a b) t e h = (h.0, IsTyped-bind_names a number_type e.0 h.1, IsTyped-bind_names b number_type e.1 h.2)
    IsTyped-bind_names (binary Binary.Div a b) t e h = (h.0, IsTyped-bind_names a number_type e.0 h.1, IsTyped-bind_names b number_type e.1 h.2)
    IsTyped-bind_names (binary Binary.Rem a b) t e h = (h.0, IsTyped-bind_names a number_type e.0 h.1, IsTyped-bind_names b number_type e.1 h.2)
    IsTyped-bind_names (binary Binary.And a b) t e h = (h.0, IsTyped-bind_names a truth_type e.0 h.1, IsTyped-bind_names b truth_type e.1 h.2)
    IsTyped-bind_names (binary Binary.Or a b) t e h = (h.0, IsTyped-bind_names a truth_type e.0 h.1, IsTyped-bind_names b truth_type e.1 h.2)
    IsTyped-bind_names (binary Binary.Imply a b) t e h = (h.0, IsTyped-bind_names a truth_type e.0 h.1, IsTyped-bind_names b truth_type e.1 h.2)
    IsTyped-bind_names (binary Binary.Lt a b) t e h = (h.0, IsTyped-bind_names a number_type e.0 h.1, IsTyped-bind_names b number_type e.1 h.2)
    IsTyped-bind_names (binary Binary.Le a b) t e h = (h.0, IsTyped-bind_names a number_type e.0 h.1, IsTyped-bind_names b number_type e.1 h.2)
    IsTyped-bind_names (binary Binary.Eq a b) t e h =
        let left = IsTyped-bind_names a (type_of records types a) e.0 h.1 in
        let right = IsTyped-bind_names b (type_of records types a) e.1 h.2 in
        let is = sym (type_of_typed records new_types (bind f a) (type_of records types a) left) in
        (h.0, subst (λ s. IsTyped records new_types (bind f a) s) is left, subst (λ s. IsTyped records new_types (bind f b) s) is right)
    IsTyped-bind_names (binary Binary.Read a i) t e h = (IsTyped-bind_names a (sequence_type t) e.0 h.0, IsTyped-bind_names i number_type e.1 h.1)
    IsTyped-bind_names (binary Binary.Append a x) t e h =
        let element = IsTyped-bind_names x (type_of records types x) e.1 h.2 in
        let is = sym (type_of_typed records new_types (bind f x) (type_of records types x) element) in
        (h.0 ∙ ap sequence_type is, IsTyped-bind_names a t e.0 h.1, subst (λ s. IsTyped records new_types (bind f x) s) is element)
    IsTyped-bind_names (update a i x) t e h =
        let element = IsTyped-bind_names x (type_of records types x) e.2 h.3 in
        let is = sym (type_of_typed records new_types (bind f x) (type_of records types x) element) in (
          h.0 ∙ ap sequence_type is,
          IsTyped-bind_names a t e.0 h.1,
          IsTyped-bind_names i number_type e.1 h.2,
          subst (λ s. IsTyped records new_types
              (bind f x) s) is element,
        )
    IsTyped-bind_names (quantified q low high body) t e h =
        (h.0, IsTyped-bind_names low number_type e.0 h.1, IsTyped-bind_names high number_type e.1 h.2, IsTyped-bind_names body truth_type e.2 h.3)
    IsTyped-bind_names (listed (sequence_of s) ts) t e h = (h.0, h.1, EachIsTyped-bind_names ts s e h.2)
    IsTyped-bind_names (listed (record_of n) ts) t e h = (h.0, h.1, AreTyped-bind_names ts (fields records n) e h.2)

    EachIsTyped-bind_names : (ts : Trees A) (t : ValueType) → EachNameOfAll FitsPlace ts → EachIsTyped records types ts t → EachIsTyped records new_types
        (bind_all f ts) t
    EachIsTyped-bind_names no_trees t e h = tt
    EachIsTyped-bind_names (tree_then a ts) t e h = (IsTyped-bind_names a t e.0 h.0, EachIsTyped-bind_names ts t e.1 h.1)

    AreTyped-bind_names : (ts : Trees A) (ss : List ValueType) → EachNameOfAll FitsPlace ts → AreTyped records types ts ss → AreTyped records new_types
        (bind_all f ts) ss
    AreTyped-bind_names no_trees [] e h = tt
    AreTyped-bind_names no_trees (s ∷ ss) e h = h
    AreTyped-bind_names (tree_then a ts) [] e h = h
    AreTyped-bind_names (tree_then a ts) (s ∷ ss) e h = (IsTyped-bind_names a s e.0 h.0, AreTyped-bind_names ts ss e.1 h.1)
