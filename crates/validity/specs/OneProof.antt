-- That a sequent is well sorted has one proof at most, as a type's invariant must.
use Rattle.std.proofs.Common.{◌≡◌, ℕ, suc, List, [], ◌∷◌, get_or, true, ap, subst}
use Rattle.std.specs.Coded.{×_prop, Unit-prop, le_prop}
use mathlib.Core.HLevel.{collapsible→set}
use Rattle.std.proofs.Math.Bool.{Bool-set}
use Rattle.std.proofs.Props.{props}
use Rattle.slang_values.proofs.Equality.{same_type-true, same_type_refl}
use Rattle.slang_values.specs.Value.{element_type, ValueType, unit_type, number_type, truth_type, sequence_type, record_type, same_type, Records, fields, AreWellFormed}
use Rattle.slang_values.specs.Tree.{Tree, literal, truth_literal, name, bound, unary, binary, update, quantified, listed, Trees, no_trees, tree_then, sequence_of, record_of}
use Rattle.slang_values.specs.Typing.{NameTypes, type_of, IsFieldType, IsTyped, EachIsTyped, AreTyped, IsClosed, AreClosed}
use Rattle.slang_values.specs.declared.operators.Unary.{Unary}
use Rattle.slang_values.specs.declared.operators.Binary.{Binary}
use Rattle.validity.specs.Validity.{SequentTree, symbol_types, IsClaim, IsWellSorted}

pub type_set : IsSet ValueType
type_set = collapsible→set
    (λ s t e. same_type-true s t (subst (λ u. same_type s u ≡ true) e (same_type_refl s)))
    (λ s t e f. ap (same_type-true s t) (Bool-set _ _ _ _))

IsFieldType-prop : (records : Records) (k : ℕ) (r t : ValueType) → IsProp (IsFieldType records k r t)
IsFieldType-prop records k unit_type t = λ x y. absurd x
IsFieldType-prop records k number_type t = λ x y. absurd x
IsFieldType-prop records k truth_type t = λ x y. absurd x
IsFieldType-prop records k (sequence_type s) t = λ x y. absurd x
IsFieldType-prop records k (record_type n) t = ×_prop le_prop (type_set _ _)

pub three : {A B C : Type 0} → IsProp A → IsProp B → IsProp C → IsProp (A × B × C)
three p q r x y i = (p x.0 y.0 i, q x.1 y.1 i, r x.2 y.2 i)

pub four : {A B C D : Type 0} → IsProp A → IsProp B → IsProp C → IsProp D → IsProp (A × B × C × D)
four p q r s x y i = (p x.0 y.0 i, q x.1 y.1 i, r x.2 y.2 i, s x.3 y.3 i)

module _ {A : Type 0} (records : Records) (types : NameTypes A) where
  mutual
    pub IsTyped-prop : (a : Tree A) (t : ValueType) → IsProp (IsTyped records types a t)
    IsTyped-prop (literal z) t = type_set _ _
    IsTyped-prop (truth_literal b) t = type_set _ _
    IsTyped-prop (name a) t = hlevel (props, type_set)
    IsTyped-prop (bound n) t = type_set _ _
    IsTyped-prop (unary Unary.Neg a) t = ×_prop (type_set _ _) (IsTyped-prop a number_type)
    IsTyped-prop (unary Unary.Not a) t = ×_prop (type_set _ _) (IsTyped-prop a truth_type)
    IsTyped-prop (unary Unary.Size a) t = ×_prop (type_set _ _) (IsTyped-prop a (sequence_type (element_type (type_of records types a))))
    IsTyped-prop (unary (Unary.Field k) a) t = ×_prop (IsFieldType-prop records k (type_of records types a) t) (IsTyped-prop a (type_of records types a))
    IsTyped-prop (binary Binary.Add a b) t = three (type_set _ _) (IsTyped-prop a number_type) (IsTyped-prop b number_type)
    IsTyped-prop (binary Binary.Sub a b) t = three (type_set _ _) (IsTyped-prop a number_type) (IsTyped-prop b number_type)
    IsTyped-prop (binary Binary.Mul a b) t = three (type_set _ _) (IsTyped-prop a number_type) (IsTyped-prop b number_type)
    IsTyped-prop (binary Binary.Div a b) t = three (type_set _ _) (IsTyped-prop a number_type) (IsTyped-prop b number_type)
    IsTyped-prop (binary Binary.Rem a b) t = three (type_set _ _) (IsTyped-prop a number_type) (IsTyped-prop b number_type)
    IsTyped-prop (binary Binary.And a b) t = three (type_set _ _) (IsTyped-prop a truth_type) (IsTyped-prop b truth_type)
    IsTyped-prop (binary Binary.Or a b) t = three (type_set _ _) (IsTyped-prop a truth_type) (IsTyped-prop b truth_type)
    IsTyped-prop (binary Binary.Imply a b) t = three (type_set _ _) (IsTyped-prop a truth_type) (IsTyped-prop b truth_type)
    IsTyped-prop (binary Binary.Eq a b) t = three (type_set _ _) (IsTyped-prop a (type_of records types a)) (IsTyped-prop b (type_of records types a))
    IsTyped-prop (binary Binary.Lt a b) t = three (type_set _ _) (IsTyped-prop a number_type) (IsTyped-prop b number_type)
    IsTyped-prop (binary Binary.Le a b) t = three (type_set _ _) (IsTyped-prop a number_type) (IsTyped-prop b number_type)
    IsTyped-prop (binary Binary.Read a i) t = ×_prop (IsTyped-prop a (sequence_type t)) (IsTyped-prop i number_type)
    IsTyped-prop (binary Binary.Append a x) t = three (type_set _ _) (IsTyped-prop a t) (IsTyped-prop x (type_of records types x))
    IsTyped-prop (update a i x) t = four (type_set _ _) (IsTyped-prop a t) (IsTyped-prop i number_type) (IsTyped-prop x (type_of records types x))
    IsTyped-prop (quantified q low high body) t = four (type_set _ _) (IsTyped-prop low number_type) (IsTyped-prop high number_type) (IsTyped-prop body truth_type)
    IsTyped-prop (listed (sequence_of s) ts) t = three (type_set _ _) (Bool-set _ _) (EachIsTyped-prop ts s)
    IsTyped-prop (listed (record_of n) ts) t = three (type_set _ _) le_prop (AreTyped-prop ts (fields records n))

    EachIsTyped-prop : (ts : Trees A) (t : ValueType) → IsProp (EachIsTyped records types ts t)
    EachIsTyped-prop no_trees t = Unit-prop
    EachIsTyped-prop (tree_then a ts) t = ×_prop (IsTyped-prop a t) (EachIsTyped-prop ts t)

    AreTyped-prop : (ts : Trees A) (ss : List ValueType) → IsProp (AreTyped records types ts ss)
    AreTyped-prop no_trees [] = Unit-prop
    AreTyped-prop no_trees (s ∷ ss) = λ x y. absurd x
    AreTyped-prop (tree_then t ts) [] = λ x y. absurd x
    AreTyped-prop (tree_then t ts) (s ∷ ss) = ×_prop (IsTyped-prop t s) (AreTyped-prop ts ss)

mutual
  pub IsClosed-prop : {A : Type 0} (n : ℕ) (t : Tree A) → IsProp (IsClosed n t)
  IsClosed-prop n (literal z) = Unit-prop
  IsClosed-prop n (truth_literal b) = Unit-prop
  IsClosed-prop n (name a) = Unit-prop
  IsClosed-prop n (bound m) = le_prop
  IsClosed-prop n (unary op a) = IsClosed-prop n a
  IsClosed-prop n (binary op a b) = ×_prop (IsClosed-prop n a) (IsClosed-prop n b)
  IsClosed-prop n (update a i x) = three (IsClosed-prop n a) (IsClosed-prop n i) (IsClosed-prop n x)
  IsClosed-prop n (quantified q low high body) = three (IsClosed-prop n low) (IsClosed-prop n high) (IsClosed-prop (suc n) body)
  IsClosed-prop n (listed l ts) = AreClosed-prop n ts

  AreClosed-prop : {A : Type 0} (n : ℕ) (ts : Trees A) → IsProp (AreClosed n ts)
  AreClosed-prop n no_trees = Unit-prop
  AreClosed-prop n (tree_then a ts) = ×_prop (IsClosed-prop n a) (AreClosed-prop n ts)

pub AreWellFormed-prop : (records : Records) → IsProp (AreWellFormed records)
AreWellFormed-prop records f g i = record {
  known = λ n h. Bool-set _ _ (f.known n h) (g.known n h) i;
  finite = λ n h. Bool-set _ _ (f.finite n h) (g.finite n h) i;
  small = λ n h. le_prop (f.small n h) (g.small n h) i;
}

IsClaim-prop : (records : Records) (types : NameTypes ℕ) (t : Tree ℕ) → IsProp (IsClaim records types t)
IsClaim-prop records types t f g i = record {
  typed = IsTyped-prop records types t truth_type f.typed g.typed i;
  closed = IsClosed-prop 0 t f.closed g.closed i;
}

pub IsWellSorted-prop : (s : SequentTree) → IsProp (IsWellSorted s)
IsWellSorted-prop s f g i = record {
  records = AreWellFormed-prop s.records f.records g.records i;
  symbols = λ k d h. Bool-set _ _ (f.symbols k d h) (g.symbols k d h) i;
  facts = λ k d h. IsClaim-prop s.records (symbol_types s) (get_or s.facts k d) (f.facts k d h) (g.facts k d h) i;
  goal = IsClaim-prop s.records (symbol_types s) s.goal f.goal g.goal i;
}
