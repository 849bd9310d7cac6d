-- What holds of validity, and of trees in place of names, as one statement each.
use Rattle.std.specs.Prelude.{◌≡◌, ℕ, [], ◌∷◌, ◌++◌, Some}
use Rattle.std.specs.List.{Contains}
use Rattle.slang_values.specs.Value.{ValueType, Records, Value}
use Rattle.slang_values.specs.Tree.{Tree, name, Bounds, value}
use Rattle.slang_values.specs.Typing.{NameTypes, IsTyped, IsClosed}
use Rattle.validity.specs.Validity.{SequentTree, IsValid, no_bounds}
use Rattle.validity.specs.Bind.{bind, rename, EachName}

-- ---- validity

abbrev pub with_fact : Tree ℕ → SequentTree → SequentTree
with_fact t s = record s { facts = s.facts ++ t ∷ [] }

abbrev pub with_goal : Tree ℕ → SequentTree → SequentTree
with_goal t s = record s { goal = t }

-- A goal that is a fact follows, more facts do no harm, and what follows may be used as a fact.
pub record ValidityLaws : Type 0 where
  pub assumption : (s : SequentTree) → Contains s.facts s.goal → IsValid s
  pub weakening : (s : SequentTree) (t : Tree ℕ) → IsValid s → IsValid (with_fact t s)
  pub cut : (s : SequentTree) (t : Tree ℕ) → IsValid (with_goal t s) → IsValid (with_fact t s) → IsValid s

-- ---- trees in place of names

-- What holds of a tree with closed trees in place of its names.
pub record IsBinding {A B : Type 0} (f : A → Tree B) : Type 0 where
  -- the value of the tree where each name has the value of what stands in its place
  pub value : (records : Records) (names : B → Value) (e : Bounds) (t : Tree A) →
      value records names e (bind f t) ≡ value records (λ a. value records names no_bounds (f a)) e t
  pub closed : (n : ℕ) (t : Tree A) → IsClosed n t → IsClosed n (bind f t)

-- What is put in has the type of the name whose place it takes.
abbrev pub FitPlaces : {A B : Type 0} → Records → NameTypes A → NameTypes B → (A → Tree B) → Type 0
FitPlaces {A} records types new_types f = (a : A) (s : ValueType) → types a ≡ Some s → IsTyped records new_types (f a) s

pub record BindLaws (A B C : Type 0) : Type 0 where
  pub binding : (f : A → Tree B) → ((a : A) → IsClosed 0 (f a)) → IsBinding f
  pub typed : (records : Records) (types : NameTypes A) (new_types : NameTypes B) (f : A → Tree B) → FitPlaces records types new_types f →
      (t : Tree A) (s : ValueType) → IsTyped records types t s → IsTyped records new_types (bind f t) s
  pub twice : (f : A → Tree B) (g : B → Tree C) (t : Tree A) → bind g (bind f t) ≡ bind (λ a. bind g (f a)) t
  pub names_stay : (t : Tree A) → bind name t ≡ t
  -- Other names mean what the names whose places they take did.
  pub renamed : (records : Records) (names : B → Value) (f : A → B) (e : Bounds) (t : Tree A) →
      value records names e (rename f t) ≡ value records (λ a. names (f a)) e t

-- What is made of a tree depends on its own names alone. Those of a well-typed tree have types.
pub record NameLaws (A B : Type 0) : Type 0 where
  pub value : (records : Records) (names others : A → Value) (e : Bounds) (t : Tree A) →
      EachName (λ a. names a ≡ others a) t → value records names e t ≡ value records others e t
  pub bind : (f g : A → Tree B) (t : Tree A) → EachName (λ a. f a ≡ g a) t → bind f t ≡ bind g t
  pub typed : (records : Records) (types : NameTypes A) (t : Tree A) (s : ValueType) →
      IsTyped records types t s → EachName (λ a. (u : ValueType) × (types a ≡ Some u)) t
