-- What holds of the order of trees, and of forms.
use Rattle.std.specs.Prelude.{◌≡◌, ◌≢◌, ◌↔◌, ℕ, pos, List, [], ◌∷◌, length, ⊤}
use Rattle.std.specs.Cmp.{IsTotalOrder}
use Rattle.std.specs.Cmp.Lexicographic.{slice_cmp}
use Rattle.std.specs.List.{AllByRecursion}
use Rattle.std.specs.declared.cmp.Ordering.TheVariants.{Less, Equal}
use Rattle.std.specs.Ordering.{ordering_then, nat_cmp}
use Rattle.slang_values.specs.Value.{ValueType, number_type, Records, AreWellFormed, Value, number}
use Rattle.slang_values.specs.Tree.{Tree, Bounds, value, parts}
use Rattle.slang_values.specs.Typing.{NameTypes, IsTyped, FitNames}
use Rattle.tree_forms.specs.Order.{head, head_cmp, tree_cmp}
use Rattle.tree_forms.specs.Canonical.{canonical}
use Rattle.tree_forms.specs.Form.{FormPart, LinearForm, form, form_term, form_value}

-- The order is total and tells all trees apart. It goes by the heads, then by the count of parts, then by the parts from the left.
pub record TreesAreOrdered : Type 0 where
  pub total : IsTotalOrder tree_cmp
  pub exact : (s t : Tree ℕ) → (tree_cmp s t ≡ Equal) ↔ (s ≡ t)
  pub by_parts : (s t : Tree ℕ) →
      tree_cmp s t ≡ ordering_then (head_cmp (head s) (head t)) (ordering_then (nat_cmp (length (parts s)) (length (parts t))) (slice_cmp tree_cmp (parts s) (parts t)))

-- each part stands before the parts of greater atoms alone
abbrev pub Ascend : List FormPart → Type 0
Ascend [] = ⊤
Ascend (p ∷ ps) = AllByRecursion (λ q. tree_cmp p.atom q.atom ≡ Less) ps × Ascend ps

-- The parts ascend by their atoms, so each atom stands once, and none is taken 0 times.
pub record IsInOrder (f : LinearForm) : Type 0 where
  pub ascending : Ascend f.parts
  pub not_zero : AllByRecursion (λ p. p.times ≢ pos 0) f.parts

-- Over well-formed records, where each symbol has a value of its sort, the form has the value of the tree, if that is a well-typed
-- number, and the term of the form has the value of the tree, of whatever type.
pub record HasValueOf (t : Tree ℕ) (f : LinearForm) : Type 0 where
  pub sum : (records : Records) → AreWellFormed records → (types : NameTypes ℕ) (names : ℕ → Value) → FitNames records types names → (e : Bounds) →
      IsTyped records types t number_type → value records names e t ≡ number (form_value records names e f)
  pub term : (records : Records) → AreWellFormed records → (types : NameTypes ℕ) (names : ℕ → Value) → FitNames records types names → (e : Bounds) →
      (s : ValueType) → IsTyped records types t s → value records names e (form_term f) ≡ value records names e t

pub record FormsAreForms : Type 0 where
  pub in_order : (t : Tree ℕ) → IsInOrder (form t)
  pub has_value : (t : Tree ℕ) → HasValueOf t (form t)

-- Over well-formed records, where each symbol has a value of its sort, the canonical tree of a well-typed tree has its value.
abbrev pub CanonicalTreesKeepValues : Type 0
CanonicalTreesKeepValues =
    (records : Records) → AreWellFormed records → (types : NameTypes ℕ) (names : ℕ → Value) → FitNames records types names → (e : Bounds) →
    (t : Tree ℕ) (s : ValueType) → IsTyped records types t s → value records names e (canonical records types t) ≡ value records names e t
