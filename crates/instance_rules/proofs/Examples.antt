-- The definitions, tried on small sequents: each is computed.
use Rattle.std.proofs.Common.{◌≡◌, ℕ, List, [], ◌∷◌, pos, refl}
use Rattle.slang_values.specs.Value.{ValueType, number_type, sequence_type}
use Rattle.slang_values.specs.Tree.{Tree, literal, name, bound, unary, binary, update, quantified}
use Rattle.slang_values.specs.declared.operators.Unary.{Unary}
use Rattle.slang_values.specs.declared.operators.Binary.{Binary}
use Rattle.slang_values.specs.declared.operators.Quantifier.{Quantifier}
use Rattle.validity.specs.Validity.{SequentTree}
use Rattle.instance_rules.specs.Instances.{opened, index_terms, instance, instancing, instanced}

-- a number x and a sequence of numbers s
abbrev types : List ValueType
types = number_type ∷ sequence_type number_type ∷ []

abbrev of : List (Tree ℕ) → Tree ℕ → SequentTree
of facts goal = record { types = types; records = []; facts = facts; goal = goal }

abbrev x : Tree ℕ
x = name 0

abbrev s : Tree ℕ
s = name 1

abbrev nat : ℕ → Tree ℕ
nat n = literal (pos n)

abbrev le : Tree ℕ → Tree ℕ → Tree ℕ
le a b = binary Binary.Le a b

abbrev at : Tree ℕ → Tree ℕ → Tree ℕ
at a i = binary Binary.Read a i

-- every element is at least 0
abbrev all_positive : Tree ℕ
all_positive = quantified Quantifier.All (nat 0) (unary Unary.Size s) (le (nat 0) (at s (bound 0)))

-- the goal at a new symbol, which is in range
opened_goal : opened (of [] all_positive) ≡ record {
  types = number_type ∷ sequence_type number_type ∷ number_type ∷ [];
  records = [];
  facts = le (nat 0) (name 2) ∷ binary Binary.Lt (name 2) (unary Unary.Size s) ∷ [];
  goal = le (nat 0) (at s (name 2));
}
opened_goal = refl

-- one inside another
opened_twice : opened (of [] (quantified Quantifier.All (nat 0) x (quantified Quantifier.All (bound 0) x (le (bound 1) (bound 0))))) ≡ record {
  types = number_type ∷ sequence_type number_type ∷ number_type ∷ number_type ∷ [];
  records = [];
  facts = le (nat 0) (name 2) ∷ binary Binary.Lt (name 2) x ∷ le (name 2) (name 3) ∷ binary Binary.Lt (name 3) x ∷ [];
  goal = le (name 2) (name 3);
}
opened_twice = refl

-- places of reads and updates, outer before inner; a bound variable is none
places : index_terms (of (all_positive ∷ le (at s (at s x)) (nat 5) ∷ []) (le x (at (update s (nat 3) x) x))) ≡ at s x ∷ x ∷ nat 3 ∷ []
places = refl

-- an All fact at the place that the goal reads
at_a_read : instancing (of (all_positive ∷ []) (le (nat 0) (at s x))) ≡
    instanced (of (all_positive ∷ instance (nat 0) (unary Unary.Size s) (le (nat 0) (at s (bound 0))) x ∷ []) (le (nat 0) (at s x)))
at_a_read = refl

-- what is a fact already is not added
no_second : instancing (of (all_positive ∷ instance (nat 0) (unary Unary.Size s) (le (nat 0) (at s (bound 0))) x ∷ []) (le x x)) ≡
    instanced (of (all_positive ∷ instance (nat 0) (unary Unary.Size s) (le (nat 0) (at s (bound 0))) x ∷ []) (le x x))
no_second = refl
