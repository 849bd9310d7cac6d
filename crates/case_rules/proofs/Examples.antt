-- The definitions, tried on small formulas: each is computed.
use Rattle.std.proofs.Common.{◌≡◌, ℕ, List, [], ◌∷◌, pos, None, false, refl}
use Rattle.slang_values.specs.Value.{ValueType, number_type, truth_type, sequence_type, record_type, Records}
use Rattle.slang_values.specs.Tree.{Tree, literal, truth_literal, name, unary, binary, update, listed, no_trees, tree_then, sequence_of, record_of}
use Rattle.slang_values.specs.declared.operators.Unary.{Unary}
use Rattle.slang_values.specs.declared.operators.Binary.{Binary}
use Rattle.validity.specs.Validity.{SequentTree}
use Rattle.read_rules.specs.Reduced.{reduced}
use Rattle.case_rules.specs.Cases.{cases, cases_of}

-- A number x, a truth value p, a sequence of numbers s, one of truth values b, and two points q and r of two numbers.
abbrev types : List ValueType
types = number_type ∷ truth_type ∷ sequence_type number_type ∷ sequence_type truth_type ∷ record_type 0 ∷ record_type 0 ∷ []

abbrev points : Records
points = (number_type ∷ number_type ∷ []) ∷ []

abbrev of : List (Tree ℕ) → Tree ℕ → SequentTree
of facts goal = record { types = types; records = points; facts = facts; goal = goal }

abbrev x : Tree ℕ
x = name 0

abbrev p : Tree ℕ
p = name 1

abbrev s : Tree ℕ
s = name 2

abbrev b : Tree ℕ
b = name 3

abbrev q : Tree ℕ
q = name 4

abbrev r : Tree ℕ
r = name 5

abbrev nat : ℕ → Tree ℕ
nat n = literal (pos n)

abbrev no : Tree ℕ → Tree ℕ
no t = unary Unary.Not t

abbrev eq : Tree ℕ → Tree ℕ → Tree ℕ
eq a c = binary Binary.Eq a c

abbrev lt : Tree ℕ → Tree ℕ → Tree ℕ
lt a c = binary Binary.Lt a c

abbrev le : Tree ℕ → Tree ℕ → Tree ℕ
le a c = binary Binary.Le a c

abbrev size : Tree ℕ → Tree ℕ
size a = unary Unary.Size a

abbrev at : Tree ℕ → Tree ℕ → Tree ℕ
at a i = binary Binary.Read a i

abbrev push : Tree ℕ → Tree ℕ → Tree ℕ
push a v = binary Binary.Append a v

abbrev field : ℕ → Tree ℕ → Tree ℕ
field k a = unary (Unary.Field k) a

-- the size of an append of an update is that of the sequence and one
size_of_append : reduced (size (push (update s x (nat 7)) (nat 8))) ≡ binary Binary.Add (size s) (nat 1)
size_of_append = refl

size_of_list : reduced (size (listed (sequence_of number_type) (tree_then x (tree_then x no_trees)))) ≡ nat 2
size_of_list = refl

field_of_record : reduced (field 1 (listed (record_of 0) (tree_then x (tree_then (size (update s x x)) no_trees)))) ≡ size s
field_of_record = refl

-- `p` is a fact: the cases of a goal are those of its negation
of_goal : cases (of (p ∷ []) p) ≡ (p ∷ no p ∷ []) ∷ []
of_goal = refl

-- a read of an update: at the place, which is in range, or elsewhere, by each part of the condition
read_of_update : cases (of (le (at (update s (nat 0) (nat 7)) x) (nat 5) ∷ []) p) ≡
    (eq (nat 0) x ∷ le (nat 0) (nat 0) ∷ lt (nat 0) (size s) ∷ le (nat 7) (nat 5) ∷ no p ∷ []) ∷
    (lt (nat 0) x ∷ le (at s x) (nat 5) ∷ no p ∷ []) ∷
    (lt x (nat 0) ∷ le (at s x) (nat 5) ∷ no p ∷ []) ∷
    (no (le (nat 0) (nat 0)) ∷ le (at s x) (nat 5) ∷ no p ∷ []) ∷
    (no (lt (nat 0) (size s)) ∷ le (at s x) (nat 5) ∷ no p ∷ []) ∷ []
read_of_update = refl

-- a read of an append
read_of_append : cases (of (le (at (push s (nat 7)) x) (nat 5) ∷ []) p) ≡
    (eq x (size s) ∷ le (nat 7) (nat 5) ∷ no p ∷ []) ∷
    (lt x (size s) ∷ le (at s x) (nat 5) ∷ no p ∷ []) ∷
    (lt (size s) x ∷ le (at s x) (nat 5) ∷ no p ∷ []) ∷ []
read_of_append = refl

-- a read of a list of truth values: what is read is a formula, and is taken apart in its turn
read_of_list : cases_of points (λ n. None) (at (listed (sequence_of truth_type) (tree_then (binary Binary.Or p p) no_trees)) x) ≡
    (eq x (nat 0) ∷ p ∷ []) ∷ (eq x (nat 0) ∷ p ∷ []) ∷ (lt x (nat 0) ∷ truth_literal false ∷ []) ∷ (le (nat 1) x ∷ truth_literal false ∷ []) ∷ []
read_of_list = refl

-- equal points have equal coordinates; unequal ones differ in the first or in the second
equal_points : cases (of (eq q (listed (record_of 0) (tree_then x (tree_then (nat 1) no_trees))) ∷ []) p) ≡ (eq (field 0 q) x ∷ eq (field 1 q) (nat 1) ∷ no p ∷ []) ∷ []
equal_points = refl

unequal_points : cases (of [] (eq q r)) ≡
    (lt (field 0 q) (field 0 r) ∷ []) ∷ (lt (field 0 r) (field 0 q) ∷ []) ∷ (lt (field 1 q) (field 1 r) ∷ []) ∷ (lt (field 1 r) (field 1 q) ∷ []) ∷ []
unequal_points = refl
