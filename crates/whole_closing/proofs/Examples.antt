-- The definitions, tried on small sequents: each is computed.
use Rattle.std.proofs.Common.{◌≡◌, ℕ, zero, suc, List, [], ◌∷◌, pos, refl}
use Rattle.whole_numbers.specs.Gcd.{gcd}
use Rattle.slang_values.specs.Value.{ValueType, Records, number_type, sequence_type, record_type}
use Rattle.slang_values.specs.Tree.{Tree, literal, name, bound, unary, binary, update, quantified, listed, no_trees, tree_then, sequence_of}
use Rattle.slang_values.specs.declared.operators.Unary.{Unary}
use Rattle.slang_values.specs.declared.operators.Binary.{Binary}
use Rattle.slang_values.specs.declared.operators.Quantifier.{Quantifier}
use Rattle.tree_forms.specs.Form.{is_narrow}
use Rattle.validity.specs.Validity.{SequentTree}
use Rattle.whole_closing.specs.Closing.{closing, closed, left_open, too_many}

-- two numbers x and y, a sequence of numbers s, and two points p and q of two numbers
abbrev types : List ValueType
types = number_type ∷ number_type ∷ sequence_type number_type ∷ record_type 0 ∷ record_type 0 ∷ []

abbrev points : Records
points = (number_type ∷ number_type ∷ []) ∷ []

abbrev of : List (Tree ℕ) → Tree ℕ → SequentTree
of facts goal = record { types = types; records = points; facts = facts; goal = goal }

abbrev x : Tree ℕ
x = name 0

abbrev y : Tree ℕ
y = name 1

abbrev s : Tree ℕ
s = name 2

abbrev p : Tree ℕ
p = name 3

abbrev q : Tree ℕ
q = name 4

abbrev nat : ℕ → Tree ℕ
nat n = literal (pos n)

abbrev eq : Tree ℕ → Tree ℕ → Tree ℕ
eq a b = binary Binary.Eq a b

abbrev le : Tree ℕ → Tree ℕ → Tree ℕ
le a b = binary Binary.Le a b

abbrev lt : Tree ℕ → Tree ℕ → Tree ℕ
lt a b = binary Binary.Lt a b

abbrev size : Tree ℕ → Tree ℕ
size a = unary Unary.Size a

abbrev at : Tree ℕ → Tree ℕ → Tree ℕ
at a i = binary Binary.Read a i

abbrev push : Tree ℕ → Tree ℕ → Tree ℕ
push a v = binary Binary.Append a v

-- in range, what was updated is read
at_the_place : closing (of (le (nat 0) x ∷ lt x (size s) ∷ []) (eq (at (update s x (nat 7)) x) (nat 7))) ≡ closed
unfolding is_narrow gcd
at_the_place = refl

-- out of range it need not be
out_of_range : closing (of (le (nat 0) x ∷ []) (eq (at (update s x (nat 7)) x) (nat 7))) ≡ left_open
unfolding is_narrow gcd
out_of_range = refl

-- at another place the sequence is read as it was
at_another_place : closing (of (lt x y ∷ []) (eq (at (update s x (nat 7)) y) (at s y))) ≡ closed
unfolding is_narrow gcd
at_another_place = refl

-- an append has one element more, and the last is what was appended
last_of_append : closing (of (eq x (size s) ∷ []) (eq (at (push s (nat 7)) x) (nat 7))) ≡ closed
unfolding is_narrow gcd
last_of_append = refl

size_of_append : closing (of [] (eq (size (push s x)) (binary Binary.Add (size s) (nat 1)))) ≡ closed
unfolding is_narrow gcd
size_of_append = refl

-- a size is at least 0
size_not_negative : closing (of [] (le (nat 0) (size s))) ≡ closed
unfolding is_narrow gcd
size_not_negative = refl

-- a list of elements, in range and out of it
element_of_list : closing (of [] (eq (at (listed (sequence_of number_type) (tree_then (nat 3) (tree_then x no_trees))) (nat 1)) x)) ≡ closed
unfolding is_narrow gcd
element_of_list = refl

default_of_list : closing (of [] (eq (at (listed (sequence_of number_type) (tree_then (nat 3) no_trees)) (nat 4)) (nat 0))) ≡ closed
unfolding is_narrow gcd
default_of_list = refl

-- a sequence equals itself, but for the forms of its numbers
same_sequence : closing (of [] (eq (update s (binary Binary.Add x y) (nat 1)) (update s (binary Binary.Add y x) (nat 1)))) ≡ closed
unfolding is_narrow gcd
same_sequence = refl

-- points with equal coordinates are equal
equal_points : closing (of (eq (unary (Unary.Field 0) p) (unary (Unary.Field 0) q) ∷ eq (unary (Unary.Field 1) p) (unary (Unary.Field 1) q) ∷ []) (eq p q)) ≡ closed
unfolding is_narrow gcd
equal_points = refl

-- every element of s is at least the number
abbrev each_at_least : Tree ℕ → Tree ℕ
each_at_least a = quantified Quantifier.All (nat 0) (size s) (le a (at s (bound 0)))

-- a quantified fact at the place that the goal reads
by_an_instance : closing (of (each_at_least (nat 5) ∷ le (nat 0) x ∷ lt x (size s) ∷ []) (le (nat 4) (at s x))) ≡ closed
unfolding is_narrow gcd
by_an_instance = refl

-- a quantified goal from a quantified fact
by_a_new_symbol : closing (of (each_at_least (nat 5) ∷ []) (each_at_least (nat 4))) ≡ closed
unfolding is_narrow gcd
by_a_new_symbol = refl

not_without_range : closing (of (each_at_least (nat 5) ∷ []) (le (nat 4) (at s x))) ≡ left_open
unfolding is_narrow gcd
not_without_range = refl

-- reads at so many places, of which the last is the first
abbrev reads_below : ℕ → List (Tree ℕ)
reads_below zero = []
reads_below (suc n) = le (nat 0) (at s (nat n)) ∷ reads_below n

-- the 65th instance is too many
too_many_places : closing (of (each_at_least (nat 0) ∷ reads_below 65) (le (nat 0) (at s (nat 0)))) ≡ too_many
unfolding is_narrow gcd
too_many_places = refl
