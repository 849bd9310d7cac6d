-- The definitions, tried on small proofs: each is computed.
use Rattle.std.proofs.Common.{◌≡◌, ℕ, List, [], ◌∷◌, pos, Bool, true, false, Some, refl}
use Rattle.slang_values.specs.Value.{number_type, truth_type, sequence_type}
use Rattle.slang_values.specs.Tree.{Tree, literal, truth_literal, name, bound, unary, binary, quantified}
use Rattle.slang_values.specs.declared.operators.Unary.{Unary}
use Rattle.slang_values.specs.declared.operators.Binary.{Binary}
use Rattle.slang_values.specs.declared.operators.Quantifier.{Quantifier}
use Rattle.validity.specs.Validity.{SequentTree}
use Rattle.deduction_rules.specs.Step.{StepTree, line, block, StepTrees, no_steps, step_then}
use Rattle.deduction_rules.specs.Deduction.{Cite, Shape, Symbol, NotClosed, accepted, refused, deduction}

steps : List StepTree → StepTrees
steps [] = no_steps
steps (s ∷ ss) = step_then s (steps ss)

-- a closing that says yes, and one that says no
abbrev closed : SequentTree → Bool
closed s = true

abbrev left_open : SequentTree → Bool
left_open s = false

-- ---- truth values p and q, and the fact `p & q`

abbrev p : Tree ℕ
p = name 0

abbrev q : Tree ℕ
q = name 1

abbrev both : Tree ℕ → Tree ℕ → Tree ℕ
both a b = binary Binary.And a b

abbrev of : List (Tree ℕ) → SequentTree
of facts = record { types = truth_type ∷ truth_type ∷ number_type ∷ number_type ∷ sequence_type number_type ∷ []; records = []; facts = facts; goal = truth_literal true }

abbrev swap : List ℕ → StepTrees
swap cites = steps (line 1 (both p q) 0 [] ∷ line 2 q 3 (1 ∷ []) ∷ line 3 p 2 (1 ∷ []) ∷ line 4 (both q p) 1 cites ∷ [])

swapped : deduction left_open (of (both p q ∷ [])) (swap (2 ∷ 3 ∷ [])) ≡ accepted (both p q ∷ q ∷ p ∷ both q p ∷ [])
unfolding steps
swapped = refl

swapped_wrongly : deduction left_open (of (both p q ∷ [])) (swap (3 ∷ 2 ∷ [])) ≡ refused 4 Shape
unfolding steps
swapped_wrongly = refl

nothing_cited : deduction left_open (of (both p q ∷ [])) (steps (line 1 p 2 (9 ∷ []) ∷ [])) ≡ refused 1 (Cite 9)
unfolding steps
nothing_cited = refl

other_premise : deduction left_open (of (both p q ∷ [])) (steps (line 1 (both q p) 0 [] ∷ [])) ≡ refused 1 Shape
unfolding steps
other_premise = refl

not_closed : deduction left_open (of []) (steps (line 1 p 18 [] ∷ [])) ≡ refused 1 NotClosed
unfolding steps
not_closed = refl

-- ---- a number n, a Let's k, and a sequence a

abbrev n : Tree ℕ
n = name 2

abbrev k : Tree ℕ
k = name 3

abbrev a : Tree ℕ
a = name 4

abbrev zero : Tree ℕ
zero = literal (pos 0)

abbrev within : Tree ℕ → Tree ℕ
within t = both (binary Binary.Le zero t) (binary Binary.Lt t (unary Unary.Size a))

-- `a(i) > 0`, and `a(i) >= 1`
abbrev positive : Tree ℕ → Tree ℕ
positive i = binary Binary.Lt zero (binary Binary.Read a i)

abbrev at_least_one : Tree ℕ → Tree ℕ
at_least_one i = binary Binary.Le (literal (pos 1)) (binary Binary.Read a i)

abbrev everywhere : (Tree ℕ → Tree ℕ) → Tree ℕ
everywhere f = quantified Quantifier.All zero (unary Unary.Size a) (f (bound 0))

abbrev somewhere : (Tree ℕ → Tree ℕ) → Tree ℕ
somewhere f = quantified Quantifier.Exists zero (unary Unary.Size a) (f (bound 0))

abbrev each : Tree ℕ → StepTree → StepTrees
each assumption step = steps (
    line 1 (everywhere positive) 0 [] ∷
    block 2 (Some 3) 3 assumption (steps (step ∷ line 5 (at_least_one k) 17 (4 ∷ []) ∷ [])) ∷
    line 6 (everywhere at_least_one) 13 (2 ∷ []) ∷ [])

each_of_range : deduction closed (of (everywhere positive ∷ [])) (each (within k) (line 4 (positive k) 14 (1 ∷ 3 ∷ []))) ≡
    accepted (everywhere positive ∷ everywhere at_least_one ∷ [])
unfolding steps
each_of_range = refl

-- a block that assumes more than the range
more_than_the_range : deduction closed (of (everywhere positive ∷ []))
    (each (both (binary Binary.Eq k zero) (binary Binary.Lt zero (unary Unary.Size a))) (line 4 (positive k) 18 [])) ≡ refused 6 Shape
unfolding steps
more_than_the_range = refl

-- the symbol of a Let leaves its block
symbol_leaves : deduction closed (of (somewhere positive ∷ [])) (steps (
    line 1 (somewhere positive) 0 [] ∷
    block 2 (Some 3) 3 (both (within k) (positive k)) (steps (line 4 (at_least_one k) 17 (3 ∷ []) ∷ [])) ∷
    line 5 (at_least_one k) 16 (1 ∷ 2 ∷ []) ∷ [])) ≡ refused 5 Symbol
unfolding steps
symbol_leaves = refl
