-- Each rule tried once accepted and in each way refused, and visibility and symbols likewise: every row is computed.
use Rattle.std.proofs.Common.{◌≡◌, ℕ, ◌+◌, List, [], ◌∷◌, ◌++◌, pos, Bool, true, false, Option, Some, None, refl}
use Rattle.std.specs.List.{list_any}
use Rattle.slang_values.specs.Value.{number_type, truth_type, sequence_type}
use Rattle.slang_values.specs.Tree.{Tree, literal, truth_literal, name, bound, unary, binary, quantified}
use Rattle.slang_values.specs.declared.operators.Unary.{Unary}
use Rattle.slang_values.specs.declared.operators.Binary.{Binary}
use Rattle.slang_values.specs.declared.operators.Quantifier.{Quantifier}
use Rattle.validity.specs.Validity.{SequentTree}
use Rattle.deduction_rules.specs.Step.{StepTree, line, block, StepTrees, no_steps, step_then}
use Rattle.deduction_rules.specs.Replacement.{same_tree}
use Rattle.deduction_rules.specs.Deduction.{Refusal, Cite, Shape, Symbol, NotClosed, Deduction, accepted, refused, deduction}

abbrev steps : List StepTree → StepTrees
steps [] = no_steps
steps (s ∷ ss) = step_then s (steps ss)

-- each fact by Premise, with labels from the given one on
abbrev premises : ℕ → List (Tree ℕ) → List StepTree
premises label [] = []
premises label (f ∷ fs) = line label f 0 [] ∷ premises (label + 1) fs

-- a closing that closes what is among the facts
abbrev is_fact : SequentTree → Bool
is_fact s = list_any (same_tree s.goal) s.facts

abbrev over : List (Tree ℕ) → SequentTree
over facts = record {
  types = truth_type ∷ truth_type ∷ number_type ∷ number_type ∷ sequence_type number_type ∷ number_type ∷ [];
  records = [];
  facts = facts;
  goal = truth_literal true;
}

-- none where the steps are accepted after the facts, which have the labels from 1 on
abbrev refusal_of : Deduction → Option (ℕ × Refusal)
refusal_of (accepted claims) = None
refusal_of (refused label why) = Some (label, why)

abbrev try : List (Tree ℕ) → List StepTree → Option (ℕ × Refusal)
try facts rest = refusal_of (deduction is_fact (over facts) (steps (premises 1 facts ++ rest)))

-- ---- truth values p and q, numbers n and m, the symbol k of a Let, and a sequence a

abbrev p : Tree ℕ
p = name 0

abbrev q : Tree ℕ
q = name 1

abbrev n : Tree ℕ
n = name 2

abbrev k : Tree ℕ
k = name 3

abbrev m : Tree ℕ
m = name 5

abbrev no : Tree ℕ → Tree ℕ
no t = unary Unary.Not t

abbrev both : Tree ℕ → Tree ℕ → Tree ℕ
both a b = binary Binary.And a b

abbrev either : Tree ℕ → Tree ℕ → Tree ℕ
either a b = binary Binary.Or a b

abbrev then : Tree ℕ → Tree ℕ → Tree ℕ
then a b = binary Binary.Imply a b

abbrev equal : Tree ℕ → Tree ℕ → Tree ℕ
equal a b = binary Binary.Eq a b

abbrev nothing : Tree ℕ
nothing = truth_literal false

abbrev length : Tree ℕ
length = unary Unary.Size (name 4)

-- `0 <= t & t < a.size`, and `0 < a(t)`
abbrev within : Tree ℕ → Tree ℕ
within t = both (binary Binary.Le (literal (pos 0)) t) (binary Binary.Lt t length)

abbrev positive : Tree ℕ → Tree ℕ
positive t = binary Binary.Lt (literal (pos 0)) (binary Binary.Read (name 4) t)

abbrev all : Tree ℕ → Tree ℕ
all body = quantified Quantifier.All (literal (pos 0)) length body

abbrev some : Tree ℕ → Tree ℕ
some body = quantified Quantifier.Exists (literal (pos 0)) length body

abbrev assuming : ℕ → ℕ → Tree ℕ → List StepTree → StepTree
assuming label assumed given inner = block label None assumed given (steps inner)

abbrev let_k : ℕ → ℕ → Tree ℕ → List StepTree → StepTree
let_k label assumed given inner = block label (Some 3) assumed given (steps inner)

-- ---- the connectives

conjunctions :
    try (p ∷ []) [] ∷ try (p ∷ []) (line 2 q 0 [] ∷ []) ∷ try (p ∷ []) (line 2 p 0 (1 ∷ []) ∷ []) ∷
    try (p ∷ q ∷ []) (line 3 (both p q) 1 (1 ∷ 2 ∷ []) ∷ []) ∷ try (p ∷ q ∷ []) (line 3 (both q p) 1 (1 ∷ 2 ∷ []) ∷ []) ∷
    try (p ∷ q ∷ []) (line 3 (both p p) 1 (1 ∷ []) ∷ []) ∷ try (p ∷ q ∷ []) (line 3 (either p q) 1 (1 ∷ 2 ∷ []) ∷ []) ∷
    try (both p q ∷ []) (line 2 p 2 (1 ∷ []) ∷ []) ∷ try (both p q ∷ []) (line 2 q 2 (1 ∷ []) ∷ []) ∷ try (either p q ∷ []) (line 2 p 2 (1 ∷ []) ∷ []) ∷
    try (both p q ∷ []) (line 2 q 3 (1 ∷ []) ∷ []) ∷ try (both p q ∷ []) (line 2 p 3 (1 ∷ []) ∷ []) ∷ []
    ≡ None ∷ Some (2, Shape) ∷ Some (2, Shape) ∷ None ∷ Some (3, Shape) ∷ Some (3, Shape) ∷ Some (3, Shape) ∷ None ∷ Some (2, Shape) ∷ Some (2, Shape) ∷
    None ∷ Some (2, Shape) ∷ []
conjunctions = refl

-- from p and from q, each to `q | p`
abbrev sides : List StepTree
sides = assuming 2 3 p (line 4 (either q p) 5 (3 ∷ []) ∷ []) ∷ assuming 5 6 q (line 7 (either q p) 4 (6 ∷ []) ∷ []) ∷ []

disjunctions :
    try (p ∷ []) (line 2 (either p q) 4 (1 ∷ []) ∷ []) ∷ try (p ∷ []) (line 2 (either q p) 4 (1 ∷ []) ∷ []) ∷
    try (q ∷ []) (line 2 (either p q) 5 (1 ∷ []) ∷ []) ∷ try (q ∷ []) (line 2 (either q p) 5 (1 ∷ []) ∷ []) ∷
    try (either p q ∷ []) (sides ++ line 8 (either q p) 6 (1 ∷ 2 ∷ 5 ∷ []) ∷ []) ∷
    try (either p q ∷ []) (sides ++ line 8 (either q p) 6 (1 ∷ 5 ∷ 2 ∷ []) ∷ []) ∷
    try (either p q ∷ []) (sides ++ line 8 (either q p) 6 (1 ∷ 2 ∷ []) ∷ []) ∷
    try (either p q ∷ []) (sides ++ line 8 (either q p) 6 (1 ∷ 2 ∷ 2 ∷ []) ∷ []) ∷
    try (either p q ∷ []) (sides ++ line 8 (either p q) 6 (1 ∷ 2 ∷ 5 ∷ []) ∷ []) ∷ []
    ≡ None ∷ Some (2, Shape) ∷ None ∷ Some (2, Shape) ∷ None ∷ Some (8, Shape) ∷ Some (8, Shape) ∷ Some (8, Shape) ∷ Some (8, Shape) ∷ []
disjunctions = refl

implications :
    try [] (assuming 1 2 p [] ∷ line 3 (then p p) 7 (1 ∷ []) ∷ []) ∷ try [] (assuming 1 2 p [] ∷ line 3 (then p q) 7 (1 ∷ []) ∷ []) ∷
    try [] (let_k 1 2 p [] ∷ line 3 (then p p) 7 (1 ∷ []) ∷ []) ∷ try (p ∷ []) (line 2 (then p p) 7 (1 ∷ []) ∷ []) ∷
    try [] (assuming 1 2 p (assuming 3 4 p [] ∷ []) ∷ line 5 (then p p) 7 (1 ∷ []) ∷ []) ∷
    try (then p q ∷ p ∷ []) (line 3 q 8 (1 ∷ 2 ∷ []) ∷ []) ∷ try (then p q ∷ p ∷ []) (line 3 q 8 (2 ∷ 1 ∷ []) ∷ []) ∷
    try (then p q ∷ q ∷ []) (line 3 p 8 (1 ∷ 2 ∷ []) ∷ []) ∷ []
    ≡ None ∷ Some (3, Shape) ∷ Some (3, Shape) ∷ Some (2, Shape) ∷ Some (5, Shape) ∷ None ∷ Some (3, Shape) ∷ Some (3, Shape) ∷ []
implications = refl

negations :
    try (no p ∷ []) (assuming 2 3 p (line 4 nothing 10 (3 ∷ 1 ∷ []) ∷ []) ∷ line 5 (no p) 9 (2 ∷ []) ∷ []) ∷
    try (no p ∷ []) (assuming 2 3 p (line 4 nothing 10 (3 ∷ 1 ∷ []) ∷ []) ∷ line 5 (no q) 9 (2 ∷ []) ∷ []) ∷
    try [] (assuming 1 2 p [] ∷ line 3 (no p) 9 (1 ∷ []) ∷ []) ∷
    try (p ∷ no p ∷ []) (line 3 nothing 10 (1 ∷ 2 ∷ []) ∷ []) ∷ try (p ∷ no p ∷ []) (line 3 nothing 10 (2 ∷ 1 ∷ []) ∷ []) ∷
    try (p ∷ no p ∷ []) (line 3 q 10 (1 ∷ 2 ∷ []) ∷ []) ∷
    try (nothing ∷ []) (line 2 q 11 (1 ∷ []) ∷ []) ∷ try (p ∷ []) (line 2 q 11 (1 ∷ []) ∷ []) ∷
    try (p ∷ []) (assuming 2 3 (no p) (line 4 nothing 10 (1 ∷ 3 ∷ []) ∷ []) ∷ line 5 p 12 (2 ∷ []) ∷ []) ∷
    try (no p ∷ []) (assuming 2 3 p (line 4 nothing 10 (3 ∷ 1 ∷ []) ∷ []) ∷ line 5 p 12 (2 ∷ []) ∷ []) ∷
    try [] (assuming 1 2 (no p) [] ∷ line 3 p 12 (1 ∷ []) ∷ []) ∷ []
    ≡ None ∷ Some (5, Shape) ∷ Some (3, Shape) ∷ None ∷ Some (3, Shape) ∷ Some (3, Shape) ∷ None ∷ Some (2, Shape) ∷ None ∷ Some (5, Shape) ∷ Some (3, Shape) ∷ []
negations = refl

-- ---- the quantifiers

-- a block for k that assumes this, and shows `0 < a(k)`
abbrev each : Tree ℕ → List StepTree
each given = let_k 2 3 given (line 4 (within k) 18 [] ∷ line 5 (positive k) 14 (1 ∷ 4 ∷ []) ∷ []) ∷ []

universals :
    try (all (positive (bound 0)) ∷ []) (each (within k) ++ line 6 (all (positive (bound 0))) 13 (2 ∷ []) ∷ []) ∷
    try (all (positive (bound 0)) ∷ []) (let_k 2 3 (both (within k) p) (line 4 (within k) 2 (3 ∷ []) ∷ line 5 (positive k) 14 (1 ∷ 4 ∷ []) ∷ []) ∷
    line 6 (all (positive (bound 0))) 13 (2 ∷ []) ∷ []) ∷
    try (all (positive (bound 0)) ∷ []) (each (within k) ++ line 6 (all (positive n)) 13 (2 ∷ []) ∷ []) ∷
    try (all (positive (bound 0)) ∷ []) (each (within k) ++ line 6 (some (positive (bound 0))) 13 (2 ∷ []) ∷ []) ∷
    try [] (assuming 1 2 (within k) [] ∷ line 3 (all (within (bound 0))) 13 (1 ∷ []) ∷ []) ∷
    try [] (let_k 1 2 (within k) [] ∷ line 3 (all (within k)) 13 (1 ∷ []) ∷ []) ∷
    try (all (positive (bound 0)) ∷ within n ∷ []) (line 3 (positive n) 14 (1 ∷ 2 ∷ []) ∷ []) ∷
    try (all (positive (bound 0)) ∷ within n ∷ []) (line 3 (positive m) 14 (1 ∷ 2 ∷ []) ∷ []) ∷
    try (all (positive (bound 0)) ∷ within n ∷ []) (line 3 (positive n) 14 (2 ∷ 1 ∷ []) ∷ []) ∷
    try (some (positive (bound 0)) ∷ within n ∷ []) (line 3 (positive n) 14 (1 ∷ 2 ∷ []) ∷ []) ∷ []
    ≡ None ∷ Some (6, Shape) ∷ Some (6, Shape) ∷ Some (6, Shape) ∷ Some (3, Shape) ∷ Some (3, Symbol) ∷ None ∷ Some (3, Shape) ∷ Some (3, Shape) ∷ Some (3, Shape) ∷ []
universals = refl

-- a block for k that assumes this, and shows again that there is some
abbrev opened : Tree ℕ → List StepTree
opened given = let_k 2 3 given (line 4 (within k) 2 (3 ∷ []) ∷ line 5 (positive k) 3 (3 ∷ []) ∷ line 6 (some (positive (bound 0))) 15 (4 ∷ 5 ∷ []) ∷ []) ∷ []

existentials :
    try (within n ∷ positive n ∷ []) (line 3 (some (positive (bound 0))) 15 (1 ∷ 2 ∷ []) ∷ []) ∷
    try (within n ∷ positive m ∷ []) (line 3 (some (positive (bound 0))) 15 (1 ∷ 2 ∷ []) ∷ []) ∷
    try (within n ∷ positive n ∷ []) (line 3 (some (positive (bound 0))) 15 (2 ∷ 1 ∷ []) ∷ []) ∷
    try (some (positive (bound 0)) ∷ []) (opened (both (within k) (positive k)) ++ line 7 (some (positive (bound 0))) 16 (1 ∷ 2 ∷ []) ∷ []) ∷
    try (some (positive (bound 0)) ∷ []) (opened (both (within k) (positive k)) ++ line 7 p 16 (1 ∷ 2 ∷ []) ∷ []) ∷
    try (all (positive (bound 0)) ∷ []) (opened (both (within k) (positive k)) ++ line 7 (some (positive (bound 0))) 16 (1 ∷ 2 ∷ []) ∷ []) ∷
    try (some (positive (bound 0)) ∷ []) (let_k 2 3 (both (positive k) (within k)) [] ∷ line 4 (both (positive k) (within k)) 16 (1 ∷ 2 ∷ []) ∷ []) ∷
    try (some (positive (bound 0)) ∷ []) (let_k 2 3 (both (within k) (positive k)) [] ∷ line 4 (both (within k) (positive k)) 16 (1 ∷ 2 ∷ []) ∷ []) ∷ []
    ≡ None ∷ Some (3, Shape) ∷ Some (3, Shape) ∷ None ∷ Some (7, Shape) ∷ Some (7, Shape) ∷ Some (4, Shape) ∷ Some (4, Symbol) ∷ []
existentials = refl

-- ---- automation and substitution

automation :
    try (p ∷ q ∷ []) (line 3 p 17 (1 ∷ []) ∷ []) ∷ try (p ∷ q ∷ []) (line 3 q 17 (1 ∷ []) ∷ []) ∷ try (p ∷ []) (line 2 p 17 [] ∷ []) ∷
    try [] (assuming 1 2 p [] ∷ line 3 p 17 (1 ∷ []) ∷ []) ∷
    try (p ∷ []) (line 2 p 18 [] ∷ []) ∷ try (p ∷ []) (line 2 q 18 [] ∷ []) ∷ try (p ∷ []) (line 2 p 18 (1 ∷ []) ∷ []) ∷
    try [] (assuming 1 2 p (line 3 p 18 [] ∷ []) ∷ []) ∷ try [] (assuming 1 2 p [] ∷ line 3 p 18 [] ∷ []) ∷
    try (p ∷ []) (line 2 p 21 (1 ∷ []) ∷ []) ∷ []
    ≡ None ∷ Some (3, NotClosed) ∷ Some (2, NotClosed) ∷ Some (3, Shape) ∷ None ∷ Some (2, NotClosed) ∷ Some (2, Shape) ∷ None ∷ Some (3, NotClosed) ∷ Some (2, Shape) ∷ []
automation = refl

-- `t + t`
abbrev twice : Tree ℕ → Tree ℕ
twice t = binary Binary.Add t t

substitutions :
    try (equal n m ∷ positive m ∷ []) (line 3 (positive n) 19 (1 ∷ 2 ∷ []) ∷ []) ∷ try (equal n m ∷ positive n ∷ []) (line 3 (positive m) 19 (1 ∷ 2 ∷ []) ∷ []) ∷
    try (equal (twice n) n ∷ positive n ∷ []) (line 3 (positive (twice n)) 19 (1 ∷ 2 ∷ []) ∷ []) ∷
    try (equal (twice n) n ∷ positive n ∷ []) (line 3 (positive (twice (twice n))) 19 (1 ∷ 2 ∷ []) ∷ []) ∷
    try (equal n m ∷ positive n ∷ []) (line 3 (positive m) 20 (1 ∷ 2 ∷ []) ∷ []) ∷ try (equal n m ∷ positive m ∷ []) (line 3 (positive n) 20 (1 ∷ 2 ∷ []) ∷ []) ∷
    try (equal n m ∷ equal n n ∷ []) (line 3 (equal m m) 20 (1 ∷ 2 ∷ []) ∷ []) ∷ try (equal n m ∷ equal n n ∷ []) (line 3 (equal m n) 20 (1 ∷ 2 ∷ []) ∷ []) ∷
    try (equal n m ∷ all (equal (bound 0) n) ∷ []) (line 3 (all (equal (bound 0) m)) 20 (1 ∷ 2 ∷ []) ∷ []) ∷
    try (positive m ∷ equal n m ∷ []) (line 3 (positive n) 19 (1 ∷ 2 ∷ []) ∷ []) ∷ []
    ≡ None ∷ Some (3, Shape) ∷ None ∷ Some (3, Shape) ∷ None ∷ Some (3, Shape) ∷ None ∷ Some (3, Shape) ∷ None ∷ Some (3, Shape) ∷ []
substitutions = refl

-- ---- visibility, symbols, and the order of the reasons

visibility :
    try [] (assuming 1 2 p (line 3 p 18 [] ∷ []) ∷ line 4 (both p p) 1 (3 ∷ 3 ∷ []) ∷ []) ∷
    try [] (assuming 1 2 p [] ∷ line 3 (both p p) 1 (2 ∷ 9 ∷ []) ∷ []) ∷
    try [] (assuming 1 2 p (line 3 (then p p) 7 (1 ∷ []) ∷ []) ∷ []) ∷
    try (p ∷ []) (assuming 2 3 q (line 4 (both p q) 1 (1 ∷ 3 ∷ []) ∷ []) ∷ []) ∷ try [] (line 7 p 2 (7 ∷ []) ∷ []) ∷ []
    ≡ Some (4, Cite 3) ∷ Some (3, Cite 2) ∷ Some (3, Cite 1) ∷ None ∷ Some (7, Cite 7) ∷ []
visibility = refl

symbols :
    -- it stands in a fact, in an earlier step, in an ended block; it stands nowhere yet
    try (positive k ∷ []) (let_k 2 3 p [] ∷ []) ∷ try [] (let_k 1 2 (positive k) [] ∷ let_k 3 4 (positive k) [] ∷ []) ∷
    try [] (let_k 1 2 p [] ∷ let_k 3 4 (positive k) [] ∷ []) ∷
    -- outside its block, in an assumption and in a claim
    try [] (let_k 1 2 p [] ∷ assuming 3 4 (positive k) [] ∷ []) ∷ try [] (let_k 1 2 (positive k) [] ∷ line 3 (then p (positive k)) 18 [] ∷ []) ∷ []
    ≡ Some (2, Symbol) ∷ Some (3, Symbol) ∷ None ∷ Some (4, Symbol) ∷ Some (3, Symbol) ∷ []
symbols = refl

order_of_reasons :
    try [] (let_k 1 2 (positive k) [] ∷ line 3 (positive k) 1 (9 ∷ []) ∷ []) ∷ try [] (let_k 1 2 (positive k) [] ∷ line 3 (positive k) 1 [] ∷ []) ∷
    try [] (let_k 1 2 (positive k) [] ∷ line 3 (positive k) 18 [] ∷ []) ∷ try [] (line 1 p 18 [] ∷ line 2 q 1 (9 ∷ []) ∷ []) ∷ []
    ≡ Some (3, Cite 9) ∷ Some (3, Shape) ∷ Some (3, Symbol) ∷ Some (1, NotClosed) ∷ []
order_of_reasons = refl
