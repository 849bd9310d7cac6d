-- Which bound variable is meant in the parts of a tree: in the body of a quantifier it has the next number.
use Rattle.std.specs.Prelude.{ℕ, zero, suc, ◌+◌, List, [], ◌∷◌, length, Option, Some, None, if◌then◌else◌, nat_lt}
use Rattle.slang_values.specs.Tree.{Tree, literal, truth_literal, name, bound, unary, binary, update, quantified, listed, tree_list}
use Rattle.substitution.specs.Substitution.{substituted}

-- the number of a bound variable
abbrev pub bound_in : Tree ℕ → Option ℕ
bound_in (bound n) = Some n
bound_in t = None

-- how many parts are no body of a quantifier
abbrev pub outer_count : Tree ℕ → ℕ
outer_count (literal z) = 0
outer_count (truth_literal b) = 0
outer_count (name n) = 0
outer_count (bound n) = 0
outer_count (unary op a) = 1
outer_count (binary op a b) = 2
outer_count (update a i x) = 3
outer_count (quantified q low high body) = 2
outer_count (listed l ts) = length (tree_list ts)

-- the number of variable n in the part at that place, where so many parts are no body
abbrev pub level_of : ℕ → ℕ → ℕ → ℕ
level_of n outer place = if nat_lt place outer then n else (n + 1)

-- the parts with u in place of variable n
abbrev pub levelled : ℕ → Tree ℕ → ℕ → List (Tree ℕ) → List (Tree ℕ)
levelled n u outer [] = []
levelled n u zero (t ∷ ts) = substituted (suc n) u t ∷ levelled n u zero ts
levelled n u (suc outer) (t ∷ ts) = substituted n u t ∷ levelled n u outer ts
