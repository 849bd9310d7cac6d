-- The cases of a sequent: each formula is taken apart into alternatives, until literals without reads that depend on conditions are left.
use Rattle.std.specs.Prelude.{ℕ, zero, suc, ◌+◌, ◌*◌, List, [], ◌∷◌, ◌++◌, map, length, Option, Some, None}
use Rattle.std.specs.List.{flat_map, sum_by}
use Rattle.std.specs.Option.{option_map}
use Rattle.slang_values.specs.Value.{ValueType, unit_type, number_type, truth_type, sequence_type, record_type, Records, fields}
use Rattle.slang_values.specs.Tree.{Tree, literal, truth_literal, name, bound, unary, binary, update, quantified, listed, Trees, no_trees, tree_then, sequence_of}
use Rattle.slang_values.specs.Typing.{NameTypes, type_of}
use Rattle.slang_values.specs.declared.operators.Unary.{Unary}
use Rattle.slang_values.specs.declared.operators.Binary.{Binary}
use Rattle.validity.specs.Validity.{SequentTree, symbol_types}
use Rattle.read_rules.specs.Reduced.{reduced}
use Rattle.read_rules.specs.Reads.{ReadCase, ReadSite, are_equal, negation, first_site}

-- ---- one step

-- Alternatives, of which each is a list of formulas that hold together. A formula that has none is a literal.
abbrev pub Alternatives : Type 0
Alternatives = List (List (Tree ℕ))

abbrev pub field : ℕ → Tree ℕ → Tree ℕ
field k t = unary (Unary.Field k) t

-- the equalities of so many fields, of which the first has place k
abbrev pub field_equalities : ℕ → ℕ → Tree ℕ → Tree ℕ → List (Tree ℕ)
field_equalities zero k a b = []
field_equalities (suc n) k a b = are_equal (field k a) (field k b) ∷ field_equalities n (suc k) a b

-- each formula, negated, as an alternative of its own
abbrev pub one_is_false : List (Tree ℕ) → Alternatives
one_is_false ts = map (λ t. negation t ∷ []) ts

-- an equality of parts of that type
abbrev pub equality_alternatives : Records → ValueType → Tree ℕ → Tree ℕ → Option Alternatives
equality_alternatives records unit_type a b = None
equality_alternatives records number_type a b = None
equality_alternatives records truth_type a b = Some ((a ∷ b ∷ []) ∷ (negation a ∷ negation b ∷ []) ∷ [])
equality_alternatives records (sequence_type t) a b = None
equality_alternatives records (record_type n) a b = Some (field_equalities (length (fields records n)) 0 a b ∷ [])

-- an equality that does not hold; of unequal numbers the first is less, or the second
abbrev pub inequality_alternatives : Records → ValueType → Tree ℕ → Tree ℕ → Option Alternatives
inequality_alternatives records unit_type a b = None
inequality_alternatives records number_type a b = Some ((binary Binary.Lt a b ∷ []) ∷ (binary Binary.Lt b a ∷ []) ∷ [])
inequality_alternatives records truth_type a b = Some ((a ∷ negation b ∷ []) ∷ (negation a ∷ b ∷ []) ∷ [])
inequality_alternatives records (sequence_type t) a b = None
inequality_alternatives records (record_type n) a b = Some (one_is_false (field_equalities (length (fields records n)) 0 a b))

abbrev pub binary_alternatives : Records → NameTypes ℕ → Binary → Tree ℕ → Tree ℕ → Option Alternatives
binary_alternatives records types Binary.And a b = Some ((a ∷ b ∷ []) ∷ [])
binary_alternatives records types Binary.Or a b = Some ((a ∷ []) ∷ (b ∷ []) ∷ [])
binary_alternatives records types Binary.Imply a b = Some ((negation a ∷ []) ∷ (b ∷ []) ∷ [])
binary_alternatives records types Binary.Eq a b = equality_alternatives records (type_of records types a) a b
binary_alternatives records types op a b = None

abbrev pub negated_binary_alternatives : Records → NameTypes ℕ → Binary → Tree ℕ → Tree ℕ → Option Alternatives
negated_binary_alternatives records types Binary.And a b = Some ((negation a ∷ []) ∷ (negation b ∷ []) ∷ [])
negated_binary_alternatives records types Binary.Or a b = Some ((negation a ∷ negation b ∷ []) ∷ [])
negated_binary_alternatives records types Binary.Imply a b = Some ((a ∷ negation b ∷ []) ∷ [])
negated_binary_alternatives records types Binary.Eq a b = inequality_alternatives records (type_of records types a) a b
negated_binary_alternatives records types op a b = None

abbrev pub negated_unary_alternatives : Unary → Tree ℕ → Option Alternatives
negated_unary_alternatives Unary.Not a = Some ((a ∷ []) ∷ [])
negated_unary_alternatives op a = None

abbrev pub negated_alternatives : Records → NameTypes ℕ → Tree ℕ → Option Alternatives
negated_alternatives records types (unary op a) = negated_unary_alternatives op a
negated_alternatives records types (binary op a b) = negated_binary_alternatives records types op a b
negated_alternatives records types t = None

abbrev pub unary_alternatives : Records → NameTypes ℕ → Unary → Tree ℕ → Option Alternatives
unary_alternatives records types Unary.Not a = negated_alternatives records types a
unary_alternatives records types op a = None

-- by what stands at the top of the formula
abbrev pub top_alternatives : Records → NameTypes ℕ → Tree ℕ → Option Alternatives
top_alternatives records types (unary op a) = unary_alternatives records types op a
top_alternatives records types (binary op a b) = binary_alternatives records types op a b
top_alternatives records types t = None

-- by a read: its conditions, and the formula with what the read then is
abbrev pub site_alternatives : ReadSite → Alternatives
site_alternatives s = map (λ (c : ReadCase). c.conditions ++ s.instead c.instead ∷ []) s.cases

-- A formula is taken apart from the top. What cannot be is a literal, and is taken apart at its first read that depends on conditions.
abbrev pub unless_top : Option Alternatives → Option ReadSite → Option Alternatives
unless_top (Some as') s = Some as'
unless_top None s = option_map site_alternatives s

abbrev pub alternatives : Records → NameTypes ℕ → Tree ℕ → Option Alternatives
alternatives records types t = unless_top (top_alternatives records types t) (first_site records t)

-- ---- all steps

-- A case is a list of literals, which hold together. Of two lists of cases: each of the first with each of the second, where the case
-- of the first stands in front and changes last.
abbrev pub both : List (List (Tree ℕ)) → List (List (Tree ℕ)) → List (List (Tree ℕ))
both cs ds = flat_map (λ c. map (λ d. c ++ d) ds) cs

-- one case, of one literal
abbrev pub one_literal : Tree ℕ → List (List (Tree ℕ))
one_literal t = (t ∷ []) ∷ []

-- one choice for each formula, in order
abbrev pub all_of : (Tree ℕ → List (List (Tree ℕ))) → List (Tree ℕ) → List (List (Tree ℕ))
all_of f [] = [] ∷ []
all_of f (t ∷ ts) = both (f t) (all_of f ts)

abbrev pub taken_apart : (Tree ℕ → List (List (Tree ℕ))) → Tree ℕ → Option Alternatives → List (List (Tree ℕ))
taken_apart f t None = one_literal t
taken_apart f t (Some as') = flat_map (all_of f) as'

-- The cases in which the formula holds, taken apart at most that many times, one inside another: it is reduced, then taken apart, and
-- so are the formulas of its alternatives, in the place of what was split.
abbrev pub cases_within : Records → NameTypes ℕ → ℕ → Tree ℕ → List (List (Tree ℕ))
cases_within records types zero t = one_literal (reduced t)
cases_within records types (suc n) t = taken_apart (cases_within records types n) (reduced t) (alternatives records types (reduced t))

-- ---- how often

-- What an equality of values of the type adds: more than its fields do.
abbrev pub equality_weight : Records → ℕ → ValueType → ℕ
equality_weight records depth unit_type = 0
equality_weight records depth number_type = 0
equality_weight records depth truth_type = 0
equality_weight records depth (sequence_type t) = 0
equality_weight records zero (record_type n) = 0
equality_weight records (suc depth) (record_type n) = 4 + sum_by (λ t. 4 + equality_weight records depth t) (fields records n)

-- what the default of the type weighs at most
abbrev pub default_weight : Records → ℕ → ValueType → ℕ
default_weight records depth unit_type = 1
default_weight records depth number_type = 1
default_weight records depth truth_type = 1
default_weight records depth (sequence_type t) = 8 + default_weight records depth t
default_weight records zero (record_type n) = 1
default_weight records (suc depth) (record_type n) = 1 + sum_by (λ t. 1 + default_weight records depth t) (fields records n)

abbrev pub binary_weight : Records → Binary → ValueType → ℕ → ℕ → ℕ
binary_weight records Binary.Read t a b = 16 + a + 4 * b
binary_weight records Binary.Append t a b = 16 + a + b
binary_weight records Binary.Eq t a b = 4 + equality_weight records (length records) t + a + b
binary_weight records op t a b = 4 + a + b

-- the weight of a list, where its parts have that weight in all
abbrev pub list_weight : Records → ℕ → Tree ℕ → ℕ
list_weight records w (listed (sequence_of t) ts) = 8 + default_weight records (length records) t + w
list_weight records w t = 1 + w

abbrev mutual
  -- a number that falls where a well-typed formula is taken apart
  pub weight : Records → NameTypes ℕ → Tree ℕ → ℕ
  weight records types (literal z) = 1
  weight records types (truth_literal b) = 1
  weight records types (name n) = 1
  weight records types (bound n) = 1
  weight records types (unary op a) = 1 + weight records types a
  weight records types (binary op a b) = binary_weight records op (type_of records types a) (weight records types a) (weight records types b)
  weight records types (update a i x) = 16 + weight records types a + 4 * weight records types i + weight records types x
  weight records types (quantified q low high body) = 1 + weight records types low + weight records types high
  weight records types (listed l ts) = list_weight records (total_weight records types ts) (listed l ts)

  pub total_weight : Records → NameTypes ℕ → Trees ℕ → ℕ
  total_weight records types no_trees = 0
  total_weight records types (tree_then t ts) = 1 + weight records types t + total_weight records types ts

-- the cases in which the formula holds
abbrev pub cases_of : Records → NameTypes ℕ → Tree ℕ → List (List (Tree ℕ))
cases_of records types t = cases_within records types (weight records types t) t

-- ---- sequents

-- the facts, and last the negated goal: the sequent is valid where they never hold together
abbrev pub hypotheses : SequentTree → List (Tree ℕ)
hypotheses s = s.facts ++ negation s.goal ∷ []

-- the cases of a sequent; one of them holds wherever the hypotheses do
abbrev pub cases : SequentTree → List (List (Tree ℕ))
cases s = all_of (cases_of s.records (symbol_types s)) (hypotheses s)

-- more cases than these are too many
abbrev pub case_limit : ℕ
case_limit = 512
