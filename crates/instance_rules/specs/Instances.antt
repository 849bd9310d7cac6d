-- A sequent whose goal is opened, whose facts are taken apart, and whose quantified facts are instanced.
use Rattle.std.specs.Prelude.{ℕ, zero, suc, List, [], ◌∷◌, ◌++◌, map, length, Bool, true, not, ◌&&◌, if◌then◌else◌, nat_lt}
use Rattle.std.specs.List.{flat_map, filter, list_all, list_any}
use Rattle.std.specs.Ordering.{is_eq}
use Rattle.slang_values.specs.Value.{number_type}
use Rattle.slang_values.specs.Tree.{Tree, literal, truth_literal, name, bound, unary, binary, update, quantified, listed, Trees, no_trees, tree_then}
use Rattle.slang_values.specs.Measure.{node_count, height}
use Rattle.slang_values.specs.declared.operators.Binary.{Binary}
use Rattle.slang_values.specs.declared.operators.Quantifier.{Quantifier}
use Rattle.validity.specs.Validity.{SequentTree}
use Rattle.tree_forms.specs.Order.{tree_cmp}
use Rattle.lk_terms.specs.Substitution.{substituted}

-- ---- the goal

-- The body at a new symbol, with what is known of the symbol as facts: it lies in the range.
abbrev pub open_quantified : Quantifier → Tree ℕ → Tree ℕ → Tree ℕ → SequentTree → SequentTree
open_quantified Quantifier.All low high body s = record {
  types = s.types ++ number_type ∷ [];
  records = s.records;
  facts = s.facts ++ binary Binary.Le low (name (length s.types)) ∷ binary Binary.Lt (name (length s.types)) high ∷ [];
  goal = substituted 0 (name (length s.types)) body;
}
open_quantified Quantifier.Exists low high body s = s

abbrev pub open_once : Tree ℕ → SequentTree → SequentTree
open_once (quantified q low high body) s = open_quantified q low high body s
open_once t s = s

-- as long as the goal is an All, but at most that many times
abbrev pub opened_within : ℕ → SequentTree → SequentTree
opened_within zero s = s
opened_within (suc n) s = opened_within n (open_once s.goal s)

-- each time the goal has fewer nodes
abbrev pub opened : SequentTree → SequentTree
opened s = opened_within (node_count s.goal) s

-- ---- the facts

abbrev pub both_sides : Binary → Tree ℕ → List (Tree ℕ) → List (Tree ℕ) → List (Tree ℕ)
both_sides Binary.And t left right = left ++ right
both_sides op t left right = t ∷ []

-- the parts of an And, at every depth, from the left
abbrev pub conjuncts : Tree ℕ → List (Tree ℕ)
conjuncts (literal z) = literal z ∷ []
conjuncts (truth_literal b) = truth_literal b ∷ []
conjuncts (name n) = name n ∷ []
conjuncts (bound n) = bound n ∷ []
conjuncts (unary op a) = unary op a ∷ []
conjuncts (binary op a b) = both_sides op (binary op a b) (conjuncts a) (conjuncts b)
conjuncts (update a i x) = update a i x ∷ []
conjuncts (quantified q low high body) = quantified q low high body ∷ []
conjuncts (listed l ts) = listed l ts ∷ []

abbrev pub with_conjuncts : SequentTree → SequentTree
with_conjuncts s = record s { facts = flat_map conjuncts s.facts }

abbrev pub prepared : SequentTree → SequentTree
prepared s = with_conjuncts (opened s)

-- ---- the terms at which sequences are read or updated

abbrev mutual
  -- inside that many quantifiers no bound variable is loose
  pub is_closed_within : ℕ → Tree ℕ → Bool
  is_closed_within n (literal z) = true
  is_closed_within n (truth_literal b) = true
  is_closed_within n (name a) = true
  is_closed_within n (bound m) = nat_lt m n
  is_closed_within n (unary op a) = is_closed_within n a
  is_closed_within n (binary op a b) = is_closed_within n a && is_closed_within n b
  is_closed_within n (update a i x) = is_closed_within n a && (is_closed_within n i && is_closed_within n x)
  is_closed_within n (quantified q low high body) = is_closed_within n low && (is_closed_within n high && is_closed_within (suc n) body)
  is_closed_within n (listed l ts) = are_closed_within n ts

  pub are_closed_within : ℕ → Trees ℕ → Bool
  are_closed_within n no_trees = true
  are_closed_within n (tree_then t ts) = is_closed_within n t && are_closed_within n ts

abbrev pub place_of_binary : Binary → Tree ℕ → List (Tree ℕ)
place_of_binary Binary.Read i = i ∷ []
place_of_binary op i = []

abbrev mutual
  -- the places of reads and of updates, from the left, and the outer ones before the inner ones
  pub places_in : Tree ℕ → List (Tree ℕ)
  places_in (literal z) = []
  places_in (truth_literal b) = []
  places_in (name n) = []
  places_in (bound n) = []
  places_in (unary op a) = places_in a
  places_in (binary op a b) = place_of_binary op b ++ (places_in a ++ places_in b)
  places_in (update a i x) = i ∷ (places_in a ++ (places_in i ++ places_in x))
  places_in (quantified q low high body) = places_in low ++ (places_in high ++ places_in body)
  places_in (listed l ts) = places_in_all ts

  pub places_in_all : Trees ℕ → List (Tree ℕ)
  places_in_all no_trees = []
  places_in_all (tree_then t ts) = places_in t ++ places_in_all ts

abbrev pub is_same : Tree ℕ → Tree ℕ → Bool
is_same t u = is_eq (tree_cmp t u)

-- each tree once, where it stands first
abbrev pub once : List (Tree ℕ) → List (Tree ℕ)
once [] = []
once (t ∷ ts) = t ∷ filter (λ u. not (is_same t u)) (once ts)

-- the places without loose bound variables, in the facts in order and then in the goal
abbrev pub index_terms : SequentTree → List (Tree ℕ)
index_terms s = once (filter (is_closed_within 0) (flat_map places_in (s.facts ++ s.goal ∷ [])))

-- ---- instances

-- where t is in the range, the body holds of it
abbrev pub instance : Tree ℕ → Tree ℕ → Tree ℕ → Tree ℕ → Tree ℕ
instance low high body t = binary Binary.Imply (binary Binary.And (binary Binary.Le low t) (binary Binary.Lt t high)) (substituted 0 t body)

abbrev pub instances_of_quantified : Quantifier → Tree ℕ → Tree ℕ → Tree ℕ → List (Tree ℕ) → List (Tree ℕ)
instances_of_quantified Quantifier.All low high body ts = map (instance low high body) ts
instances_of_quantified Quantifier.Exists low high body ts = []

abbrev pub instances_of : List (Tree ℕ) → Tree ℕ → List (Tree ℕ)
instances_of ts (quantified q low high body) = instances_of_quantified q low high body ts
instances_of ts t = []

-- those that no fact equals, each once
abbrev pub lacking : List (Tree ℕ) → List (Tree ℕ) → List (Tree ℕ)
lacking facts [] = []
lacking facts (t ∷ ts) = if list_any (is_same t) facts then lacking facts ts else (t ∷ lacking (facts ++ t ∷ []) ts)

-- of each All among the facts in order, and each index term in order
abbrev pub new_facts : SequentTree → List (Tree ℕ)
new_facts s = lacking s.facts (flat_map (instances_of (index_terms s)) s.facts)

-- more instances than these are too many
abbrev pub instance_limit : ℕ
instance_limit = 64

-- at most 20,000 nodes, and height at most 1,000
abbrev pub is_within_limits : Tree ℕ → Bool
is_within_limits t = nat_lt (node_count t) 20001 && nat_lt (height t) 1001

pub data Instancing : Type 0 where
  too_many_instances : Instancing
  too_large_instance : Instancing
  instanced : SequentTree → Instancing

abbrev pub with_new_facts : SequentTree → List (Tree ℕ) → Instancing
with_new_facts s new =
    if nat_lt instance_limit (length new) then too_many_instances else (
    if list_all is_within_limits new then instanced (record s { facts = s.facts ++ new }) else too_large_instance)

-- The count is looked at before the sizes. There is one round.
abbrev pub instancing : SequentTree → Instancing
instancing s = with_new_facts (prepared s) (new_facts (prepared s))
