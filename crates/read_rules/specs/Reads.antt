-- Reads of updates, of appends and of lists of elements.
use Rattle.std.specs.Prelude.{ℕ, zero, suc, pos, List, [], ◌∷◌, ◌++◌, map, length, false, Option, Some, None}
use Rattle.std.specs.Option.{option_map}
use Rattle.slang_values.specs.Value.{ValueType, unit_type, number_type, truth_type, sequence_type, record_type, Records, fields}
use Rattle.slang_values.specs.Tree.{Tree, literal, truth_literal, name, bound, unary, binary, update, quantified, listed, Trees, no_trees, tree_then, sequence_of, record_of}
use Rattle.slang_values.specs.declared.operators.Unary.{Unary}
use Rattle.slang_values.specs.declared.operators.Binary.{Binary}
use Rattle.read_rules.specs.Reduced.{trees_length}

-- ---- the default of a type, as a tree

-- the trees in order, where each is there
abbrev pub each_tree : List (Option (Tree ℕ)) → Option (Trees ℕ)
each_tree [] = Some no_trees
each_tree (None ∷ os) = None
each_tree (Some t ∷ os) = option_map (tree_then t) (each_tree os)

-- down to a depth of that many records, one inside another; there is no tree for the value of no type
abbrev pub default_tree_within : Records → ℕ → ValueType → Option (Tree ℕ)
default_tree_within records depth unit_type = None
default_tree_within records depth number_type = Some (literal (pos 0))
default_tree_within records depth truth_type = Some (truth_literal false)
default_tree_within records depth (sequence_type t) = Some (listed (sequence_of t) no_trees)
default_tree_within records zero (record_type n) = None
default_tree_within records (suc depth) (record_type n) =
    option_map (λ ts. listed (record_of n) ts) (each_tree (map (default_tree_within records depth) (fields records n)))

-- 0, `F`, the empty sequence, or the record of the defaults of its fields
abbrev pub default_tree : Records → ValueType → Option (Tree ℕ)
default_tree records t = default_tree_within records (length records) t

-- ---- the cases of a read

-- What a read can be, each with the formulas under which it is that. For each of these the formula that has the read becomes those
-- formulas, and itself with that in place of the read.
pub record ReadCase : Type 0 where
  pub conditions : List (Tree ℕ)
  pub instead : Tree ℕ

abbrev pub both_hold : Tree ℕ → Tree ℕ → Tree ℕ
both_hold a b = binary Binary.And a b

abbrev pub are_equal : Tree ℕ → Tree ℕ → Tree ℕ
are_equal a b = binary Binary.Eq a b

abbrev pub negation : Tree ℕ → Tree ℕ
negation t = unary Unary.Not t

abbrev pub read_tree : Tree ℕ → Tree ℕ → Tree ℕ
read_tree a j = binary Binary.Read a j

-- the place that is read is the one that was updated, and is in range
abbrev pub is_updated_place : Tree ℕ → Tree ℕ → Tree ℕ → Tree ℕ
is_updated_place a i j = both_hold (are_equal i j) (both_hold (binary Binary.Le (literal (pos 0)) i) (binary Binary.Lt i (unary Unary.Size a)))

abbrev pub update_cases : Tree ℕ → Tree ℕ → Tree ℕ → Tree ℕ → List ReadCase
update_cases a i v j =
    record { conditions = is_updated_place a i j ∷ []; instead = v } ∷ record { conditions = negation (is_updated_place a i j) ∷ []; instead = read_tree a j } ∷ []

abbrev pub append_cases : Tree ℕ → Tree ℕ → Tree ℕ → List ReadCase
append_cases a v j =
    record { conditions = are_equal j (unary Unary.Size a) ∷ []; instead = v } ∷
    record { conditions = negation (are_equal j (unary Unary.Size a)) ∷ []; instead = read_tree a j } ∷ []

-- the elements in order, of which the first has place k
abbrev pub element_cases : ℕ → Trees ℕ → Tree ℕ → List ReadCase
element_cases k no_trees j = []
element_cases k (tree_then t ts) j = record { conditions = are_equal j (literal (pos k)) ∷ []; instead = t } ∷ element_cases (suc k) ts j

-- below the first element, and behind the last
abbrev pub outside_cases : ℕ → Tree ℕ → Tree ℕ → List ReadCase
outside_cases n default j =
    record { conditions = binary Binary.Lt j (literal (pos 0)) ∷ []; instead = default } ∷
    record { conditions = binary Binary.Le (literal (pos n)) j ∷ []; instead = default } ∷ []

abbrev pub list_cases : Trees ℕ → Option (Tree ℕ) → Tree ℕ → Option (List ReadCase)
list_cases ts None j = None
list_cases ts (Some default) j = Some (element_cases 0 ts j ++ outside_cases (trees_length ts) default j)

-- the read of a sequence at a place, where it depends on conditions
abbrev pub binary_read_cases : Binary → Tree ℕ → Tree ℕ → Tree ℕ → Option (List ReadCase)
binary_read_cases Binary.Append a v j = Some (append_cases a v j)
binary_read_cases op a v j = None

abbrev pub read_cases : Records → Tree ℕ → Tree ℕ → Option (List ReadCase)
read_cases records (update a i v) j = Some (update_cases a i v j)
read_cases records (binary op a v) j = binary_read_cases op a v j
read_cases records (listed (sequence_of t) ts) j = list_cases ts (default_tree records t) j
read_cases records s j = None

-- ---- the first such read

-- a read in a tree: its cases, and the tree with another in its place
pub record ReadSite : Type 0 where
  pub read : Tree ℕ
  pub cases : List ReadCase
  pub instead : Tree ℕ → Tree ℕ

-- the same read, seen in a larger tree
abbrev pub site_within : (Tree ℕ → Tree ℕ) → Option ReadSite → Option ReadSite
site_within f o = option_map (λ s. record { read = s.read; cases = s.cases; instead = λ v. f (s.instead v) }) o

abbrev pub first_of : Option ReadSite → Option ReadSite → Option ReadSite
first_of (Some s) o = Some s
first_of None o = o

-- the read itself, where it depends on conditions
abbrev pub own_site : Tree ℕ → Option (List ReadCase) → Option ReadSite
own_site t None = None
own_site t (Some cs) = Some (record { read = t; cases = cs; instead = λ v. v })

abbrev pub binary_site : Records → Binary → Tree ℕ → Tree ℕ → Option ReadSite
binary_site records Binary.Read a j = own_site (read_tree a j) (read_cases records a j)
binary_site records op a b = None

-- a site in a list of trees, with the list in place of a tree
pub record ListSite : Type 0 where
  pub read : Tree ℕ
  pub cases : List ReadCase
  pub instead : Tree ℕ → Trees ℕ

abbrev pub listed_site : (Trees ℕ → Tree ℕ) → Option ListSite → Option ReadSite
listed_site f o = option_map (λ s. record { read = s.read; cases = s.cases; instead = λ v. f (s.instead v) }) o

abbrev pub site_in_first : Trees ℕ → Option ReadSite → Option ListSite
site_in_first ts o = option_map (λ s. record { read = s.read; cases = s.cases; instead = λ v. tree_then (s.instead v) ts }) o

abbrev pub site_in_rest : Tree ℕ → Option ListSite → Option ListSite
site_in_rest t o = option_map (λ s. record { read = s.read; cases = s.cases; instead = λ v. tree_then t (s.instead v) }) o

abbrev pub first_in_list : Option ListSite → Option ListSite → Option ListSite
first_in_list (Some s) o = Some s
first_in_list None o = o

abbrev mutual
  -- The leftmost of the innermost reads that depend on conditions, outside the bodies of quantifiers: parts come before their tree,
  -- from the left.
  pub first_site : Records → Tree ℕ → Option ReadSite
  first_site records (literal z) = None
  first_site records (truth_literal b) = None
  first_site records (name n) = None
  first_site records (bound n) = None
  first_site records (unary op a) = site_within (unary op) (first_site records a)
  first_site records (binary op a b) =
      first_of (site_within (λ v. binary op v b) (first_site records a)) (first_of (site_within (binary op a) (first_site records b)) (binary_site records op a b))
  first_site records (update a i x) =
      first_of (site_within (λ v. update v i x) (first_site records a))
      (first_of (site_within (λ v. update a v x) (first_site records i)) (site_within (update a i) (first_site records x)))
  first_site records (quantified q low high body) =
      first_of (site_within (λ v. quantified q v high body) (first_site records low)) (site_within (λ v. quantified q low v body) (first_site records high))
  first_site records (listed l ts) = listed_site (listed l) (first_site_of_list records ts)

  pub first_site_of_list : Records → Trees ℕ → Option ListSite
  first_site_of_list records no_trees = None
  first_site_of_list records (tree_then t ts) = first_in_list (site_in_first ts (first_site records t)) (site_in_rest t (first_site_of_list records ts))
