-- Trees part by part: which have nothing to reduce, and where the first read stands that depends on conditions.
use Rattle.std.specs.Prelude.{◌≡◌, ℕ, suc, slice_get, set, List, [], ◌∷◌, Bool, true, false, not, ◌&&◌, ◌||◌, if◌then◌else◌, Option, Some, None}
use Rattle.std.specs.Option.{option_map}
use Rattle.slang_values.specs.Tree.{Tree, literal, truth_literal, name, bound, unary, binary, update, quantified, listed, Trees, no_trees, tree_then, sequence_of, record_of, parts}
use Rattle.slang_values.specs.declared.operators.Unary.{Unary}
use Rattle.slang_values.specs.declared.operators.Binary.{Binary}
use Rattle.tree_forms.specs.Order.{head}
use Rattle.read_rules.specs.Reduced.{unary_tree}

-- ---- what is written out

abbrev pub is_append : Binary → Bool
is_append Binary.Append = true
is_append op = false

abbrev pub is_read : Binary → Bool
is_read Binary.Read = true
is_read op = false

-- an update, an append, or a list of elements
abbrev pub is_written_sequence : Tree ℕ → Bool
is_written_sequence (binary op a x) = is_append op
is_written_sequence (update a i x) = true
is_written_sequence (listed (sequence_of t) ts) = true
is_written_sequence t = false

abbrev pub is_written_record : Tree ℕ → Bool
is_written_record (listed (record_of n) ts) = true
is_written_record t = false

-- ---- trees that are reduced

-- no size and no field of what is written out, at the top
abbrev pub unary_stays : Unary → Tree ℕ → Bool
unary_stays Unary.Size a = not (is_written_sequence a)
unary_stays (Unary.Field k) a = not (is_written_record a)
unary_stays op a = true

abbrev pub top_stays : Tree ℕ → Bool
top_stays (unary op a) = unary_stays op a
top_stays t = true

abbrev mutual
  -- nothing in the tree is to be reduced
  pub stays : Tree ℕ → Bool
  stays (literal z) = true
  stays (truth_literal b) = true
  stays (name n) = true
  stays (bound n) = true
  stays (unary op a) = unary_stays op a && stays a
  stays (binary op a b) = stays a && stays b
  stays (update a i x) = stays a && (stays i && stays x)
  stays (quantified q low high body) = stays low && (stays high && stays body)
  stays (listed l ts) = all_stay ts

  pub all_stay : Trees ℕ → Bool
  all_stay no_trees = true
  all_stay (tree_then t ts) = stays t && all_stay ts

-- the tree, whose parts are reduced, with its top reduced
abbrev pub top_reduced : Tree ℕ → Tree ℕ
top_reduced (unary op a) = unary_tree op a
top_reduced t = t

-- ---- the first read that depends on conditions

-- the parts outside the bodies of quantifiers
abbrev pub outer_parts : Tree ℕ → List (Tree ℕ)
outer_parts (quantified q low high body) = low ∷ high ∷ []
outer_parts t = parts t

-- the tree itself is such a read
abbrev pub reads_written : Tree ℕ → Bool
reads_written (binary op a j) = is_read op && is_written_sequence a
reads_written t = false

abbrev mutual
  -- the tree has such a read, outside the bodies of quantifiers
  pub has_read : Tree ℕ → Bool
  has_read (literal z) = false
  has_read (truth_literal b) = false
  has_read (name n) = false
  has_read (bound n) = false
  has_read (unary op a) = has_read a
  has_read (binary op a b) = (has_read a || has_read b) || (is_read op && is_written_sequence a)
  has_read (update a i x) = has_read a || (has_read i || has_read x)
  has_read (quantified q low high body) = has_read low || has_read high
  has_read (listed l ts) = some_has_read ts

  pub some_has_read : Trees ℕ → Bool
  some_has_read no_trees = false
  some_has_read (tree_then t ts) = has_read t || some_has_read ts

-- the place of the first element that passes the test
abbrev pub first_place : {X : Type 0} → (X → Bool) → List X → Option ℕ
first_place p [] = None
first_place p (x ∷ xs) = if p x then Some 0 else option_map suc (first_place p xs)

-- the place of the first outer part that has one
abbrev pub place_of_read : Tree ℕ → Option ℕ
place_of_read t = first_place has_read (outer_parts t)

-- The first such read of the tree, inner ones first; of a tree whose outer parts have none, the tree.
pub data IsFirstRead : Tree ℕ → Tree ℕ → Type 0 where
  here : {t : Tree ℕ} → place_of_read t ≡ None → IsFirstRead t t
  inside : {t p r : Tree ℕ} (k : ℕ) → place_of_read t ≡ Some k → slice_get (parts t) k ≡ Some p → IsFirstRead p r → IsFirstRead t r

-- the tree t with v in place of that read is u
pub data IsWithRead (v : Tree ℕ) : Tree ℕ → Tree ℕ → Type 0 where
  instead : {t : Tree ℕ} → place_of_read t ≡ None → IsWithRead v t v
  around : {t p q u : Tree ℕ} (k : ℕ) → place_of_read t ≡ Some k → slice_get (parts t) k ≡ Some p → IsWithRead v p q → head u ≡ head t → parts u ≡ set (parts t) k q → IsWithRead v t u
