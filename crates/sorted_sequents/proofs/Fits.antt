-- Trees that fit, part by part.
use Rattle.std.proofs.Common.{◌≡◌, ℕ, zero, suc, ◌+◌, ◌<◌, ◌≤◌, Bool, true, false, ◌&&◌, List, [], ◌∷◌, map, drop, length, get_or, drop-cons, add-one, refl}
use Rattle.std.proofs.Common.{sym, ap, ◌∙◌, subst, arith}
use Rattle.std.specs.List.{list_all, All, AllByRecursion}
use Rattle.std.proofs.lemmas.List.Elements.{All-from_recursion}
use Rattle.slang_values.specs.Value.{ValueType, Records, same_type}
use Rattle.slang_values.specs.Tree.{Tree, literal, truth_literal, name, bound, unary, binary, update, quantified, listed, Trees, no_trees, tree_then, parts}
use Rattle.slang_values.specs.Tree.{tree_list}
use Rattle.slang_values.specs.Typing.{NameTypes, type_of}
use Rattle.term_trees.specs.declared.term.Sort.{Sort}
use Rattle.term_trees.specs.Term.{trees_of, sort_type}
use Rattle.term_nodes.specs.declared.node.Node.{Node}
use Rattle.term_nodes.specs.declared.node.NodeShape.{NodeShape}
use Rattle.term_nodes.specs.Node.{numbers, shape_tree, shape_numbers, IsShapeOf}
use Rattle.term_store.specs.Store.{stored, tree_at, IsPlaced}
use Rattle.node_parts.proofs.Placed.{shape-tree_at, parts-placed}
use Rattle.sorted_sequents.specs.Fitting.{has_type, each_has, have, fits, is_fit, are_fit}

and_true : (b : Bool) → (b && true) ≡ b
and_true true = refl
and_true false = refl

and_false : (a b : Bool) → b ≡ false → (a && b) ≡ false
and_false true b h = h
and_false false b h = refl

pub one-end : (b : Bool) → b ≡ (b && true)
one-end b = sym (and_true b)

pub two-end : (a b : Bool) → (a && b) ≡ (a && (b && true))
two-end a b = ap (λ c. a && c) (sym (and_true b))

pub three-end : (a b c : Bool) → (a && (b && c)) ≡ (a && (b && (c && true)))
three-end a b c = ap (λ d. a && (b && d)) (sym (and_true c))

pub ruleset and_lines = (one-end, two-end, three-end)

module _ (records : Records) (types : NameTypes ℕ) where
  fit_list : (ts : Trees ℕ) → are_fit records types ts ≡ list_all (is_fit records types) (tree_list ts)
  fit_list no_trees = refl
  fit_list (tree_then t ts) = ap (λ b. is_fit records types t && b) (fit_list ts)

  -- a tree fits where its operator fits and its parts do
  pub fit_by_parts : (t : Tree ℕ) → is_fit records types t ≡ (fits records types t && list_all (is_fit records types) (parts t))
  fit_by_parts (literal z) = refl
  fit_by_parts (truth_literal b) = refl
  fit_by_parts (name n) = one-end (fits records types (name n))
  fit_by_parts (bound n) = refl
  fit_by_parts (unary op a) = ap (λ b. fits records types (unary op a) && b) (one-end (is_fit records types a))
  fit_by_parts (binary op a b) = ap (λ c. fits records types (binary op a b) && c) (two-end (is_fit records types a) (is_fit records types b))
  fit_by_parts (update a i x) =
      ap (λ c. fits records types (update a i x) && c) (three-end (is_fit records types a) (is_fit records types i) (is_fit records types x))
  fit_by_parts (quantified q low high body) =
      ap (λ c. fits records types (quantified q low high body) && c)
      (three-end (is_fit records types low) (is_fit records types high) (is_fit records types body))
  fit_by_parts (listed l ts) = ap (λ b. fits records types (listed l ts) && b) (fit_list ts)

  -- a stored term, by its shape
  pub fit_stored : (store : List Node) (id : ℕ) (n : Node) (s : NodeShape) → IsPlaced store id n → IsShapeOf n s →
      (fits records types (shape_tree (stored store) s) && list_all (is_fit records types) (map (tree_at store) (shape_numbers s)))
      ≡ is_fit records types (tree_at store id)
  fit_stored store id n s p g =
      ap (λ t. fits records types t && list_all (is_fit records types) (map (tree_at store) (shape_numbers s))) (sym (shape-tree_at store id n s p g))
      ∙ ap (λ ks. fits records types (tree_at store id) && list_all (is_fit records types) (map (tree_at store) ks)) (sym g.numbers)
      ∙ ap (λ ts. fits records types (tree_at store id) && list_all (is_fit records types) ts) (sym (parts-placed store id n p))
      ∙ sym (fit_by_parts (tree_at store id))

  -- ---- lists of parts

  -- The part at a place is of the type: so it depends on those behind it. Where it is not, there is none.
  pub each_part : (f : ℕ → Tree ℕ) (ids : List ℕ) (i d : ℕ) (t : ValueType) (b : Bool) → i < length ids → has_type records types t (f (get_or ids i d)) ≡ b
      → each_has records types t (trees_of (map f (drop i ids))) ≡ (b && each_has records types t (trees_of (map f (drop (i + 1) ids))))
  each_part f ids i d t b h e =
      ap (λ l. each_has records types t (trees_of (map f l))) (drop-cons ids i d h)
      ∙ ap (λ x. x && each_has records types t (trees_of (map f (drop (suc i) ids)))) e
      ∙ ap (λ n. b && each_has records types t (trees_of (map f (drop n ids)))) (sym (add-one i))

  pub all_parts : (f : ℕ → Tree ℕ) (ids : List ℕ) (ts : List Sort) (i d : ℕ) (u : Sort) (b : Bool) → i < length ids → i < length ts
      → has_type records types (sort_type (get_or ts i u)) (f (get_or ids i d)) ≡ b
      → have records types (map sort_type (drop i ts)) (trees_of (map f (drop i ids)))
      ≡ (b && have records types (map sort_type (drop (i + 1) ts)) (trees_of (map f (drop (i + 1) ids))))
  all_parts f ids ts i d u b h k e =
      ap (λ l. have records types (map sort_type l) (trees_of (map f (drop i ids)))) (drop-cons ts i u k)
      ∙ ap (λ l. have records types (map sort_type (get_or ts i u ∷ drop (suc i) ts)) (trees_of (map f l))) (drop-cons ids i d h)
      ∙ ap (λ x. x && have records types (map sort_type (drop (suc i) ts)) (trees_of (map f (drop (suc i) ids)))) e
      ∙ ap (λ n. b && have records types (map sort_type (drop n ts)) (trees_of (map f (drop n ids)))) (sym (add-one i))

  -- lists of other lengths
  pub other_lengths : (f : ℕ → Tree ℕ) (ids : List ℕ) (ts : List Sort) → (length ts ≡ length ids → ⊥)
      → have records types (map sort_type ts) (trees_of (map f ids)) ≡ false
  other_lengths f [] [] h = absurd (h refl)
  other_lengths f [] (t ∷ ts) h = refl
  other_lengths f (k ∷ ks) [] h = refl
  other_lengths f (k ∷ ks) (t ∷ ts) h =
      and_false (has_type records types (sort_type t) (f k)) (have records types (map sort_type ts) (trees_of (map f ks)))
      (other_lengths f ks ts (λ e. h (ap suc e)))

-- the parts of a term stand before it
pub parts-before : (store : List Node) (id count : ℕ) (n : Node) (s : NodeShape) → IsPlaced store id n → IsShapeOf n s → id ≤ count
    → All (λ k. k < count) (shape_numbers s)
parts-before store id count n s p g l =
    All-from_recursion (λ k. k < count) (shape_numbers s) (subst (AllByRecursion (λ k. k < count)) g.numbers (before (numbers n) p.below))
  where
    before : (ks : List ℕ) → AllByRecursion (λ k. k < id) ks → AllByRecursion (λ k. k < count) ks
    before [] h = tt
    before (k ∷ ks) h = (omega (arith, h.0), before ks h.1)
