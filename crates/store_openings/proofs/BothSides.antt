-- The parts of an And, by numbers.
use Rattle.std.proofs.Common.{◌≡◌, ℕ, zero, suc, ◌<◌, ◌≤◌, ◌+◌, List, [], ◌∷◌, ◌++◌, map, take, length, get_or, Option, Some, None, refl, sym, ap, ap₂, ◌∙◌, subst, append_assoc, arith, add-one}
use Rattle.std.specs.List.{AllByRecursion, flat_map}
use Rattle.std.proofs.lemmas.List.{append-nil, map_push}
use Rattle.slang_values.specs.Tree.{Tree, binary}
use Rattle.slang_values.specs.declared.operators.Binary.{Binary}
use Rattle.instance_rules.specs.Instances.{conjuncts}
use Rattle.term_nodes.specs.declared.node.Node.{Node}
use Rattle.term_nodes.specs.declared.node.NodeShape.{NodeShape}
use Rattle.term_nodes.specs.Node.{numbers, shape_tree, shape_numbers, IsShapeOf}
use Rattle.term_store.specs.Store.{stored, tree_at, IsPlaced, AreWithin}
use Rattle.node_parts.proofs.Placed.{shape-tree_at}
use Rattle.store_openings.specs.declared.conjuncts.Sides.{Sides}
use Rattle.store_openings.specs.Ranges.{IsAndOf, HasSides, AreSidesOf}

pub sides_of_shape : (store : List Node) (id : ℕ) (n : Node) (s : NodeShape) (o : Option Sides) → IsPlaced store id n → IsShapeOf n s → IsAndOf s o → AreSidesOf store id o
sides_of_shape store id n s None h g e =
    let is = shape-tree_at store id n s h g in ap conjuncts is ∙ e (stored store) ∙ ap (λ t. t ∷ []) (sym is)
sides_of_shape store id n s (Some p) h g e =
    let below = subst (AllByRecursion (λ k. k < id)) (g.numbers ∙ ap shape_numbers e) h.below in
    record { left = below.0; right = below.1.0; tree = shape-tree_at store id n s h g ∙ ap (shape_tree (stored store)) e }

-- both sides, one after the other
pub both_added : (store : List Node) (id : ℕ) (p : Sides) (old mid new : List (Tree ℕ)) → HasSides id store p → mid ≡ old ++ conjuncts (tree_at store p.left) → new ≡ mid ++ conjuncts (tree_at store p.right) → new ≡ old ++ conjuncts (tree_at store id)
both_added store id p old mid new h e f =
    f ∙ ap (λ ts. ts ++ conjuncts (tree_at store p.right)) e ∙ append_assoc old (conjuncts (tree_at store p.left)) (conjuncts (tree_at store p.right)) ∙ ap (λ t. old ++ conjuncts t) (sym h.tree)

-- the term itself
pub itself_added : (store : List Node) (id : ℕ) (old new : List ℕ) → conjuncts (tree_at store id) ≡ tree_at store id ∷ [] → new ≡ old ++ id ∷ [] → map (tree_at store) new ≡ map (tree_at store) old ++ conjuncts (tree_at store id)
itself_added store id old new e f = ap (map (tree_at store)) f ∙ map_push (tree_at store) old id ∙ ap (λ ts. map (tree_at store) old ++ ts) (sym e)

pub within_push : (store : List Node) (old new : List ℕ) (k : ℕ) → AreWithin store old → k < length store → new ≡ old ++ k ∷ [] → AreWithin store new
within_push store old new k h l e = subst (AreWithin store) (sym e) (push old h)
  where
    push : (ks : List ℕ) → AreWithin store ks → AreWithin store (ks ++ k ∷ [])
    push [] g = (l, tt)
    push (j ∷ ks) g = (g.0, push ks g.1)

flat-append : (ts us : List (Tree ℕ)) → flat_map conjuncts (ts ++ us) ≡ flat_map conjuncts ts ++ flat_map conjuncts us
flat-append [] us = refl
flat-append (t ∷ ts) us = ap (λ xs. conjuncts t ++ xs) (flat-append ts us) ∙ sym (append_assoc (conjuncts t) (flat_map conjuncts ts) (flat_map conjuncts us))

pub take-more : (f : ℕ → Tree ℕ) (ks : List ℕ) (i d : ℕ) → i < length ks → map f (take (i + 1) ks) ≡ map f (take i ks) ++ f (get_or ks i d) ∷ []
take-more f [] i d l = absurd (omega arith)
take-more f (k ∷ ks) zero d l = refl
take-more f (k ∷ ks) (suc i) d l = ap (λ n. map f (take n (k ∷ ks))) (add-one (suc i)) ∙ ap (λ ts. f k ∷ ts) (ap (λ n. map f (take n ks)) (sym (add-one i)) ∙ take-more f ks i d (omega arith))

-- one fact more
pub conjuncts_next : (store : List Node) (ks : List ℕ) (i d : ℕ) (mid new : List (Tree ℕ)) → i < length ks → mid ≡ flat_map conjuncts (map (tree_at store) (take i ks)) → new ≡ mid ++ conjuncts (tree_at store (get_or ks i d)) → new ≡ flat_map conjuncts (map (tree_at store) (take (i + 1) ks))
conjuncts_next store ks i d mid new l e f =
    let t = tree_at store (get_or ks i d) in
    f ∙ ap (λ ts. ts ++ conjuncts t) e
    ∙ sym (ap (flat_map conjuncts) (take-more (tree_at store) ks i d l) ∙ flat-append (map (tree_at store) (take i ks)) (t ∷ []) ∙ ap (λ ts. flat_map conjuncts (map (tree_at store) (take i ks)) ++ ts) (append-nil (conjuncts t)))
