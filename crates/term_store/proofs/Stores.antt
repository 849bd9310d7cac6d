-- Stores and their trees.
use Rattle.std.proofs.Common.{◌≡◌, ℕ, ◌<◌, ◌≤◌, ◌+◌, List, [], ◌∷◌, ◌++◌, map, length, get_or, Some, None, true, ◌⊎◌, inl, inr, refl, sym, ap, ap₂, ◌∙◌, subst, arith, length-append, append_assoc}
use Rattle.std.specs.List.{AllByRecursion}
use Rattle.std.proofs.lemmas.List.{get_or_append_left, get_or_push, length_push, append-nil}
use Rattle.std.proofs.lemmas.Option.{slice_get-get_or, slice_get_within, get_or_from_slice_get, none-some}
use Rattle.std.proofs.lemmas.Bool.{cases_lt}
use Rattle.std.specs.BTreeMap.{BTreeMap, get}
use Rattle.slang_values.specs.Tree.{Tree, truth_literal, parts}
use Rattle.tree_forms.specs.Order.{head}
use Rattle.term_nodes.specs.declared.node.Node.{Node}
use Rattle.term_nodes.specs.Node.{node_tree, numbers, tree_of, node_head}
use Rattle.term_store.specs.Store.{trees_over, stored, tree_at, Holds, AreWithin, IsPlaced, AllDistinct, IsStore, Grows}
use Rattle.term_nodes.specs.declared.key.Key.{Key}
use Rattle.term_nodes.specs.Key.{key_data, node_data, key_cmp}
use Rattle.term_store.specs.Inside.{IsIndexOf}
use Rattle.term_nodes.proofs.Nodes.{same_by_parts, head-node_tree, parts-node_tree, node_tree-agree}

-- ---- lists of nodes

pub trees_over-append : (ts : List (Tree ℕ)) (ns ms : List Node) → trees_over ts (ns ++ ms) ≡ trees_over (trees_over ts ns) ms
trees_over-append ts [] ms = refl
trees_over-append ts (n ∷ ns) ms = trees_over-append (ts ++ node_tree ts n ∷ []) ns ms

pub stored-push : (ns : List Node) (n : Node) → stored (ns ++ n ∷ []) ≡ stored ns ++ node_tree (stored ns) n ∷ []
stored-push ns n = trees_over-append [] ns (n ∷ [])

length-trees_over : (ts : List (Tree ℕ)) (ns : List Node) → length (trees_over ts ns) ≡ length ts + length ns
length-trees_over ts [] = omega arith
length-trees_over ts (n ∷ ns) = omega (arith, length-trees_over (ts ++ node_tree ts n ∷ []) ns, length_push ts (node_tree ts n))

pub length-stored : (ns : List Node) → length (stored ns) ≡ length ns
length-stored ns = omega (arith, length-trees_over [] ns)

tree_of-trees_over : (ts : List (Tree ℕ)) (ns : List Node) (k : ℕ) → k < length ts → tree_of (trees_over ts ns) k ≡ tree_of ts k
tree_of-trees_over ts [] k h = refl
tree_of-trees_over ts (n ∷ ns) k h =
    tree_of-trees_over (ts ++ node_tree ts n ∷ []) ns k (omega (arith, length_push ts (node_tree ts n))) ∙ get_or_append_left ts (node_tree ts n ∷ []) (truth_literal true) k h

-- ---- growth

-- a number goes on standing for its tree
pub tree_at-append : (ns ms : List Node) (k : ℕ) → k < length ns → tree_at (ns ++ ms) k ≡ tree_at ns k
tree_at-append ns ms k h =
    ap (λ ts. tree_of ts k) (trees_over-append [] ns ms) ∙ tree_of-trees_over (stored ns) ms k (omega (arith, length-stored ns))

pub tree_at-push : (ns : List Node) (n : Node) → tree_at (ns ++ n ∷ []) (length ns) ≡ node_tree (stored ns) n
tree_at-push ns n =
    ap (λ ts. tree_of ts (length ns)) (stored-push ns n) ∙ get_or_push (stored ns) (node_tree (stored ns) n) (truth_literal true) (length ns) (length-stored ns)

pub Holds-tree_at : (ns : List Node) (k : ℕ) → k < length ns → Holds ns k (tree_at ns k)
Holds-tree_at ns k h = slice_get-get_or (stored ns) k (truth_literal true) (omega (arith, length-stored ns))

pub Holds-at : (ns : List Node) (k : ℕ) (t : Tree ℕ) → k < length ns → tree_at ns k ≡ t → Holds ns k t
Holds-at ns k t h e = subst (Holds ns k) e (Holds-tree_at ns k h)

pub Holds-within : (ns : List Node) (k : ℕ) (t : Tree ℕ) → Holds ns k t → k < length ns
Holds-within ns k t h = omega (arith, length-stored ns, slice_get_within (stored ns) k t h)

pub tree_at-Holds : (ns : List Node) (k : ℕ) (t : Tree ℕ) → Holds ns k t → tree_at ns k ≡ t
tree_at-Holds ns k t h = get_or_from_slice_get (stored ns) k t (truth_literal true) h

pub Grows-Holds : (old new : List Node) (k : ℕ) (t : Tree ℕ) → Grows old new → Holds old k t → Holds new k t
Grows-Holds old new k t g h =
    let l = Holds-within old k t h in
    subst (λ ns. Holds ns k t) (sym g.is)
    (Holds-at (old ++ g.more) k t (omega (arith, length-append old g.more)) (tree_at-append old g.more k l ∙ tree_at-Holds old k t h))

pub Grows-itself : (ns : List Node) → Grows ns ns
Grows-itself ns = record { more = []; is = sym (append-nil ns) }

pub Grows-Grows : (a b c : List Node) → Grows a b → Grows b c → Grows a c
Grows-Grows a b c g h = record { more = g.more ++ h.more; is = h.is ∙ ap (λ ns. ns ++ h.more) g.is ∙ append_assoc a g.more h.more }

pub Grows-push : (ns : List Node) (n : Node) → Grows ns (ns ++ n ∷ [])
Grows-push ns n = record { more = n ∷ []; is = refl }

pub Grows-length : (old new : List Node) → Grows old new → length old ≤ length new
Grows-length old new g = omega (arith, ap length g.is, length-append old g.more)

pub Grows-tree_at : (old new : List Node) (k : ℕ) → Grows old new → k < length old → tree_at new k ≡ tree_at old k
Grows-tree_at old new k g h = ap (λ ns. tree_at ns k) g.is ∙ tree_at-append old g.more k h

-- ---- one node more

agree-push : (ns : List Node) (n : Node) (ks : List ℕ) (bound : ℕ) → bound ≤ length ns → AllByRecursion (λ p. p < bound) ks →
    AllByRecursion (λ k. tree_of (stored ns) k ≡ tree_of (stored (ns ++ n ∷ [])) k) ks
agree-push ns n [] bound le h = tt
agree-push ns n (k ∷ ks) bound le h = (sym (tree_at-append ns (n ∷ []) k (omega (arith, h.0))), agree-push ns n ks bound le h.1)

placed-push : (ns : List Node) (n : Node) → IsStore ns → AreWithin ns (numbers n) → (k : ℕ) (d : Node) → k < length (ns ++ n ∷ []) → IsPlaced (ns ++ n ∷ []) k (get_or (ns ++ n ∷ []) k d)
placed-push ns n s within k d h = by_place (cases_lt k (length ns))
  where
    by_place : (k < length ns) ⊎ (length ns ≤ k) → IsPlaced (ns ++ n ∷ []) k (get_or (ns ++ n ∷ []) k d)
    by_place (inl l) =
        let is : get_or (ns ++ n ∷ []) k d ≡ get_or ns k d = get_or_append_left ns (n ∷ []) d k l in
        let was = s.placed k d l in
        subst (IsPlaced (ns ++ n ∷ []) k) (sym is) (record {
          below = was.below;
          tree = tree_at-append ns (n ∷ []) k l ∙ was.tree ∙ node_tree-agree (stored ns) (stored (ns ++ n ∷ [])) (get_or ns k d) (agree-push ns n (numbers (get_or ns k d)) k (omega arith) was.below);
        })
    by_place (inr g) =
        let e : k ≡ length ns = omega (arith, length_push ns n) in
        let is : get_or (ns ++ n ∷ []) k d ≡ n = get_or_push ns n d k (sym e) in
        subst (IsPlaced (ns ++ n ∷ []) k) (sym is) (record {
          below = subst (λ b. AllByRecursion (λ p. p < b) (numbers n)) (sym e) within;
          tree = ap (tree_at (ns ++ n ∷ [])) e ∙ tree_at-push ns n ∙ node_tree-agree (stored ns) (stored (ns ++ n ∷ [])) n (agree-push ns n (numbers n) (length ns) (omega arith) within);
        })

-- ---- nodes of one tree

-- places of equal trees are equal, one after another
same_places : (ns : List Node) → AllDistinct ns → (js ks : List ℕ) → AreWithin ns js → AreWithin ns ks → map (tree_at ns) js ≡ map (tree_at ns) ks → js ≡ ks
same_places ns d [] [] h g e = refl
same_places ns d [] (k ∷ ks) h g e = absurd (cc)
same_places ns d (j ∷ js) [] h g e = absurd (cc)
same_places ns d (j ∷ js) (k ∷ ks) h g e =
    let first : tree_at ns j ≡ tree_at ns k = cc in
    let rest : map (tree_at ns) js ≡ map (tree_at ns) ks = cc in
    ap₂ (λ x xs. x ∷ xs) (d j k h.0 g.0 first) (same_places ns d js ks h.1 g.1 rest)

-- nodes of one tree have one head and the same parts
pub same_node_data : (ns : List Node) (m n : Node) → AllDistinct ns → AreWithin ns (numbers m) → AreWithin ns (numbers n) → node_tree (stored ns) m ≡ node_tree (stored ns) n → node_data m ≡ node_data n
same_node_data ns m n d h g e =
    let heads : node_head m ≡ node_head n = sym (head-node_tree (stored ns) m) ∙ ap head e ∙ head-node_tree (stored ns) n in
    let parts_agree : map (tree_at ns) (numbers m) ≡ map (tree_at ns) (numbers n) = sym (parts-node_tree (stored ns) m) ∙ ap parts e ∙ parts-node_tree (stored ns) n in
    ap₂ (λ x y. record { head = x; parts = y }) heads (same_places ns d (numbers m) (numbers n) h g parts_agree)

AreWithin-below : (ns : List Node) (ks : List ℕ) (bound : ℕ) → bound ≤ length ns → AllByRecursion (λ p. p < bound) ks → AreWithin ns ks
AreWithin-below ns [] bound le h = tt
AreWithin-below ns (k ∷ ks) bound le h = (omega (arith, h.0), AreWithin-below ns ks bound le h.1)

-- the parts of a node of the store are in the store
pub parts_within : (ns : List Node) (k : ℕ) (n : Node) → IsPlaced ns k n → k < length ns → AreWithin ns (numbers n)
parts_within ns k n p h = AreWithin-below ns (numbers n) k (omega arith) p.below

-- what the index lacks, the store lacks
pub lacks : (ns : List Node) (n : Node) (places : BTreeMap Key ℕ) (q : Key) → IsStore ns → IsIndexOf ns places → AreWithin ns (numbers n) → key_data q ≡ node_data n → get key_cmp places q ≡ None →
    (k : ℕ) → k < length ns → tree_at ns k ≡ node_tree (stored ns) n → ⊥
lacks ns n places q s index within is none k h e =
    let placed = s.placed k n h in
    let same : node_data (get_or ns k n) ≡ node_data n = same_node_data ns (get_or ns k n) n s.distinct (parts_within ns k (get_or ns k n) placed h) within (sym placed.tree ∙ e) in
    let found : get key_cmp places q ≡ Some k = index.complete q k n h (is ∙ sym same) in
    none-some k (sym none ∙ found)

-- what the index finds is the node's tree
pub finds : (ns : List Node) (n : Node) (places : BTreeMap Key ℕ) (q : Key) (k : ℕ) → IsStore ns → IsIndexOf ns places → key_data q ≡ node_data n → get key_cmp places q ≡ Some k → Holds ns k (node_tree (stored ns) n)
finds ns n places q k s index is found =
    let h = index.sound q k found in
    let same : node_data n ≡ node_data (get_or ns k n) = sym is ∙ index.exact q k n found in
    let placed = s.placed k n h in
    Holds-at ns k (node_tree (stored ns) n) h (placed.tree ∙ same_by_parts (node_tree (stored ns) (get_or ns k n)) (node_tree (stored ns) n)
    (head-node_tree (stored ns) (get_or ns k n) ∙ ap (λ x. x.head) (sym same) ∙ sym (head-node_tree (stored ns) n))
    (parts-node_tree (stored ns) (get_or ns k n) ∙ ap (λ x. map (tree_at ns) x.parts) (sym same) ∙ sym (parts-node_tree (stored ns) n)))

distinct-push : (ns : List Node) (n : Node) → AllDistinct ns → ((k : ℕ) → k < length ns → tree_at ns k ≡ node_tree (stored ns) n → ⊥) → AllDistinct (ns ++ n ∷ [])
distinct-push ns n d lacking j k h g e = by_places (cases_lt j (length ns)) (cases_lt k (length ns))
  where
    last : (i : ℕ) → i ≡ length ns → tree_at (ns ++ n ∷ []) i ≡ node_tree (stored ns) n
    last i f = ap (tree_at (ns ++ n ∷ [])) f ∙ tree_at-push ns n

    by_places : (j < length ns) ⊎ (length ns ≤ j) → (k < length ns) ⊎ (length ns ≤ k) → j ≡ k
    by_places (inl l) (inl m) = d j k l m (sym (tree_at-append ns (n ∷ []) j l) ∙ e ∙ tree_at-append ns (n ∷ []) k m)
    by_places (inl l) (inr m) =
        absurd (lacking j l (sym (tree_at-append ns (n ∷ []) j l) ∙ e ∙ last k (omega (arith, length_push ns n))))
    by_places (inr l) (inl m) =
        absurd (lacking k m (sym (tree_at-append ns (n ∷ []) k m) ∙ sym e ∙ last j (omega (arith, length_push ns n))))
    by_places (inr l) (inr m) = omega (arith, length_push ns n)

pub IsStore-push : (ns : List Node) (n : Node) → IsStore ns → AreWithin ns (numbers n) → ((k : ℕ) → k < length ns → tree_at ns k ≡ node_tree (stored ns) n → ⊥) → IsStore (ns ++ n ∷ [])
IsStore-push ns n s within lacking = record { placed = placed-push ns n s within; distinct = distinct-push ns n s.distinct lacking }
