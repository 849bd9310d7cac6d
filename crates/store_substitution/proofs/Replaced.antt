-- Trees with a term in place of a bound variable, part by part.
use Rattle.std.proofs.Common.{◌≡◌, ℕ, zero, suc, ◌+◌, ◌<◌, ◌≤◌, max, List, [], ◌∷◌, ◌++◌, map, take, length, get_or, slice_get, cond, Bool, true, false, Option, Some, None, Result, Ok, Err, OnOk, OnErr, refl, sym, ap, ap₂, ◌∙◌, subst, arith, add-one}
use Rattle.std.specs.List.{Contains, flat_map}
use Rattle.std.specs.Option.{option_map}
use Rattle.std.proofs.lemmas.Bool.{ne_eqb, le-ltb, lt-ltb, ltb-true, ltb-false}
use Rattle.std.proofs.Math.Dec.{ltb, eqb}
use Rattle.std.proofs.lemmas.List.Elements.{Contains-append_left, Contains-append_right}
use Rattle.std.proofs.lemmas.Option.{slice_get-map, slice_get_read}
use Rattle.slang_values.specs.Tree.{Tree, literal, truth_literal, name, bound, unary, binary, update, quantified, listed, Trees, no_trees, tree_then, sequence_of, record_of, parts, tree_list}
use Rattle.tree_forms.specs.Order.{head}
use Rattle.substitution.specs.Substitution.{substituted, all_substituted}
use Rattle.term_nodes.specs.declared.node.Node.{Node}
use Rattle.term_nodes.specs.declared.node.NodeShape.{NodeShape}
use Rattle.term_nodes.specs.Node.{node_tree, node_head, numbers, shape_tree, tree_of, IsShapeOf}
use Rattle.term_trees.specs.Term.{trees_of}
use Rattle.term_nodes.proofs.Nodes.{same_by_parts, head-node_tree, parts-node_tree}
use Rattle.term_store.specs.Store.{stored, tree_at, Holds, IsPlaced, AreTreesOf, Grows, GainsAmong, subtrees}
use Rattle.term_store.proofs.Gains.{AreTreesOf-more, GainsAmong-more, subtrees-parts}
use Rattle.term_store.proofs.Stores.{Grows-tree_at, Holds-at, Holds-tree_at}
use Rattle.node_parts.proofs.Placed.{parts-placed, head-placed, shape-tree_at}
use Rattle.store_substitution.specs.Loose.{depth_needed, depth_needed_by_all, AreDepths}
use Rattle.store_substitution.specs.Levels.{bound_in, outer_count, level_of, levelled}

-- ---- where no bound variable is loose

module _ (u : Tree ℕ) where
  mutual
    pub closed_stays : (n : ℕ) (t : Tree ℕ) → depth_needed t ≤ n → substituted n u t ≡ t
    closed_stays n (literal z) h = refl
    closed_stays n (truth_literal b) h = refl
    closed_stays n (name a) h = refl
    closed_stays n (bound m) h = ap (λ b. cond b u (bound m)) (ne_eqb m n (λ e. omega arith))
    closed_stays n (unary op a) h = ap (unary op) (closed_stays n a h)
    closed_stays n (binary op a b) h = ap₂ (binary op) (closed_stays n a (omega arith)) (closed_stays n b (omega arith))
    closed_stays n (update a i x) h =
        let e = closed_stays n a (omega arith) in
        let f = closed_stays n i (omega arith) in
        let g = closed_stays n x (omega arith) in
        λ j. update (e j) (f j) (g j)
    closed_stays n (quantified q low high body) h =
        let e = closed_stays n low (omega arith) in
        let f = closed_stays n high (omega arith) in
        let g = closed_stays (suc n) body (omega arith) in
        λ j. quantified q (e j) (f j) (g j)
    closed_stays n (listed l ts) h = ap (listed l) (all_closed_stay n ts h)

    all_closed_stay : (n : ℕ) (ts : Trees ℕ) → depth_needed_by_all ts ≤ n → all_substituted n u ts ≡ ts
    all_closed_stay n no_trees h = refl
    all_closed_stay n (tree_then t ts) h = ap₂ tree_then (closed_stays n t (omega arith)) (all_closed_stay n ts (omega arith))

-- ---- a bound variable

none_some : {X : Type 0} {P : Type 0} (x : X) → ◌≡◌ {A = Option X} None (Some x) → P
none_some x e = absurd (cc)

-- the only tree that is a bound variable
pub the_bound : (t : Tree ℕ) (m : ℕ) → bound_in t ≡ Some m → t ≡ bound m
the_bound (literal z) m e = none_some m e
the_bound (truth_literal b) m e = none_some m e
the_bound (name n) m e = none_some m e
the_bound (bound n) m e = ap bound (let f : n ≡ m = cc in f)
the_bound (unary op a) m e = none_some m e
the_bound (binary op a b) m e = none_some m e
the_bound (update a i x) m e = none_some m e
the_bound (quantified q low high body) m e = none_some m e
the_bound (listed l ts) m e = none_some m e

-- the operator of a shape says which term is a bound variable, and how many parts are no body
pub bound_by_shape : (ts : List (Tree ℕ)) (s : NodeShape) → bound_in (shape_tree ts s) ≡ bound_in (shape_tree [] s)
bound_by_shape ts (NodeShape.Literal z) = refl
bound_by_shape ts (NodeShape.Truth b) = refl
bound_by_shape ts (NodeShape.Symbol n) = refl
bound_by_shape ts (NodeShape.Bound n) = refl
bound_by_shape ts (NodeShape.Unary op a) = refl
bound_by_shape ts (NodeShape.Binary op a b) = refl
bound_by_shape ts (NodeShape.Update a i x) = refl
bound_by_shape ts (NodeShape.Quantified q low high body) = refl
bound_by_shape ts (NodeShape.Sequence s ks) = refl
bound_by_shape ts (NodeShape.Record n ks) = refl

pub count_listed : (f : ℕ → Tree ℕ) (ks : List ℕ) → length (tree_list (trees_of (map f ks))) ≡ length ks
count_listed f [] = refl
count_listed f (k ∷ ks) = ap suc (count_listed f ks)

outer_by_shape : (ts : List (Tree ℕ)) (s : NodeShape) → outer_count (shape_tree ts s) ≡ outer_count (shape_tree [] s)
outer_by_shape ts (NodeShape.Literal z) = refl
outer_by_shape ts (NodeShape.Truth b) = refl
outer_by_shape ts (NodeShape.Symbol n) = refl
outer_by_shape ts (NodeShape.Bound n) = refl
outer_by_shape ts (NodeShape.Unary op a) = refl
outer_by_shape ts (NodeShape.Binary op a b) = refl
outer_by_shape ts (NodeShape.Update a i x) = refl
outer_by_shape ts (NodeShape.Quantified q low high body) = refl
outer_by_shape ts (NodeShape.Sequence s ks) = count_listed (tree_of ts) ks.now ∙ sym (count_listed (tree_of []) ks.now)
outer_by_shape ts (NodeShape.Record n ks) = count_listed (tree_of ts) ks.now ∙ sym (count_listed (tree_of []) ks.now)

pub outer_placed : (store : List Node) (id : ℕ) (n : Node) (s : NodeShape) (outer : ℕ) → IsPlaced store id n → IsShapeOf n s → outer ≡ outer_count (shape_tree [] s) → outer ≡ outer_count (tree_at store id)
outer_placed store id n s outer h g e = e ∙ sym (outer_by_shape (stored store) s) ∙ ap outer_count (sym (shape-tree_at store id n s h g))

-- the number of a bound variable's substitution
pub variable_held : (store : List Node) (id : ℕ) (node : Node) (s : NodeShape) (m n by r : ℕ) → IsPlaced store id node → IsShapeOf node s → bound_in (shape_tree [] s) ≡ Some m → id < length store → by < length store → r ≡ cond (eqb m n) by id →
    Holds store r (substituted n (tree_at store by) (tree_at store id))
variable_held store id node s m n by r h g e within by_within f =
    let is : tree_at store id ≡ bound m = the_bound (tree_at store id) m (ap bound_in (shape-tree_at store id node s h g) ∙ bound_by_shape (stored store) s ∙ e) in
    subst (λ t. Holds store r (substituted n (tree_at store by) t)) (sym is) (subst (λ k. Holds store k (substituted n (tree_at store by) (bound m))) (sym f) (by_test (eqb m n) refl is))
  where
    by_test : (b : Bool) → eqb m n ≡ b → tree_at store id ≡ bound m → Holds store (cond b by id) (cond b (tree_at store by) (bound m))
    by_test true i j = Holds-tree_at store by by_within
    by_test false i j = Holds-at store id (bound m) within j

pub closed_held : (store : List Node) (depths : List ℕ) (id n by : ℕ) → AreDepths store depths → id < length depths → get_or depths id 0 ≤ n → Holds store id (substituted n (tree_at store by) (tree_at store id))
closed_held store depths id n by h l e =
    Holds-at store id (substituted n (tree_at store by) (tree_at store id)) (omega (arith, h.within, l)) (sym (closed_stays (tree_at store by) n (tree_at store id) (subst (λ d. d ≤ n) (h.at id l) e)))

-- ---- the parts

list_replaced : (n : ℕ) (u : Tree ℕ) (ts : Trees ℕ) → tree_list (all_substituted n u ts) ≡ levelled n u (length (tree_list ts)) (tree_list ts)
list_replaced n u no_trees = refl
list_replaced n u (tree_then t ts) = ap (λ us. substituted n u t ∷ us) (list_replaced n u ts)

pub parts_replaced : (n : ℕ) (u t : Tree ℕ) → bound_in t ≡ None → parts (substituted n u t) ≡ levelled n u (outer_count t) (parts t)
parts_replaced n u (literal z) e = refl
parts_replaced n u (truth_literal b) e = refl
parts_replaced n u (name a) e = refl
parts_replaced n u (bound m) e = none_some m (sym e)
parts_replaced n u (unary op a) e = refl
parts_replaced n u (binary op a b) e = refl
parts_replaced n u (update a i x) e = refl
parts_replaced n u (quantified q low high body) e = refl
parts_replaced n u (listed l ts) e = list_replaced n u ts

head_replaced : (n : ℕ) (u t : Tree ℕ) → bound_in t ≡ None → head (substituted n u t) ≡ head t
head_replaced n u (literal z) e = refl
head_replaced n u (truth_literal b) e = refl
head_replaced n u (name a) e = refl
head_replaced n u (bound m) e = none_some m (sym e)
head_replaced n u (unary op a) e = refl
head_replaced n u (binary op a b) e = refl
head_replaced n u (update a i x) e = refl
head_replaced n u (quantified q low high body) e = refl
head_replaced n u (listed (sequence_of s) ts) e = refl
head_replaced n u (listed (record_of r) ts) e = refl

-- the node over the numbers of the new parts has the new tree
pub node_replaced : (old mid : List Node) (m node : Node) (id n outer : ℕ) (u : Tree ℕ) (ids ks : List ℕ) → IsPlaced old id node → bound_in (tree_at old id) ≡ None → outer ≡ outer_count (tree_at old id) → node_head m ≡ node_head node → numbers m ≡ ids → ks ≡ numbers node →
    AreTreesOf mid ids (levelled n u outer (map (tree_at old) ks)) → node_tree (stored mid) m ≡ substituted n u (tree_at old id)
node_replaced old mid m node id n outer u ids ks h e o f g k t =
    same_by_parts (node_tree (stored mid) m) (substituted n u (tree_at old id))
    (head-node_tree (stored mid) m ∙ f ∙ sym (head-placed old id node h) ∙ sym (head_replaced n u (tree_at old id) e))
    (parts-node_tree (stored mid) m ∙ ap (map (tree_at mid)) g ∙ t.trees ∙ ap₂ (λ a ts. levelled n u a ts) o (ap (map (tree_at old)) k ∙ sym (parts-placed old id node h)) ∙ sym (parts_replaced n u (tree_at old id) e))

length_levelled : (n : ℕ) (u : Tree ℕ) (outer : ℕ) (ts : List (Tree ℕ)) → length (levelled n u outer ts) ≡ length ts
length_levelled n u outer [] = refl
length_levelled n u zero (t ∷ ts) = ap suc (length_levelled n u zero ts)
length_levelled n u (suc outer) (t ∷ ts) = ap suc (length_levelled n u outer ts)

pub as_many_replaced : (old : List Node) (n : ℕ) (u : Tree ℕ) (outer : ℕ) (ks : List ℕ) → length (levelled n u outer (map (tree_at old) ks)) ≡ length ks
as_many_replaced old n u outer [] = refl
as_many_replaced old n u zero (k ∷ ks) = ap suc (as_many_replaced old n u zero ks)
as_many_replaced old n u (suc outer) (k ∷ ks) = ap suc (as_many_replaced old n u outer ks)

level_beyond : (n i : ℕ) → level_of n 0 i ≡ suc n
level_beyond n i = ap (λ b. cond b n (n + 1)) (le-ltb i 0 (omega arith)) ∙ add-one n

level_next : (n outer i : ℕ) → level_of n (suc outer) (suc i) ≡ level_of n outer i
level_next n outer i = by (ltb i outer) refl
  where
    by : (b : Bool) → ltb i outer ≡ b → level_of n (suc outer) (suc i) ≡ level_of n outer i
    by true e =
        let l : i < outer = ltb-true i outer e in
        ap (λ b. cond b n (n + 1)) (lt-ltb (suc i) (suc outer) (omega arith)) ∙ sym (ap (λ b. cond b n (n + 1)) e)
    by false e =
        let l : outer ≤ i = ltb-false i outer e in
        ap (λ b. cond b n (n + 1)) (le-ltb (suc i) (suc outer) (omega arith)) ∙ sym (ap (λ b. cond b n (n + 1)) e)

-- the part at a place
pub levelled_at : (n : ℕ) (u : Tree ℕ) (outer : ℕ) (ts : List (Tree ℕ)) (i : ℕ) (t : Tree ℕ) → slice_get ts i ≡ Some t → slice_get (levelled n u outer ts) i ≡ Some (substituted (level_of n outer i) u t)
levelled_at n u outer [] i t e = none_some t e
levelled_at n u zero (s ∷ ts) zero t e = ap₂ (λ m o. option_map (substituted m u) o) (sym (level_beyond n 0)) e
levelled_at n u (suc outer) (s ∷ ts) zero t e =
    ap (option_map (substituted n u)) e ∙ ap (λ m. Some (substituted m u t)) (sym (ap (λ b. cond b n (n + 1)) (lt-ltb 0 (suc outer) (omega arith))))
levelled_at n u zero (s ∷ ts) (suc i) t e = levelled_at n u zero ts i t e ∙ ap (λ m. Some (substituted m u t)) (level_beyond n i ∙ sym (level_beyond n (suc i)))
levelled_at n u (suc outer) (s ∷ ts) (suc i) t e = levelled_at n u outer ts i t e ∙ ap (λ m. Some (substituted m u t)) (sym (level_next n outer i))

at_number : (old : List Node) (ks : List ℕ) (i x : ℕ) → i < length ks → x ≡ get_or ks i x → slice_get (map (tree_at old) ks) i ≡ Some (tree_at old x)
at_number old ks i x l e = slice_get-map (tree_at old) ks i ∙ ap (option_map (tree_at old)) (slice_get_read ks (length ks) i x refl l e)

-- one number more
pub replaced_more : (old mid new : List Node) (n outer by : ℕ) (ids ks : List ℕ) (i k x level : ℕ) → AreTreesOf mid ids (take i (levelled n (tree_at old by) outer (map (tree_at old) ks))) → Grows old mid → Grows mid new → i < length ks → x ≡ get_or ks i x → x < length old → by < length old →
    level ≡ level_of n outer i → Holds new k (substituted level (tree_at mid by) (tree_at mid x)) → AreTreesOf new (ids ++ k ∷ []) (take (i + 1) (levelled n (tree_at old by) outer (map (tree_at old) ks)))
replaced_more old mid new n outer by ids ks i k x level h before after l e within by_within f held =
    let same : substituted level (tree_at mid by) (tree_at mid x) ≡ substituted (level_of n outer i) (tree_at old by) (tree_at old x) =
    λ j. substituted (f j) (Grows-tree_at old mid by before by_within j) (Grows-tree_at old mid x before within j) in
    AreTreesOf-more mid new ids (levelled n (tree_at old by) outer (map (tree_at old) ks)) i k (substituted (level_of n outer i) (tree_at old by) (tree_at old x)) h after
    (levelled_at n (tree_at old by) outer (map (tree_at old) ks) i (tree_at old x) (at_number old ks i x l e)) (subst (Holds new k) same held)

-- ---- what is gained

pub gains_more_part : (old mid new : List Node) (n outer by : ℕ) (ks : List ℕ) (i x level : ℕ) → GainsAmong old mid (flat_map subtrees (levelled n (tree_at old by) outer (map (tree_at old) ks))) → i < length ks → x ≡ get_or ks i x → x < length old → by < length old →
    level ≡ level_of n outer i → GainsAmong mid new (subtrees (substituted level (tree_at mid by) (tree_at mid x))) → GainsAmong old new (flat_map subtrees (levelled n (tree_at old by) outer (map (tree_at old) ks)))
gains_more_part old mid new n outer by ks i x level before l e within by_within f more =
    let ts = levelled n (tree_at old by) outer (map (tree_at old) ks) in
    let same : substituted level (tree_at mid by) (tree_at mid x) ≡ substituted (level_of n outer i) (tree_at old by) (tree_at old x) =
    λ j. substituted (f j) (Grows-tree_at old mid by before.grows by_within j) (Grows-tree_at old mid x before.grows within j) in
    let there = levelled_at n (tree_at old by) outer (map (tree_at old) ks) i (tree_at old x) (at_number old ks i x l e) in
    GainsAmong-more old mid new (flat_map subtrees ts) before (record {
      grows = more.grows;
      among = λ k m g. flat_contains ts i (substituted (level_of n outer i) (tree_at old by) (tree_at old x)) (tree_at new k) there (subst (λ t. Contains (subtrees t) (tree_at new k)) same (more.among k m g));
    })
  where
    flat_contains : (ts : List (Tree ℕ)) (i : ℕ) (t v : Tree ℕ) → slice_get ts i ≡ Some t → Contains (subtrees t) v → Contains (flat_map subtrees ts) v
    flat_contains [] i t v e h = none_some t e
    flat_contains (s ∷ ts) zero t v e h = Contains-append_left (subtrees s) (flat_map subtrees ts) v (subst (λ z. Contains (subtrees z) v) (let f : t ≡ s = cc in f) h)
    flat_contains (s ∷ ts) (suc i) t v e h = Contains-append_right (subtrees s) (flat_map subtrees ts) v (flat_contains ts i t v e h)

-- what is gained among those of the parts is gained among those of the whole
pub gains_of_parts : (old mid : List Node) (n : ℕ) (u t : Tree ℕ) (outer : ℕ) (ts : List (Tree ℕ)) → bound_in t ≡ None → outer ≡ outer_count t → ts ≡ parts t → GainsAmong old mid (flat_map subtrees (levelled n u outer ts)) → GainsAmong old mid (subtrees (substituted n u t))
gains_of_parts old mid n u t outer ts e o p g = record {
  grows = g.grows;
  among = λ k f h. subst (λ us. Contains us (tree_at mid k)) (sym (subtrees-parts (substituted n u t)))
      (Contains-append_right (substituted n u t ∷ []) (flat_map subtrees (parts (substituted n u t))) (tree_at mid k)
      (subst (λ us. Contains (flat_map subtrees us) (tree_at mid k)) (ap₂ (λ a us. levelled n u a us) o p ∙ sym (parts_replaced n u t e)) (g.among k f h)));
}

pub bounded_level : (n outer i level id above top : ℕ) → level ≡ level_of n outer i → id < above → n + above < top → level + id < top
bounded_level n outer i level id above top e below h = by_test (ltb i outer) e
  where
    by_test : (b : Bool) → level ≡ cond b n (n + 1) → level + id < top
    by_test true f = omega arith
    by_test false f = omega arith
