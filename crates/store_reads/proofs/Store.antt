-- What a store's nodes make of reduced parts, of parts with a read, and of marks.
use Rattle.std.proofs.Common.{◌≡◌, ℕ, zero, suc, ◌<◌, ◌≤◌, ◌+◌, List, [], ◌∷◌, ◌++◌, map, set, take, length, get_or, slice_get, Bool, true, ◌&&◌, ◌||◌, Option, Some, None, Result, Ok, Err, IfOk, OnOk, OnErr, refl, sym, ap, ap₂, ◌∙◌, subst, arith, length-append}
use Rattle.std.specs.List.{All, AllByRecursion, Contains, list_all}
use Rattle.std.specs.Option.{is_some, option_map}
use Rattle.std.proofs.lemmas.List.{length-map, get_or-map}
use Rattle.std.proofs.lemmas.List.Elements.{All-from_recursion}
use Rattle.std.proofs.lemmas.Option.{slice_get-map, slice_get_within, slice_get_read, same_Some}
use Rattle.slang_values.specs.Tree.{Tree, parts, tree_list}
use Rattle.tree_forms.specs.Order.{head}
use Rattle.read_rules.specs.Reduced.{reduced}
use Rattle.term_trees.specs.Term.{trees_of}
use Rattle.term_nodes.specs.declared.node.Node.{Node}
use Rattle.term_nodes.specs.declared.node.NodeShape.{NodeShape}
use Rattle.term_nodes.specs.Node.{node_tree, numbers, node_head, tree_of, shape_tree, shape_numbers, IsShapeOf}
use Rattle.term_nodes.proofs.Nodes.{head-node_tree, parts-node_tree}
use Rattle.term_store.specs.Store.{stored, tree_at, Holds, AreWithin, IsPlaced, Grows, GainsAtMost, nothing, the_node, AreTreesOf}
use Rattle.term_store.proofs.Gains.{AreTreesOf-more}
use Rattle.term_store.proofs.Measures.{at_place}
use Rattle.term_store.proofs.Stores.{Grows-itself, Grows-push, Grows-length, Grows-tree_at, Holds-within, Holds-at, tree_at-Holds}
use Rattle.store_reads.specs.declared.marks.Mark.{Mark}
use Rattle.store_reads.specs.declared.marks.Part.{Part}
use Rattle.store_reads.specs.Marks.{IsMarkOf, AreMarked, HaveMarks, all_marked, marked_place, outer_numbers, IsMarkedPart, IsPartWithRead, HoldsWithRead}
use Rattle.store_reads.specs.Written.{top_stays, stays, top_reduced, has_read, first_place, outer_parts, reads_written, place_of_read, IsWithRead, around}
use Rattle.store_reads.proofs.Places.{stays-parts, reads-parts, all_marked-trees, marked_place-trees}
use Rattle.store_reads.proofs.Reduced.{stays-reduced, reduced-by_parts}

-- ---- adding

pub grows_after : {E : Type 0} (r : Result ℕ E) (a b : List Node) (n : Node) → OnOk r (GainsAtMost n a b) → OnErr r (b ≡ a) → Grows a b
grows_after (Ok k) a b n (nothing is) h = subst (Grows a) (sym is) (Grows-itself a)
grows_after (Ok k) a b n (the_node is) h = subst (Grows a) (sym is) (Grows-push a n)
grows_after (Err e) a b n g h = subst (Grows a) (sym h) (Grows-itself a)

-- ---- nodes of a store

-- the trees of a node's parts
pub parts-placed : (store : List Node) (id : ℕ) (n : Node) → IsPlaced store id n → parts (tree_at store id) ≡ map (tree_at store) (numbers n)
parts-placed store id n h = ap parts h.tree ∙ parts-node_tree (stored store) n

head-placed : (store : List Node) (id : ℕ) (n : Node) → IsPlaced store id n → head (tree_at store id) ≡ node_head n
head-placed store id n h = ap head h.tree ∙ head-node_tree (stored store) n

-- the parts stand before it
pub below-placed : (store : List Node) (id : ℕ) (n : Node) → IsPlaced store id n → All (λ k. k < id) (numbers n)
below-placed store id n h = All-from_recursion (λ k. k < id) (numbers n) h.below

slice_get-left : {X : Type 0} (xs ys : List X) (k : ℕ) (x : X) → slice_get xs k ≡ Some x → slice_get (xs ++ ys) k ≡ Some x
slice_get-left [] ys k x e = absurd (cc)
slice_get-left (y ∷ xs) ys zero x e = e
slice_get-left (y ∷ xs) ys (suc k) x e = slice_get-left xs ys k x e

-- a number has the node that it had
pub same_node : (old new : List Node) (id : ℕ) (n m : Node) → Grows old new → slice_get old id ≡ Some n → slice_get new id ≡ Some m → n ≡ m
same_node old new id n m g e f = same_Some n m (sym (slice_get-left old g.more id n e) ∙ sym (ap (λ ns. slice_get ns id) g.is) ∙ f)

-- ---- reduced parts

map-twice : (f : ℕ → Tree ℕ) (g : Tree ℕ → Tree ℕ) (ks : List ℕ) → map (λ k. g (f k)) ks ≡ map g (map f ks)
map-twice f g [] = refl
map-twice f g (k ∷ ks) = ap (λ ts. g (f k) ∷ ts) (map-twice f g ks)

pub reduced_node : (old mid : List Node) (n m : Node) (id : ℕ) (ids ks : List ℕ) → IsPlaced old id n → node_head m ≡ node_head n → numbers m ≡ ids → ks ≡ numbers n → AreTreesOf mid ids (map (λ k. reduced (tree_at old k)) ks) →
    top_reduced (node_tree (stored mid) m) ≡ reduced (tree_at old id)
reduced_node old mid n m id ids ks h e f g t =
    reduced-by_parts (tree_at old id) (node_tree (stored mid) m) (head-node_tree (stored mid) m ∙ e ∙ sym (head-placed old id n h))
    (parts-node_tree (stored mid) m ∙ ap (map (tree_at mid)) f ∙ t.trees ∙ map-twice (tree_at old) reduced ks ∙ ap (map reduced) (ap (map (tree_at old)) g ∙ sym (parts-placed old id n h)))

pub stays_held : (store : List Node) (marks : List Mark) (id : ℕ) (d : Mark) → AreMarked store marks → id < length store → id < length marks → (get_or marks id d).stays ≡ true → Holds store id (reduced (tree_at store id))
stays_held store marks id d h l m e =
    let mark = h.at id d m in
    Holds-at store id (reduced (tree_at store id)) l (sym (stays-reduced (tree_at store id) (sym mark.stays ∙ e)))

-- as many as there were
pub as_many : (mid : List Node) (ids ks : List ℕ) (f : ℕ → Tree ℕ) → AreTreesOf mid ids (map f ks) → length ids ≡ length ks
as_many mid ids ks f h = sym (length-map ids (tree_at mid)) ∙ ap length h.trees ∙ length-map ks f

take-map : (f : ℕ → Tree ℕ) (i : ℕ) (ks : List ℕ) → take i (map f ks) ≡ map f (take i ks)
take-map f zero ks = refl
take-map f (suc i) [] = refl
take-map f (suc i) (k ∷ ks) = ap (λ ts. f k ∷ ts) (take-map f i ks)

-- one reduced part more
pub reduced_more : (old mid new : List Node) (ks ids : List ℕ) (i k x : ℕ) → AreTreesOf mid ks (map (λ j. reduced (tree_at old j)) (take i ids)) → Grows old mid → Grows mid new → i < length ids → x ≡ get_or ids i x → x < length old → Holds new k (reduced (tree_at mid x)) →
    AreTreesOf new (ks ++ k ∷ []) (map (λ j. reduced (tree_at old j)) (take (i + 1) ids))
reduced_more old mid new ks ids i k x h before after l e within held =
    let f : ℕ → Tree ℕ = λ j. reduced (tree_at old j) in
    let there : slice_get (map f ids) i ≡ Some (f x) = slice_get-map f ids i ∙ ap (option_map f) (slice_get_read ids (length ids) i x refl l e) in
    subst (AreTreesOf new (ks ++ k ∷ [])) (take-map f (i + 1) ids)
    (AreTreesOf-more mid new ks (map f ids) i k (f x) (subst (AreTreesOf mid ks) (sym (take-map f i ids)) h) after there (subst (λ t. Holds new k (reduced t)) (Grows-tree_at old mid x before within) held))

-- ---- a part with a read

set-map : {X Y : Type 0} (f : X → Y) (xs : List X) (i : ℕ) (x : X) → map f (set xs i x) ≡ set (map f xs) i (f x)
set-map f [] i x = refl
set-map f (y ∷ xs) zero x = refl
set-map f (y ∷ xs) (suc i) x = ap (λ ys. f y ∷ ys) (set-map f xs i x)

pub with_read_node : (v : Tree ℕ) (old mid : List Node) (n m : Node) (id place part k : ℕ) → Grows old mid → id < length old → IsPlaced mid id n → place_of_read (tree_at old id) ≡ Some place → slice_get (parts (tree_at old id)) place ≡ Some (tree_at old part) →
    HoldsWithRead mid k v (tree_at old part) → node_head m ≡ node_head n → numbers m ≡ set (numbers n) place k → IsWithRead v (tree_at old id) (node_tree (stored mid) m)
with_read_node v old mid n m id place part k grows within h e g held f i =
    let same = Grows-tree_at old mid id grows within in
    around place e g held.tree (head-node_tree (stored mid) m ∙ f ∙ sym (head-placed mid id n h) ∙ ap head same)
    (parts-node_tree (stored mid) m ∙ ap (map (tree_at mid)) i ∙ set-map (tree_at mid) (numbers n) place k ∙
    ap (λ ts. set ts place (tree_at mid k)) (sym (parts-placed mid id n h) ∙ ap parts same))

-- the place of a part is one among the node's numbers
pub place-within : (old mid : List Node) (n : Node) (id place part : ℕ) → Grows old mid → id < length old → IsPlaced mid id n → slice_get (parts (tree_at old id)) place ≡ Some (tree_at old part) → place < length (numbers n)
place-within old mid n id place part grows within h g =
    let same = ap parts (Grows-tree_at old mid id grows within) in
    omega (arith, slice_get_within (parts (tree_at old id)) place (tree_at old part) g, ap length same, ap length (parts-placed mid id n h), length-map (numbers n) (tree_at mid))

within-set : (bound : ℕ) (ks : List ℕ) (i k : ℕ) → AllByRecursion (λ j. j < bound) ks → k < bound → AllByRecursion (λ j. j < bound) (set ks i k)
within-set bound [] i k h l = tt
within-set bound (j ∷ ks) zero k h l = (l, h.1)
within-set bound (j ∷ ks) (suc i) k h l = (h.0, within-set bound ks i k h.1 l)

below-all : (m n : ℕ) (ks : List ℕ) → m ≤ n → AllByRecursion (λ j. j < m) ks → AllByRecursion (λ j. j < n) ks
below-all m n [] l h = tt
below-all m n (k ∷ ks) l h = (let g = h.0 in omega arith, below-all m n ks l h.1)

pub with_part-within : (mid : List Node) (n m : Node) (id place k : ℕ) → IsPlaced mid id n → id ≤ length mid → k < length mid → numbers m ≡ set (numbers n) place k → AreWithin mid (numbers m)
with_part-within mid n m id place k h l g e = subst (AreWithin mid) (sym e) (within-set (length mid) (numbers n) place k (below-all id (length mid) (numbers n) l h.below) g)

pub with_read-held : {E : Type 0} (r : Result ℕ E) (new mid : List Node) (v t : Tree ℕ) (m : Node) → IsWithRead v t (node_tree (stored mid) m) → IfOk r (λ k. Holds new k (node_tree (stored mid) m)) → IfOk r (λ k. HoldsWithRead new k v t)
with_read-held (Ok k) new mid v t m w h = record { within = Holds-within new k (node_tree (stored mid) m) h; tree = subst (IsWithRead v t) (sym (tree_at-Holds new k (node_tree (stored mid) m) h)) w }
with_read-held (Err e) new mid v t m w h = tt

-- ---- a part of a node that is told by its shape

at_contains : (P : ℕ → Type 0) (ks : List ℕ) (k : ℕ) → AllByRecursion P ks → Contains ks k → P k
at_contains P ks k h (i, l, e) = subst P e (at_place P ks i k h l)

pub held_part : (store : List Node) (id : ℕ) (n : Node) (s : NodeShape) (part : ℕ) (t : Tree ℕ) → IsPlaced store id n → IsShapeOf n s → id < length store → Contains (shape_numbers s) part → t ≡ tree_at store part → Holds store part t
held_part store id n s part t h g l c e =
    let below = at_contains (λ k. k < id) (numbers n) part h.below (subst (λ ks. Contains ks part) (sym g.numbers) c) in
    Holds-at store part t (omega arith) (sym e)

-- the tree of a number, by its node's shape
pub shape-tree_at : (store : List Node) (id : ℕ) (n : Node) (s : NodeShape) → IsPlaced store id n → IsShapeOf n s → tree_at store id ≡ shape_tree (stored store) s
shape-tree_at store id n s h g = h.tree ∙ g.tree (stored store)

-- ---- outer parts

outer-node : (ts : List (Tree ℕ)) (n : Node) → outer_parts (node_tree ts n) ≡ map (tree_of ts) (outer_numbers n)
outer-node ts (Node.Lit z) = refl
outer-node ts Node.True = refl
outer-node ts Node.False = refl
outer-node ts (Node.Symbol n) = refl
outer-node ts (Node.Bound n) = refl
outer-node ts (Node.Neg a) = refl
outer-node ts (Node.Not a) = refl
outer-node ts (Node.Add a b) = refl
outer-node ts (Node.Sub a b) = refl
outer-node ts (Node.Mul a b) = refl
outer-node ts (Node.Div a b) = refl
outer-node ts (Node.Rem a b) = refl
outer-node ts (Node.And a b) = refl
outer-node ts (Node.Or a b) = refl
outer-node ts (Node.Imply a b) = refl
outer-node ts (Node.Eq a b) = refl
outer-node ts (Node.Lt a b) = refl
outer-node ts (Node.Le a b) = refl
outer-node ts (Node.Size a) = refl
outer-node ts (Node.Read a b) = refl
outer-node ts (Node.Update a i x) = refl
outer-node ts (Node.Append a b) = refl
outer-node ts (Node.SeqLit s ks) = parts-node_tree ts (Node.SeqLit s ks)
outer-node ts (Node.Rec n ks) = parts-node_tree ts (Node.Rec n ks)
outer-node ts (Node.Field a k) = refl
outer-node ts (Node.All low high body) = refl
outer-node ts (Node.Exists low high body) = refl

all-listed : (f : ℕ → Tree ℕ) (ks : List ℕ) → take (length (tree_list (trees_of (map f ks)))) ks ≡ ks
all-listed f [] = refl
all-listed f (k ∷ ks) = ap (λ js. k ∷ js) (all-listed f ks)

-- the outer numbers of a node, by its shape
outer-counted : (n : Node) → outer_numbers n ≡ take (length (outer_parts (node_tree [] n))) (numbers n)
outer-counted (Node.Lit z) = refl
outer-counted Node.True = refl
outer-counted Node.False = refl
outer-counted (Node.Symbol n) = refl
outer-counted (Node.Bound n) = refl
outer-counted (Node.Neg a) = refl
outer-counted (Node.Not a) = refl
outer-counted (Node.Add a b) = refl
outer-counted (Node.Sub a b) = refl
outer-counted (Node.Mul a b) = refl
outer-counted (Node.Div a b) = refl
outer-counted (Node.Rem a b) = refl
outer-counted (Node.And a b) = refl
outer-counted (Node.Or a b) = refl
outer-counted (Node.Imply a b) = refl
outer-counted (Node.Eq a b) = refl
outer-counted (Node.Lt a b) = refl
outer-counted (Node.Le a b) = refl
outer-counted (Node.Size a) = refl
outer-counted (Node.Read a b) = refl
outer-counted (Node.Update a i x) = refl
outer-counted (Node.Append a b) = refl
outer-counted (Node.SeqLit s ks) = sym (all-listed (tree_of []) ks)
outer-counted (Node.Rec n ks) = sym (all-listed (tree_of []) ks)
outer-counted (Node.Field a k) = refl
outer-counted (Node.All low high body) = refl
outer-counted (Node.Exists low high body) = refl

pub outer-shape : (n : Node) (s : NodeShape) → IsShapeOf n s → outer_numbers n ≡ take (length (outer_parts (shape_tree [] s))) (shape_numbers s)
outer-shape n s h = outer-counted n ∙ (λ i. take (length (outer_parts (h.tree [] i))) (h.numbers i))

pub outer-listed : (f : ℕ → Tree ℕ) (ks : List ℕ) → take (length (tree_list (trees_of (map f ks)))) ks ≡ ks
outer-listed f ks = all-listed f ks

-- an outer part has the place that it has among all parts
outer-place : (n : Node) (i k : ℕ) → slice_get (outer_numbers n) i ≡ Some k → slice_get (numbers n) i ≡ Some k
outer-place (Node.Lit z) i k e = e
outer-place Node.True i k e = e
outer-place Node.False i k e = e
outer-place (Node.Symbol n) i k e = e
outer-place (Node.Bound n) i k e = e
outer-place (Node.Neg a) i k e = e
outer-place (Node.Not a) i k e = e
outer-place (Node.Add a b) i k e = e
outer-place (Node.Sub a b) i k e = e
outer-place (Node.Mul a b) i k e = e
outer-place (Node.Div a b) i k e = e
outer-place (Node.Rem a b) i k e = e
outer-place (Node.And a b) i k e = e
outer-place (Node.Or a b) i k e = e
outer-place (Node.Imply a b) i k e = e
outer-place (Node.Eq a b) i k e = e
outer-place (Node.Lt a b) i k e = e
outer-place (Node.Le a b) i k e = e
outer-place (Node.Size a) i k e = e
outer-place (Node.Read a b) i k e = e
outer-place (Node.Update a p x) i k e = e
outer-place (Node.Append a b) i k e = e
outer-place (Node.SeqLit s ks) i k e = e
outer-place (Node.Rec n ks) i k e = e
outer-place (Node.Field a f) i k e = e
outer-place (Node.All low high body) zero k e = e
outer-place (Node.All low high body) (suc zero) k e = e
outer-place (Node.All low high body) (suc (suc i)) k e = absurd (cc)
outer-place (Node.Exists low high body) zero k e = e
outer-place (Node.Exists low high body) (suc zero) k e = e
outer-place (Node.Exists low high body) (suc (suc i)) k e = absurd (cc)

outer-place_of : (store : List Node) (id : ℕ) (n : Node) → IsPlaced store id n → place_of_read (tree_at store id) ≡ first_place has_read (map (tree_at store) (outer_numbers n))
outer-place_of store id n h = ap (first_place has_read) (ap outer_parts h.tree ∙ outer-node (stored store) n)

all_outer : (P : ℕ → Type 0) (n : Node) → AllByRecursion P (numbers n) → AllByRecursion P (outer_numbers n)
all_outer P (Node.Lit z) h = h
all_outer P Node.True h = h
all_outer P Node.False h = h
all_outer P (Node.Symbol n) h = h
all_outer P (Node.Bound n) h = h
all_outer P (Node.Neg a) h = h
all_outer P (Node.Not a) h = h
all_outer P (Node.Add a b) h = h
all_outer P (Node.Sub a b) h = h
all_outer P (Node.Mul a b) h = h
all_outer P (Node.Div a b) h = h
all_outer P (Node.Rem a b) h = h
all_outer P (Node.And a b) h = h
all_outer P (Node.Or a b) h = h
all_outer P (Node.Imply a b) h = h
all_outer P (Node.Eq a b) h = h
all_outer P (Node.Lt a b) h = h
all_outer P (Node.Le a b) h = h
all_outer P (Node.Size a) h = h
all_outer P (Node.Read a b) h = h
all_outer P (Node.Update a i x) h = h
all_outer P (Node.Append a b) h = h
all_outer P (Node.SeqLit s ks) h = h
all_outer P (Node.Rec n ks) h = h
all_outer P (Node.Field a k) h = h
all_outer P (Node.All low high body) h = (h.0, (h.1.0, tt))
all_outer P (Node.Exists low high body) h = (h.0, (h.1.0, tt))

pub outer-within : (marks : List Mark) (store : List Node) (id : ℕ) (n : Node) → IsPlaced store id n → id ≤ length marks → HaveMarks marks (outer_numbers n)
outer-within marks store id n h l =
    All-from_recursion (λ k. k < length marks) (outer_numbers n) (all_outer (λ k. k < length marks) n (later (numbers n) h.below))
  where
    later : (ks : List ℕ) → AllByRecursion (λ k. k < id) ks → AllByRecursion (λ k. k < length marks) ks
    later [] g = tt
    later (k ∷ ks) g = (let below = g.0 in omega arith, later ks g.1)

pub part_found : (store : List Node) (marks : List Mark) (id : ℕ) (n : Node) (o : Option Part) → AreMarked store marks → IsPlaced store id n → id ≤ length marks → IsMarkedPart marks (outer_numbers n) o → IsPartWithRead store id o
part_found store marks id n None m h l g = outer-place_of store id n h ∙ sym (marked_place-trees store marks (outer_numbers n) m (outer-within marks store id n h l)) ∙ g
part_found store marks id n (Some p) m h l g =
    let there = outer-place n p.place p.id g.1 in (
      outer-place_of store id n h ∙ sym (marked_place-trees store marks (outer_numbers n) m (outer-within marks store id n h l)) ∙ g.0,
      ap (λ ts. slice_get ts p.place) (parts-placed store id n h) ∙ slice_get-map (tree_at store) (numbers n) p.place ∙ ap (option_map (tree_at store)) there,
      at_slice (numbers n) p.place p.id h.below there,
    )
  where
    at_slice : (ks : List ℕ) (i k : ℕ) → AllByRecursion (λ j. j < id) ks → slice_get ks i ≡ Some k → k < id
    at_slice [] i k a e = absurd (cc)
    at_slice (j ∷ ks) zero k a e = subst (λ x. x < id) (same_Some j k e) a.0
    at_slice (j ∷ ks) (suc i) k a e = at_slice ks i k a.1 e

found_some : (store : List Node) (id : ℕ) (o : Option Part) → IsPartWithRead store id o → is_some o ≡ is_some (place_of_read (tree_at store id))
found_some store id None h = ap is_some (sym h)
found_some store id (Some p) h = ap is_some (sym h.0)

-- ---- the next mark

pub parts-within : (marks : List Mark) (store : List Node) (id : ℕ) (n : Node) → IsPlaced store id n → id ≤ length marks → HaveMarks marks (numbers n)
parts-within marks store id n h l = All-from_recursion (λ k. k < length marks) (numbers n) (later (numbers n) h.below)
  where
    later : (ks : List ℕ) → AllByRecursion (λ k. k < id) ks → AllByRecursion (λ k. k < length marks) ks
    later [] g = tt
    later (k ∷ ks) g = (let below = g.0 in omega arith, later ks g.1)

pub next_mark : (store : List Node) (marks : List Mark) (id : ℕ) (n : Node) (o : Option Part) (top parts_stay reads : Bool) → AreMarked store marks → IsPlaced store id n → id ≤ length marks →
    top ≡ top_stays (tree_at store id) → parts_stay ≡ all_marked marks (numbers n) → reads ≡ reads_written (tree_at store id) → IsPartWithRead store id o → IsMarkOf (tree_at store id) (record { stays = top && parts_stay; reads = reads || is_some o })
next_mark store marks id n o top parts_stay reads m h l e f g p = record {
  stays = ap₂ (λ a b. a && b) e (f ∙ all_marked-trees store marks (numbers n) m (parts-within marks store id n h l) ∙ ap (list_all stays) (sym (parts-placed store id n h))) ∙ sym (stays-parts (tree_at store id));
  reads = ap₂ (λ a b. a || b) g (found_some store id o p) ∙ sym (reads-parts (tree_at store id));
}
