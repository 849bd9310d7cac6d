-- The tree of a node over the trees of its parts.
use Rattle.std.proofs.Common.{◌≡◌, ℕ, List, [], ◌∷◌, map, length, Equal, refl, sym, ap, ap₂, ◌∙◌, subst}
use Rattle.std.specs.List.{AllByRecursion}
use Rattle.std.specs.Ordering.{ordering_then, nat_cmp}
use Rattle.std.specs.Cmp.Lexicographic.{slice_cmp}
use Rattle.std.proofs.lemmas.Cmp.{tied_itself, nat_cmp_total, lists_total}
use Rattle.slang_values.specs.Tree.{Tree, parts, tree_list}
use Rattle.tree_forms.specs.Order.{head, head_cmp, tree_cmp}
use Rattle.tree_forms.proofs.Ordered.{head_cmp_total, tree_cmp_total}
use Rattle.tree_forms.proofs.TreesApart.{tree_cmp-Equal, tree_cmp-parts}
use Rattle.term_trees.specs.Term.{trees_of}
use Rattle.term_nodes.specs.declared.node.Node.{Node}
use Rattle.term_nodes.specs.Node.{node_tree, numbers, node_head, tree_of}

-- ---- trees by their heads and parts

tied_then : (o p : _) → o ≡ Equal → p ≡ Equal → ordering_then o p ≡ Equal
tied_then o p e f = ap₂ ordering_then e f

pub same_by_parts : (s t : Tree ℕ) → head s ≡ head t → parts s ≡ parts t → s ≡ t
same_by_parts s t e f =
    let heads : head_cmp (head s) (head t) ≡ Equal = subst (λ h. head_cmp (head s) h ≡ Equal) e (tied_itself head_cmp_total (head s)) in
    let lengths : nat_cmp (length (parts s)) (length (parts t)) ≡ Equal = subst (λ ps. nat_cmp (length (parts s)) (length ps) ≡ Equal) f (tied_itself nat_cmp_total (length (parts s))) in
    let ties : slice_cmp tree_cmp (parts s) (parts t) ≡ Equal = subst (λ ps. slice_cmp tree_cmp (parts s) ps ≡ Equal) f (tied_itself (lists_total tree_cmp_total) (parts s)) in
    tree_cmp-Equal s t (tree_cmp-parts s t ∙ tied_then _ _ heads (tied_then _ _ lengths ties))

tree_list-trees_of : (ts : List (Tree ℕ)) → tree_list (trees_of ts) ≡ ts
tree_list-trees_of [] = refl
tree_list-trees_of (t ∷ ts) = ap (λ us. t ∷ us) (tree_list-trees_of ts)

-- ---- nodes

pub head-node_tree : (ts : List (Tree ℕ)) (n : Node) → head (node_tree ts n) ≡ node_head n
head-node_tree ts (Node.Lit z) = refl
head-node_tree ts Node.True = refl
head-node_tree ts Node.False = refl
head-node_tree ts (Node.Symbol n) = refl
head-node_tree ts (Node.Bound n) = refl
head-node_tree ts (Node.Neg a) = refl
head-node_tree ts (Node.Not a) = refl
head-node_tree ts (Node.Add a b) = refl
head-node_tree ts (Node.Sub a b) = refl
head-node_tree ts (Node.Mul a b) = refl
head-node_tree ts (Node.Div a b) = refl
head-node_tree ts (Node.Rem a b) = refl
head-node_tree ts (Node.And a b) = refl
head-node_tree ts (Node.Or a b) = refl
head-node_tree ts (Node.Imply a b) = refl
head-node_tree ts (Node.Eq a b) = refl
head-node_tree ts (Node.Lt a b) = refl
head-node_tree ts (Node.Le a b) = refl
head-node_tree ts (Node.Size a) = refl
head-node_tree ts (Node.Read a b) = refl
head-node_tree ts (Node.Update a i x) = refl
head-node_tree ts (Node.Append a b) = refl
head-node_tree ts (Node.SeqLit s ks) = refl
head-node_tree ts (Node.Rec n ks) = refl
head-node_tree ts (Node.Field a k) = refl
head-node_tree ts (Node.All low high body) = refl
head-node_tree ts (Node.Exists low high body) = refl

pub parts-node_tree : (ts : List (Tree ℕ)) (n : Node) → parts (node_tree ts n) ≡ map (tree_of ts) (numbers n)
parts-node_tree ts (Node.Lit z) = refl
parts-node_tree ts Node.True = refl
parts-node_tree ts Node.False = refl
parts-node_tree ts (Node.Symbol n) = refl
parts-node_tree ts (Node.Bound n) = refl
parts-node_tree ts (Node.Neg a) = refl
parts-node_tree ts (Node.Not a) = refl
parts-node_tree ts (Node.Add a b) = refl
parts-node_tree ts (Node.Sub a b) = refl
parts-node_tree ts (Node.Mul a b) = refl
parts-node_tree ts (Node.Div a b) = refl
parts-node_tree ts (Node.Rem a b) = refl
parts-node_tree ts (Node.And a b) = refl
parts-node_tree ts (Node.Or a b) = refl
parts-node_tree ts (Node.Imply a b) = refl
parts-node_tree ts (Node.Eq a b) = refl
parts-node_tree ts (Node.Lt a b) = refl
parts-node_tree ts (Node.Le a b) = refl
parts-node_tree ts (Node.Size a) = refl
parts-node_tree ts (Node.Read a b) = refl
parts-node_tree ts (Node.Update a i x) = refl
parts-node_tree ts (Node.Append a b) = refl
parts-node_tree ts (Node.SeqLit s ks) = tree_list-trees_of (map (tree_of ts) ks)
parts-node_tree ts (Node.Rec n ks) = tree_list-trees_of (map (tree_of ts) ks)
parts-node_tree ts (Node.Field a k) = refl
parts-node_tree ts (Node.All low high body) = refl
parts-node_tree ts (Node.Exists low high body) = refl

pub map-agree : (ts us : List (Tree ℕ)) (ks : List ℕ) → AllByRecursion (λ k. tree_of ts k ≡ tree_of us k) ks → map (tree_of ts) ks ≡ map (tree_of us) ks
map-agree ts us [] h = refl
map-agree ts us (k ∷ ks) h = ap₂ (λ x xs. x ∷ xs) h.0 (map-agree ts us ks h.1)

-- the tree of a node depends on the trees of its parts alone
pub node_tree-agree : (ts us : List (Tree ℕ)) (n : Node) → AllByRecursion (λ k. tree_of ts k ≡ tree_of us k) (numbers n) → node_tree ts n ≡ node_tree us n
node_tree-agree ts us n h =
    same_by_parts (node_tree ts n) (node_tree us n) (head-node_tree ts n ∙ sym (head-node_tree us n))
    (parts-node_tree ts n ∙ map-agree ts us (numbers n) h ∙ sym (parts-node_tree us n))
