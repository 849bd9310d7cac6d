-- Trees that look the same to the order are equal.
use Rattle.std.proofs.Common.{◌≡◌, ℕ, suc, ◌-◌, ℤ, pos, List, [], ◌∷◌, get_or, length, Option, Some, None, Bool, true, false, refl, sym, ap, ap₂, ◌∙◌, subst, arith, Equal}
use Rattle.std.specs.Ordering.{ordering_then, nat_cmp}
use Rattle.std.specs.Cmp.Lexicographic.{slice_cmp}
use Rattle.std.proofs.lemmas.Cmp.{tied_itself}
use Rattle.tree_forms.proofs.Ordered.{tree_cmp_total, node-Equal}
use Rattle.slang_values.specs.Value.{ValueType, unit_type, number_type, truth_type, sequence_type, record_type}
use Rattle.slang_values.specs.Tree.{Tree, literal, truth_literal, name, bound, unary, binary, update, quantified, listed, Trees, no_trees, tree_then, Listed, sequence_of, record_of, parts, tree_list}
use Rattle.slang_values.specs.declared.operators.Unary.{Unary}
use Rattle.slang_values.specs.declared.operators.Binary.{Binary}
use Rattle.slang_values.specs.declared.operators.Quantifier.{Quantifier}
use Rattle.tree_forms.specs.Order.{unary_kind, binary_kind, quantifier_kind, kind, unary_number, type_numbers, Head, head, head_cmp, Node, node, Nodes, no_nodes, node_then, node_length, nodes_of, all_nodes, node_of, nodes_cmp, tree_cmp}

-- ---- what a kind tells

abbrev shape : Tree ℕ → ℕ
shape (literal z) = 0
shape (truth_literal b) = 1
shape (name n) = 2
shape (bound n) = 3
shape (unary op a) = 4
shape (binary op a b) = 5
shape (update a i x) = 6
shape (quantified q low high body) = 7
shape (listed l ts) = 8

abbrev shape_of_kind : ℕ → ℕ
shape_of_kind k =
    get_or (0 ∷ 1 ∷ 1 ∷ 2 ∷ 3 ∷ 4 ∷ 4 ∷ 5 ∷ 5 ∷ 5 ∷ 5 ∷ 5 ∷ 5 ∷ 5 ∷ 5 ∷ 5 ∷ 5 ∷ 5 ∷ 4 ∷ 5 ∷ 6 ∷ 5 ∷ 8 ∷ 8 ∷ 4 ∷ 7 ∷ 7 ∷ []) k 0

shape_is : (t : Tree ℕ) → shape_of_kind (kind t) ≡ shape t
shape_is (literal z) = refl
shape_is (truth_literal true) = refl
shape_is (truth_literal false) = refl
shape_is (name n) = refl
shape_is (bound n) = refl
shape_is (unary Unary.Neg a) = refl
shape_is (unary Unary.Not a) = refl
shape_is (unary Unary.Size a) = refl
shape_is (unary (Unary.Field k) a) = refl
shape_is (binary Binary.Add a b) = refl
shape_is (binary Binary.Sub a b) = refl
shape_is (binary Binary.Mul a b) = refl
shape_is (binary Binary.Div a b) = refl
shape_is (binary Binary.Rem a b) = refl
shape_is (binary Binary.And a b) = refl
shape_is (binary Binary.Or a b) = refl
shape_is (binary Binary.Imply a b) = refl
shape_is (binary Binary.Eq a b) = refl
shape_is (binary Binary.Lt a b) = refl
shape_is (binary Binary.Le a b) = refl
shape_is (binary Binary.Read a b) = refl
shape_is (binary Binary.Append a b) = refl
shape_is (update a i x) = refl
shape_is (quantified Quantifier.All low high body) = refl
shape_is (quantified Quantifier.Exists low high body) = refl
shape_is (listed (sequence_of t) ts) = refl
shape_is (listed (record_of n) ts) = refl

-- ---- the operators by their kinds

abbrev binary_of_kind : ℕ → Binary
binary_of_kind k =
    get_or (Binary.Add ∷ Binary.Sub ∷ Binary.Mul ∷ Binary.Div ∷ Binary.Rem ∷ Binary.And ∷ Binary.Or ∷ Binary.Imply ∷ Binary.Eq ∷ Binary.Lt ∷ Binary.Le ∷ Binary.Le ∷ Binary.Read ∷ Binary.Read ∷ Binary.Append ∷ []) (k - 7) Binary.Add

binary_is : (op : Binary) → binary_of_kind (binary_kind op) ≡ op
binary_is Binary.Add = refl
binary_is Binary.Sub = refl
binary_is Binary.Mul = refl
binary_is Binary.Div = refl
binary_is Binary.Rem = refl
binary_is Binary.And = refl
binary_is Binary.Or = refl
binary_is Binary.Imply = refl
binary_is Binary.Eq = refl
binary_is Binary.Lt = refl
binary_is Binary.Le = refl
binary_is Binary.Read = refl
binary_is Binary.Append = refl

same_binary : (op op' : Binary) → binary_kind op ≡ binary_kind op' → op ≡ op'
same_binary op op' e = sym (binary_is op) ∙ ap binary_of_kind e ∙ binary_is op'

some_inj : {m n : ℕ} → Some (pos m) ≡ Some (pos n) → m ≡ n
some_inj e = cc

abbrev unary_of : ℕ → Option ℤ → Unary
unary_of k (Some (pos n)) = Unary.Field n
unary_of k _ = get_or (Unary.Neg ∷ Unary.Not ∷ []) (k - 5) Unary.Size

unary_is : (op : Unary) → unary_of (unary_kind op) (unary_number op) ≡ op
unary_is Unary.Neg = refl
unary_is Unary.Not = refl
unary_is Unary.Size = refl
unary_is (Unary.Field k) = refl

same_unary : (op op' : Unary) → unary_kind op ≡ unary_kind op' → unary_number op ≡ unary_number op' → op ≡ op'
same_unary op op' e f = sym (unary_is op) ∙ ap₂ unary_of e f ∙ unary_is op'

abbrev quantifier_of : ℕ → Quantifier
quantifier_of k = get_or (Quantifier.All ∷ []) (k - 25) Quantifier.Exists

quantifier_is : (q : Quantifier) → quantifier_of (quantifier_kind q) ≡ q
quantifier_is Quantifier.All = refl
quantifier_is Quantifier.Exists = refl

same_quantifier : (q q' : Quantifier) → quantifier_kind q ≡ quantifier_kind q' → q ≡ q'
same_quantifier q q' e = sym (quantifier_is q) ∙ ap quantifier_of e ∙ quantifier_is q'

same_type : (s t : ValueType) → type_numbers s ≡ type_numbers t → s ≡ t
same_type number_type number_type e = refl
same_type truth_type truth_type e = refl
same_type (sequence_type s) (sequence_type t) e = ap sequence_type (same_type s t (let r : type_numbers s ≡ type_numbers t = cc in r))
same_type (record_type m) (record_type n) e = let r : m ≡ n = cc in ap record_type r
same_type unit_type unit_type e = refl
same_type _ _ e = absurd (cc)

-- ---- trees

abbrev head_of : Node → Head
head_of (node h ns) = h

abbrev below : Node → Nodes
below (node h ns) = ns

abbrev first_of : Nodes → Node
first_of no_nodes = node (record { kind = 0; number = None; type_numbers = [] }) no_nodes
first_of (node_then n ns) = n

abbrev rest_of : Nodes → Nodes
rest_of no_nodes = no_nodes
rest_of (node_then n ns) = ns

same_truth : (b c : Bool) → head (truth_literal b) ≡ head (truth_literal c) → b ≡ c
same_truth true true e = refl
same_truth true false e = absurd (let k = ap (λ h. h.kind) e in omega arith)
same_truth false true e = absurd (let k = ap (λ h. h.kind) e in omega arith)
same_truth false false e = refl

same_listed : (l l' : Listed) (ts us : Trees ℕ) → head (listed l ts) ≡ head (listed l' us) → l ≡ l'
same_listed (sequence_of s) (sequence_of t) ts us e = ap sequence_of (same_type s t (ap (λ h. h.type_numbers) e))
same_listed (sequence_of s) (record_of n) ts us e = absurd (let k = ap (λ h. h.kind) e in omega arith)
same_listed (record_of m) (sequence_of t) ts us e = absurd (let k = ap (λ h. h.kind) e in omega arith)
same_listed (record_of m) (record_of n) ts us e = ap record_of (some_inj (ap (λ h. h.number) e))

mutual
  pub same_tree : (s t : Tree ℕ) → head s ≡ head t → nodes_of s ≡ nodes_of t → s ≡ t
  same_tree (literal y) (literal z) e f = let n = ap (λ h. h.number) e in let r : y ≡ z = cc in ap literal r
  same_tree (truth_literal b) (truth_literal c) e f = ap truth_literal (same_truth b c e)
  same_tree (name m) (name n) e f = ap name (some_inj (ap (λ h. h.number) e))
  same_tree (bound m) (bound n) e f = ap bound (some_inj (ap (λ h. h.number) e))
  same_tree (unary op a) (unary op' b) e f =
      ap₂ unary (same_unary op op' (ap (λ h. h.kind) e) (ap (λ h. h.number) e)) (same_tree a b (ap head_of (ap first_of f)) (ap below (ap first_of f)))
  same_tree (binary op a b) (binary op' c d) e f =
      let p = same_binary op op' (ap (λ h. h.kind) e) in
      let q = same_tree a c (ap head_of (ap first_of f)) (ap below (ap first_of f)) in
      let r = same_tree b d (ap head_of (ap (λ ns. first_of (rest_of ns)) f)) (ap below (ap (λ ns. first_of (rest_of ns)) f)) in
      λ i. binary (p i) (q i) (r i)
  same_tree (update a i x) (update b j y) e f =
      let p = same_tree a b (ap head_of (ap first_of f)) (ap below (ap first_of f)) in
      let q = same_tree i j (ap head_of (ap (λ ns. first_of (rest_of ns)) f)) (ap below (ap (λ ns. first_of (rest_of ns)) f)) in
      let r = same_tree x y (ap head_of (ap (λ ns. first_of (rest_of (rest_of ns))) f)) (ap below (ap (λ ns. first_of (rest_of (rest_of ns))) f)) in
      λ k. update (p k) (q k) (r k)
  same_tree (quantified q low high body) (quantified q' low' high' body') e f =
      let o = same_quantifier q q' (ap (λ h. h.kind) e) in
      let l = same_tree low low' (ap head_of (ap first_of f)) (ap below (ap first_of f)) in
      let h = same_tree high high' (ap head_of (ap (λ ns. first_of (rest_of ns)) f)) (ap below (ap (λ ns. first_of (rest_of ns)) f)) in
      let b = same_tree body body' (ap head_of (ap (λ ns. first_of (rest_of (rest_of ns))) f)) (ap below (ap (λ ns. first_of (rest_of (rest_of ns))) f)) in
      λ k. quantified (o k) (l k) (h k) (b k)
  same_tree (listed l ts) (listed l' us) e f = ap₂ listed (same_listed l l' ts us e) (same_trees ts us f)
  same_tree s t e f = absurd (let k = sym (shape_is s) ∙ ap (λ h. shape_of_kind h.kind) e ∙ shape_is t in cc)

  same_trees : (ts us : Trees ℕ) → all_nodes ts ≡ all_nodes us → ts ≡ us
  same_trees no_trees no_trees f = refl
  same_trees no_trees (tree_then u us) f = absurd (cc)
  same_trees (tree_then t ts) no_trees f = absurd (cc)
  same_trees (tree_then t ts) (tree_then u us) f = ap₂ tree_then (same_tree t u (ap head_of (ap first_of f)) (ap below (ap first_of f))) (same_trees ts us (ap rest_of f))

pub same_node : (s t : Tree ℕ) → node_of s ≡ node_of t → s ≡ t
same_node s t e = same_tree s t (ap head_of e) (ap below e)

pub tree_cmp-Equal : (s t : Tree ℕ) → tree_cmp s t ≡ Equal → s ≡ t
tree_cmp-Equal s t e = same_node s t (node-Equal (node_of s) (node_of t) e)

pub tree_cmp_same : (s t : Tree ℕ) → s ≡ t → tree_cmp s t ≡ Equal
tree_cmp_same s t e = subst (λ u. tree_cmp s u ≡ Equal) e (tied_itself tree_cmp_total s)

-- ---- the order by the parts

node_length-all_nodes : (ts : Trees ℕ) → node_length (all_nodes ts) ≡ length (tree_list ts)
node_length-all_nodes no_trees = refl
node_length-all_nodes (tree_then t ts) = ap suc (node_length-all_nodes ts)

node_length-nodes_of : (t : Tree ℕ) → node_length (nodes_of t) ≡ length (parts t)
node_length-nodes_of (literal z) = refl
node_length-nodes_of (truth_literal b) = refl
node_length-nodes_of (name n) = refl
node_length-nodes_of (bound n) = refl
node_length-nodes_of (unary op a) = refl
node_length-nodes_of (binary op a b) = refl
node_length-nodes_of (update a i x) = refl
node_length-nodes_of (quantified q low high body) = refl
node_length-nodes_of (listed l ts) = node_length-all_nodes ts

abbrev listed_nodes : List (Tree ℕ) → Nodes
listed_nodes [] = no_nodes
listed_nodes (t ∷ ts) = node_then (node_of t) (listed_nodes ts)

listed_nodes-tree_list : (ts : Trees ℕ) → listed_nodes (tree_list ts) ≡ all_nodes ts
listed_nodes-tree_list no_trees = refl
listed_nodes-tree_list (tree_then t ts) = ap (node_then (node_of t)) (listed_nodes-tree_list ts)

listed_nodes-parts : (t : Tree ℕ) → listed_nodes (parts t) ≡ nodes_of t
listed_nodes-parts (literal z) = refl
listed_nodes-parts (truth_literal b) = refl
listed_nodes-parts (name n) = refl
listed_nodes-parts (bound n) = refl
listed_nodes-parts (unary op a) = refl
listed_nodes-parts (binary op a b) = refl
listed_nodes-parts (update a i x) = refl
listed_nodes-parts (quantified q low high body) = refl
listed_nodes-parts (listed l ts) = listed_nodes-tree_list ts

slice_cmp-nodes : (ss ts : List (Tree ℕ)) → nodes_cmp (listed_nodes ss) (listed_nodes ts) ≡ slice_cmp tree_cmp ss ts
slice_cmp-nodes [] [] = refl
slice_cmp-nodes [] (t ∷ ts) = refl
slice_cmp-nodes (s ∷ ss) [] = refl
slice_cmp-nodes (s ∷ ss) (t ∷ ts) = ap (ordering_then (tree_cmp s t)) (slice_cmp-nodes ss ts)

pub tree_cmp-parts : (s t : Tree ℕ) → tree_cmp s t ≡ ordering_then (head_cmp (head s) (head t)) (ordering_then (nat_cmp (length (parts s)) (length (parts t))) (slice_cmp tree_cmp (parts s) (parts t)))
tree_cmp-parts s t =
    ap (ordering_then (head_cmp (head s) (head t)))
    (ap₂ ordering_then (ap₂ nat_cmp (node_length-nodes_of s) (node_length-nodes_of t))
    (ap₂ nodes_cmp (sym (listed_nodes-parts s)) (sym (listed_nodes-parts t)) ∙ slice_cmp-nodes (parts s) (parts t)))
