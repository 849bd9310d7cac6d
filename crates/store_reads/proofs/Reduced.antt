-- Reducing, part by part.
use Rattle.std.proofs.Common.{◌≡◌, ℕ, List, [], ◌∷◌, map, Bool, true, false, not, ◌&&◌, refl, sym, ap, ap₂, ◌∙◌, subst}
use Rattle.std.proofs.lemmas.Bool.{false≢true, and_parts}
use Rattle.slang_values.specs.Tree.{Tree, literal, truth_literal, name, bound, unary, binary, update, quantified, listed, Trees, no_trees, tree_then, sequence_of, record_of, parts, tree_list}
use Rattle.slang_values.specs.declared.operators.Unary.{Unary}
use Rattle.slang_values.specs.declared.operators.Binary.{Binary}
use Rattle.tree_forms.specs.Order.{head}
use Rattle.term_nodes.proofs.Nodes.{same_by_parts}
use Rattle.read_rules.specs.Reduced.{size_tree, field_tree, unary_tree, reduced, all_reduced}
use Rattle.store_reads.specs.Written.{is_written_sequence, is_written_record, unary_stays, stays, all_stay, top_reduced}

-- ---- where there is nothing to reduce

size_itself : (a : Tree ℕ) → not (is_written_sequence a) ≡ true → size_tree a ≡ unary Unary.Size a
size_itself (literal z) h = refl
size_itself (truth_literal b) h = refl
size_itself (name n) h = refl
size_itself (bound n) h = refl
size_itself (unary op a) h = refl
size_itself (binary Binary.Add a x) h = refl
size_itself (binary Binary.Sub a x) h = refl
size_itself (binary Binary.Mul a x) h = refl
size_itself (binary Binary.Div a x) h = refl
size_itself (binary Binary.Rem a x) h = refl
size_itself (binary Binary.And a x) h = refl
size_itself (binary Binary.Or a x) h = refl
size_itself (binary Binary.Imply a x) h = refl
size_itself (binary Binary.Eq a x) h = refl
size_itself (binary Binary.Lt a x) h = refl
size_itself (binary Binary.Le a x) h = refl
size_itself (binary Binary.Read a x) h = refl
size_itself (binary Binary.Append a x) h = absurd (false≢true h)
size_itself (update a i x) h = absurd (false≢true h)
size_itself (quantified q low high body) h = refl
size_itself (listed (sequence_of t) ts) h = absurd (false≢true h)
size_itself (listed (record_of n) ts) h = refl

field_itself : (k : ℕ) (a : Tree ℕ) → not (is_written_record a) ≡ true → field_tree k a ≡ unary (Unary.Field k) a
field_itself k (literal z) h = refl
field_itself k (truth_literal b) h = refl
field_itself k (name n) h = refl
field_itself k (bound n) h = refl
field_itself k (unary op a) h = refl
field_itself k (binary op a b) h = refl
field_itself k (update a i x) h = refl
field_itself k (quantified q low high body) h = refl
field_itself k (listed (sequence_of t) ts) h = refl
field_itself k (listed (record_of n) ts) h = absurd (false≢true h)

unary_itself : (op : Unary) (a : Tree ℕ) → unary_stays op a ≡ true → unary_tree op a ≡ unary op a
unary_itself Unary.Neg a h = refl
unary_itself Unary.Not a h = refl
unary_itself Unary.Size a h = size_itself a h
unary_itself (Unary.Field k) a h = field_itself k a h

mutual
  pub stays-reduced : (t : Tree ℕ) → stays t ≡ true → reduced t ≡ t
  stays-reduced (literal z) h = refl
  stays-reduced (truth_literal b) h = refl
  stays-reduced (name n) h = refl
  stays-reduced (bound n) h = refl
  stays-reduced (unary op a) h =
      let p = and_parts _ _ h in ap (unary_tree op) (stays-reduced a p.1) ∙ unary_itself op a p.0
  stays-reduced (binary op a b) h =
      let p = and_parts _ _ h in ap₂ (binary op) (stays-reduced a p.0) (stays-reduced b p.1)
  stays-reduced (update a i x) h =
      let p = and_parts _ _ h in
      let q = and_parts _ _ p.1 in
      let e = stays-reduced a p.0 in
      let f = stays-reduced i q.0 in
      let g = stays-reduced x q.1 in
      λ j. update (e j) (f j) (g j)
  stays-reduced (quantified q low high body) h =
      let p = and_parts _ _ h in
      let r = and_parts _ _ p.1 in
      let e = stays-reduced low p.0 in
      let f = stays-reduced high r.0 in
      let g = stays-reduced body r.1 in
      λ j. quantified q (e j) (f j) (g j)
  stays-reduced (listed l ts) h = ap (listed l) (all_stay-reduced ts h)

  all_stay-reduced : (ts : Trees ℕ) → all_stay ts ≡ true → all_reduced ts ≡ ts
  all_stay-reduced no_trees h = refl
  all_stay-reduced (tree_then t ts) h =
      let p = and_parts _ _ h in ap₂ tree_then (stays-reduced t p.0) (all_stay-reduced ts p.1)

-- ---- by parts

-- the tree with its parts reduced, and its top as it is
abbrev inner_reduced : Tree ℕ → Tree ℕ
inner_reduced (literal z) = literal z
inner_reduced (truth_literal b) = truth_literal b
inner_reduced (name n) = name n
inner_reduced (bound n) = bound n
inner_reduced (unary op a) = unary op (reduced a)
inner_reduced (binary op a b) = binary op (reduced a) (reduced b)
inner_reduced (update a i x) = update (reduced a) (reduced i) (reduced x)
inner_reduced (quantified q low high body) = quantified q (reduced low) (reduced high) (reduced body)
inner_reduced (listed l ts) = listed l (all_reduced ts)

all_reduced-list : (ts : Trees ℕ) → tree_list (all_reduced ts) ≡ map reduced (tree_list ts)
all_reduced-list no_trees = refl
all_reduced-list (tree_then t ts) = ap (λ us. reduced t ∷ us) (all_reduced-list ts)

inner-head : (t : Tree ℕ) → head t ≡ head (inner_reduced t)
inner-head (literal z) = refl
inner-head (truth_literal b) = refl
inner-head (name n) = refl
inner-head (bound n) = refl
inner-head (unary op a) = refl
inner-head (binary op a b) = refl
inner-head (update a i x) = refl
inner-head (quantified q low high body) = refl
inner-head (listed (sequence_of t) ts) = refl
inner-head (listed (record_of n) ts) = refl

inner-parts : (t : Tree ℕ) → map reduced (parts t) ≡ parts (inner_reduced t)
inner-parts (literal z) = refl
inner-parts (truth_literal b) = refl
inner-parts (name n) = refl
inner-parts (bound n) = refl
inner-parts (unary op a) = refl
inner-parts (binary op a b) = refl
inner-parts (update a i x) = refl
inner-parts (quantified q low high body) = refl
inner-parts (listed l ts) = sym (all_reduced-list ts)

inner-top : (t : Tree ℕ) → top_reduced (inner_reduced t) ≡ reduced t
inner-top (literal z) = refl
inner-top (truth_literal b) = refl
inner-top (name n) = refl
inner-top (bound n) = refl
inner-top (unary op a) = refl
inner-top (binary op a b) = refl
inner-top (update a i x) = refl
inner-top (quantified q low high body) = refl
inner-top (listed l ts) = refl

-- over reduced parts, the reduced top gives the reduced tree
pub reduced-by_parts : (t u : Tree ℕ) → head u ≡ head t → parts u ≡ map reduced (parts t) → top_reduced u ≡ reduced t
reduced-by_parts t u e f = ap top_reduced (same_by_parts u (inner_reduced t) (e ∙ inner-head t) (f ∙ inner-parts t)) ∙ inner-top t
