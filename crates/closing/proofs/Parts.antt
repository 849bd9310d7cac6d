-- The parts of trees: those of a part are parts of the whole, and the atoms of a form are parts of its term.
use Rattle.std.proofs.Common.{◌≡◌, inl, inr, ℕ, ℤ, pos, List, [], ◌∷◌, ◌++◌, length, Bool, true, false, cond, None, Some, subst, refl, arith, length-append}
use Rattle.std.specs.List.{flat_map, sum_by}
use Rattle.std.specs.Ordering.{int_eq}
use Rattle.std.proofs.lemmas.List.Sums.{sum_by-cons}
use Rattle.slang_values.specs.Tree.{Tree, literal, truth_literal, name, bound, unary, binary, update, quantified, listed, Trees, no_trees, tree_then}
use Rattle.slang_values.specs.Measure.{node_count, total_nodes}
use Rattle.slang_values.specs.declared.operators.Binary.{Binary}
use Rattle.tree_forms.specs.Form.{FormPart, LinearForm, part_term, sum_of_parts, with_constant, form_term, subtrees, all_subtrees}
use Rattle.closing.proofs.AtomOrder.{Among, among-left, among-right, among-append}
use Rattle.tree_forms.proofs.Settled.{AllAtoms}

pub self_part : (t : Tree ℕ) → Among (subtrees t) t
self_part (literal z) = inl refl
self_part (truth_literal b) = inl refl
self_part (name n) = inl refl
self_part (bound n) = inl refl
self_part (unary op a) = inl refl
self_part (binary op a b) = inl refl
self_part (update a i x) = inl refl
self_part (quantified q low high body) = inl refl
self_part (listed l ts) = inl refl

-- ---- parts of parts

one_of : (xs ys : List (Tree ℕ)) (t u : Tree ℕ) → (Among xs t → Among xs u) → (Among ys t → Among ys u) → Among (xs ++ ys) t → Among (xs ++ ys) u
one_of xs ys t u p q h = elim (among-append xs ys t h) as (λ _. Among (xs ++ ys) u) [
  | inl l ↦ among-left xs ys u (p l)
  | inr l ↦ among-right xs ys u (q l)
]

mutual
  pub part_of_part : (x t u : Tree ℕ) → Among (subtrees x) t → Among (subtrees t) u → Among (subtrees x) u
  part_of_part (literal z) t u (inl h) k = subst (λ s. Among (subtrees s) u) h k
  part_of_part (literal z) t u (inr h) k = absurd h
  part_of_part (truth_literal b) t u (inl h) k = subst (λ s. Among (subtrees s) u) h k
  part_of_part (truth_literal b) t u (inr h) k = absurd h
  part_of_part (name n) t u (inl h) k = subst (λ s. Among (subtrees s) u) h k
  part_of_part (name n) t u (inr h) k = absurd h
  part_of_part (bound n) t u (inl h) k = subst (λ s. Among (subtrees s) u) h k
  part_of_part (bound n) t u (inr h) k = absurd h
  part_of_part (unary op a) t u (inl h) k = subst (λ s. Among (subtrees s) u) h k
  part_of_part (unary op a) t u (inr h) k = inr (part_of_part a t u h k)
  part_of_part (binary op a b) t u (inl h) k = subst (λ s. Among (subtrees s) u) h k
  part_of_part (binary op a b) t u (inr h) k = inr (one_of (subtrees a) (subtrees b) t u (λ l. part_of_part a t u l k) (λ l. part_of_part b t u l k) h)
  part_of_part (update a i x) t u (inl h) k = subst (λ s. Among (subtrees s) u) h k
  part_of_part (update a i x) t u (inr h) k =
      inr (one_of (subtrees a ++ subtrees i) (subtrees x) t u (one_of (subtrees a) (subtrees i) t u (λ l. part_of_part a t u l k) (λ l. part_of_part i t u l k)) (λ l. part_of_part x t u l k) h)
  part_of_part (quantified q low high body) t u (inl h) k = subst (λ s. Among (subtrees s) u) h k
  part_of_part (quantified q low high body) t u (inr h) k =
      inr (one_of (subtrees low ++ subtrees high) (subtrees body) t u (one_of (subtrees low) (subtrees high) t u (λ l. part_of_part low t u l k) (λ l. part_of_part high t u l k)) (λ l. part_of_part body t u l k) h)
  part_of_part (listed l ts) t u (inl h) k = subst (λ s. Among (subtrees s) u) h k
  part_of_part (listed l ts) t u (inr h) k = inr (part_of_parts ts t u h k)

  part_of_parts : (ts : Trees ℕ) (t u : Tree ℕ) → Among (all_subtrees ts) t → Among (subtrees t) u → Among (all_subtrees ts) u
  part_of_parts no_trees t u h k = absurd h
  part_of_parts (tree_then a ts) t u h k = one_of (subtrees a) (all_subtrees ts) t u (λ l. part_of_part a t u l k) (λ l. part_of_parts ts t u l k) h

-- ---- lists of trees, with all their parts

abbrev pub parts_of_all : List (Tree ℕ) → List (Tree ℕ)
parts_of_all xs = flat_map subtrees xs

pub whole_part : (xs : List (Tree ℕ)) (t : Tree ℕ) → Among xs t → Among (parts_of_all xs) t
whole_part [] t h = absurd h
whole_part (x ∷ xs) t (inl h) = among-left (subtrees x) (parts_of_all xs) t (subst (λ s. Among (subtrees s) t) h (self_part t))
whole_part (x ∷ xs) t (inr h) = among-right (subtrees x) (parts_of_all xs) t (whole_part xs t h)

pub inner_part : (xs : List (Tree ℕ)) (t u : Tree ℕ) → Among (parts_of_all xs) t → Among (subtrees t) u → Among (parts_of_all xs) u
inner_part [] t u h k = absurd h
inner_part (x ∷ xs) t u h k = one_of (subtrees x) (parts_of_all xs) t u (λ l. part_of_part x t u l k) (λ l. inner_part xs t u l k) h

mutual
  count_parts : (t : Tree ℕ) → length (subtrees t) ≡ node_count t
  count_parts (literal z) = refl
  count_parts (truth_literal b) = refl
  count_parts (name n) = refl
  count_parts (bound n) = refl
  count_parts (unary op a) = omega (arith, count_parts a)
  count_parts (binary op a b) = omega (arith, length-append (subtrees a) (subtrees b), count_parts a, count_parts b)
  count_parts (update a i x) =
      omega (arith, length-append (subtrees a ++ subtrees i) (subtrees x), length-append (subtrees a) (subtrees i), count_parts a, count_parts i, count_parts x)
  count_parts (quantified q low high body) =
      omega (arith, length-append (subtrees low ++ subtrees high) (subtrees body), length-append (subtrees low) (subtrees high), count_parts low, count_parts high, count_parts body)
  count_parts (listed l ts) = omega (arith, count_all_parts ts)

  count_all_parts : (ts : Trees ℕ) → length (all_subtrees ts) ≡ total_nodes ts
  count_all_parts no_trees = refl
  count_all_parts (tree_then t ts) = omega (arith, length-append (subtrees t) (all_subtrees ts), count_parts t, count_all_parts ts)

-- as many as the trees have nodes
pub count-parts_of_all : (xs : List (Tree ℕ)) → length (parts_of_all xs) ≡ sum_by node_count xs
count-parts_of_all [] = refl
count-parts_of_all (x ∷ xs) = omega (arith, length-append (subtrees x) (parts_of_all xs), count_parts x, count-parts_of_all xs, sum_by-cons (node_count {A = ℕ}) x xs)

-- ---- the atoms of a form, in its term

part_at : (b : Bool) (p : FormPart) → Among (subtrees (cond b p.atom (binary Binary.Mul (literal p.times) p.atom))) p.atom
part_at true p = self_part p.atom
part_at false p = inr (inr (self_part p.atom))

constant_at : (b : Bool) (s : Tree ℕ) (z : ℤ) (u : Tree ℕ) → Among (subtrees s) u → Among (subtrees (cond b s (binary Binary.Add s (literal z)))) u
constant_at true s z u h = h
constant_at false s z u h = inr (among-left (subtrees s) (literal z ∷ []) u h)

grows : (ps : List FormPart) (s : Tree ℕ) (z : ℤ) (u : Tree ℕ) → Among (subtrees s) u → Among (subtrees (with_constant (sum_of_parts (Some s) ps) z)) u
grows [] s z u h = constant_at (int_eq z (pos 0)) s z u h
grows (p ∷ ps) s z u h = grows ps (binary Binary.Add s (part_term p)) z u (inr (among-left (subtrees s) (subtrees (part_term p)) u h))

atoms_after : (ps : List FormPart) (s : Tree ℕ) (z : ℤ) → AllAtoms (Among (subtrees (with_constant (sum_of_parts (Some s) ps) z))) ps
atoms_after [] s z = tt
atoms_after (p ∷ ps) s z = (
  grows ps (binary Binary.Add s (part_term p)) z p.atom (inr (among-right (subtrees s) (subtrees (part_term p)) p.atom (part_at (int_eq p.times (pos 1)) p))),
  atoms_after ps (binary Binary.Add s (part_term p)) z,
)

atoms_in_sum : (ps : List FormPart) (z : ℤ) → AllAtoms (Among (subtrees (with_constant (sum_of_parts None ps) z))) ps
atoms_in_sum [] z = tt
atoms_in_sum (p ∷ ps) z = (grows ps (part_term p) z p.atom (part_at (int_eq p.times (pos 1)) p), atoms_after ps (part_term p) z)

pub atoms_in_term : (f : LinearForm) → AllAtoms (Among (subtrees (form_term f))) f.parts
atoms_in_term f = atoms_in_sum f.parts f.constant
