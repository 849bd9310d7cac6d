-- The linear form of a tree: a sum of atoms, each a number of times, and a constant.
use Rattle.std.specs.Prelude.{ℕ, ◌^◌, ℤ, pos, negsuc, ◌+ℤ◌, ◌*ℤ◌, neg_ℤ, int_le, unsigned_abs, nat_le, List, [], ◌∷◌, ◌++◌, map, Bool, true, false, ◌&&◌, if◌then◌else◌, Option, Some, None}
use Rattle.std.specs.declared.cmp.Ordering.{Ordering}
use Rattle.std.specs.declared.cmp.Ordering.TheVariants.{Less, Equal, Greater}
use Rattle.std.specs.Ordering.{int_eq, is_lt}
use Rattle.std.specs.List.{list_all}
use Rattle.slang_values.specs.Value.{Records, Value, number_of}
use Rattle.slang_values.specs.Tree.{Tree, literal, truth_literal, name, bound, unary, binary, update, quantified, listed, Trees, no_trees, tree_then, Bounds, value}
use Rattle.slang_values.specs.declared.operators.Unary.{Unary}
use Rattle.slang_values.specs.declared.operators.Binary.{Binary}
use Rattle.tree_forms.specs.Order.{tree_cmp}

-- an atom, and how often it is taken
pub record FormPart : Type 0 where
  pub atom : Tree ℕ
  pub times : ℤ

-- the parts in the order of their atoms, each atom once and none 0 times
pub record LinearForm : Type 0 where
  pub parts : List FormPart
  pub constant : ℤ

abbrev pub constant_form : ℤ → LinearForm
constant_form z = record { parts = []; constant = z }

abbrev pub atom_form : Tree ℕ → LinearForm
atom_form t = record { parts = record { atom = t; times = pos 1 } ∷ []; constant = pos 0 }

-- ---- sums and multiples

-- the parts, with q joined to the part q of the same atom; where nothing is left of both, both go
abbrev pub joined : FormPart → FormPart → List FormPart → List FormPart
joined p q rest =
    let times = p.times +ℤ q.times in
    if int_eq times (pos 0) then rest else record { atom = p.atom; times = times } ∷ rest

-- The part q before, at or behind the part p, as their atoms compare. Behind stands q inserted into the parts ps behind p.
abbrev pub placed : Ordering → FormPart → FormPart → List FormPart → List FormPart → List FormPart
placed Less p q ps behind = p ∷ behind
placed Equal p q ps behind = joined p q ps
placed Greater p q ps behind = q ∷ p ∷ ps

-- the parts with one more, at its place in their order
abbrev pub inserted : FormPart → List FormPart → List FormPart
inserted q [] = q ∷ []
inserted q (p ∷ ps) = placed (tree_cmp p.atom q.atom) p q ps (inserted q ps)

-- the parts ps with all those of the other list
abbrev pub all_inserted : List FormPart → List FormPart → List FormPart
all_inserted [] ps = ps
all_inserted (q ∷ qs) ps = inserted q (all_inserted qs ps)

abbrev pub plus : LinearForm → LinearForm → LinearForm
plus f g = record { parts = all_inserted g.parts f.parts; constant = f.constant +ℤ g.constant }

abbrev pub multiplied : ℤ → FormPart → FormPart
multiplied k p = record { atom = p.atom; times = k *ℤ p.times }

abbrev pub scaled : ℤ → LinearForm → LinearForm
scaled k f =
    if int_eq k (pos 0) then constant_form (pos 0) else record { parts = map (multiplied k) f.parts; constant = k *ℤ f.constant }

-- ---- the term of a form

-- an atom that is taken once stands alone
abbrev pub part_term : FormPart → Tree ℕ
part_term p = if int_eq p.times (pos 1) then p.atom else binary Binary.Mul (literal p.times) p.atom

abbrev pub added : Option (Tree ℕ) → Tree ℕ → Tree ℕ
added None t = t
added (Some s) t = binary Binary.Add s t

-- the sum so far, and the parts after it, added from the left
abbrev pub sum_of_parts : Option (Tree ℕ) → List FormPart → Option (Tree ℕ)
sum_of_parts sum [] = sum
sum_of_parts sum (p ∷ ps) = sum_of_parts (Some (added sum (part_term p))) ps

-- the constant comes last, where it is not 0 or there is nothing else
abbrev pub with_constant : Option (Tree ℕ) → ℤ → Tree ℕ
with_constant None z = literal z
with_constant (Some t) z = if int_eq z (pos 0) then t else binary Binary.Add t (literal z)

abbrev pub form_term : LinearForm → Tree ℕ
form_term f = with_constant (sum_of_parts None f.parts) f.constant

-- ---- products and remainders of forms

-- of the two terms the lesser stands first
abbrev pub product_atom : Tree ℕ → Tree ℕ → Tree ℕ
product_atom a b = if is_lt (tree_cmp b a) then binary Binary.Mul b a else binary Binary.Mul a b

abbrev pub has_no_parts : List FormPart → Bool
has_no_parts [] = true
has_no_parts (p ∷ ps) = false

abbrev pub is_constant : LinearForm → Bool
is_constant f = has_no_parts f.parts

-- a multiple where one of the two is constant, and else an atom
abbrev pub product : LinearForm → LinearForm → LinearForm
product f g =
    if is_constant f then scaled f.constant g else (
    if is_constant g then scaled g.constant f else atom_form (product_atom (form_term f) (form_term g)))

-- for a constant divisor c of 1 or more, `a - c * Div(a, c)`; else an atom
abbrev pub remainder_form : LinearForm → LinearForm → LinearForm
remainder_form f g =
    if is_constant g && int_le (pos 1) g.constant then
    plus f (scaled (neg_ℤ g.constant) (atom_form (binary Binary.Div (form_term f) (literal g.constant))))
    else atom_form (binary Binary.Rem (form_term f) (form_term g))

-- ---- the form of a tree

-- of an operator over a part with the form f
abbrev pub unary_form : Unary → LinearForm → LinearForm
unary_form Unary.Neg f = scaled (negsuc 0) f
unary_form op f = atom_form (unary op (form_term f))

-- of an operator over parts with the forms f and g
abbrev pub binary_form : Binary → LinearForm → LinearForm → LinearForm
binary_form Binary.Add f g = plus f g
binary_form Binary.Sub f g = plus f (scaled (negsuc 0) g)
binary_form Binary.Mul f g = product f g
binary_form Binary.Rem f g = remainder_form f g
binary_form op f g = atom_form (binary op (form_term f) (form_term g))

abbrev mutual
  -- Literals, sums, differences, multiples and remainders by a literal are taken apart. Each other node is an atom, in which
  -- each part is the term of its own form, and so at every depth.
  pub form : Tree ℕ → LinearForm
  form (literal z) = constant_form z
  form (truth_literal b) = atom_form (truth_literal b)
  form (name n) = atom_form (name n)
  form (bound n) = atom_form (bound n)
  form (unary op a) = unary_form op (form a)
  form (binary op a b) = binary_form op (form a) (form b)
  form (update a i x) = atom_form (update (form_term (form a)) (form_term (form i)) (form_term (form x)))
  form (quantified q low high body) =
      atom_form (quantified q (form_term (form low)) (form_term (form high)) (form_term (form body)))
  form (listed l ts) = atom_form (listed l (form_terms ts))

  pub form_terms : Trees ℕ → Trees ℕ
  form_terms no_trees = no_trees
  form_terms (tree_then t ts) = tree_then (form_term (form t)) (form_terms ts)

-- ---- forms within 2^60

abbrev pub is_within : ℤ → Bool
is_within z = nat_le (unsigned_abs z) (2 ^ 60)

abbrev pub has_small_numbers : LinearForm → Bool
has_small_numbers f = list_all (λ p. is_within p.times) f.parts && is_within f.constant

abbrev mutual
  -- the tree, and each part of it, at every depth
  pub subtrees : Tree ℕ → List (Tree ℕ)
  subtrees (literal z) = literal z ∷ []
  subtrees (truth_literal b) = truth_literal b ∷ []
  subtrees (name n) = name n ∷ []
  subtrees (bound n) = bound n ∷ []
  subtrees (unary op a) = unary op a ∷ subtrees a
  subtrees (binary op a b) = binary op a b ∷ (subtrees a ++ subtrees b)
  subtrees (update a i x) = update a i x ∷ (subtrees a ++ subtrees i ++ subtrees x)
  subtrees (quantified q low high body) = quantified q low high body ∷ (subtrees low ++ subtrees high ++ subtrees body)
  subtrees (listed l ts) = listed l ts ∷ all_subtrees ts

  pub all_subtrees : Trees ℕ → List (Tree ℕ)
  all_subtrees no_trees = []
  all_subtrees (tree_then t ts) = subtrees t ++ all_subtrees ts

-- The form of the tree, and that of each part at every depth, has no number beyond 2^60. A tree that is not narrow is Wide.
unfoldable pub is_narrow : Tree ℕ → Bool
is_narrow t = list_all (λ s. has_small_numbers (form s)) (subtrees t)

unfoldable pub are_narrow : Trees ℕ → Bool
are_narrow ts = list_all (λ s. has_small_numbers (form s)) (all_subtrees ts)

-- ---- the value of a form

abbrev pub sum_value : Records → (ℕ → Value) → Bounds → List FormPart → ℤ
sum_value records names e [] = pos 0
sum_value records names e (p ∷ ps) = (p.times *ℤ number_of (value records names e p.atom)) +ℤ sum_value records names e ps

abbrev pub form_value : Records → (ℕ → Value) → Bounds → LinearForm → ℤ
form_value records names e f = sum_value records names e f.parts +ℤ f.constant
