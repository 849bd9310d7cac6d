-- Terms that no form takes apart.
use Rattle.std.proofs.Common.{◌≡◌, ℕ, zero, suc, ◌+◌, ◌<◌, ◌≤◌, List, [], ◌∷◌, ◌++◌, map, length, get_or, take, slice_get, Some, Bool, true, false}
use Rattle.std.proofs.Common.{◌&&◌, refl, sym, ap, ◌∙◌, subst, arith, add-one}
use Rattle.std.specs.List.{list_all, AllByRecursion}
use Rattle.std.proofs.lemmas.Bool.{and_from, and_left, and_right, and_parts}
use Rattle.std.proofs.lemmas.List.{length-map, get_or-map, take_all}
use Rattle.std.proofs.lemmas.Option.{slice_get-get_or}
use Rattle.slang_values.specs.Tree.{Tree, Trees, no_trees, tree_then, literal, truth_literal, name, bound, unary, binary, update, quantified, listed}
use Rattle.slang_values.specs.Tree.{Listed, sequence_of, record_of, parts, tree_list}
use Rattle.tree_forms.specs.Order.{head}
use Rattle.tree_forms.specs.Form.{LinearForm, atom_form, form, form_term, form_terms, is_narrow, are_narrow}
use Rattle.tree_forms.proofs.Narrow.{is_narrow-truth_literal, is_narrow-name, is_narrow-bound, is_narrow-update, is_narrow-quantified}
use Rattle.tree_forms.proofs.Narrow.{is_narrow-listed, are_narrow-none, are_narrow-then}
use Rattle.term_nodes.specs.declared.node.Node.{Node}
use Rattle.term_nodes.specs.Node.{node_tree, numbers, node_head}
use Rattle.term_nodes.proofs.Nodes.{same_by_parts, head-node_tree, parts-node_tree}
use Rattle.term_store.specs.Store.{stored, tree_at, Holds, IsPlaced, AreTreesOf, AreWithin, Grows}
use Rattle.term_store.proofs.Gains.{AreTreesOf-more}
use Rattle.term_store.proofs.Stores.{Grows-itself, Grows-Grows, Grows-tree_at}
use Rattle.node_parts.proofs.Placed.{parts-placed, head-placed}
use Rattle.store_forms.specs.declared.form.IdForm.{IdForm}
use Rattle.store_forms.specs.Form.{form_at, HaveAtoms, IsForm}
use Rattle.store_forms.proofs.Atoms.{form-grows, have-grows}
use Rattle.store_entries.specs.Entries.{HasForm}
use Rattle.store_linear.specs.Entries.{AreTermsOf, IsAtomAlone, IsOverTerms}

-- ---- the form and the narrowness by the parts

abbrev pub term_of : Tree ℕ → Tree ℕ
term_of t = form_term (form t)

terms_listed : (ts : Trees ℕ) → tree_list (form_terms ts) ≡ map term_of (tree_list ts)
terms_listed no_trees = refl
terms_listed (tree_then t ts) = ap (λ us. term_of t ∷ us) (terms_listed ts)

head-listed : (l : Listed) (ts us : Trees ℕ) → head (listed l ts) ≡ head (listed l us)
head-listed (sequence_of t) ts us = refl
head-listed (record_of n) ts us = refl

form_alone : (t u : Tree ℕ) → IsAtomAlone t → head u ≡ head t → parts u ≡ map term_of (parts t) → atom_form u ≡ form t
form_alone (literal z) u h e f = absurd h
form_alone (truth_literal b) u h e f = ap atom_form (same_by_parts u (truth_literal b) e f)
form_alone (name n) u h e f = ap atom_form (same_by_parts u (name n) e f)
form_alone (bound n) u h e f = ap atom_form (same_by_parts u (bound n) e f)
form_alone (unary op a) u h e f = absurd h
form_alone (binary op a b) u h e f = absurd h
form_alone (update a i x) u h e f = ap atom_form (same_by_parts u (update (term_of a) (term_of i) (term_of x)) e f)
form_alone (quantified q low high body) u h e f = ap atom_form (same_by_parts u (quantified q (term_of low) (term_of high) (term_of body)) e f)
form_alone (listed l ts) u h e f =
    ap atom_form (same_by_parts u (listed l (form_terms ts)) (e ∙ head-listed l ts (form_terms ts)) (f ∙ sym (terms_listed ts)))

and_three : (a b c : Bool) → (a && b && c) ≡ (a && (b && (c && true)))
and_three true true true = refl
and_three true true false = refl
and_three true false c = refl
and_three false b c = refl

all_narrow : (ts : Trees ℕ) → are_narrow ts ≡ list_all is_narrow (tree_list ts)
all_narrow no_trees = are_narrow-none
all_narrow (tree_then t ts) = are_narrow-then t ts ∙ ap (λ b. is_narrow t && b) (all_narrow ts)

pub narrow_alone : (t : Tree ℕ) → IsAtomAlone t → is_narrow t ≡ list_all is_narrow (parts t)
narrow_alone (literal z) h = absurd h
narrow_alone (truth_literal b) h = is_narrow-truth_literal b
narrow_alone (name n) h = is_narrow-name n
narrow_alone (bound n) h = is_narrow-bound n
narrow_alone (unary op a) h = absurd h
narrow_alone (binary op a b) h = absurd h
narrow_alone (update a i x) h = is_narrow-update a i x ∙ and_three (is_narrow a) (is_narrow i) (is_narrow x)
narrow_alone (quantified q low high body) h = is_narrow-quantified q low high body ∙ and_three (is_narrow low) (is_narrow high) (is_narrow body)
narrow_alone (listed l ts) h = is_narrow-listed l ts ∙ all_narrow ts

-- ---- the atom over the terms of the parts

pub as_many : (store : List Node) (id : ℕ) (n : Node) (ids : List ℕ) → IsPlaced store id n → IsOverTerms store id ids → length ids ≡ length (numbers n)
as_many store id n ids p h =
    sym (length-map ids (tree_at store)) ∙ ap length h.terms.trees ∙ length-map (parts (tree_at store id)) term_of
    ∙ ap length (parts-placed store id n p) ∙ length-map (numbers n) (tree_at store)

pub atom_within : (store : List Node) (id : ℕ) (m : Node) (ids : List ℕ) → numbers m ≡ ids → IsOverTerms store id ids → AreWithin store (numbers m)
atom_within store id m ids e h = subst (AreWithin store) (sym e) h.terms.within

atom_tree : (store : List Node) (id : ℕ) (n m : Node) (ids : List ℕ) → IsPlaced store id n → node_head m ≡ node_head n → numbers m ≡ ids →
    IsAtomAlone (tree_at store id) → IsOverTerms store id ids → atom_form (node_tree (stored store) m) ≡ form (tree_at store id)
atom_tree store id n m ids p e f alone h =
    form_alone (tree_at store id) (node_tree (stored store) m) alone (head-node_tree (stored store) m ∙ e ∙ sym (head-placed store id n p))
    (parts-node_tree (stored store) m ∙ ap (map (tree_at store)) f ∙ h.terms.trees)

pub has_atom : (store new : List Node) (id : ℕ) (n m : Node) (ids : List ℕ) (x : IdForm) → IsPlaced store id n → node_head m ≡ node_head n →
    numbers m ≡ ids → IsAtomAlone (tree_at store id) → IsOverTerms store id ids →
    IsForm new x (atom_form (node_tree (stored store) m)) → HasForm new (tree_at store id) x
has_atom store new id n m ids x p e f alone h k = record {
  is = subst (IsForm new x) (atom_tree store id n m ids p e f alone h) k;
  narrow = narrow_alone (tree_at store id) alone ∙ h.narrow;
}

-- ---- the loop over the parts

pub record TermsSoFar (old now : List Node) (ids : List ℕ) (i : ℕ) (terms : List ℕ) : Type 0 where
  pub grows : Grows old now
  pub are : AreTreesOf now terms (take i (map term_of (map (tree_at old) ids)))
  pub narrow : list_all is_narrow (take i (map (tree_at old) ids)) ≡ true

pub no_terms : (store : List Node) (ids : List ℕ) → TermsSoFar store store ids 0 []
no_terms store ids = record { grows = Grows-itself store; are = record { within = tt; trees = refl }; narrow = refl }

all-more : (ts : List (Tree ℕ)) (i : ℕ) (t : Tree ℕ) → i < length ts → t ≡ get_or ts i t → list_all is_narrow (take i ts) ≡ true → is_narrow t ≡ true →
    list_all is_narrow (take (suc i) ts) ≡ true
all-more [] i t l e h k = absurd (omega arith)
all-more (x ∷ ts) zero t l e h k = and_from _ _ (ap is_narrow (sym e) ∙ k) refl
all-more (x ∷ ts) (suc i) t l e h k = let p = and_parts _ _ h in and_from _ _ p.0 (all-more ts i t (omega arith) e p.1 k)

all-not : (ts : List (Tree ℕ)) (i : ℕ) (t : Tree ℕ) → i < length ts → t ≡ get_or ts i t → is_narrow t ≡ false → list_all is_narrow ts ≡ false
all-not [] i t l e k = absurd (omega arith)
all-not (x ∷ ts) zero t l e k = and_left _ _ (ap is_narrow (sym e) ∙ k)
all-not (x ∷ ts) (suc i) t l e k = and_right _ _ (all-not ts i t (omega arith) e k)

tree_there : (old : List Node) (ids : List ℕ) (i id : ℕ) (t : Tree ℕ) → i < length ids → id ≡ get_or ids i id → t ≡ tree_at old id →
    t ≡ get_or (map (tree_at old) ids) i t
tree_there old ids i id t l is e = e ∙ ap (tree_at old) is ∙ sym (get_or-map (tree_at old) ids i id t l)

pub wide_part : (old : List Node) (ids : List ℕ) (i id : ℕ) → i < length ids → id ≡ get_or ids i id → is_narrow (tree_at old id) ≡ false →
    list_all is_narrow (map (tree_at old) ids) ≡ false
wide_part old ids i id l is k = all-not (map (tree_at old) ids) i (tree_at old id) (omega (arith, length-map ids (tree_at old)))
    (tree_there old ids i id (tree_at old id) l is refl) k

pub one_term_more : (old now new : List Node) (ids : List ℕ) (i id k : ℕ) (terms : List ℕ) → i < length ids → id ≡ get_or ids i id →
    TermsSoFar old now ids i terms → Grows now new → is_narrow (tree_at old id) ≡ true → Holds new k (term_of (tree_at old id)) →
    TermsSoFar old new ids (i + 1) (terms ++ k ∷ [])
one_term_more old now new ids i id k terms l is so g narrow held =
    let ts = map (tree_at old) ids in
    let within : i < length ts = omega (arith, length-map ids (tree_at old)) in
    let all_within : i < length (map term_of ts) = omega (arith, length-map ts term_of) in
    let there = tree_there old ids i id (tree_at old id) l is refl in
    let term_there : slice_get (map term_of ts) i ≡ Some (term_of (tree_at old id)) =
    slice_get-get_or (map term_of ts) i (term_of (tree_at old id)) all_within
    ∙ ap Some (get_or-map term_of ts i (tree_at old id) (term_of (tree_at old id)) within ∙ ap term_of (sym there)) in
    record {
      grows = Grows-Grows old now new so.grows g;
      are = AreTreesOf-more now new terms (map term_of ts) i k (term_of (tree_at old id)) so.are g term_there held;
      narrow = rw add-one (all-more ts i (tree_at old id) within there so.narrow narrow);
    }

pub all_terms : (old now : List Node) (ids : List ℕ) (i : ℕ) (terms : List ℕ) → length ids ≤ i → TermsSoFar old now ids i terms →
    AreTermsOf now (map (tree_at old) ids) terms
all_terms old now ids i terms l so =
    let ts = map (tree_at old) ids in
    let whole : take i ts ≡ ts = take_all i ts (omega (arith, length-map ids (tree_at old))) in
    let all_whole : take i (map term_of ts) ≡ map term_of ts = take_all i (map term_of ts)
    (omega (arith, length-map ids (tree_at old), length-map ts term_of)) in
    record {
      terms = subst (AreTreesOf now terms) all_whole so.are;
      narrow = ap (list_all is_narrow) (sym whole) ∙ so.narrow;
    }

-- the term of the form of a part, in the store as it has grown
pub term_held : (old now new : List Node) (t : Tree ℕ) (f : IdForm) (k : ℕ) → HasForm old t f → Grows old now → Holds new k (form_term (form_at now f)) →
    Holds new k (term_of t)
term_held old now new t f k h g held = subst (λ (x : LinearForm). Holds new k (form_term x)) (form-grows old now f g h.is.within ∙ h.is.same) held

pub atoms_held : (old now : List Node) (t : Tree ℕ) (f : IdForm) → HasForm old t f → Grows old now → HaveAtoms now f.parts.items
atoms_held old now t f h g = have-grows old now f.parts.items g h.is.within

-- ---- which entries are there

pub below_more : (ks : List ℕ) (m n : ℕ) → AllByRecursion (λ k. k < m) ks → m ≤ n → AllByRecursion (λ k. k < n) ks
below_more [] m n h l = tt
below_more (k ∷ ks) m n h l = let b = h.0 in (omega arith, below_more ks m n h.1 l)

pub below_at : (ks : List ℕ) (i k n : ℕ) → AllByRecursion (λ j. j < n) ks → i < length ks → k ≡ get_or ks i k → k < n
below_at [] i k n h l e = absurd (omega arith)
below_at (j ∷ ks) zero k n h l e = subst (λ (x : ℕ). x < n) (sym e) h.0
below_at (j ∷ ks) (suc i) k n h l e = below_at ks i k n h.1 (omega arith) e

-- ---- an atom, from its parts

pub wide_atom : (store : List Node) (id : ℕ) (n : Node) (ids : List ℕ) → IsPlaced store id n → ids ≡ numbers n → IsAtomAlone (tree_at store id) →
    list_all is_narrow (map (tree_at store) ids) ≡ false → is_narrow (tree_at store id) ≡ false
wide_atom store id n ids p e alone h =
    narrow_alone (tree_at store id) alone ∙ ap (list_all is_narrow) (parts-placed store id n p ∙ ap (map (tree_at store)) (sym e)) ∙ h

pub over_terms : (old new : List Node) (id : ℕ) (n : Node) (ids terms : List ℕ) → IsPlaced old id n → ids ≡ numbers n → id < length old → Grows old new →
    AreTermsOf new (map (tree_at old) ids) terms → IsOverTerms new id terms
over_terms old new id n ids terms p e l g h =
    subst (λ (ts : List (Tree ℕ)). AreTermsOf new ts terms)
    (ap (map (tree_at old)) e ∙ sym (parts-placed old id n p) ∙ ap parts (sym (Grows-tree_at old new id g l))) h

pub alone_still : (old new : List Node) (id : ℕ) → id < length old → Grows old new → IsAtomAlone (tree_at old id) → IsAtomAlone (tree_at new id)
alone_still old new id l g h = subst IsAtomAlone (sym (Grows-tree_at old new id g l)) h
