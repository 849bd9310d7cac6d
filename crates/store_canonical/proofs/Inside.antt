-- A canonical tree is a canonical number, or has canonical parts.
use Rattle.std.proofs.Common.{◌≡◌, ℕ, ◌<◌, ◌≤◌, List, [], ◌∷◌, map, length, get_or, Bool, true, false, cond, Result, Ok, Err, IfOk, refl, sym, ap, ap₂, ◌∙◌, subst, arith}
use Rattle.std.specs.List.{AllByRecursion}
use Rattle.std.proofs.lemmas.Bool.{false≢true}
use Rattle.std.proofs.lemmas.List.{length-map}
use Rattle.slang_values.specs.Value.{Records, number_type, same_type}
use Rattle.slang_values.specs.Tree.{Tree, Trees, no_trees, tree_then, literal, truth_literal, name, bound, unary, binary, update, quantified, listed, Listed, sequence_of, record_of, parts, tree_list}
use Rattle.slang_values.specs.Typing.{NameTypes, type_of}
use Rattle.tree_forms.specs.Order.{head}
use Rattle.tree_forms.specs.Form.{form, form_term, is_narrow}
use Rattle.tree_forms.specs.Canonical.{canonical, canonical_number, canonical_of, all_canonical}
use Rattle.term_nodes.specs.declared.node.Node.{Node}
use Rattle.term_nodes.specs.Node.{node_tree, numbers, node_head}
use Rattle.term_nodes.proofs.Nodes.{same_by_parts, head-node_tree, parts-node_tree}
use Rattle.term_store.specs.Store.{stored, tree_at, Holds, IsPlaced, AreWithin}
use Rattle.term_store.proofs.Stores.{Holds-within, tree_at-Holds}
use Rattle.node_parts.proofs.Placed.{parts-placed, head-placed}
use Rattle.store_forms.specs.declared.form.IdForm.{IdForm}
use Rattle.store_forms.specs.Form.{form_at}
use Rattle.store_entries.specs.Entries.{HasForm}
use Rattle.store_canonical.specs.Canonical.{AreCanonical}

module _ (records : Records) (types : NameTypes ℕ) where
  abbrev is_number : Tree ℕ → Bool
  is_number t = same_type (type_of records types t) number_type

  of_number : (t u : Tree ℕ) → is_number t ≡ true → canonical_of records types t u ≡ canonical_number t
  of_number t u e = ap (λ b. cond b (canonical_number t) u) e

  of_other : (t u : Tree ℕ) → is_number t ≡ false → canonical_of records types t u ≡ u
  of_other t u e = ap (λ b. cond b (canonical_number t) u) e

  pub number_itself : (t : Tree ℕ) → is_number t ≡ true → canonical_number t ≡ canonical records types t
  number_itself (literal z) e = refl
  number_itself (truth_literal b) e = absurd (false≢true e)
  number_itself (name n) e = sym (of_number (name n) (name n) e)
  number_itself (bound n) e = refl
  number_itself (unary op a) e = sym (of_number (unary op a) _ e)
  number_itself (binary op a b) e = sym (of_number (binary op a b) _ e)
  number_itself (update a i x) e = sym (of_number (update a i x) _ e)
  number_itself (quantified q low high body) e = absurd (false≢true e)
  number_itself (listed (sequence_of s) ts) e = absurd (false≢true e)
  number_itself (listed (record_of n) ts) e = absurd (false≢true e)

  canonical_list : (ts : Trees ℕ) → tree_list (all_canonical records types ts) ≡ map (canonical records types) (tree_list ts)
  canonical_list no_trees = refl
  canonical_list (tree_then t ts) = ap (λ us. canonical records types t ∷ us) (canonical_list ts)

  head-listed : (l : Listed) (ts us : Trees ℕ) → head (listed l ts) ≡ head (listed l us)
  head-listed (sequence_of t) ts us = refl
  head-listed (record_of n) ts us = refl

  -- any other term has canonical parts
  pub parts_itself : (t u : Tree ℕ) → is_number t ≡ false → head u ≡ head t → parts u ≡ map (canonical records types) (parts t) → u ≡ canonical records types t
  parts_itself (literal z) u n e f = absurd (false≢true (sym n))
  parts_itself (truth_literal b) u n e f = same_by_parts u (truth_literal b) e f
  parts_itself (name a) u n e f = same_by_parts u (name a) e f ∙ sym (of_other (name a) (name a) n)
  parts_itself (bound a) u n e f = absurd (false≢true (sym n))
  parts_itself (unary op a) u n e f = same_by_parts u (unary op (canonical records types a)) e f ∙ sym (of_other (unary op a) _ n)
  parts_itself (binary op a b) u n e f = same_by_parts u (binary op (canonical records types a) (canonical records types b)) e f ∙ sym (of_other (binary op a b) _ n)
  parts_itself (update a i x) u n e f =
      same_by_parts u (update (canonical records types a) (canonical records types i) (canonical records types x)) e f ∙ sym (of_other (update a i x) _ n)
  parts_itself (quantified q low high body) u n e f = same_by_parts u (quantified q (canonical records types low) (canonical records types high) (canonical records types body)) e f
  parts_itself (listed l ts) u n e f = same_by_parts u (listed l (all_canonical records types ts)) (e ∙ head-listed l ts (all_canonical records types ts)) (f ∙ sym (canonical_list ts))

  -- ---- the node over the canonical trees of the parts

  canonical_trees : (store : List Node) (ids ks : List ℕ) → AreCanonical records types store ids → AllByRecursion (λ k. k < length ids) ks →
      map (tree_at store) (map (λ k. get_or ids k 0) ks) ≡ map (canonical records types) (map (tree_at store) ks)
  canonical_trees store ids [] h l = refl
  canonical_trees store ids (k ∷ ks) h l =
      ap₂ ◌∷◌ (tree_at-Holds store (get_or ids k 0) (canonical records types (tree_at store k)) (h.at k l.0)) (canonical_trees store ids ks h l.1)

  canonical_within : (store : List Node) (ids ks : List ℕ) → AreCanonical records types store ids → AllByRecursion (λ k. k < length ids) ks → AreWithin store (map (λ k. get_or ids k 0) ks)
  canonical_within store ids [] h l = tt
  canonical_within store ids (k ∷ ks) h l = (Holds-within store (get_or ids k 0) _ (h.at k l.0), canonical_within store ids ks h l.1)

  below_all : (id : ℕ) (ids ks : List ℕ) → id ≤ length ids → AllByRecursion (λ k. k < id) ks → AllByRecursion (λ k. k < length ids) ks
  below_all id ids [] l h = tt
  below_all id ids (k ∷ ks) l h = (omega (arith, h.0), below_all id ids ks l h.1)

  pub parts_formed : (store : List Node) (id : ℕ) (n : Node) (ids : List ℕ) → IsPlaced store id n → id ≤ length ids → AllByRecursion (λ k. k < length ids) (numbers n)
  parts_formed store id n ids p l = below_all id ids (numbers n) l p.below

  pub node_within : (store : List Node) (id : ℕ) (n m : Node) (ids : List ℕ) → IsPlaced store id n → id ≤ length ids → AreCanonical records types store ids → numbers m ≡ map (λ k. get_or ids k 0) (numbers n) → AreWithin store (numbers m)
  node_within store id n m ids p l h e = subst (AreWithin store) (sym e) (canonical_within store ids (numbers n) h (parts_formed store id n ids p l))

  pub node_canonical : (store : List Node) (id : ℕ) (n m : Node) (ids : List ℕ) → IsPlaced store id n → id ≤ length ids → AreCanonical records types store ids → node_head m ≡ node_head n → numbers m ≡ map (λ k. get_or ids k 0) (numbers n) → is_number (tree_at store id) ≡ false →
      node_tree (stored store) m ≡ canonical records types (tree_at store id)
  node_canonical store id n m ids p l h e f other =
      parts_itself (tree_at store id) (node_tree (stored store) m) other (head-node_tree (stored store) m ∙ e ∙ sym (head-placed store id n p))
      (parts-node_tree (stored store) m ∙ ap (map (tree_at store)) f ∙ canonical_trees store ids (numbers n) h (parts_formed store id n ids p l) ∙ ap (map (canonical records types)) (sym (parts-placed store id n p)))

-- ---- numbers

pub of_narrow : (t : Tree ℕ) → is_narrow t ≡ true → form_term (form t) ≡ canonical_number t
of_narrow t e = sym (ap (λ b. cond b (form_term (form t)) t) e)

pub of_wide : (t : Tree ℕ) → is_narrow t ≡ false → t ≡ canonical_number t
of_wide t e = sym (ap (λ b. cond b (form_term (form t)) t) e)

-- the answer for a number
pub as_number : {E : Type 0} (records : Records) (types : NameTypes ℕ) (r : Result ℕ E) (new : List Node) (t : Tree ℕ) → same_type (type_of records types t) number_type ≡ true → IfOk r (λ k. Holds new k (canonical_number t)) →
    IfOk r (λ k. Holds new k (canonical records types t))
as_number records types (Ok k) new t e h = subst (Holds new k) (number_itself records types t e) h
as_number records types (Err x) new t e h = tt

-- the answer of a number that has a form
pub of_form : {E : Type 0} (r : Result ℕ E) (old new : List Node) (t : Tree ℕ) (f : IdForm) → HasForm old t f → IfOk r (λ k. Holds new k (form_term (form_at old f))) → IfOk r (λ k. Holds new k (canonical_number t))
of_form (Ok k) old new t f h held = subst (Holds new k) (ap form_term h.is.same ∙ of_narrow t h.narrow) held
of_form (Err x) old new t f h held = tt

-- the answer over the canonical trees of the parts
pub over_canonical : {E : Type 0} (records : Records) (types : NameTypes ℕ) (r : Result ℕ E) (store new : List Node) (id : ℕ) (n m : Node) (ids : List ℕ) → IsPlaced store id n → id ≤ length ids → AreCanonical records types store ids →
    node_head m ≡ node_head n → numbers m ≡ map (λ k. get_or ids k 0) (numbers n) → same_type (type_of records types (tree_at store id)) number_type ≡ false → IfOk r (λ k. Holds new k (node_tree (stored store) m)) →
    IfOk r (λ k. Holds new k (canonical records types (tree_at store id)))
over_canonical records types (Ok k) store new id n m ids p l h e f other held = subst (Holds new k) (node_canonical records types store id n m ids p l h e f other) held
over_canonical records types (Err x) store new id n m ids p l h e f other held = tt
