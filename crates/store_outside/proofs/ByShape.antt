-- Numbers outside the bodies of quantifiers, by the shape of a stored term.
use Rattle.std.proofs.Common.{◌≡◌, ℕ, ◌<◌, ◌≤◌, List, [], ◌∷◌, map, length, get_or, zero, suc, Bool, true, cond, ◌&&◌, false, refl, sym, ap, ◌∙◌, subst, arith}
use Rattle.std.specs.List.{list_all, All, AllByRecursion}
use Rattle.std.proofs.lemmas.List.Elements.{All-from_recursion}
use Rattle.slang_values.specs.Value.{Records, number_type, same_type}
use Rattle.slang_values.specs.Tree.{Tree, literal, truth_literal, name, bound, unary, binary, update, quantified, listed, Listed}
use Rattle.slang_values.specs.Typing.{NameTypes, type_of}
use Rattle.slang_values.specs.declared.operators.Unary.{Unary}
use Rattle.slang_values.specs.declared.operators.Binary.{Binary}
use Rattle.slang_values.specs.declared.operators.Quantifier.{Quantifier}
use Rattle.tree_forms.specs.Form.{is_narrow}
use Rattle.term_trees.specs.Term.{trees_of}
use Rattle.term_nodes.specs.declared.node.Node.{Node}
use Rattle.term_nodes.specs.declared.node.NodeShape.{NodeShape}
use Rattle.term_nodes.specs.Node.{numbers, shape_numbers, IsShapeOf}
use Rattle.term_store.specs.Store.{IsPlaced}
use Rattle.node_parts.proofs.Placed.{shape-tree_at}
use Rattle.closing.specs.Literals.{is_narrow_outside, are_narrow_outside}

-- the parts of a term stand before it
pub parts-before : (store : List Node) (id count : ℕ) (n : Node) (s : NodeShape) → IsPlaced store id n → IsShapeOf n s → id ≤ count → All (λ k. k < count) (shape_numbers s)
parts-before store id count n s p g l = All-from_recursion (λ k. k < count) (shape_numbers s) (subst (AllByRecursion (λ k. k < count)) g.numbers (before (numbers n) p.below))
  where
    before : (ks : List ℕ) → AllByRecursion (λ k. k < id) ks → AllByRecursion (λ k. k < count) ks
    before [] h = tt
    before (k ∷ ks) h = (omega (arith, h.0), before ks h.1)

module _ (records : Records) (types : NameTypes ℕ) where
  pub outside-literal : (t : Tree ℕ) (z : _) → t ≡ literal z → is_narrow_outside records types t ≡ is_narrow t
  outside-literal t z e = rw e refl

  pub outside-truth : (t : Tree ℕ) (b : Bool) → t ≡ truth_literal b → is_narrow_outside records types t ≡ true
  outside-truth t b e = ap (is_narrow_outside records types) e

  pub outside-name : (t : Tree ℕ) (n : ℕ) → t ≡ name n → is_narrow_outside records types t ≡ true
  outside-name t n e = ap (is_narrow_outside records types) e

  pub outside-bound : (t : Tree ℕ) (n : ℕ) → t ≡ bound n → is_narrow_outside records types t ≡ true
  outside-bound t n e = ap (is_narrow_outside records types) e

  pub outside-unary_number : (t a : Tree ℕ) (op : Unary) → t ≡ unary op a → same_type (type_of records types t) number_type ≡ true → is_narrow_outside records types t ≡ is_narrow t
  outside-unary_number t a op e h = rw e (ap (λ b. cond b (is_narrow (unary op a)) (is_narrow_outside records types a)) (ap (λ u. same_type (type_of records types u) number_type) (sym e) ∙ h))

  pub outside-unary_other : (t a : Tree ℕ) (op : Unary) → t ≡ unary op a → same_type (type_of records types t) number_type ≡ false → is_narrow_outside records types t ≡ is_narrow_outside records types a
  outside-unary_other t a op e h = rw e (ap (λ b. cond b (is_narrow (unary op a)) (is_narrow_outside records types a)) (ap (λ u. same_type (type_of records types u) number_type) (sym e) ∙ h))

  pub outside-binary_number : (t a b : Tree ℕ) (op : Binary) → t ≡ binary op a b → same_type (type_of records types t) number_type ≡ true → is_narrow_outside records types t ≡ is_narrow t
  outside-binary_number t a b op e h = rw e (ap (λ c. cond c (is_narrow (binary op a b)) (is_narrow_outside records types a && is_narrow_outside records types b)) (ap (λ u. same_type (type_of records types u) number_type) (sym e) ∙ h))

  pub outside-binary_other : (t a b : Tree ℕ) (op : Binary) → t ≡ binary op a b → same_type (type_of records types t) number_type ≡ false → is_narrow_outside records types t ≡ (is_narrow_outside records types a && is_narrow_outside records types b)
  outside-binary_other t a b op e h = rw e (ap (λ c. cond c (is_narrow (binary op a b)) (is_narrow_outside records types a && is_narrow_outside records types b)) (ap (λ u. same_type (type_of records types u) number_type) (sym e) ∙ h))

  pub outside-update : (t a i x : Tree ℕ) → t ≡ update a i x → is_narrow_outside records types t ≡ (is_narrow_outside records types a && is_narrow_outside records types i && is_narrow_outside records types x)
  outside-update t a i x e = ap (is_narrow_outside records types) e

  pub outside-quantified : (t low high body : Tree ℕ) (q : Quantifier) → t ≡ quantified q low high body → is_narrow_outside records types t ≡ (is_narrow_outside records types low && is_narrow_outside records types high)
  outside-quantified t low high body q e = ap (is_narrow_outside records types) e

  outside-trees : (ts : List (Tree ℕ)) → are_narrow_outside records types (trees_of ts) ≡ list_all (is_narrow_outside records types) ts
  outside-trees [] = refl
  outside-trees (t ∷ ts) = ap (λ b. is_narrow_outside records types t && b) (outside-trees ts)

  pub outside-listed : (t : Tree ℕ) (l : Listed) (ts : List (Tree ℕ)) → t ≡ listed l (trees_of ts) → is_narrow_outside records types t ≡ list_all (is_narrow_outside records types) ts
  outside-listed t l ts e = ap (is_narrow_outside records types) e ∙ outside-trees ts

-- one of the terms has the answer false
pub one_is_false : (test : Tree ℕ → Bool) (f : ℕ → Tree ℕ) (ks : List ℕ) (i : ℕ) → i < length ks → test (f (get_or ks i 0)) ≡ false → false ≡ list_all test (map f ks)
one_is_false test f [] i l e = absurd (omega arith)
one_is_false test f (k ∷ ks) zero l e = sym (ap (λ b. b && list_all test (map f ks)) e)
one_is_false test f (k ∷ ks) (suc i) l e = sym (ap (λ b. test (f k) && b) (sym (one_is_false test f ks i (omega arith) e)) ∙ and_false (test (f k)))
  where
    and_false : (b : Bool) → (b && false) ≡ false
    and_false true = refl
    and_false false = refl

pub ruleset outside_lines = (shape-tree_at, parts-before, outside-literal, outside-truth, outside-name, outside-bound, outside-unary_number, outside-unary_other, outside-binary_number, outside-binary_other, outside-update, outside-quantified, outside-listed)
