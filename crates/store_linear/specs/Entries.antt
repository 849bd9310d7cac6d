-- How the linear form of a term comes of those of its parts.
use Rattle.std.specs.Prelude.{◌≡◌, ℕ, List, map, true, false, ⊤, Option, Some, None}
use Rattle.std.specs.List.{list_all}
use Rattle.std.specs.declared.vec.Vec.{Vec}
use Rattle.slang_values.specs.Tree.{Tree, literal, truth_literal, name, bound, unary, binary, update, quantified, listed, parts}
use Rattle.tree_forms.specs.Form.{form, form_term, is_narrow}
use Rattle.term_nodes.specs.declared.node.Node.{Node}
use Rattle.term_store.specs.Store.{tree_at, AreTreesOf}
use Rattle.store_forms.specs.declared.form.IdForm.{IdForm}
use Rattle.store_forms.specs.Form.{small_numbers}
use Rattle.store_entries.specs.declared.entry.Entry.{Entry}
use Rattle.store_entries.specs.declared.entry.Entry.TheVariants.{Form, Wide}

-- the form itself, where its numbers are within 2^60
abbrev pub IsNarrowed : IdForm → Entry → Type 0
IsNarrowed f (Form g) = (g ≡ f) × (small_numbers f ≡ true)
IsNarrowed f Wide = small_numbers f ≡ false

-- the numbers of the terms of the forms of these trees, or none where one of them is not narrow
pub record AreTermsOf (store : List Node) (ts : List (Tree ℕ)) (ids : List ℕ) : Type 0 where
  pub terms : AreTreesOf store ids (map (λ t. form_term (form t)) ts)
  pub narrow : list_all is_narrow ts ≡ true

-- no form takes it apart
abbrev pub IsAtomAlone : Tree ℕ → Type 0
IsAtomAlone (literal z) = ⊥
IsAtomAlone (truth_literal b) = ⊤
IsAtomAlone (name n) = ⊤
IsAtomAlone (bound n) = ⊤
IsAtomAlone (unary op a) = ⊥
IsAtomAlone (binary op a b) = ⊥
IsAtomAlone (update a i x) = ⊤
IsAtomAlone (quantified q low high body) = ⊤
IsAtomAlone (listed l ts) = ⊤

-- the terms, or none where a tree is not narrow
abbrev pub AreTerms : {A : Type 0} → List Node → List (Tree ℕ) → Option (Vec ℕ A) → Type 0
AreTerms store ts None = list_all is_narrow ts ≡ false
AreTerms store ts (Some v) = AreTermsOf store ts v.items

-- the numbers stand for the terms of the forms of its parts, which are narrow
abbrev pub IsOverTerms : List Node → ℕ → List ℕ → Type 0
IsOverTerms store id ids = AreTermsOf store (parts (tree_at store id)) ids
