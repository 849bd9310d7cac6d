-- The linear forms of `tree_forms` as parts whose atoms are numbers of a store.
use Rattle.std.specs.Prelude.{◌≡◌, ℕ, ◌<◌, List, length, map, Bool, true, ◌&&◌, ⊤, Option, Some, None}
use Rattle.std.specs.List.{AllByRecursion, list_all}
use Rattle.std.specs.Option.{option_map}
use Rattle.slang_values.specs.Tree.{Tree}
use Rattle.tree_forms.specs.Form.{FormPart, LinearForm, is_within}
use Rattle.term_nodes.specs.declared.node.Node.{Node}
use Rattle.term_store.specs.Store.{tree_at, Holds}
use Rattle.store_forms.specs.declared.form.IdPart.{IdPart}
use Rattle.store_forms.specs.declared.form.IdForm.{IdForm}

abbrev pub part_at : List Node → IdPart → FormPart
part_at store p = record { atom = tree_at store p.atom; times = p.times }

abbrev pub form_at : List Node → IdForm → LinearForm
form_at store f = record { parts = map (part_at store) f.parts.items; constant = f.constant }

-- the atoms are in the store
abbrev pub HaveAtoms : List Node → List IdPart → Type 0
HaveAtoms store ps = AllByRecursion (λ p. p.atom < length store) ps

-- the parts stand for those
pub record AreParts (store : List Node) (ps : List IdPart) (qs : List FormPart) : Type 0 where
  pub within : HaveAtoms store ps
  pub same : map (part_at store) ps ≡ qs

-- the form stands for that one
pub record IsForm (store : List Node) (f : IdForm) (g : LinearForm) : Type 0 where
  pub within : HaveAtoms store f.parts.items
  pub same : form_at store f ≡ g

-- each number is within 2^60
abbrev pub small_numbers : IdForm → Bool
small_numbers f = list_all (λ p. is_within p.times) f.parts.items && is_within f.constant

-- the atoms are in the store, and the numbers within 2^60
pub record IsSmall (store : List Node) (f : IdForm) : Type 0 where
  pub within : HaveAtoms store f.parts.items
  pub small : small_numbers f ≡ true

-- the sum, where there is one, is in the store
abbrev pub HasSum : List Node → Option ℕ → Type 0
HasSum store None = ⊤
HasSum store (Some k) = k < length store

-- the number of that sum, or none where there is none
pub record IsSum (store : List Node) (sum : Option ℕ) (t : Option (Tree ℕ)) : Type 0 where
  pub within : HasSum store sum
  pub same : option_map (tree_at store) sum ≡ t

-- the two numbers stand for the two trees
pub record ArePair (store : List Node) (p : ℕ × ℕ) (s t : Tree ℕ) : Type 0 where
  pub first : Holds store p.0 s
  pub second : Holds store p.1 t
