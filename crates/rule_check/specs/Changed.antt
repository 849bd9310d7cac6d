-- Changes of trees: what is put in where.
use Rattle.std.specs.Prelude.{◌≡◌, ℕ, suc, ◌==◌, Bool, true, false, ◌&&◌, if◌then◌else◌, Option, Some, None, slice_get}
use Rattle.std.specs.Borrow.{Bor}
use Rattle.slang_values.specs.Tree.{Tree, bound, quantified, parts}
use Rattle.term_trees.specs.declared.term.Term.{Term}
use Rattle.term_trees.specs.Term.{tree}
use Rattle.lk_terms.specs.Place.{IsPlace}
use Rattle.substitution.specs.Substitution.{substituted}
use Rattle.deduction_rules.specs.Replacement.{same_tree, replaced}
use Rattle.rule_check.specs.declared.changed.Change.{Change}

-- f makes the change in a tree
abbrev pub Makes : Change → (Tree ℕ → Tree ℕ) → Type 0
Makes (Change.Bound place by) f = (n : ℕ) × IsPlace place n × ((t : Tree ℕ) → f t ≡ substituted n (tree by.now) t)
Makes (Change.Each old by) f = (t : Tree ℕ) → f t ≡ replaced (tree old.now) (tree by.now) t

-- Nothing is put in place of the tree itself.
abbrev pub IsElsewhere : Change → Tree ℕ → Type 0
IsElsewhere (Change.Bound place by) t = (n : ℕ) → IsPlace place n → t ≡ bound n → ⊥
IsElsewhere (Change.Each old by) t = same_tree (tree old.now) t ≡ false

-- what is put in place of the tree itself
abbrev pub PutsIn : Change → Tree ℕ → Option (Bor Term) → Type 0
PutsIn change t None = IsElsewhere change t
PutsIn change t (Some by) = (f : Tree ℕ → Tree ℕ) → Makes change f → f t ≡ tree by.now

-- The part at place k of the changed tree is the part of the tree, changed.
abbrev pub Descends : (Tree ℕ → Tree ℕ) → Tree ℕ → ℕ → Change → Type 0
Descends f t k change =
    (p : Tree ℕ) → slice_get (parts t) k ≡ Some p → (g : Tree ℕ → Tree ℕ) × Makes change g × (slice_get (parts (f t)) k ≡ Some (g p))

abbrev pub is_quantified : Tree ℕ → Bool
is_quantified (quantified q low high body) = true
is_quantified t = false

-- the number of bound variable n inside the part at place k
abbrev pub number_inside : Tree ℕ → ℕ → ℕ → ℕ
number_inside t k n = if (k == 2) && is_quantified t then suc n else n

abbrev pub IsPlaceInside : Option ℕ → Tree ℕ → ℕ → Option ℕ → Type 0
IsPlaceInside place t k inner = (n : ℕ) → IsPlace place n → IsPlace inner (number_inside t k n)
