-- What the numbers of a leg's state stand for in a store.
use Rattle.std.specs.Prelude.{◌≡◌, ℕ, suc, pred, ◌<◌, nat_eq, List, [], ◌∷◌, ◌++◌, map, length, get_or, slice_get, slice_set, unwrap_or, if◌then◌else◌, Option, Some}
use Rattle.std.specs.Option.{option_map, option_flatten}
use Rattle.std.specs.Ordering.{nat_cmp}
use Rattle.std.specs.Set.{is_member}
use Rattle.std.specs.BTreeMap.{BTreeMap, get}
use Rattle.std.specs.declared.vec.Vec.{Vec}
use Rattle.slang_values.specs.Tree.{Tree, name}
use Rattle.term_trees.specs.declared.term.Sort.{Sort}
use Rattle.term_trees.specs.Term.{sort_type}
use Rattle.term_nodes.specs.declared.node.Node.{Node}
use Rattle.term_store.specs.Store.{tree_at, AreWithin}
use Rattle.leg_rules.specs.Store.{State}
use Rattle.leg_states.specs.declared.state.LegState.{LegState}

-- ---- versions

-- the versions of the variables: of each a list of numbers
abbrev pub lists_of : {S T : Type 0} → Vec (Vec (Option ℕ) S) T → List (List (Option ℕ))
lists_of versions = map (λ list. list.items) versions.items

-- the number of the term that version k of variable x has, where it has one
abbrev pub number_at : List (List (Option ℕ)) → ℕ → ℕ → Option ℕ
number_at lists x k = option_flatten (slice_get (get_or lists x []) k)

-- the last version of variable x
abbrev pub version_at : List (List (Option ℕ)) → ℕ → ℕ
version_at lists x = pred (length (get_or lists x []))

-- with a term for that version
abbrev pub put : List (List (Option ℕ)) → ℕ → ℕ → ℕ → List (List (Option ℕ))
put lists x k id = slice_set lists x (slice_set (get_or lists x []) k (Some id))

-- with one version more of variable x
abbrev pub pushed : List (List (Option ℕ)) → ℕ → Option ℕ → List (List (Option ℕ))
pushed lists x id = slice_set lists x (get_or lists x [] ++ id ∷ [])

-- There are so many variables, and each has a version.
pub record HaveVersions (count : ℕ) (lists : List (List (Option ℕ))) : Type 0 where
  pub variables : length lists ≡ count
  pub present : (x : ℕ) → x < count → 0 < length (get_or lists x [])

-- ---- states

abbrev pub state_over : List Node → List Sort → List (List (Option ℕ)) → BTreeMap ℕ ℕ → List ℕ → State
state_over store sorts lists lets facts = record {
  sorts = map sort_type sorts;
  version = λ x. version_at lists x;
  terms = λ x k. option_map (tree_at store) (number_at lists x k);
  lets = λ label. unwrap_or (get nat_cmp lets label) 0;
  facts = map (tree_at store) facts;
}

-- the state, with the trees of its numbers
abbrev pub state_of : List Node → LegState → State
state_of store state = state_over store state.sorts (lists_of state.versions) state.lets state.facts

-- The versions are those of so many variables, and the numbers are in the store.
pub record AreOver (count : ℕ) (store : List Node) (lists : List (List (Option ℕ))) (facts : List ℕ) : Type 0 where
  pub versions : HaveVersions count lists
  pub numbers : (x k n : ℕ) → number_at lists x k ≡ Some n → n < length store
  pub within : AreWithin store facts

-- the numbers of the state are in the store
abbrev pub IsOver : ℕ → List Node → LegState → Type 0
IsOver count store state = AreOver count store (lists_of state.versions) state.facts

-- ---- changes

-- Each of the variables has one version more, which has no term.
abbrev pub with_versions_of : List ℕ → State → State
with_versions_of xs state = record state { version = λ y. if is_member nat_eq xs y then suc (state.version y) else state.version y }

-- as many symbols as there are variables, from that number on
abbrev pub taken_by_each : List ℕ → ℕ → List (Tree ℕ)
taken_by_each [] n = []
taken_by_each (x ∷ xs) n = name n ∷ taken_by_each xs (suc n)
