-- What stands before a step, as plain data.
use Rattle.std.specs.Prelude.{◌≡◌, ℕ, List, [], ◌∷◌, ◌++◌, map, take, Bool, false, ◌||◌, ◌==◌, Option}
use Rattle.std.specs.List.{All, list_any}
use Rattle.std.specs.Ordering.{nat_cmp}
use Rattle.std.specs.BTreeSet.{BTreeSet, contains}
use Rattle.slang_values.specs.Tree.{Tree}
use Rattle.validity.specs.Validity.{SequentTree, symbol_types, IsClaim}
use Rattle.rule_check.specs.Cited.{cited_tree}
use Rattle.deduction_rules.specs.Replacement.{has_symbol}
use Rattle.deduction_rules.specs.Deduction as plain
use Rattle.deduction_rules.specs.Deduction.{Before, is_symbol, visible_claims}
use Rattle.proof_scopes.specs.declared.scope.Labelled.{Labelled}
use Rattle.proof_scopes.specs.declared.scope.Scope.{Scope}

abbrev pub labelled_tree : Labelled → plain.Labelled
labelled_tree e = record { label = e.label; cited = cited_tree e.cited }

-- whether the set has the symbol
abbrev pub has : BTreeSet ℕ → ℕ → Bool
has symbols n = contains nat_cmp symbols n

abbrev pub before_of : Scope → Before
before_of scope = record { visible = map labelled_tree scope.visible.items; used = has scope.used; ended = has scope.ended }

-- nothing stands before, not even facts
abbrev pub nothing : Before
nothing = record { visible = []; used = λ n. false; ended = λ n. false }

-- the symbol stands in the tree
abbrev pub is_in : Tree ℕ → ℕ → Bool
is_in t n = has_symbol (λ m. m == n) t

abbrev pub is_in_some : List (Tree ℕ) → ℕ → Bool
is_in_some ts n = list_any (λ t. is_in t n) ts

abbrev pub with_used : (ℕ → Bool) → Before → Before
with_used more before = record before { used = λ n. before.used n || more n }

-- The set has gained those symbols, and no others.
abbrev pub Gains : BTreeSet ℕ → BTreeSet ℕ → (ℕ → Bool) → Type 0
Gains old new more = (n : ℕ) → has new n ≡ (has old n || more n)

-- after a block, before which that many labels were visible: of those in it none is
abbrev pub after_block : ℕ → Option ℕ → plain.Labelled → Before → Before
after_block outside symbol block at_end = record {
  visible = take outside at_end.visible ++ block ∷ [];
  used = at_end.used;
  ended = λ n. at_end.ended n || is_symbol symbol n;
}

-- a claim about the symbols of the base
abbrev pub IsClaimOver : SequentTree → Tree ℕ → Type 0
IsClaimOver base t = IsClaim base.records (symbol_types base) t

abbrev pub AreClaims : SequentTree → Before → Type 0
AreClaims base before = All (IsClaimOver base) (visible_claims before.visible)
