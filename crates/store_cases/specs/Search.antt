-- A search for the cases of formulas: what was found, and the branches that are left.
use Rattle.std.specs.Prelude.{◌≡◌, ℕ, ◌<◌, ◌≤◌, List, [], ◌∷◌, ◌++◌, map, length, reverse, Option, Some, None}
use Rattle.std.specs.List.{AllByRecursion}
use Rattle.slang_values.specs.Value.{Records}
use Rattle.slang_values.specs.Tree.{Tree}
use Rattle.slang_values.specs.Typing.{NameTypes}
use Rattle.read_rules.specs.Reduced.{reduced}
use Rattle.case_rules.specs.Cases.{alternatives, case_limit}
use Rattle.case_branches.specs.Branches.{Branch, cases_of_branches, AreClaims}
use Rattle.term_nodes.specs.declared.node.Node.{Node}
use Rattle.term_store.specs.Store.{tree_at, Holds, AreWithin}
use Rattle.store_alternatives.specs.Numbers.{AreFoundAt}
use Rattle.store_cases.specs.declared.end.SplitEnd.{SplitEnd}
use Rattle.store_cases.specs.declared.end.SplitEnd.TheVariants as ends
use Rattle.store_cases.specs.declared.search.IdBranch.{IdBranch}
use Rattle.store_cases.specs.declared.search.Search.{Search}
use Rattle.store_cases.specs.declared.splitting.Apart.{Apart}
use Rattle.store_cases.specs.Lists.{list_at, Extends, IsListAt}

-- ---- what is found

abbrev pub trees_of_leaves : List Node → List (List ℕ) → List (List (Tree ℕ))
trees_of_leaves store leaves = map (map (tree_at store)) leaves

-- the lists of numbers stand for the cases, and there are no more than are allowed
pub record AreLeavesOf (store : List Node) (leaves : List (List ℕ)) (cases : List (List (Tree ℕ))) : Type 0 where
  pub within : AllByRecursion (AreWithin store) leaves
  pub trees : trees_of_leaves store leaves ≡ cases
  pub few : length leaves ≤ case_limit

-- there are more cases than are allowed; want of memory says nothing of them
abbrev pub IsSplitEnd : SplitEnd → List (List (Tree ℕ)) → Type 0
IsSplitEnd ends.Cases cases = case_limit < length cases
IsSplitEnd ends.NoMemory cases = Unit {0}

-- ---- branches

-- the trees of the lists at the branch's places; its literals stand last first
abbrev pub branch_at : List Node → List (List ℕ) → IdBranch → Branch
branch_at store lists b = record { literals = reverse (map (tree_at store) (list_at lists b.literals)); formulas = map (tree_at store) (list_at lists b.formulas) }

-- its lists are there, their numbers are in the store, and its formulas are claims
pub record IsBranchWithin (records : Records) (types : NameTypes ℕ) (store : List Node) (lists : List (List ℕ)) (b : IdBranch) : Type 0 where
  pub literals : b.literals < length lists
  pub formulas : b.formulas < length lists
  pub found : AreWithin store (list_at lists b.literals)
  pub left : AreWithin store (list_at lists b.formulas)
  pub claims : AreClaims records types (map (tree_at store) (list_at lists b.formulas))

pub record IsSearch (records : Records) (types : NameTypes ℕ) (store : List Node) (lists : List (List ℕ)) (open_branches : List IdBranch) (found : List (List ℕ)) : Type 0 where
  pub leaves : AllByRecursion (AreWithin store) found
  pub branches : AllByRecursion (IsBranchWithin records types store lists) open_branches

-- what was found, and then the cases of the branches that are left, of which the last comes next
abbrev pub cases_found : Records → NameTypes ℕ → List Node → List (List ℕ) → List IdBranch → List (List ℕ) → List (List (Tree ℕ))
cases_found records types store lists open_branches found =
    trees_of_leaves store found ++ cases_of_branches records types (reverse (map (branch_at store lists) open_branches))

-- ---- steps

-- one branch, of these formulas, in which nothing was found
pub record BeginsWith (s : Search) (ks : List ℕ) : Type 0 where
  pub formulas : ℕ
  pub lists : Extends ([] ∷ []) s.lists
  pub place : IsListAt s.lists formulas ks
  pub open_branches : s.open_branches ≡ record { literals = 0; formulas = formulas } ∷ []

-- one branch more, with a literal more than those at that place
pub record HasLiteral (old new : Search) (literals literal formulas : ℕ) : Type 0 where
  pub lists : new.lists ≡ old.lists ++ (literal ∷ list_at old.lists literals) ∷ []
  pub open_branches : new.open_branches ≡ old.open_branches ++ record { literals = length old.lists; formulas = formulas } ∷ []

-- The new search has the branches `more` behind the old ones. Each has the literals of that place, and from the last on each has the
-- formulas of an alternative, and behind them those of the other place.
pub record AreBranchesFor (old new : Search) (literals rest : ℕ) (as' : List (List ℕ)) (more : List IdBranch) : Type 0 where
  pub lists : Extends old.lists new.lists
  pub open_branches : new.open_branches ≡ old.open_branches ++ more
  pub same_literals : AllByRecursion (λ (b : IdBranch). b.literals ≡ literals) more
  pub within : AllByRecursion (λ (b : IdBranch). b.formulas < length new.lists) more
  pub are : reverse (map (λ (b : IdBranch). list_at new.lists b.formulas) more) ≡ map (λ ks. ks ++ list_at old.lists rest) as'

pub record HasBranches (old new : Search) (literals rest : ℕ) (as' : List (List ℕ)) : Type 0 where
  pub more : List IdBranch
  pub are : AreBranchesFor old new literals rest as' more

-- a literal more, or a branch for each alternative
abbrev pub IsFurther : Search → Search → ℕ → ℕ → ℕ → Option (List (List ℕ)) → Type 0
IsFurther old new literals id rest None = HasLiteral old new literals id rest
IsFurther old new literals id rest (Some as') = HasBranches old new literals rest as'

-- the formula, reduced, and its alternatives
pub record IsTakenApart (records : Records) (types : NameTypes ℕ) (store : List Node) (t : Tree ℕ) (a : Apart) : Type 0 where
  pub id : Holds store a.id (reduced t)
  pub alternatives : AreFoundAt store a.alternatives (alternatives records types (reduced t))

-- one branch less, or others in its place: the cases are the same
pub record IsNextSearch (records : Records) (types : NameTypes ℕ) (old_store new_store : List Node) (old new : Search) (branch : IdBranch) (old_found new_found : List (List ℕ)) : Type 0 where
  pub search : IsSearch records types new_store new.lists new.open_branches new_found
  pub same : cases_found records types new_store new.lists new.open_branches new_found ≡ cases_found records types old_store old.lists (old.open_branches ++ branch ∷ []) old_found
