-- What holds of opened goals, index terms and instances, as one statement each.
use Rattle.std.specs.Prelude.{◌≡◌, ℕ, ◌≤◌, ◌↔◌, List, [], ◌∷◌, ◌++◌, Bool, true, false, if◌then◌else◌}
use Rattle.std.specs.List.{list_any}
use Rattle.slang_values.specs.Tree.{Tree, quantified}
use Rattle.slang_values.specs.declared.operators.Quantifier.{Quantifier}
use Rattle.validity.specs.Validity.{SequentTree}
use Rattle.lk_terms.specs.Substitution as closing
use Rattle.substitution.specs.Substitution as proof
use Rattle.store_substitution.specs.Loose.{depth_needed}
use Rattle.instance_rules.specs.Instances.{is_closed_within, opened, open_quantified, is_same, once, lacking}
use Rattle.instance_rules.specs.Laws.{is_all}

-- There are two definitions of a tree in place of a bound variable. They say the same.
abbrev pub SubstitutesAlike : Type 0
SubstitutesAlike = (n : ℕ) (u t : Tree ℕ) → closing.substituted n u t ≡ proof.substituted n u t

-- Inside n quantifiers no bound variable is loose exactly where the tree needs no more of them.
abbrev pub ClosedByDepth : Type 0
ClosedByDepth = (n : ℕ) (t : Tree ℕ) → (is_closed_within n t ≡ true) ↔ (depth_needed t ≤ n)

pub record OpensStepByStep : Type 0 where
  pub one_more : (s : SequentTree) (low high body : Tree ℕ) → s.goal ≡ quantified Quantifier.All low high body → opened s ≡ opened (open_quantified Quantifier.All low high body s)
  pub last : (s : SequentTree) → is_all s.goal ≡ false → opened s ≡ s

-- those of the second list that the first lacks, each once, behind the first
abbrev pub gathered : List (Tree ℕ) → List (Tree ℕ) → List (Tree ℕ)
gathered found [] = found
gathered found (t ∷ ts) = if list_any (is_same t) found then gathered found ts else gathered (found ++ t ∷ []) ts

pub record GathersOnce : Type 0 where
  pub all : (ts : List (Tree ℕ)) → gathered [] ts ≡ once ts
  pub more : (found ts us : List (Tree ℕ)) → gathered found (ts ++ us) ≡ gathered (gathered found ts) us

-- What is lacked of two lists is what is lacked of the first, and then of the second.
abbrev pub LacksInOrder : Type 0
LacksInOrder = (facts ts us : List (Tree ℕ)) → lacking facts (ts ++ us) ≡ lacking facts ts ++ lacking (facts ++ lacking facts ts) us
