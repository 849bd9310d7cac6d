-- What holds of opened goals and of instances, as one statement each.
use Rattle.std.specs.Prelude.{◌≡◌, ℕ, Bool, true, false}
use Rattle.slang_values.specs.Tree.{Tree, quantified}
use Rattle.slang_values.specs.declared.operators.Quantifier.{Quantifier}
use Rattle.validity.specs.Validity.{SequentTree, IsWellSorted, IsValid}
use Rattle.instance_rules.specs.Instances.{opened, instancing, instanced}

-- the sequent is well sorted, and if it is valid, so is the other
pub record Proves (r s : SequentTree) : Type 0 where
  pub sorted : IsWellSorted r
  pub valid : IsValid r → IsValid s

-- A sequent that is opened, taken apart and instanced proves what it was made of.
abbrev pub InstancesKeepValidity : Type 0
InstancesKeepValidity = (s r : SequentTree) → IsWellSorted s → instancing s ≡ instanced r → Proves r s

abbrev pub is_all_quantifier : Quantifier → Bool
is_all_quantifier Quantifier.All = true
is_all_quantifier Quantifier.Exists = false

abbrev pub is_all : Tree ℕ → Bool
is_all (quantified q low high body) = is_all_quantifier q
is_all t = false

-- A goal is opened until it is no All.
abbrev pub OpeningEnds : Type 0
OpeningEnds = (s : SequentTree) → is_all (opened s).goal ≡ false
