-- A proof for each leaf of a sequent.
use Rattle.std.specs.Prelude.{◌≡◌, ℕ, List, [], ◌∷◌, ◌++◌, ⊤}
use Rattle.slang_values.specs.Value.{Records}
use Rattle.slang_values.specs.Tree.{Tree}
use Rattle.slang_values.specs.Typing.{NameTypes}
use Rattle.validity.specs.Validity.{SequentTree, symbol_types}
use Rattle.case_rules.specs.Cases.{cases}
use Rattle.instance_rules.specs.Instances.{instancing, instanced}
use Rattle.store_leaves.specs.declared.proof.LeafProof.{LeafProof}
use Rattle.store_leaves.specs.Closes.{ClosesLeaf}

-- one proof for each leaf, in order, and each closes its leaf
abbrev pub AreProofsOf : Records → NameTypes ℕ → List (List (Tree ℕ)) → List LeafProof → Type 0
AreProofsOf records types [] [] = ⊤
AreProofsOf records types [] (p ∷ ps) = ⊥
AreProofsOf records types (leaf ∷ leaves) [] = ⊥
AreProofsOf records types (leaf ∷ leaves) (p ∷ ps) = ClosesLeaf records types leaf p × AreProofsOf records types leaves ps

abbrev pub ProvesInstanced : SequentTree → List LeafProof → Type 0
ProvesInstanced s ps = AreProofsOf s.records (symbol_types s) (cases s) ps

-- the sequent with its instances has these proofs
pub record HasProofs (s : SequentTree) (ps : List LeafProof) : Type 0 where
  pub made : SequentTree
  pub is : instancing s ≡ instanced made
  pub proofs : ProvesInstanced made ps

-- one proof more, which closes the leaf
pub record IsProofAdded (records : Records) (types : NameTypes ℕ) (leaf : List (Tree ℕ)) (old new : List LeafProof) : Type 0 where
  pub proof : LeafProof
  pub is : new ≡ old ++ proof ∷ []
  pub closes : ClosesLeaf records types leaf proof
