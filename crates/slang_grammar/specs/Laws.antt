-- Laws of the grammar.
use Rattle.std.specs.Prelude.{◌≡◌, ℕ, List}
use Rattle.slang_tree.specs.declared.place.Fault.{Fault}
use Rattle.slang_tree.specs.DeclTree.{DeclTree}
use Rattle.slang_grammar.specs.Texts.{Reads}
use Rattle.slang_grammar.specs.Faults.{HasFault}

-- bytes have one first fault
abbrev pub FaultIsOne : Type 0
FaultIsOne = (bytes : List ℕ) (a b : Fault) → HasFault bytes a → HasFault bytes b → a ≡ b

-- a text has none
abbrev pub TextHasNoFault : Type 0
TextHasNoFault = (bytes : List ℕ) (file : List DeclTree) (fault : Fault) → Reads bytes file → HasFault bytes fault → ⊥
