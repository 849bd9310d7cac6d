-- What the machine says of bytes, which are UTF-8 and have these tokens.
use Rattle.std.specs.Prelude.{◌≡◌, ℕ, List, [], Some, None}
use Rattle.std.specs.Str.{IsUtf8}
use Rattle.slang_tree.specs.DeclTree.{DeclTree}
use Rattle.slang_tree.specs.declared.place.Place.{Place}
use Rattle.slang_tree.specs.declared.place.Fault.{Fault}
use Rattle.slang_tokens.specs.declared.read.TokensEnd.{TokensEnd}
use Rattle.slang_tokens.specs.declared.read.TokensEnd.TheVariants as tokens_end
use Rattle.slang_tokens.specs.Tok.{Tok}
use Rattle.slang_tokens.specs.Tokens.{AreTokens}
use Rattle.slang_grammar.specs.Texts.{Reads}
use Rattle.slang_grammar.specs.Faults.{HasFault}
use Rattle.slang_machine.specs.States.{top}
use Rattle.slang_machine.specs.Machine.{run}
use Rattle.first_faults.specs.Stops.{stop}

-- The bytes have this first fault exactly where the machine stops on their tokens with it.
abbrev pub FaultsOfBytes : Type 0
FaultsOfBytes = (bytes : List ℕ) (tokens : List Tok) (end : TokensEnd) (fault : Fault) → IsUtf8 bytes → AreTokens bytes tokens end
    → (HasFault bytes fault → stop (top []) [] tokens end ≡ Some fault) × (stop (top []) [] tokens end ≡ Some fault → HasFault bytes fault)

-- Where the tokens go up to the end of the text, the bytes are read with this tree exactly where the machine reads the tokens with it.
abbrev pub TreesOfBytes : Type 0
TreesOfBytes = (bytes : List ℕ) (tokens : List Tok) (place : Place) (file : List DeclTree) → IsUtf8 bytes → AreTokens bytes tokens (tokens_end.End place)
    → (Reads bytes file → run (top []) tokens ≡ Some file) × (run (top []) tokens ≡ Some file → Reads bytes file)

-- the bytes are read with some tree
pub record IsReadable (bytes : List ℕ) : Type 0 where
  pub file : List DeclTree
  pub reads : Reads bytes file

-- Where the machine does not stop, the tokens go up to the end of the text, and the bytes are read with a tree.
abbrev pub FaultOrTree : Type 0
FaultOrTree = (bytes : List ℕ) (tokens : List Tok) (end : TokensEnd) → IsUtf8 bytes → AreTokens bytes tokens end → stop (top []) [] tokens end ≡ None
    → IsReadable bytes
