-- The machine stops exactly where a text has its first fault, and with that fault.
use Rattle.std.specs.Prelude.{◌≡◌, ℕ, List, [], ◌++◌, Option, Some, None}
use Rattle.std.specs.Str.{IsUtf8}
use Rattle.slang_tree.specs.declared.place.Fault.{Fault}
use Rattle.slang_tokens.specs.declared.read.TokensEnd.{TokensEnd}
use Rattle.slang_tokens.specs.Tok.{Tok}
use Rattle.slang_tokens.specs.Tokens.{AreTokens}
use Rattle.slang_grammar.specs.Faults.{IsText, IsViable, IsFirstFault, HasFault}
use Rattle.slang_machine.specs.States.{State, top}
use Rattle.slang_machine.specs.Machine.{moved}
use Rattle.first_faults.specs.Stops.{stop}

-- the machine reads this front
pub record IsRead (front : List Tok) : Type 0 where
  pub state : State
  pub reads : moved (top []) front ≡ Some state

-- a front of the tokens of a text is read by the machine exactly where some text goes on from it
abbrev pub FrontsGoOn : Type 0
FrontsGoOn = (bytes : List ℕ) (tokens : List Tok) (end : TokensEnd) (front rest : List Tok) → AreTokens bytes tokens end → tokens ≡ front ++ rest
    → (IsViable front → IsRead front) × (IsRead front → IsViable front)

-- where the machine stops is the first fault
abbrev pub StopsAtFault : Type 0
StopsAtFault = (bytes : List ℕ) (tokens : List Tok) (end : TokensEnd) (fault : Fault) → AreTokens bytes tokens end
    → (IsFirstFault tokens end fault → stop (top []) [] tokens end ≡ Some fault) × (stop (top []) [] tokens end ≡ Some fault → IsFirstFault tokens end fault)

-- where it does not stop, the tokens are a text
abbrev pub TextHasNoStop : Type 0
TextHasNoStop = (bytes : List ℕ) (tokens : List Tok) (end : TokensEnd) → AreTokens bytes tokens end → stop (top []) [] tokens end ≡ None → IsText tokens
