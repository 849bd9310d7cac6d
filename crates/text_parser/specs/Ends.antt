-- Why bytes are not read as a text.
use Rattle.std.specs.Prelude.{◌≡◌, ℕ, List, [], Some, ⊤}
use Rattle.slang_tree.specs.declared.place.Place.{Place}
use Rattle.slang_tree.specs.declared.place.Fault.{Fault}
use Rattle.slang_tokens.specs.declared.read.TokensEnd.{TokensEnd}
use Rattle.slang_tokens.specs.declared.read.TokensEnd.TheVariants as tokens_end
use Rattle.slang_tokens.specs.Tok.{Tok}
use Rattle.slang_tokens.specs.Tokens.{AreTokens}
use Rattle.slang_machine.specs.States.{top}
use Rattle.first_faults.specs.Stops.{stop}
use Rattle.text_parser.specs.declared.text.ParseEnd.{ParseEnd}
use Rattle.text_parser.specs.declared.text.ParseEnd.TheVariants as parse_end

-- a fact of the fault, where one is told
abbrev pub IfFault : ParseEnd → (Fault → Type 0) → Type 0
IfFault (parse_end.Fault fault) P = P fault
IfFault parse_end.NoMemory P = ⊤

-- where these are the tokens of some bytes, the machine stops on them with this fault
abbrev pub IsFaultOf : List Tok → TokensEnd → Fault → Type 0
IsFaultOf tokens end fault = (bytes : List ℕ) → AreTokens bytes tokens end → stop (top []) [] tokens end ≡ Some fault

-- the tokens go up to the end of the text
pub record IsEnd (end : TokensEnd) : Type 0 where
  pub place : Place
  pub is_end : end ≡ tokens_end.End place
