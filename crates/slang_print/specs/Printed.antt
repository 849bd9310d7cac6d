-- What printing gives to a sink.
use Rattle.std.specs.Prelude.{◌≡◌, ℕ, ◌<◌, ◌≤◌, nat_eq, Bool, true, false, List, take, length, Option, Some, None, Result, Ok, Err}
use Rattle.lk_io.specs.Sink.{SinkRun, Appends, IsQuiet, IsCounted}
use Rattle.lk_io.specs.declared.sinks.SinkEnd.TheVariants.{Failed}
use Rattle.slang_tree.specs.DeclTree.{DeclTree}
use Rattle.slang_tokens.specs.declared.read.TokensEnd.{TokensEnd}
use Rattle.slang_tokens.specs.declared.read.TokensEnd.TheVariants.{End, Fault}
use Rattle.slang_grammar.specs.Declarations.{DeclText, import_text, global_text, record_text, method_text}
use Rattle.print_layout.specs.Pieces.{Gap, none, indent, line}
use Rattle.print_tokens.specs.Printed.{NestsTooDeep, IsPrinted}
use Rattle.slang_print.specs.declared.files.Before.{Before}
use Rattle.slang_print.specs.declared.files.Before.TheVariants as b
use Rattle.slang_print.specs.declared.PrintEnd.{PrintEnd}
use Rattle.slang_print.specs.declared.PrintEnd.TheVariants.{WriteFault, NoMemory}

-- what kind of declaration stands before, where one does
abbrev pub kind_seen : Option DeclText → Before
kind_seen None = b.Nothing
kind_seen (Some (import_text word first path)) = b.Import
kind_seen (Some (global_text fixed word n ty equals init)) = b.Global
kind_seen (Some (record_text at datatype word n left fields right)) = b.Other
kind_seen (Some (method_text m)) = b.Other

-- an empty line, but not between two imports or two globals
abbrev pub gap_of : Before → Before → Gap
gap_of b.Nothing kind = none
gap_of b.Import b.Import = indent 0
gap_of b.Global b.Global = indent 0
gap_of before kind = line 0

-- where the tokens of a text end is a token that nests too deep
abbrev pub ends_deep : TokensEnd → Bool
ends_deep (End place) = false
ends_deep (Fault end) = nat_eq end.code 5

-- whether these bytes are a text that nests too deep
pub record Tells (deep : Bool) (bytes : List ℕ) : Type 0 where
  pub is_deep : deep ≡ true → NestsTooDeep bytes
  pub is_shallow : deep ≡ false → NestsTooDeep bytes → ⊥

-- the whole of what is printed was given
pub record PrintsWhole (run : SinkRun) (decls : List DeclTree) : Type 0 where
  pub text : List ℕ
  pub printed : IsPrinted decls text
  pub adds : Appends run text
  pub quiet : IsQuiet run

-- so many bytes of it were given, and then the sink failed
pub record PrintsFront (run : SinkRun) (decls : List DeclTree) (out : ℕ) : Type 0 where
  pub text : List ℕ
  pub printed : IsPrinted decls text
  pub front : out ≤ length text
  pub adds : Appends run (take out text)
  pub cause : IsCounted run Failed

-- nothing was given, or some front of it
pub record PrintsSome (run : SinkRun) (decls : List DeclTree) : Type 0 where
  pub text : List ℕ
  pub out : ℕ
  pub printed : 0 < out → IsPrinted decls text
  pub front : out ≤ length text
  pub adds : Appends run (take out text)

abbrev pub Prints : SinkRun → List DeclTree → Result (Unit {0}) PrintEnd → Type 0
Prints run decls (Ok _) = PrintsWhole run decls
Prints run decls (Err (WriteFault out)) = PrintsFront run decls out
Prints run decls (Err NoMemory) = PrintsSome run decls
