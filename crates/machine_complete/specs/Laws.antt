-- What the grammar accounts for as a text, the machine reads.
use Rattle.std.specs.Prelude.{◌≡◌, ℕ, List, [], Some}
use Rattle.slang_tree.specs.DeclTree.{DeclTree}
use Rattle.slang_tokens.specs.Tok.{Tok}
use Rattle.slang_grammar.specs.Texts.{InGrammar, Reads}
use Rattle.slang_machine.specs.States.{top}
use Rattle.slang_machine.specs.Machine.{run}

-- what the grammar reads the machine reads, with the same tree
abbrev pub TextsAreRead : Type 0
TextsAreRead = (tokens : List Tok) (file : List DeclTree) → InGrammar tokens file → run (top []) tokens ≡ Some file

-- bytes have one tree
abbrev pub TextHasOneTree : Type 0
TextHasOneTree = (bytes : List ℕ) (a b : List DeclTree) → Reads bytes a → Reads bytes b → a ≡ b
