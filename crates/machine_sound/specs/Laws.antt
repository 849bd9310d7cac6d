-- What the machine reads, the grammar accounts for.
use Rattle.std.specs.Prelude.{◌≡◌, ℕ, List, [], Some}
use Rattle.slang_tree.specs.DeclTree.{DeclTree}
use Rattle.slang_tokens.specs.declared.read.TokensEnd.{TokensEnd}
use Rattle.slang_tokens.specs.Tok.{Tok}
use Rattle.slang_tokens.specs.Tokens.{AreTokens}
use Rattle.slang_grammar.specs.Texts.{InGrammar}
use Rattle.slang_machine.specs.States.{top}
use Rattle.slang_machine.specs.Machine.{run}

-- what the machine reads of the tokens of a text is in the grammar, with the same tree
abbrev pub TextsAreInGrammar : Type 0
TextsAreInGrammar = (bytes : List ℕ) (tokens : List Tok) (end : TokensEnd) (file : List DeclTree) → AreTokens bytes tokens end
    → run (top []) tokens ≡ Some file → InGrammar tokens file
