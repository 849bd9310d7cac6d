-- Whole texts: which lists of tokens, and which bytes, are a text with which tree.
use Rattle.std.specs.Prelude.{◌≡◌, ℕ, List, map}
use Rattle.std.specs.List.{AllByRecursion}
use Rattle.std.specs.Str.{IsUtf8}
use Rattle.slang_lexer.specs.declared.token.TokenKind.TheVariants as kind
use Rattle.slang_tree.specs.declared.place.Place.{Place}
use Rattle.slang_tree.specs.DeclTree.{DeclTree}
use Rattle.slang_tokens.specs.declared.read.TokensEnd.TheVariants.{End}
use Rattle.slang_tokens.specs.Tok.{Tok}
use Rattle.slang_tokens.specs.Tokens.{AreTokens}
use Rattle.slang_grammar.specs.Parts.{Listed, members, listed}
use Rattle.slang_grammar.specs.Declarations.{DeclText, decl_tokens, IsDecl, decl_tree}

-- declarations, each ended by a newline or the end
abbrev pub FileText : Type 0
FileText = Listed DeclText

abbrev pub file_tokens : FileText → List Tok
file_tokens f = listed kind.Newline decl_tokens f

abbrev pub IsFile : FileText → Type 0
IsFile f = AllByRecursion IsDecl (members f)

abbrev pub file_tree : FileText → List DeclTree
file_tree f = map decl_tree (members f)

-- these tokens are a text with this tree
pub record InGrammar (tokens : List Tok) (file : List DeclTree) : Type 0 where
  pub text : FileText
  pub well_formed : IsFile text
  pub spelled : file_tokens text ≡ tokens
  pub shaped : file_tree text ≡ file

-- These bytes are a text with this tree: they are UTF-8, and their tokens go up to the end of the text and are in the grammar.
pub record Reads (bytes : List ℕ) (file : List DeclTree) : Type 0 where
  pub utf8 : IsUtf8 bytes
  pub tokens : List Tok
  pub end : Place
  pub are_tokens : AreTokens bytes tokens (End end)
  pub in_grammar : InGrammar tokens file
