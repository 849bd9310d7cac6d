-- Tokens at other places, and what holds of them, as one statement.
use Rattle.std.specs.Prelude.{◌≡◌, List, [], ◌∷◌}
use Rattle.slang_tree.specs.DeclTree.{DeclTree}
use Rattle.slang_tokens.specs.Tok.{Tok}
use Rattle.slang_grammar.specs.Texts.{InGrammar}
use Rattle.print_declarations.specs.Bare.{bare_file}

-- two lists have the same tokens, one by one, but for their places
pub data Alike : List Tok → List Tok → Type 0 where
  none : Alike [] []
  both : {x y : Tok} {xs ys : List Tok} → y.kind ≡ x.kind → y.text ≡ x.text → Alike xs ys → Alike (x ∷ xs) (y ∷ ys)

-- these tokens are a text whose tree, but for its places, is this one
pub record IsMovedText (tokens : List Tok) (file : List DeclTree) : Type 0 where
  pub tree : List DeclTree
  pub in_grammar : InGrammar tokens tree
  pub same : bare_file tree ≡ bare_file file

abbrev pub PlacesMayMove : Type 0
PlacesMayMove = (tokens moved : List Tok) (file : List DeclTree) → InGrammar tokens file → Alike tokens moved → IsMovedText moved file
