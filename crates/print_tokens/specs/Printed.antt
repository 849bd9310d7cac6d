-- Which bytes are printed of declarations.
use Rattle.std.specs.Prelude.{◌≡◌, ℕ, true, false, List}
use Rattle.std.specs.Str.{IsUtf8}
use Rattle.slang_tree.specs.declared.place.Place.{Place}
use Rattle.slang_tree.specs.DeclTree.{DeclTree}
use Rattle.slang_tokens.specs.Tok.{Tok}
use Rattle.slang_tokens.specs.Tokens.{AreTokens, fault}
use Rattle.print_layout.specs.Declarations.{file_bytes}

-- these bytes are a text, and a token of it nests deeper than a text may
pub record NestsTooDeep (bytes : List ℕ) : Type 0 where
  pub utf8 : IsUtf8 bytes
  pub tokens : List Tok
  pub place : Place
  pub are_tokens : AreTokens bytes tokens (fault 5 place)

-- Plainly, with brackets only where they are needed, and lightly where what is printed plainly nests too deep. A tree of a text can be
-- printed deeper than it was written: a product in brackets counts as one at the level around it, and where it is printed without them
-- each of its operators counts there.
pub data IsPrinted (decls : List DeclTree) (bytes : List ℕ) : Type 0 where
  plainly : (NestsTooDeep (file_bytes false decls) → ⊥) → bytes ≡ file_bytes false decls → IsPrinted decls bytes
  lightly : NestsTooDeep (file_bytes false decls) → bytes ≡ file_bytes true decls → IsPrinted decls bytes
