-- What is printed reads back, as one statement over bytes.
use Rattle.std.specs.Prelude.{◌≡◌, ℕ, List}
use Rattle.slang_tree.specs.DeclTree.{DeclTree}
use Rattle.slang_grammar.specs.Texts.{Reads}
use Rattle.print_declarations.specs.Bare.{bare_file}
use Rattle.print_tokens.specs.Printed.{IsPrinted}

-- the bytes are read with this tree, but for its places
pub record ReadsBack (bytes : List ℕ) (decls : List DeclTree) : Type 0 where
  pub tree : List DeclTree
  pub reads : Reads bytes tree
  pub same : bare_file tree ≡ bare_file decls

-- of each tree that is, but for its places, one that is read of some bytes
abbrev pub PrintedBytesReadBack : Type 0
PrintedBytesReadBack =
    (bytes : List ℕ) (read decls : List DeclTree) → Reads bytes read → bare_file decls ≡ bare_file read →
    (printed : List ℕ) → IsPrinted decls printed → ReadsBack printed decls
