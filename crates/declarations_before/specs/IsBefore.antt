-- What stands before a declaration.
use Rattle.std.specs.Prelude.{List}
use Rattle.slang_tree.specs.DeclTree.{DeclTree}
use Rattle.declarations_before.specs.declared.before.Before.{Before}
use Rattle.declarations_before.specs.Before.{AreCounts, HasNames}

-- These declarations stand before.
pub record IsBefore (before : Before) (decls : List DeclTree) : Type 0 where
  pub names : HasNames before.names decls
  pub counts : AreCounts before.counts decls
