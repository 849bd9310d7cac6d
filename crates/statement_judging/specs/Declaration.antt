-- A `val` or a `var` as a statement.
use Rattle.std.specs.Prelude.{Bool, true, false, Option}
use Rattle.slang_tree.specs.declared.place.Place.{Place}
use Rattle.slang_tree.specs.declared.expression.Name.{Name}
use Rattle.slang_tree.specs.TypeTree.{TypeTree}
use Rattle.slang_tree.specs.ExprTree.{ExprTree}
use Rattle.slang_tree.specs.StmtTree.{StmtTree, val, var}

-- a `var`, or else a `val`
abbrev pub declaration : Bool → Place → Name → Option TypeTree → ExprTree → StmtTree
declaration true place written ty value = var place written ty value
declaration false place written ty value = val place written ty value
