-- Constants as expressions, in which no variable stands.
use Rattle.std.specs.Prelude.{ℕ, ℤ, Option}
use Rattle.program_trees.specs.Variables.{no_number}
use Rattle.slang_tree.specs.declared.place.Place.{Place}
use Rattle.slang_tree.specs.declared.expression.Name.{Name}
use Rattle.slang_tree.specs.TypeTree.{TypeTree}
use Rattle.slang_tree.specs.DeclTree.{ConstTree, const_minus, const_sequence, const_record, ConstTrees}
use Rattle.program_trees.specs.Programs.{TypedExpr, TypedExprs, renamed_expr, renamed_exprs}
use Rattle.type_rules.specs.Meanings.{Scope}
use Rattle.typed_texts.specs.Numbered.{Numbered, numbered_map}
use Rattle.typed_texts.specs.Values.{constant_of_tree, constants_of_trees}

abbrev pub constant_in : Scope → ConstTree → Numbered Place (TypedExpr ℕ)
constant_in scope tree = numbered_map (renamed_expr no_number) (constant_of_tree scope tree)

abbrev pub constants_in : Scope → ConstTrees → Numbered Place (TypedExprs ℕ)
constants_in scope trees = numbered_map (renamed_exprs no_number) (constants_of_trees scope trees)

-- ---- forms

abbrev pub minus_in : Scope → Place → Place → ℤ → Numbered Place (TypedExpr ℕ)
minus_in scope place digits z = constant_in scope (const_minus place digits z)

abbrev pub sequence_in : Scope → Place → Option TypeTree → ConstTrees → Numbered Place (TypedExpr ℕ)
sequence_in scope place ty elements = constant_in scope (const_sequence place ty elements)

abbrev pub record_in : Scope → Name → ConstTrees → Numbered Place (TypedExpr ℕ)
record_in scope written fields = constant_in scope (const_record written fields)
