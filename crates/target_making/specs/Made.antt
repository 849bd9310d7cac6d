-- Statements that were made, with their nodes and their locals, and the scope behind them.
use Rattle.std.specs.Prelude.{◌≡◌, ℕ, List, map, ◌++◌}
use Rattle.slang_values.specs.Value.{ValueType}
use Rattle.slang_tree.specs.declared.place.Place.{Place}
use Rattle.slang_tree.specs.StmtTree.{StmtTree}
use Rattle.program_trees.specs.Programs.{CodeTree}
use Rattle.lk_claims.specs.declared.ty.Ty.{Ty}
use Rattle.lk_claims.specs.Claim.{value_type}
use Rattle.type_rules.specs.Meanings.{Scope}
use Rattle.type_rules.specs.Statements.{behind}
use Rattle.typed_texts.specs.Numbered.{Numbered}
use Rattle.typed_texts.specs.Code.{code_of_tree, locals_of_tree}
use Rattle.name_scopes.specs.declared.scope.NameScope.{NameScope}
use Rattle.name_scopes.specs.Fits.{Fits}
use Rattle.typed_names.specs.declared.nodes.Nodes.{Nodes}
use Rattle.typed_names.specs.declared.variables.Numbering.{Numbering}
use Rattle.typed_names.specs.Nodes.{IsMade}
use Rattle.call_making.specs.Codes.{numbered_code}

-- A part was made: its nodes were added behind the others, and the types of its locals behind those of the others. The scope is that of this place.
pub record IsPart {A : Type 0} (known : NameScope) (before after : Nodes) (types_before types_after : List Ty) (made : A) (part : Numbered Place A)
    (own : List ValueType) (at : Scope) : Type 0 where
  pub is : IsMade before after made part
  pub types : map value_type types_after ≡ map value_type types_before ++ own
  pub fits : Fits known at

-- a statement, with the scope behind it
abbrev pub IsCode : Numbering → NameScope → Nodes → Nodes → List Ty → List Ty → CodeTree ℕ → Scope → StmtTree → Type 0
IsCode numbers known before after types_before types_after code at stmt =
    IsPart known before after types_before types_after code (numbered_code numbers (code_of_tree at stmt)) (locals_of_tree at stmt) (behind at stmt)
