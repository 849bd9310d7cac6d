-- Parts of methods that were made.
use Rattle.std.specs.Prelude.{◌≡◌, ℕ, List, ◌∷◌, [], ◌++◌, map, length, take}
use Rattle.slang_values.specs.Value.{ValueType}
use Rattle.slang_tree.specs.StmtTree.{stmts_of}
use Rattle.slang_tree.specs.DeclTree.{MethodDeclTree}
use Rattle.lk_claims.specs.Claim.{value_type}
use Rattle.lk_programs.specs.declared.program.Noted.{Noted}
use Rattle.lk_programs.specs.declared.program.Method.{Method}
use Rattle.lk_programs.specs.declared.expression.NodeNo.{NodeNo}
use Rattle.lk_programs.specs.Program.{code_trees, field_types, noted_tree}
use Rattle.type_rules.specs.Meanings.{Scope}
use Rattle.typed_texts.specs.Code.{locals_of_trees}
use Rattle.name_scopes.specs.declared.scope.NameScope.{NameScope}
use Rattle.typed_names.specs.declared.nodes.Nodes.{Nodes}
use Rattle.typed_names.specs.declared.variables.Numbering.{Numbering}
use Rattle.typed_names.specs.Nodes.{IsMade}
use Rattle.typed_names.specs.Variables.{number_in}
use Rattle.statement_judging.specs.Keeps.{Keeps}
use Rattle.method_judging.specs.Bodies.{within_body}
use Rattle.header_making.specs.declared.headers.Header.{Header}
use Rattle.method_making.specs.declared.bodies.Body.{Body}
use Rattle.method_making.specs.declared.parts.Parts.{Parts}
use Rattle.method_making.specs.Methods.{PartsTree, body_in}

-- It is the body of the method with its return, in the scope of its contract, and its locals are of these types and those that are declared.
pub record IsBody (numbers : Numbering) (before after : Nodes) (types : List ValueType) (body : Body) (contract : Scope) (decl : MethodDeclTree) : Type 0 where
  pub code : IsMade before after (code_trees body.code) (body_in (number_in numbers) (within_body contract decl.modifies) decl)
  pub locals : map value_type body.locals ≡ types ++ locals_of_trees (within_body contract decl.modifies) (stmts_of decl.body)

abbrev pub parts_seen : Parts → PartsTree
parts_seen parts = record {
  params = field_types parts.header.params;
  result = value_type parts.header.result;
  requires_ = map noted_tree parts.requires_;
  ensures_ = map noted_tree parts.ensures_;
  locals = map value_type parts.body.locals;
  body = code_trees parts.body.code;
}

-- They are these parts.
abbrev pub IsPartsOf : Header → List Noted → List Noted → Body → Parts → Type 0
IsPartsOf header requires_ ensures_ body parts = parts ≡ record { header = header; requires_ = requires_; ensures_ = ensures_; body = body }

-- It is a method of these parts.
abbrev pub IsMethodOf : NodeNo → List ℕ → List ℕ → Parts → Method → Type 0
IsMethodOf node name modifies parts made = made ≡ record {
  name = name;
  node = node;
  params = parts.header.params;
  result = parts.header.result;
  requires_ = parts.requires_;
  modifies = modifies;
  ensures_ = parts.ensures_;
  locals = parts.body.locals;
  body = parts.body.code;
}

-- In the body the scope is that of a contract with the body's own names behind.
pub record IsWithin (old new : NameScope) : Type 0 where
  pub contract : NameScope
  pub keeps : Keeps old contract
  pub names : take (length contract.names) new.names ≡ contract.names
  pub outside : new.outside ≡ contract.outside ++ contract.covered ∷ []
