-- When scopes of the code are those of a project.
use Rattle.std.specs.Prelude.{◌≡◌, Bool, List}
use Rattle.slang_tree.specs.DeclTree.{DeclTree}
use Rattle.name_scopes.specs.declared.scope.NameScope.{NameScope}
use Rattle.name_scopes.specs.declared.scope.RecordFields.{RecordFields}
use Rattle.name_scopes.specs.Fits.{Fits}
use Rattle.type_rules.specs.Projects.{outline_names, outline_of, record_fields, scope_of, written_fields}
use Rattle.record_parts.specs.Parts.{allowed_fields}
use Rattle.signature_judging.specs.Knows.{Knows}
use Rattle.record_judging.specs.Fields.{AreFields}
use Rattle.project_scopes.specs.declared.scopes.ProjectScopes.{ProjectScopes}

-- Its names mean as types what those of the project do.
abbrev pub IsOutline : NameScope → List DeclTree → Type 0
IsOutline bare decls = Knows bare.names (outline_names decls)

-- what is known of the fields of the project's records, and which of them may be of their types
pub record AreFieldsOf (records : List RecordFields) (allowed : List (List Bool)) (decls : List DeclTree) : Type 0 where
  pub fields : AreFields records (record_fields decls)
  pub may : allowed ≡ allowed_fields (written_fields decls)

-- They are the scopes of a project of these declarations.
pub record IsProject (known : ProjectScopes) (decls : List DeclTree) : Type 0 where
  pub outline : Fits known.outline (outline_of decls)
  pub scope : Fits known.scope (scope_of decls)
  pub allowed : known.allowed ≡ allowed_fields (written_fields decls)
