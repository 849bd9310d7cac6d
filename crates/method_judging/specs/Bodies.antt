-- The body of a method, and the scope behind it.
use Rattle.std.specs.Prelude.{ℕ, Bool, List, ◌++◌, take, Option}
use Rattle.std.specs.Set.{is_member}
use Rattle.std.specs.Str.{bytes_eq}
use Rattle.slang_values.specs.Value.{ValueType}
use Rattle.slang_tree.specs.declared.place.Fault.{Fault}
use Rattle.slang_tree.specs.declared.expression.Name.{Name}
use Rattle.slang_tree.specs.StmtTree.{stmts_of}
use Rattle.slang_tree.specs.DeclTree.{MethodDeclTree}
use Rattle.type_rules.specs.Meanings.{Scope}
use Rattle.type_rules.specs.Statements.{behind_all, stmts_faults, texts}
use Rattle.type_rules.specs.Projects.{return_faults}
use Rattle.name_scopes.specs.declared.scope.NameScope.{NameScope}

-- where only these variables may be changed
abbrev pub within_body : Scope → List Name → Scope
within_body scope modifies = record scope { covers = is_member bytes_eq (texts modifies) }

-- behind the statements of a body, in the scope of the contract
abbrev pub behind_body : Scope → MethodDeclTree → Scope
behind_body scope decl = behind_all (within_body scope decl.modifies) (stmts_of decl.body)

-- what is wrong with a body and a return, of a method with a result of this type
abbrev pub body_faults : Scope → Bool → Option ValueType → MethodDeclTree → List Fault
body_faults scope has_signature type decl =
    stmts_faults (within_body scope decl.modifies) (stmts_of decl.body)
    ++ return_faults (behind_body scope decl) decl.written has_signature type decl.returned

-- Behind a method, before which there were so many names, names of variables that may be changed, and locals. In its contract the
-- scope was the one before its body.
abbrev pub after_method : (names covered locals : ℕ) → (contract known : NameScope) → NameScope
after_method names covered locals contract known =
    record known { names = take names known.names; covered = take covered contract.covered; outside = contract.outside; locals = locals }
