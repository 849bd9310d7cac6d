-- What is wrong with the header of a method, part by part.
use Rattle.std.specs.Prelude.{◌≡◌, Bool, false, List, [], ◌∷◌, ◌++◌, Option}
use Rattle.slang_values.specs.Value.{ValueType}
use Rattle.slang_tree.specs.declared.place.Fault.{Fault}
use Rattle.slang_tree.specs.DeclTree.{TypedName, MethodDeclTree}
use Rattle.type_rules.specs.Judged.{Judged}
use Rattle.type_rules.specs.Meanings.{Declared, Scope, is_global_var, with_local}
use Rattle.type_rules.specs.Expressions.{in_claim, in_ensures}
use Rattle.type_rules.specs.Steps.{new_name_faults}
use Rattle.type_rules.specs.Statements.{claims_faults, modifies_faults}
use Rattle.type_rules.specs.Projects.{contract_scope, param_types, params_faults, result_type, with_params}
use Rattle.type_faults.specs.FirstFault.{with_first}
use Rattle.name_scopes.specs.declared.scope.NameScope.{NameScope}
use Rattle.name_scopes.specs.Fits.{Fits}

-- names of parameters that have a meaning before
abbrev pub new_params_faults : Scope → List TypedName → List Judged → List Fault
new_params_faults scope [] types = []
new_params_faults scope (param ∷ params) [] = []
new_params_faults scope (param ∷ params) (type ∷ types) =
    new_name_faults scope param.written ++ new_params_faults (with_local scope param.written.text false type.type) params types

-- what is wrong with parameters and result
abbrev pub types_faults : List Declared → Scope → MethodDeclTree → List Fault
types_faults names scope decl = params_faults scope decl.params (param_types names decl.params) ++ (result_type names decl).faults

-- what is wrong with a contract, of a method with a result of this type
abbrev pub contract_faults : Scope → Option ValueType → MethodDeclTree → List Fault
contract_faults scope type decl =
    claims_faults scope in_claim decl.requires_
    ++ modifies_faults is_global_var scope [] decl.modifies
    ++ claims_faults scope (in_ensures type) decl.ensures_

-- what is wrong with a method but for its body and its return
abbrev pub header_faults : List Declared → Scope → MethodDeclTree → List Fault
header_faults names scope decl =
    params_faults scope decl.params (param_types names decl.params)
    ++ (result_type names decl).faults
    ++ claims_faults (contract_scope names scope decl) in_claim decl.requires_
    ++ modifies_faults is_global_var (contract_scope names scope decl) [] decl.modifies
    ++ claims_faults (contract_scope names scope decl) (in_ensures (result_type names decl).type) decl.ensures_

-- The parameters before these others came into scope.
pub record ParamsSoFar (start told : Option Fault) (known : NameScope) (at : Scope) (params all_params : List TypedName) (types all_types : List Judged) : Type 0 where
  pub place : Scope
  pub fits : Fits known place
  pub faults : with_first told (new_params_faults place params types) ≡ with_first start (new_params_faults at all_params all_types)
  pub scope : with_params place params types ≡ with_params at all_params all_types
