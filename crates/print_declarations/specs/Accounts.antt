-- How declarations are printed, as accounts of the grammar without places.
use Rattle.std.specs.Prelude.{Bool, nat_abs, List, [], ◌∷◌, ◌++◌, map, Option, Some, None}
use Rattle.std.specs.Option.{option_map}
use Rattle.slang_tree.specs.declared.expression.Name.{Name}
use Rattle.slang_tree.specs.ExprTree.{ExprTree, exprs_of}
use Rattle.slang_tree.specs.StmtTree.{StmtTree}
use Rattle.slang_tree.specs.DeclTree as t
use Rattle.slang_tree.specs.DeclTree.{ConstTree, ConstTrees, TypedName, ReturnTree, MethodDeclTree, DeclTree}
use Rattle.slang_grammar.specs.Expressions.{ClaimsText}
use Rattle.slang_grammar.specs.Declarations.{ConstText, const_number, const_minus, const_truth, const_falsity, const_sequence, const_record, ConstsText, no_consts, last_const, const_then, ParamText, FieldText, ClauseText, requires_clause, modifies_clause, ensures_clause, PartText, contract_part, stmt_part, return_part, PathText, MethodText, DeclText, import_text, global_text, record_text, method_text}
use Rattle.slang_grammar.specs.Texts.{FileText}
use Rattle.print_expressions.specs.Bare.{nowhere, bare_name}
use Rattle.print_expressions.specs.Accounts.{numeral, element_account, expr_account, exprs_account}
use Rattle.print_statements.specs.Accounts.{listed_of, names_account, typed_account, stmt_account}

-- ---- constants

abbrev mutual
  pub const_account : ConstTree → ConstText
  const_account (t.const_number place z) = const_number (numeral (nat_abs z)) nowhere
  const_account (t.const_minus place digits z) = const_minus nowhere (numeral (nat_abs z)) nowhere
  const_account (t.const_truth place) = const_truth nowhere
  const_account (t.const_falsity place) = const_falsity nowhere
  const_account (t.const_sequence place ty elements) =
      const_sequence nowhere (option_map element_account ty) nowhere (consts_account elements) nowhere
  const_account (t.const_record written fields) = const_record (bare_name written) nowhere (consts_account fields) nowhere

  pub consts_account : ConstTrees → ConstsText
  consts_account t.no_consts = no_consts
  consts_account (t.const_then tree t.no_consts) = last_const (const_account tree)
  consts_account (t.const_then tree (t.const_then next trees)) = const_then (const_account tree) nowhere (consts_account (t.const_then next trees))

-- ---- parameters and fields

abbrev pub param_account : TypedName → ParamText
param_account named = record { written = bare_name named.written; ty = typed_account named.ty }

-- no `val` stands in front
abbrev pub field_account : TypedName → FieldText
field_account named = record { fixed = None; param = param_account named }

-- ---- contracts

-- a clause without members is left out
abbrev pub modifies_clauses : List Name → List ClauseText
modifies_clauses [] = []
modifies_clauses (name ∷ names) = modifies_clause nowhere (names_account (name ∷ names)) ∷ []

-- a contract without clauses is left out
abbrev pub contract_parts : List ClauseText → List PartText
contract_parts [] = []
contract_parts (clause ∷ clauses) = contract_part (record { word = nowhere; left = nowhere; clauses = listed_of (clause ∷ clauses); right = nowhere }) ∷ []

-- ---- paths

abbrev pub path_account : Name → PathText
path_account name = record { dot = nowhere; written = bare_name name }

-- the path of an import has a name
abbrev pub import_account : List Name → DeclText
import_account [] = import_text nowhere (record { text = []; place = nowhere }) []
import_account (name ∷ names) = import_text nowhere (bare_name name) (map path_account names)

-- ---- what holds expressions, which are printed lightly, or plainly

module _ (light : Bool) where
  abbrev pub claims_text : List ExprTree → ClaimsText
  claims_text claims = record { left = nowhere; claims = exprs_account light (exprs_of claims); right = nowhere }

  -- a clause without members is left out
  abbrev pub requires_clauses : List ExprTree → List ClauseText
  requires_clauses [] = []
  requires_clauses (claim ∷ claims) = requires_clause nowhere (claims_text (claim ∷ claims)) ∷ []

  abbrev pub ensures_clauses : List ExprTree → List ClauseText
  ensures_clauses [] = []
  ensures_clauses (claim ∷ claims) = ensures_clause nowhere (claims_text (claim ∷ claims)) ∷ []

  abbrev pub clauses_of : MethodDeclTree → List ClauseText
  clauses_of decl = requires_clauses decl.requires_ ++ modifies_clauses decl.modifies ++ ensures_clauses decl.ensures_

  -- ---- bodies

  abbrev pub stmt_parts : List StmtTree → List PartText
  stmt_parts stmts = map (λ stmt. stmt_part (stmt_account light stmt)) stmts

  abbrev pub return_parts : Option ReturnTree → List PartText
  return_parts None = []
  return_parts (Some returned) = return_part nowhere (expr_account light returned.value) ∷ []

  abbrev pub parts_of : MethodDeclTree → List PartText
  parts_of decl = contract_parts (clauses_of decl) ++ stmt_parts decl.body ++ return_parts decl.returned

  abbrev pub method_account : MethodDeclTree → MethodText
  method_account decl = record {
    word = nowhere;
    written = bare_name decl.written;
    left = nowhere;
    params = listed_of (map param_account decl.params);
    right = nowhere;
    result = typed_account decl.result;
    equals = nowhere;
    begin = nowhere;
    body = listed_of (parts_of decl);
    end = nowhere;
  }

  -- ---- declarations

  abbrev pub decl_account : DeclTree → DeclText
  decl_account (t.import_decl place path) = import_account path
  decl_account (t.global_decl decl) =
      global_text decl.fixed nowhere (bare_name decl.written) (option_map typed_account decl.ty) nowhere (const_account decl.init)
  decl_account (t.record_decl decl) =
      record_text nowhere nowhere nowhere (bare_name decl.written) nowhere (listed_of (map field_account decl.fields)) nowhere
  decl_account (t.method_decl decl) = method_text (method_account decl)

  -- a newline stands behind each declaration, also behind the last
  abbrev pub file_account : List DeclTree → FileText
  file_account decls = record { front = map (λ decl. (decl_account decl, nowhere)) decls; last = None }
