-- What is printed of files does not depend on places.
use Rattle.std.proofs.Common.{Bool, ◌≡◌, List, [], ◌∷◌, ◌++◌, map, Option, Some, None, refl, sym, ap, ap₂, ◌∙◌, subst}
use Rattle.std.specs.Option.{option_map}
use Rattle.slang_tree.specs.declared.expression.Name.{Name}
use Rattle.slang_tree.specs.declared.place.Place.{Place}
use Rattle.slang_tree.specs.TypeTree.{TypeTree}
use Rattle.slang_tree.specs.ExprTree.{ExprTree}
use Rattle.slang_tree.specs.StmtTree.{StmtTree}
use Rattle.slang_tree.specs.DeclTree as t
use Rattle.slang_tree.specs.DeclTree.{ConstTree, ConstTrees, TypedName, ReturnTree, MethodDeclTree, DeclTree}
use Rattle.slang_grammar.specs.Declarations.{const_sequence, const_record, last_const, const_then, ParamText, requires_clause, modifies_clause, ensures_clause, PartText, stmt_part, return_part, MethodText, DeclText, import_text, global_text, record_text, method_text}
use Rattle.slang_grammar.specs.Texts.{file_tokens, file_tree, InGrammar}
use Rattle.print_expressions.specs.Bare.{nowhere, bare_name, bare_type, bare_expr}
use Rattle.print_expressions.specs.Accounts.{type_account, element_account}
use Rattle.print_expressions.proofs.Places.{type_bare, places_are_not_printed}
use Rattle.print_statements.specs.Bare.{bare_stmt}
use Rattle.print_statements.specs.Accounts.{listed_of}
use Rattle.print_declarations.specs.Bare.{bare_const, bare_consts, bare_typed, bare_return, bare_method, bare_decl, bare_file}
use Rattle.print_declarations.specs.Accounts.{const_account, consts_account, param_account, field_account, requires_clauses, modifies_clauses, ensures_clauses, contract_parts, stmt_parts, return_parts, method_account, path_account, decl_account, file_account}
use Rattle.print_declarations.proofs.Back.{files_read_back}
use Rattle.print_layout.proofs.Declarations.{layout_has_the_tokens}
use Rattle.print_places.specs.Laws.{FilesArePrintedWithoutPlaces, PrintedFilesReadBack}
use Rattle.print_places.proofs.Statements.{typed_same, names_alike, exprs_same, stmt_same}

-- ---- constants

elements_same : (ty : Option TypeTree) → option_map element_account (option_map bare_type ty) ≡ option_map element_account ty
elements_same None = refl
elements_same (Some ty) = ap (λ text. Some (record { left = nowhere; ty = text; right = nowhere })) (type_bare ty)

mutual
  const_same : (tree : ConstTree) → const_account (bare_const tree) ≡ const_account tree
  const_same (t.const_number place z) = refl
  const_same (t.const_minus place digits z) = refl
  const_same (t.const_truth place) = refl
  const_same (t.const_falsity place) = refl
  const_same (t.const_sequence place ty elements) = ap₂ (λ a b. const_sequence nowhere a nowhere b nowhere) (elements_same ty) (consts_same elements)
  const_same (t.const_record written fields) = ap (λ a. const_record (bare_name written) nowhere a nowhere) (consts_same fields)

  consts_same : (trees : ConstTrees) → consts_account (bare_consts trees) ≡ consts_account trees
  consts_same t.no_consts = refl
  consts_same (t.const_then tree t.no_consts) = ap last_const (const_same tree)
  consts_same (t.const_then tree (t.const_then next trees)) = ap₂ (λ a b. const_then a nowhere b) (const_same tree) (consts_same (t.const_then next trees))

-- ---- methods

param_same : (named : TypedName) → param_account (bare_typed named) ≡ param_account named
param_same named = ap (λ ty. record { written = bare_name named.written; ty = record { colon = nowhere; ty = ty } }) (type_bare named.ty)

params_same : (named : List TypedName) → map param_account (map bare_typed named) ≡ map param_account named
params_same [] = refl
params_same (name ∷ named) = ap₂ (λ x xs. x ∷ xs) (param_same name) (params_same named)

fields_same : (named : List TypedName) → map field_account (map bare_typed named) ≡ map field_account named
fields_same [] = refl
fields_same (name ∷ named) = ap₂ (λ x xs. record { fixed = None; param = x } ∷ xs) (param_same name) (fields_same named)

abbrev printed_with : MethodDeclTree → List ParamText → TypeTree → List PartText → MethodText
printed_with decl params ty parts = record {
  word = nowhere;
  written = bare_name decl.written;
  left = nowhere;
  params = listed_of params;
  right = nowhere;
  result = record { colon = nowhere; ty = type_account ty };
  equals = nowhere;
  begin = nowhere;
  body = listed_of parts;
  end = nowhere;
}

modifies_same : (names : List Name) → modifies_clauses (map bare_name names) ≡ modifies_clauses names
modifies_same [] = refl
modifies_same (name ∷ names) = ap (λ ns. modifies_clause nowhere ns ∷ []) (names_alike (name ∷ names))

paths_same : (names : List Name) → map path_account (map bare_name names) ≡ map path_account names
paths_same [] = refl
paths_same (name ∷ names) = ap (λ ns. path_account name ∷ ns) (paths_same names)

module _ (light : Bool) where
  requires_same : (claims : List ExprTree) → requires_clauses light (map bare_expr claims) ≡ requires_clauses light claims
  requires_same [] = refl
  requires_same (claim ∷ claims) =
      ap (λ texts. requires_clause nowhere (record { left = nowhere; claims = texts; right = nowhere }) ∷ []) (exprs_same light (claim ∷ claims))

  ensures_same : (claims : List ExprTree) → ensures_clauses light (map bare_expr claims) ≡ ensures_clauses light claims
  ensures_same [] = refl
  ensures_same (claim ∷ claims) =
      ap (λ texts. ensures_clause nowhere (record { left = nowhere; claims = texts; right = nowhere }) ∷ []) (exprs_same light (claim ∷ claims))

  stmts_same : (stmts : List StmtTree) → stmt_parts light (map bare_stmt stmts) ≡ stmt_parts light stmts
  stmts_same [] = refl
  stmts_same (stmt ∷ stmts) = ap₂ (λ x xs. stmt_part x ∷ xs) (stmt_same light stmt) (stmts_same stmts)

  return_same : (returned : Option ReturnTree) → return_parts light (option_map bare_return returned) ≡ return_parts light returned
  return_same None = refl
  return_same (Some returned) = ap (λ e. return_part nowhere e ∷ []) (places_are_not_printed light returned.value)

  method_same : (decl : MethodDeclTree) → method_account light (bare_method decl) ≡ method_account light decl
  method_same decl =
      let rest = stmt_parts light (map bare_stmt decl.body) in
      let last = return_parts light (option_map bare_return decl.returned) in
      ap (λ ps. printed_with decl ps (bare_type decl.result) (contract_parts (requires_clauses light (map bare_expr decl.requires_) ++ modifies_clauses (map bare_name decl.modifies)
      ++ ensures_clauses light (map bare_expr decl.ensures_)) ++ rest ++ last)) (params_same decl.params)
      ∙ ap₂ (λ r m. printed_with decl (map param_account decl.params) (bare_type decl.result) (contract_parts (r ++ m ++ ensures_clauses light (map bare_expr decl.ensures_)) ++ rest ++ last))
      (requires_same decl.requires_) (modifies_same decl.modifies)
      ∙ ap₂ (λ e s. printed_with decl (map param_account decl.params) (bare_type decl.result)
      (contract_parts (requires_clauses light decl.requires_ ++ modifies_clauses decl.modifies ++ e) ++ s ++ last)) (ensures_same decl.ensures_) (stmts_same decl.body)
      ∙ ap (λ l. printed_with decl (map param_account decl.params) (bare_type decl.result)
      (contract_parts (requires_clauses light decl.requires_ ++ modifies_clauses decl.modifies ++ ensures_clauses light decl.ensures_) ++ stmt_parts light decl.body ++ l)) (return_same decl.returned)
      ∙ ap (λ ty. record {
        word = nowhere;
        written = bare_name decl.written;
        left = nowhere;
        params = listed_of (map param_account decl.params);
        right = nowhere;
        result = record { colon = nowhere; ty = ty };
        equals = nowhere;
        begin = nowhere;
        body = listed_of (contract_parts (requires_clauses light decl.requires_ ++ modifies_clauses decl.modifies ++ ensures_clauses light decl.ensures_) ++ stmt_parts light decl.body
            ++ return_parts light decl.returned);
        end = nowhere;
      }) (type_bare decl.result)

  decl_same : (decl : DeclTree) → decl_account light (bare_decl decl) ≡ decl_account light decl
  decl_same (t.import_decl place []) = refl
  decl_same (t.import_decl place (name ∷ names)) = ap (import_text nowhere (bare_name name)) (paths_same names)
  decl_same (t.global_decl decl) =
      ap₂ (λ a b. global_text decl.fixed nowhere (bare_name decl.written) a nowhere b) (typed_same decl.ty) (const_same decl.init)
  decl_same (t.record_decl decl) =
      ap (λ fs. record_text nowhere nowhere nowhere (bare_name decl.written) nowhere (listed_of fs) nowhere) (fields_same decl.fields)
  decl_same (t.method_decl decl) = ap method_text (method_same decl)

  fronts_same : (decls : List DeclTree) → map {B = DeclText × Place} (λ decl. (decl_account light decl, nowhere)) (map bare_decl decls) ≡ map {B = DeclText × Place} (λ decl. (decl_account light decl, nowhere)) decls
  fronts_same [] = refl
  fronts_same (decl ∷ decls) = ap₂ (λ x xs. (x, nowhere) ∷ xs) (decl_same decl) (fronts_same decls)

pub files_are_printed_without_places : FilesArePrintedWithoutPlaces
files_are_printed_without_places light decls = ap (λ front. record { front = front; last = None }) (fronts_same light decls)

pub printed_files_read_back : PrintedFilesReadBack
printed_files_read_back light decls file h same =
    let alike : file_account light (file_tree file) ≡ file_account light decls =
    sym (files_are_printed_without_places light (file_tree file)) ∙ ap (file_account light) (sym same) ∙ files_are_printed_without_places light decls in
    subst (λ tokens. InGrammar tokens (bare_file decls)) (sym (layout_has_the_tokens (file_account light decls)))
    (subst (λ text. InGrammar (file_tokens text) (bare_file decls)) alike
    (subst (λ bare. InGrammar (file_tokens (file_account light (file_tree file))) bare) (sym same) (files_read_back light file h)))
