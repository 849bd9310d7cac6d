-- Declarations of the text.
use Rattle.std.specs.Prelude.{ℕ, suc, ◌≤◌, Bool, pos, List, [], ◌∷◌, ◌++◌, map, Option, Some, None, IsTrue, codes}
use Rattle.std.specs.List.{AllByRecursion}
use Rattle.std.specs.Option.{option_map}
use Rattle.slang_lexer.specs.declared.token.TokenKind.TheVariants as kind
use Rattle.slang_lexer.specs.Next.{value_of as number_value}
use Rattle.slang_tree.specs.declared.place.Place.{Place}
use Rattle.slang_tree.specs.declared.expression.Name.{Name}
use Rattle.slang_tree.specs.TypeTree.{TypeTree}
use Rattle.slang_tree.specs.DeclTree as tree
use Rattle.slang_tree.specs.DeclTree.{ConstTree, ConstTrees, TypedName, MethodDeclTree, DeclTree}
use Rattle.slang_tokens.specs.Tok.{Tok, sign}
use Rattle.slang_grammar.specs.Parts.{Listed, members, listed, optional, HasMember, IfWritten, name_token, IsPlain, is_numeral, number_token, NamesText, names_tokens, TypedText, typed_tokens, IsTyped, typed_tree, ElementText, element_tokens, IsElement, element_tree}
use Rattle.slang_grammar.specs.Expressions.{ExprText, expr_tokens, IsGrouped, expr_tree, ClaimsText, claims_tokens, AreClaims, expr_trees}
use Rattle.slang_grammar.specs.Statements.{value_word, AreNames, StmtText, stmt_tokens, IsStmt, stmt_tree}

-- Constants.

mutual
  pub data ConstText : Type 0 where
    const_number : (digits : List ℕ) → Place → ConstText
    const_minus : (minus : Place) → (digits : List ℕ) → Place → ConstText
    const_truth : Place → ConstText
    const_falsity : Place → ConstText
    -- `ISZ[type](elements)`, or `ISZ(elements)`
    const_sequence : (word : Place) → Option ElementText → (left : Place) → ConstsText → (right : Place) → ConstText
    -- `name(fields)`
    const_record : Name → (left : Place) → ConstsText → (right : Place) → ConstText

  -- constants parted by commas, where one may stand behind the last
  pub data ConstsText : Type 0 where
    no_consts : ConstsText
    last_const : ConstText → ConstsText
    const_then : ConstText → (comma : Place) → ConstsText → ConstsText

abbrev mutual
  pub const_tokens : ConstText → List Tok
  const_tokens (const_number digits place) = number_token digits place ∷ []
  const_tokens (const_minus minus digits place) = sign kind.Minus minus ∷ number_token digits place ∷ []
  const_tokens (const_truth place) = sign kind.True place ∷ []
  const_tokens (const_falsity place) = sign kind.False place ∷ []
  const_tokens (const_sequence word ty left elements right) =
      sign kind.TypeIsz word ∷ optional element_tokens ty ++ sign kind.LeftParen left ∷ consts_tokens elements ++ sign kind.RightParen right ∷ []
  const_tokens (const_record n left fields right) = name_token n ∷ sign kind.LeftParen left ∷ consts_tokens fields ++ sign kind.RightParen right ∷ []

  pub consts_tokens : ConstsText → List Tok
  consts_tokens no_consts = []
  consts_tokens (last_const c) = const_tokens c
  consts_tokens (const_then c comma more) = const_tokens c ++ sign kind.Comma comma ∷ consts_tokens more

abbrev pub HasConst : ConstsText → Type 0
HasConst no_consts = ⊥
HasConst (last_const c) = Unit {0}
HasConst (const_then c comma more) = Unit {0}

-- without the type of its elements a sequence has one at least
abbrev pub HasElements : Option ElementText → ConstsText → Type 0
HasElements None elements = HasConst elements
HasElements (Some ty) elements = IsElement ty

abbrev mutual
  pub IsConst : ConstText → Type 0
  IsConst (const_number digits place) = IsTrue (is_numeral digits)
  IsConst (const_minus minus digits place) = IsTrue (is_numeral digits)
  IsConst (const_truth place) = Unit {0}
  IsConst (const_falsity place) = Unit {0}
  IsConst (const_sequence word ty left elements right) = HasElements ty elements × AreConsts elements
  IsConst (const_record n left fields right) = IsPlain n × HasConst fields × AreConsts fields

  pub AreConsts : ConstsText → Type 0
  AreConsts no_consts = Unit {0}
  AreConsts (last_const c) = IsConst c
  AreConsts (const_then c comma more) = IsConst c × AreConsts more

abbrev mutual
  pub const_tree : ConstText → ConstTree
  const_tree (const_number digits place) = tree.const_number place (pos (number_value digits))
  const_tree (const_minus minus digits place) = tree.const_minus minus place (pos (number_value digits))
  const_tree (const_truth place) = tree.const_truth place
  const_tree (const_falsity place) = tree.const_falsity place
  const_tree (const_sequence word ty left elements right) = tree.const_sequence word (option_map element_tree ty) (consts_tree elements)
  const_tree (const_record n left fields right) = tree.const_record n (consts_tree fields)

  pub consts_tree : ConstsText → ConstTrees
  consts_tree no_consts = tree.no_consts
  consts_tree (last_const c) = tree.const_then (const_tree c) tree.no_consts
  consts_tree (const_then c comma more) = tree.const_then (const_tree c) (consts_tree more)

-- Parameters and fields.

-- `name: type`
pub record ParamText : Type 0 where
  pub written : Name
  pub ty : TypedText

abbrev pub param_tokens : ParamText → List Tok
param_tokens p = name_token p.written ∷ typed_tokens p.ty

abbrev pub IsParam : ParamText → Type 0
IsParam p = IsPlain p.written × IsTyped p.ty

abbrev pub param_tree : ParamText → TypedName
param_tree p = record { written = p.written; ty = typed_tree p.ty }

-- `name: type`, where `val` may stand in front
pub record FieldText : Type 0 where
  pub fixed : Option Place
  pub param : ParamText

abbrev pub val_word : Place → List Tok
val_word place = sign kind.Val place ∷ []

abbrev pub field_tokens : FieldText → List Tok
field_tokens f = optional val_word f.fixed ++ param_tokens f.param

abbrev pub IsField : FieldText → Type 0
IsField f = IsParam f.param

abbrev pub field_tree : FieldText → TypedName
field_tree f = param_tree f.param

-- Contracts.

pub data ClauseText : Type 0 where
  requires_clause : (word : Place) → ClaimsText → ClauseText
  modifies_clause : (word : Place) → NamesText → ClauseText
  ensures_clause : (word : Place) → ClaimsText → ClauseText

abbrev pub clause_tokens : ClauseText → List Tok
clause_tokens (requires_clause word claims) = sign kind.Requires word ∷ claims_tokens claims
clause_tokens (modifies_clause word names) = sign kind.Modifies word ∷ names_tokens names
clause_tokens (ensures_clause word claims) = sign kind.Ensures word ∷ claims_tokens claims

abbrev pub IsClause : ClauseText → Type 0
IsClause (requires_clause word claims) = AreClaims claims
IsClause (modifies_clause word names) = AreNames names
IsClause (ensures_clause word claims) = AreClaims claims

-- the clauses of a contract stand in this order, each at most once
abbrev pub clause_order : ClauseText → ℕ
clause_order (requires_clause word claims) = 0
clause_order (modifies_clause word names) = 1
clause_order (ensures_clause word claims) = 2

-- `Contract(clauses)`
pub record ContractText : Type 0 where
  pub word : Place
  pub left : Place
  pub clauses : Listed ClauseText
  pub right : Place

abbrev pub contract_tokens : ContractText → List Tok
contract_tokens c = sign kind.Contract c.word ∷ sign kind.LeftParen c.left ∷ listed kind.Comma clause_tokens c.clauses ++ sign kind.RightParen c.right ∷ []

-- the orders of these clauses ascend, from the least on
abbrev pub Ascends : ℕ → List ClauseText → Type 0
Ascends least [] = Unit {0}
Ascends least (clause ∷ more) = (least ≤ clause_order clause) × Ascends (suc (clause_order clause)) more

abbrev pub IsContract : ContractText → Type 0
IsContract c = Ascends 0 (members c.clauses) × AllByRecursion IsClause (members c.clauses)

-- Bodies.

-- a contract, a statement, or a return
pub data PartText : Type 0 where
  contract_part : ContractText → PartText
  stmt_part : StmtText → PartText
  return_part : (word : Place) → ExprText → PartText

abbrev pub part_tokens : PartText → List Tok
part_tokens (contract_part contract) = contract_tokens contract
part_tokens (stmt_part stmt) = stmt_tokens stmt
part_tokens (return_part word e) = sign kind.Return word ∷ expr_tokens e

abbrev pub IsPart : PartText → Type 0
IsPart (contract_part contract) = IsContract contract
IsPart (stmt_part stmt) = IsStmt stmt
IsPart (return_part word e) = IsGrouped e

-- the contract stands first, then the statements, and the return last
abbrev pub part_order : PartText → ℕ
part_order (contract_part contract) = 0
part_order (stmt_part stmt) = 1
part_order (return_part word e) = 2

-- the least order of what may stand behind: there is at most one contract, and at most one return
abbrev pub order_behind : PartText → ℕ
order_behind (contract_part contract) = 1
order_behind (stmt_part stmt) = 1
order_behind (return_part word e) = 3

-- these parts stand in order, from the least on
abbrev pub InOrder : ℕ → List PartText → Type 0
InOrder least [] = Unit {0}
InOrder least (part ∷ more) = (least ≤ part_order part) × InOrder (order_behind part) more

-- Declarations.

-- a name of an import, behind its dot
pub record PathText : Type 0 where
  pub dot : Place
  pub written : Name

abbrev pub path_tokens : List PathText → List Tok
path_tokens [] = []
path_tokens (part ∷ more) = sign kind.Dot part.dot ∷ name_token part.written ∷ path_tokens more

abbrev pub path_name : PathText → Name
path_name part = part.written

-- `def name(params): result = { body }`, where the parts of the body are each ended by a newline, but for the last, where it may
-- be missing
pub record MethodText : Type 0 where
  pub word : Place
  pub written : Name
  pub left : Place
  pub params : Listed ParamText
  pub right : Place
  pub result : TypedText
  pub equals : Place
  pub begin : Place
  pub body : Listed PartText
  pub end : Place

pub data DeclText : Type 0 where
  -- `import first.path`
  import_text : (word : Place) → (first : Name) → (path : List PathText) → DeclText
  -- `val name: ty = const`, or the same of `var`, where the type may be left out
  global_text : (fixed : Bool) (word : Place) → Name → Option TypedText → (equals : Place) → ConstText → DeclText
  -- `@datatype class name(fields)`
  record_text : (at datatype word : Place) → Name → (left : Place) → Listed FieldText → (right : Place) → DeclText
  method_text : MethodText → DeclText

abbrev pub datatype_token : Place → Tok
datatype_token place = record { kind = kind.Name; text = codes "datatype"; place = place }

abbrev pub method_tokens : MethodText → List Tok
method_tokens m =
    sign kind.Def m.word ∷ name_token m.written ∷ sign kind.LeftParen m.left ∷ listed kind.Comma param_tokens m.params
    ++ sign kind.RightParen m.right ∷ typed_tokens m.result ++ sign kind.Equals m.equals
    ∷ sign kind.LeftBrace m.begin ∷ listed kind.Newline part_tokens m.body ++ sign kind.RightBrace m.end ∷ []

abbrev pub decl_tokens : DeclText → List Tok
decl_tokens (import_text word first path) = sign kind.Import word ∷ name_token first ∷ path_tokens path
decl_tokens (global_text fixed word n ty equals init) =
    sign (value_word fixed) word ∷ name_token n ∷ optional typed_tokens ty ++ sign kind.Equals equals ∷ const_tokens init
decl_tokens (record_text at datatype word n left fields right) =
    sign kind.At at ∷ datatype_token datatype ∷ sign kind.Class word ∷ name_token n ∷ sign kind.LeftParen left
    ∷ listed kind.Comma field_tokens fields ++ sign kind.RightParen right ∷ []
decl_tokens (method_text m) = method_tokens m

abbrev pub IsMethod : MethodText → Type 0
IsMethod m =
    IsPlain m.written × AllByRecursion IsParam (members m.params) × IsTyped m.result
    × InOrder 0 (members m.body) × AllByRecursion IsPart (members m.body)

abbrev pub IsDecl : DeclText → Type 0
IsDecl (import_text word first path) = Unit {0}
IsDecl (global_text fixed word n ty equals init) = IsPlain n × IfWritten IsTyped ty × IsConst init
IsDecl (record_text at datatype word n left fields right) = IsPlain n × HasMember fields × AllByRecursion IsField (members fields)
IsDecl (method_text m) = IsMethod m

-- Trees.

-- a method with one more clause
abbrev pub with_clause : MethodDeclTree → ClauseText → MethodDeclTree
with_clause method (requires_clause word claims) = record method { requires_ = expr_trees claims.claims }
with_clause method (modifies_clause word names) = record method { modifies = members names.names }
with_clause method (ensures_clause word claims) = record method { ensures_ = expr_trees claims.claims }

abbrev pub with_clauses : MethodDeclTree → List ClauseText → MethodDeclTree
with_clauses method [] = method
with_clauses method (clause ∷ more) = with_clauses (with_clause method clause) more

abbrev pub with_part : MethodDeclTree → PartText → MethodDeclTree
with_part method (contract_part contract) = with_clauses method (members contract.clauses)
with_part method (stmt_part stmt) = record method { body = method.body ++ stmt_tree stmt ∷ [] }
with_part method (return_part word e) = record method { returned = Some (record { place = word; value = expr_tree e }) }

abbrev pub with_parts : MethodDeclTree → List PartText → MethodDeclTree
with_parts method [] = method
with_parts method (part ∷ more) = with_parts (with_part method part) more

-- a method with nothing in its body
abbrev pub bare_method : Name → List TypedName → TypeTree → MethodDeclTree
bare_method written params ty =
    record { written = written; params = params; result = ty; requires_ = []; modifies = []; ensures_ = []; body = []; returned = None }

abbrev pub method_tree : MethodText → MethodDeclTree
method_tree m = with_parts (bare_method m.written (map param_tree (members m.params)) (typed_tree m.result)) (members m.body)

-- the place of a declaration is that of its first token, of a method that of its name
abbrev pub decl_tree : DeclText → DeclTree
decl_tree (import_text word first path) = tree.import_decl word (first ∷ map path_name path)
decl_tree (global_text fixed word n ty equals init) =
    tree.global_decl (record { place = word; fixed = fixed; written = n; ty = option_map typed_tree ty; init = const_tree init })
decl_tree (record_text at datatype word n left fields right) = tree.record_decl (record { place = at; written = n; fields = map field_tree (members fields) })
decl_tree (method_text m) = tree.method_decl (method_tree m)
