-- What is open, and the tokens that account for it: types, constants, declarations, bodies and blocks.
use Rattle.machine_stands.proofs.Fronts.{Front, Last, FrontOf, LastOf, WholeOf, HasAny}
use Rattle.slang_grammar.specs.Parts.{Listed, members, optional, listed, name_token, IsPlain, TypeText, type_tokens, IsType, type_tree, IfWritten, TypedText, typed_tokens, IsTyped, typed_tree, ElementText, element_tokens, IsElement, element_tree}
use Rattle.slang_grammar.specs.Operators.{whole_level}
use Rattle.slang_grammar.specs.Expressions.{ExprText, indices_token, expr_tokens, level, IsGrouped, expr_tree}
use Rattle.slang_grammar.specs.Statements.{value_word, InvariantText, claims_behind_trees, invariant_tokens, IsInvariant, BlockText, stmt_tokens, block_tokens, IsStmt, IsBlock, stmt_tree, block_tree}
use Rattle.slang_grammar.specs.Declarations.{ConstText, const_tokens, IsConst, const_tree, ParamText, param_tokens, IsParam, param_tree, val_word, field_tokens, IsField, field_tree, ClauseText, clause_tokens, IsClause, clause_order, PartText, part_tokens, IsPart, part_order, order_behind, PathText, path_tokens, path_name, datatype_token, decl_tokens, IsDecl, with_clause, with_part, bare_method, decl_tree}
use Rattle.slang_machine.specs.Open.{Draft, Block, body_of, then_of, else_of, loop_of, Target, in_block, behind_else, Consts, constant_of, constants_in, fields_in}
use Rattle.slang_machine.specs.Statements.{with_method, with_body}
use Rattle.slang_tree.specs.TypeTree.{TypeTree}
use Rattle.slang_tree.specs.ExprTree.{ExprTree}
use Rattle.slang_tree.specs.StmtTree.{StmtTree, StmtTrees}
use Rattle.slang_tree.specs.DeclTree.{ConstTree, TypedName, MethodDeclTree, DeclTree}
use Rattle.slang_tree.specs.declared.place.Place.{Place}
use Rattle.slang_tree.specs.declared.expression.Name.{Name}
use Rattle.slang_lexer.specs.declared.token.TokenKind.{TokenKind}
use Rattle.slang_tokens.specs.Tok.{Tok, sign}
use Rattle.std.proofs.Common.{◌≡◌, ℕ, ◌≤◌, Bool, List, [], ◌∷◌, ◌++◌, Option, Some, None, suc, map}
use Rattle.std.specs.List.{AllByRecursion}
use Rattle.std.specs.Option.{option_map}
use Rattle.slang_lexer.specs.declared.token.TokenKind.TheVariants as kind

-- Behind a sign at this place, or at some place.
abbrev pub At : TokenKind → Place → (List Tok → Type 0) → List Tok → Type 0
At k place K rest = K (sign k place ∷ rest)

pub record Sign (k : TokenKind) (K : List Tok → Type 0) (rest : List Tok) : Type 0 where
  pub place : Place
  pub opened : K (sign k place ∷ rest)

-- behind a plain name
pub record Named (n : Name) (K : List Tok → Type 0) (rest : List Tok) : Type 0 where
  pub plain : IsPlain n
  pub opened : K (name_token n ∷ rest)

-- behind the word `datatype`, and behind `indices`
pub record Datatype (K : List Tok → Type 0) (rest : List Tok) : Type 0 where
  pub place : Place
  pub opened : K (datatype_token place ∷ rest)

pub record Indices (K : List Tok → Type 0) (rest : List Tok) : Type 0 where
  pub place : Place
  pub opened : K (indices_token place ∷ rest)

-- Behind a type, a type behind a colon that may be left out, and one in square brackets that may be left out.
pub record TypeIs (ty : TypeTree) (K : List Tok → Type 0) (rest : List Tok) : Type 0 where
  pub text : TypeText
  pub fits : IsType text
  pub same : type_tree text ≡ ty
  pub opened : K (type_tokens text ++ rest)

pub record Typed (ty : Option TypeTree) (K : List Tok → Type 0) (rest : List Tok) : Type 0 where
  pub text : Option TypedText
  pub fits : IfWritten IsTyped text
  pub same : option_map typed_tree text ≡ ty
  pub opened : K (optional typed_tokens text ++ rest)

pub record Element (ty : Option TypeTree) (K : List Tok → Type 0) (rest : List Tok) : Type 0 where
  pub text : Option ElementText
  pub fits : IfWritten IsElement text
  pub same : option_map element_tree text ≡ ty
  pub opened : K (optional element_tokens text ++ rest)

-- Behind an expression, and behind one that needs no brackets anywhere.
pub record Expression (expr : ExprTree) (K : List Tok → Type 0) (rest : List Tok) : Type 0 where
  pub text : ExprText
  pub grouped : IsGrouped text
  pub same : expr_tree text ≡ expr
  pub opened : K (expr_tokens text ++ rest)

pub record Head (expr : ExprTree) (K : List Tok → Type 0) (rest : List Tok) : Type 0 where
  pub text : ExprText
  pub grouped : IsGrouped text
  pub tight : level text ≡ whole_level
  pub same : expr_tree text ≡ expr
  pub opened : K (expr_tokens text ++ rest)

abbrev pub Expressions : (List Tok → Type 0) → List ExprTree → List Tok → Type 0
Expressions K trees rest = FrontOf kind.Comma expr_tokens IsGrouped expr_tree K trees rest

-- `word (test)`
abbrev pub Tested : TokenKind → Place → ExprTree → (List Tok → Type 0) → List Tok → Type 0
Tested k place test K rest = Sign kind.RightParen (Expression test (Sign kind.LeftParen (At k place K))) rest

-- Declarations.

abbrev pub Decls : List Tok → List DeclTree → List Tok → Type 0
Decls all done rest = FrontOf kind.Newline decl_tokens IsDecl decl_tree (λ r. all ≡ r) done rest

abbrev pub LastDecl : List Tok → List DeclTree → List Tok → Type 0
LastDecl all done rest = LastOf kind.Newline decl_tokens IsDecl decl_tree (λ r. all ≡ r) done rest

pub record Path (all : List Tok) (place : Place) (path : List Name) (done : List DeclTree) (rest : List Tok) : Type 0 where
  pub first : Name
  pub more : List PathText
  pub same : first ∷ map path_name more ≡ path
  pub opened : Decls all done (sign kind.Import place ∷ name_token first ∷ path_tokens more ++ rest)

pub data PathDue (all : List Tok) (place : Place) (path : List Name) (done : List DeclTree) (rest : List Tok) : Type 0 where
  first_due : path ≡ [] → Decls all done (sign kind.Import place ∷ rest) → PathDue all place path done rest
  behind_dot : Sign kind.Dot (Path all place path done) rest → PathDue all place path done rest

abbrev pub GlobalHead : List Tok → Bool → Place → List DeclTree → List Tok → Type 0
GlobalHead all fixed place done rest = At (value_word fixed) place (Decls all done) rest

abbrev pub Constants : (List Tok → Type 0) → List ConstTree → List Tok → Type 0
Constants K trees rest = FrontOf kind.Comma const_tokens IsConst const_tree K trees rest

abbrev pub OpenConst : List Tok → Consts → List Tok → Type 0
OpenConst all (constant_of fixed place written ty done) rest = Sign kind.Equals (Typed ty (Named written (GlobalHead all fixed place done))) rest
OpenConst all (constants_in place ty consts around) rest =
    Constants (Sign kind.LeftParen (Element ty (At kind.TypeIsz place (OpenConst all around)))) consts rest
OpenConst all (fields_in written consts around) rest = Constants (Sign kind.LeftParen (Named written (OpenConst all around))) consts rest

-- behind a constant
pub record Constant (const : ConstTree) (K : List Tok → Type 0) (rest : List Tok) : Type 0 where
  pub text : ConstText
  pub fits : IsConst text
  pub same : const_tree text ≡ const
  pub opened : K (const_tokens text ++ rest)

-- constants in brackets, and those that may end there
abbrev pub IsNested : Consts → Type 0
IsNested (constant_of fixed place written ty done) = ⊥
IsNested _ = Unit {0}

abbrev pub MayEnd : Consts → Type 0
MayEnd (constant_of fixed place written ty done) = ⊥
MayEnd (constants_in place None consts around) = HasAny consts
MayEnd (constants_in place (Some ty) consts around) = Unit {0}
MayEnd (fields_in written consts around) = HasAny consts

abbrev pub RecordHead : List Tok → Place → List DeclTree → List Tok → Type 0
RecordHead all place done rest = Sign kind.Class (Datatype (At kind.At place (Decls all done))) rest

abbrev pub FieldsBegin : List Tok → Place → Name → List DeclTree → List Tok → Type 0
FieldsBegin all place written done rest = Sign kind.LeftParen (Named written (RecordHead all place done)) rest

abbrev pub Fields : List Tok → Place → Name → List TypedName → List DeclTree → List Tok → Type 0
Fields all place written fields done rest = FrontOf kind.Comma field_tokens IsField field_tree (FieldsBegin all place written done) fields rest

-- behind the name of a field
pub record FieldNamed (all : List Tok) (place : Place) (written : Name) (fields : List TypedName) (n : Name) (done : List DeclTree) (rest : List Tok) : Type 0 where
  pub fixed : Option Place
  pub plain : IsPlain n
  pub opened : Fields all place written fields done (optional val_word fixed ++ name_token n ∷ rest)

abbrev pub ParamsBegin : List Tok → Name → List DeclTree → List Tok → Type 0
ParamsBegin all written done rest = Sign kind.LeftParen (Named written (Sign kind.Def (Decls all done))) rest

abbrev pub Params : List Tok → Name → List TypedName → List DeclTree → List Tok → Type 0
Params all written params done rest = FrontOf kind.Comma param_tokens IsParam param_tree (ParamsBegin all written done) params rest

abbrev pub AllParams : List Tok → Name → List TypedName → List DeclTree → List Tok → Type 0
AllParams all written params done rest = Sign kind.RightParen (WholeOf kind.Comma param_tokens IsParam param_tree (ParamsBegin all written done) params) rest

-- the head of a method
pub record HeaderText : Type 0 where
  pub word : Place
  pub written : Name
  pub left : Place
  pub params : Listed ParamText
  pub right : Place
  pub result : TypedText

abbrev pub header_tokens : HeaderText → List Tok
header_tokens h =
    sign kind.Def h.word ∷ name_token h.written ∷ sign kind.LeftParen h.left ∷ listed kind.Comma param_tokens h.params
    ++ sign kind.RightParen h.right ∷ typed_tokens h.result

abbrev pub IsHeader : HeaderText → Type 0
IsHeader h = IsPlain h.written × AllByRecursion IsParam (members h.params) × IsTyped h.result

abbrev pub header_method : HeaderText → MethodDeclTree
header_method h = bare_method h.written (map param_tree (members h.params)) (typed_tree h.result)

pub record Header (all : List Tok) (done : List DeclTree) (method : MethodDeclTree) (rest : List Tok) : Type 0 where
  pub text : HeaderText
  pub fits : IsHeader text
  pub same : header_method text ≡ method
  pub opened : Decls all done (header_tokens text ++ rest)

-- Bodies and contracts.

abbrev pub PartFits : ℕ × MethodDeclTree → PartText → Type 0
PartFits s part = (s.0 ≤ part_order part) × IsPart part

abbrev pub part_step : ℕ × MethodDeclTree → PartText → ℕ × MethodDeclTree
part_step s part = (order_behind part, with_part s.1 part)

abbrev pub BodyBegin : List Tok → List DeclTree → MethodDeclTree → List Tok → Type 0
BodyBegin all done method rest = Sign kind.LeftBrace (Sign kind.Equals (Header all done method)) rest

pub record Parts (all : List Tok) (least : ℕ) (draft : Draft) (rest : List Tok) : Type 0 where
  pub bare : MethodDeclTree
  pub parts : Front kind.Newline part_tokens PartFits part_step (0, bare) (BodyBegin all draft.done bare) (least, draft.method) rest

pub record LastPart (all : List Tok) (least : ℕ) (draft : Draft) (rest : List Tok) : Type 0 where
  pub bare : MethodDeclTree
  pub parts : Last kind.Newline part_tokens PartFits part_step (0, bare) (BodyBegin all draft.done bare) (least, draft.method) rest

abbrev pub ClauseFits : ℕ × MethodDeclTree → ClauseText → Type 0
ClauseFits s clause = (s.0 ≤ clause_order clause) × IsClause clause

abbrev pub clause_step : ℕ × MethodDeclTree → ClauseText → ℕ × MethodDeclTree
clause_step s clause = (suc (clause_order clause), with_clause s.1 clause)

-- behind the word of a contract, before which no other part stands
pub record ContractBegin (all : List Tok) (draft : Draft) (rest : List Tok) : Type 0 where
  pub least : ℕ
  pub is_first : least ≤ 0
  pub opened : Sign kind.Contract (Parts all least draft) rest

pub record Clauses (all : List Tok) (least : ℕ) (draft : Draft) (rest : List Tok) : Type 0 where
  pub bare : MethodDeclTree
  pub clauses : Front kind.Comma clause_tokens ClauseFits clause_step (0, bare) (Sign kind.LeftParen (ContractBegin all (with_method draft bare)))
      (least, draft.method) rest

pub record LastClause (all : List Tok) (least : ℕ) (draft : Draft) (rest : List Tok) : Type 0 where
  pub bare : MethodDeclTree
  pub clauses : Last kind.Comma clause_tokens ClauseFits clause_step (0, bare) (Sign kind.LeftParen (ContractBegin all (with_method draft bare)))
      (least, draft.method) rest

-- Statements.

-- behind a block of an if-statement, and behind the `else` there
pub record Then (place : Place) (test : ExprTree) (on_true : StmtTrees) (K : List Tok → Type 0) (rest : List Tok) : Type 0 where
  pub text : BlockText
  pub fits : IsBlock text
  pub same : block_tree text ≡ on_true
  pub opened : Tested kind.If place test K (block_tokens text ++ rest)

abbrev pub Else : Place → ExprTree → StmtTrees → (List Tok → Type 0) → List Tok → Type 0
Else place test on_true K rest = Sign kind.Else (Then place test on_true K) rest

-- behind an invariant
pub record InvariantIs (modifies : List Name) (claims : List ExprTree) (K : List Tok → Type 0) (rest : List Tok) : Type 0 where
  pub text : InvariantText
  pub fits : IsInvariant text
  pub same_names : members text.names.names ≡ modifies
  pub same_claims : claims_behind_trees text.claims ≡ claims
  pub opened : K (invariant_tokens text ++ rest)

abbrev pub LoopBegin : Place → ExprTree → (List Tok → Type 0) → List Tok → Type 0
LoopBegin place test K rest = Sign kind.LeftBrace (Tested kind.While place test K) rest

abbrev pub Stmts : (List Tok → Type 0) → List StmtTree → List Tok → Type 0
Stmts K stmts rest = FrontOf kind.Newline stmt_tokens IsStmt stmt_tree K stmts rest

abbrev pub LastStmt : (List Tok → Type 0) → List StmtTree → List Tok → Type 0
LastStmt K stmts rest = LastOf kind.Newline stmt_tokens IsStmt stmt_tree K stmts rest

-- a statement is due in a body behind those statements
pub record InBody (all : List Tok) (draft : Draft) (rest : List Tok) : Type 0 where
  pub least : ℕ
  pub no_return : least ≤ 1
  pub opened : Parts all least draft rest

-- where a statement is due in a block, and where an if-statement is due
abbrev mutual
  pub OpenIn : List Tok → Block → List StmtTree → List Tok → Type 0
  OpenIn all (body_of draft) stmts rest = InBody all (with_body draft stmts) rest
  OpenIn all (then_of place test target) stmts rest = Stmts (Sign kind.LeftBrace (Tested kind.If place test (OpenTarget all target))) stmts rest
  OpenIn all (else_of place test on_true target) stmts rest = Stmts (Sign kind.LeftBrace (Else place test on_true (OpenTarget all target))) stmts rest
  OpenIn all (loop_of place test modifies claims before outer) stmts rest =
      Stmts (Sign kind.Newline (InvariantIs modifies claims (LoopBegin place test (OpenIn all outer before)))) stmts rest

  pub OpenTarget : List Tok → Target → List Tok → Type 0
  OpenTarget all (in_block stmts inner) rest = OpenIn all inner stmts rest
  OpenTarget all (behind_else place test on_true target) rest = Else place test on_true (OpenTarget all target) rest
