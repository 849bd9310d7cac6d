-- Statements of the text.
use Rattle.std.specs.Prelude.{Bool, true, false, List, [], ◌∷◌, ◌++◌, Option}
use Rattle.std.specs.List.{AllByRecursion}
use Rattle.std.specs.Option.{option_map}
use Rattle.slang_lexer.specs.declared.token.TokenKind.{TokenKind}
use Rattle.slang_lexer.specs.declared.token.TokenKind.TheVariants as kind
use Rattle.slang_tree.specs.declared.place.Place.{Place}
use Rattle.slang_tree.specs.declared.expression.Name.{Name}
use Rattle.slang_tree.specs.TypeTree.{TypeTree}
use Rattle.slang_tree.specs.ExprTree.{ExprTree}
use Rattle.slang_tree.specs.StmtTree as tree
use Rattle.slang_tree.specs.StmtTree.{StmtTree, StmtTrees, ElseTree}
use Rattle.slang_tokens.specs.Tok.{Tok, sign}
use Rattle.slang_grammar.specs.Parts.{members, optional, HasMember, IfWritten, name_token, IsPlain, NamesText, names_tokens, TypedText, typed_tokens, IsTyped, typed_tree}
use Rattle.slang_grammar.specs.Expressions.{ExprText, ExprsText, expr_tokens, exprs_tokens, IsGrouped, AreGrouped, expr_tree, exprs_tree, expr_trees}
use Rattle.slang_grammar.specs.Proofs.{StepsText, steps_tokens, AreSteps, HasStep, steps_tree}

-- a `val`, which is fixed, or a `var`
abbrev pub value_word : Bool → TokenKind
value_word true = kind.Val
value_word false = kind.Var

-- names in round brackets, one at least, and each plain
abbrev pub AreNames : NamesText → Type 0
AreNames n = HasMember n.names × AllByRecursion IsPlain (members n.names)

-- `(test)` behind its word
pub record TestText : Type 0 where
  pub word : Place
  pub left : Place
  pub test : ExprText
  pub right : Place

abbrev pub test_tokens : TokenKind → TestText → List Tok
test_tokens k t = sign k t.word ∷ sign kind.LeftParen t.left ∷ expr_tokens t.test ++ sign kind.RightParen t.right ∷ []

-- what stands behind the names of an invariant: nothing, or a comma and claims
pub data ClaimsBehind : Type 0 where
  no_claims : ClaimsBehind
  claims_behind : (comma : Place) → ExprsText → ClaimsBehind

-- `Invariant(Modifies(names), claims)`
pub record InvariantText : Type 0 where
  pub word : Place
  pub left : Place
  pub modifies : Place
  pub names : NamesText
  pub claims : ClaimsBehind
  pub right : Place

abbrev pub claims_behind_tokens : ClaimsBehind → List Tok
claims_behind_tokens no_claims = []
claims_behind_tokens (claims_behind comma claims) = sign kind.Comma comma ∷ exprs_tokens claims

abbrev pub AreClaimsBehind : ClaimsBehind → Type 0
AreClaimsBehind no_claims = Unit {0}
AreClaimsBehind (claims_behind comma claims) = AreGrouped claims

abbrev pub claims_behind_trees : ClaimsBehind → List ExprTree
claims_behind_trees no_claims = []
claims_behind_trees (claims_behind comma claims) = expr_trees claims

abbrev pub invariant_tokens : InvariantText → List Tok
invariant_tokens i =
    sign kind.Invariant i.word ∷ sign kind.LeftParen i.left ∷ sign kind.Modifies i.modifies ∷ names_tokens i.names
    ++ claims_behind_tokens i.claims ++ sign kind.RightParen i.right ∷ []

abbrev pub IsInvariant : InvariantText → Type 0
IsInvariant i = AreNames i.names × AreClaimsBehind i.claims

mutual
  pub data StmtText : Type 0 where
    -- `val name: ty = value`, or the same of `var`, where the type may be left out
    value : (fixed : Bool) (word : Place) → Name → Option TypedText → (equals : Place) → ExprText → StmtText
    -- `name = value`
    assignment : Name → (equals : Place) → ExprText → StmtText
    -- `name(arguments)`
    call : Name → (left : Place) → ExprsText → (right : Place) → StmtText
    branch : IfText → StmtText
    -- `while (test) { invariant body }`
    loop : TestText → (begin : Place) → InvariantText → LoopText → (end : Place) → StmtText
    -- `assert(claim)`
    assertion : (word left : Place) → ExprText → (right : Place) → StmtText
    -- `Deduce(steps)`
    deduction : (word left : Place) → StepsText → (right : Place) → StmtText

  -- `if (test) { then } otherwise`
  pub data IfText : Type 0 where
    if_then : TestText → BlockText → ElseText → IfText

  pub data ElseText : Type 0 where
    no_else : ElseText
    else_block : (word : Place) → BlockText → ElseText
    else_if : (word : Place) → IfText → ElseText

  -- `{ statements }`
  pub data BlockText : Type 0 where
    block : (begin : Place) → StmtsText → (end : Place) → BlockText

  -- statements, each ended by a newline, but for the last, where it may be missing
  pub data StmtsText : Type 0 where
    no_stmts : StmtsText
    last_stmt : StmtText → StmtsText
    stmt_then : StmtText → (newline : Place) → StmtsText → StmtsText

  -- what stands behind an invariant: nothing, or a newline and statements
  pub data LoopText : Type 0 where
    no_body : LoopText
    body : (newline : Place) → StmtsText → LoopText

abbrev mutual
  pub stmt_tokens : StmtText → List Tok
  stmt_tokens (value fixed word n ty equals e) =
      sign (value_word fixed) word ∷ name_token n ∷ optional typed_tokens ty ++ sign kind.Equals equals ∷ expr_tokens e
  stmt_tokens (assignment n equals e) = name_token n ∷ sign kind.Equals equals ∷ expr_tokens e
  stmt_tokens (call n left arguments right) = name_token n ∷ sign kind.LeftParen left ∷ exprs_tokens arguments ++ sign kind.RightParen right ∷ []
  stmt_tokens (branch text) = if_tokens text
  stmt_tokens (loop test begin invariant text end) =
      test_tokens kind.While test ++ sign kind.LeftBrace begin ∷ invariant_tokens invariant ++ loop_tokens text ++ sign kind.RightBrace end ∷ []
  stmt_tokens (assertion word left claim right) = sign kind.Assert word ∷ sign kind.LeftParen left ∷ expr_tokens claim ++ sign kind.RightParen right ∷ []
  stmt_tokens (deduction word left steps right) = sign kind.Deduce word ∷ sign kind.LeftParen left ∷ steps_tokens steps ++ sign kind.RightParen right ∷ []

  pub if_tokens : IfText → List Tok
  if_tokens (if_then test then otherwise) = test_tokens kind.If test ++ block_tokens then ++ else_tokens otherwise

  pub else_tokens : ElseText → List Tok
  else_tokens no_else = []
  else_tokens (else_block word text) = sign kind.Else word ∷ block_tokens text
  else_tokens (else_if word text) = sign kind.Else word ∷ if_tokens text

  pub block_tokens : BlockText → List Tok
  block_tokens (block begin stmts end) = sign kind.LeftBrace begin ∷ stmts_tokens stmts ++ sign kind.RightBrace end ∷ []

  pub stmts_tokens : StmtsText → List Tok
  stmts_tokens no_stmts = []
  stmts_tokens (last_stmt stmt) = stmt_tokens stmt
  stmts_tokens (stmt_then stmt newline more) = stmt_tokens stmt ++ sign kind.Newline newline ∷ stmts_tokens more

  pub loop_tokens : LoopText → List Tok
  loop_tokens no_body = []
  loop_tokens (body newline stmts) = sign kind.Newline newline ∷ stmts_tokens stmts

abbrev mutual
  pub IsStmt : StmtText → Type 0
  IsStmt (value fixed word n ty equals e) = IsPlain n × IfWritten IsTyped ty × IsGrouped e
  IsStmt (assignment n equals e) = IsPlain n × IsGrouped e
  IsStmt (call n left arguments right) = IsPlain n × AreGrouped arguments
  IsStmt (branch text) = IsIf text
  IsStmt (loop test begin invariant text end) = IsGrouped test.test × IsInvariant invariant × IsLoop text
  IsStmt (assertion word left claim right) = IsGrouped claim
  IsStmt (deduction word left steps right) = HasStep steps × AreSteps steps

  pub IsIf : IfText → Type 0
  IsIf (if_then test then otherwise) = IsGrouped test.test × IsBlock then × IsElse otherwise

  pub IsElse : ElseText → Type 0
  IsElse no_else = Unit {0}
  IsElse (else_block word text) = IsBlock text
  IsElse (else_if word text) = IsIf text

  pub IsBlock : BlockText → Type 0
  IsBlock (block begin stmts end) = AreStmts stmts

  pub AreStmts : StmtsText → Type 0
  AreStmts no_stmts = Unit {0}
  AreStmts (last_stmt stmt) = IsStmt stmt
  AreStmts (stmt_then stmt newline more) = IsStmt stmt × AreStmts more

  pub IsLoop : LoopText → Type 0
  IsLoop no_body = Unit {0}
  IsLoop (body newline stmts) = AreStmts stmts

abbrev pub value_tree : Bool → Place → Name → Option TypeTree → ExprTree → StmtTree
value_tree true word n ty e = tree.val word n ty e
value_tree false word n ty e = tree.var word n ty e

-- The place of a statement is that of its word. An `if` right behind `else` is the one statement of that part.
abbrev mutual
  pub stmt_tree : StmtText → StmtTree
  stmt_tree (value fixed word n ty equals e) = value_tree fixed word n (option_map typed_tree ty) (expr_tree e)
  stmt_tree (assignment n equals e) = tree.assignment n (expr_tree e)
  stmt_tree (call n left arguments right) = tree.call n (exprs_tree arguments)
  stmt_tree (branch text) = if_tree text
  stmt_tree (loop test begin invariant text end) =
      tree.loop test.word (expr_tree test.test) (members invariant.names.names) (claims_behind_trees invariant.claims) (loop_tree text)
  stmt_tree (assertion word left claim right) = tree.assertion word (expr_tree claim)
  stmt_tree (deduction word left steps right) = tree.deduction word (steps_tree steps)

  pub if_tree : IfText → StmtTree
  if_tree (if_then test then otherwise) = tree.branch test.word (expr_tree test.test) (block_tree then) (else_tree otherwise)

  pub else_tree : ElseText → ElseTree
  else_tree no_else = tree.no_else
  else_tree (else_block word text) = tree.else_then (block_tree text)
  else_tree (else_if word text) = tree.else_then (tree.stmt_then (if_tree text) tree.no_stmts)

  pub block_tree : BlockText → StmtTrees
  block_tree (block begin stmts end) = stmts_tree stmts

  pub stmts_tree : StmtsText → StmtTrees
  stmts_tree no_stmts = tree.no_stmts
  stmts_tree (last_stmt stmt) = tree.stmt_then (stmt_tree stmt) tree.no_stmts
  stmts_tree (stmt_then stmt newline more) = tree.stmt_then (stmt_tree stmt) (stmts_tree more)

  pub loop_tree : LoopText → StmtTrees
  loop_tree no_body = tree.no_stmts
  loop_tree (body newline stmts) = stmts_tree stmts
