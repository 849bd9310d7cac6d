-- How statements and proofs are laid out, inside so many levels, with the gap in front of the first token.
use Rattle.std.specs.Prelude.{ℕ, suc, List, [], ◌∷◌, ◌++◌, Option, Some, None}
use Rattle.slang_lexer.specs.declared.token.TokenKind.{TokenKind}
use Rattle.slang_lexer.specs.declared.token.TokenKind.TheVariants as kind
use Rattle.slang_grammar.specs.Parts.{name_token, label_token}
use Rattle.slang_grammar.specs.Proofs.{rule_token, CitesText, AssumeText, LetText, StepText, line, block, let_block, BehindText, nothing_behind, behind, StepsText, no_steps, last_step, step_then}
use Rattle.slang_grammar.specs.Statements.{value_word, TestText, ClaimsBehind, no_claims, claims_behind, InvariantText, StmtText, value, assignment, call, branch, loop, assertion, deduction, IfText, if_then, ElseText, no_else, else_block, else_if, BlockText, StmtsText, no_stmts, last_stmt, stmt_then, LoopText, no_body, body}
use Rattle.slang_grammar.specs.Statements as s
use Rattle.print_layout.specs.Pieces.{Gap, none, blank, indent, Piece, piece, mark, listed_pieces, gap_before}
use Rattle.print_layout.specs.Pieces as pieces
use Rattle.print_layout.specs.Expressions.{names_pieces, optional_typed, expr_pieces, exprs_pieces}

-- ---- proofs

abbrev pub cites_pieces : Option CitesText → List Piece
cites_pieces None = []
cites_pieces (Some c) =
    mark none kind.LeftParen c.left ∷ listed_pieces kind.Comma (λ before l. piece (gap_before none blank before) (label_token l) ∷ []) None c.labels.front c.labels.last
    ++ mark none kind.RightParen c.right ∷ []

-- the assumption stands on a line of its own
abbrev pub assume_pieces : ℕ → Gap → AssumeText → List Piece
assume_pieces depth gap a =
    mark gap kind.SubProof a.word ∷ mark none kind.LeftParen a.left ∷ piece (pieces.line (suc depth)) (label_token a.label) ∷ mark blank kind.Assume a.assume
    ∷ mark none kind.LeftParen a.claim_left ∷ expr_pieces none a.claim ++ mark none kind.RightParen a.claim_right ∷ []

abbrev pub let_pieces : LetText → List Piece
let_pieces l =
    mark blank kind.Let l.word ∷ mark none kind.LeftParen l.outer ∷ mark none kind.LeftParen l.left ∷ piece none (name_token l.variable)
    ∷ mark none kind.Colon l.colon ∷ mark blank kind.TypeZ l.ty ∷ mark none kind.RightParen l.right ∷ mark blank kind.FatArrow l.arrow ∷ []

abbrev mutual
  -- each step begins a line
  pub step_pieces : ℕ → StepText → List Piece
  step_pieces depth (line label left claim right by rule cites) =
      piece (pieces.line depth) (label_token label) ∷ mark blank kind.LeftParen left ∷ expr_pieces none claim ++ mark none kind.RightParen right
      ∷ mark blank kind.By by ∷ piece blank (rule_token rule) ∷ cites_pieces cites
  step_pieces depth (block label assume more right) =
      piece (pieces.line depth) (label_token label) ∷ assume_pieces depth blank assume ++ behind_pieces (suc depth) more
      ++ mark (pieces.line depth) kind.RightParen right ∷ []
  step_pieces depth (let_block label l assume more right outer) =
      piece (pieces.line depth) (label_token label) ∷ let_pieces l ++ assume_pieces depth blank assume ++ behind_pieces (suc depth) more
      ++ mark (pieces.line depth) kind.RightParen right ∷ mark none kind.RightParen outer ∷ []

  pub behind_pieces : ℕ → BehindText → List Piece
  behind_pieces depth nothing_behind = []
  behind_pieces depth (behind comma steps) = mark none kind.Comma comma ∷ steps_pieces depth steps

  pub steps_pieces : ℕ → StepsText → List Piece
  steps_pieces depth no_steps = []
  steps_pieces depth (last_step step) = step_pieces depth step
  steps_pieces depth (step_then step comma more) = step_pieces depth step ++ mark none kind.Comma comma ∷ steps_pieces depth more

-- ---- statements

abbrev pub test_pieces : Gap → TokenKind → TestText → List Piece
test_pieces gap k t = mark gap k t.word ∷ mark blank kind.LeftParen t.left ∷ expr_pieces none t.test ++ mark none kind.RightParen t.right ∷ []

abbrev pub claims_behind_pieces : ℕ → ClaimsBehind → List Piece
claims_behind_pieces depth no_claims = []
claims_behind_pieces depth (claims_behind comma claims) =
    mark none kind.Comma comma ∷ exprs_pieces (pieces.line depth) (pieces.line depth) claims

-- what is modified and each claim stand on lines of their own
abbrev pub invariant_pieces : ℕ → InvariantText → List Piece
invariant_pieces depth i =
    mark (pieces.line depth) kind.Invariant i.word ∷ mark none kind.LeftParen i.left ∷ mark (pieces.line (suc depth)) kind.Modifies i.modifies
    ∷ names_pieces none i.names ++ claims_behind_pieces (suc depth) i.claims ++ mark (pieces.line depth) kind.RightParen i.right ∷ []

abbrev mutual
  pub stmt_pieces : ℕ → Gap → StmtText → List Piece
  stmt_pieces depth gap (value fixed word n ty equals e) =
      mark gap (value_word fixed) word ∷ piece blank (name_token n) ∷ optional_typed ty ++ mark blank kind.Equals equals ∷ expr_pieces blank e
  stmt_pieces depth gap (assignment n equals e) = piece gap (name_token n) ∷ mark blank kind.Equals equals ∷ expr_pieces blank e
  stmt_pieces depth gap (call n left arguments right) =
      piece gap (name_token n) ∷ mark none kind.LeftParen left ∷ exprs_pieces none blank arguments ++ mark none kind.RightParen right ∷ []
  stmt_pieces depth gap (branch text) = if_pieces depth gap text
  stmt_pieces depth gap (loop test begin invariant text end) =
      test_pieces gap kind.While test ++ mark blank kind.LeftBrace begin ∷ invariant_pieces (suc depth) invariant ++ loop_pieces (suc depth) text
      ++ mark (pieces.line depth) kind.RightBrace end ∷ []
  stmt_pieces depth gap (assertion word left claim right) =
      mark gap kind.Assert word ∷ mark none kind.LeftParen left ∷ expr_pieces none claim ++ mark none kind.RightParen right ∷ []
  stmt_pieces depth gap (deduction word left steps right) =
      mark gap kind.Deduce word ∷ mark none kind.LeftParen left ∷ steps_pieces (suc depth) steps ++ mark (pieces.line depth) kind.RightParen right ∷ []

  pub if_pieces : ℕ → Gap → IfText → List Piece
  if_pieces depth gap (if_then test then otherwise) = test_pieces gap kind.If test ++ block_pieces depth then ++ else_pieces depth otherwise

  pub else_pieces : ℕ → ElseText → List Piece
  else_pieces depth no_else = []
  else_pieces depth (else_block word text) = mark blank kind.Else word ∷ block_pieces depth text
  else_pieces depth (else_if word text) = mark blank kind.Else word ∷ if_pieces depth blank text

  pub block_pieces : ℕ → BlockText → List Piece
  block_pieces depth (s.block begin stmts end) =
      mark blank kind.LeftBrace begin ∷ stmts_pieces (suc depth) (pieces.line (suc depth)) stmts ++ mark (pieces.line depth) kind.RightBrace end ∷ []

  pub stmts_pieces : ℕ → Gap → StmtsText → List Piece
  stmts_pieces depth gap no_stmts = []
  stmts_pieces depth gap (last_stmt stmt) = stmt_pieces depth gap stmt
  stmts_pieces depth gap (stmt_then stmt newline more) =
      stmt_pieces depth gap stmt ++ mark none kind.Newline newline ∷ stmts_pieces depth (indent depth) more

  pub loop_pieces : ℕ → LoopText → List Piece
  loop_pieces depth no_body = []
  loop_pieces depth (body newline stmts) = mark none kind.Newline newline ∷ stmts_pieces depth (indent depth) stmts
