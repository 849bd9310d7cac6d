-- The tokens of statements and proofs that are laid out.
use Rattle.std.proofs.Common.{ℕ, suc, [], ◌∷◌, Option, Some, None}
use Rattle.slang_lexer.specs.declared.token.TokenKind.{TokenKind}
use Rattle.slang_lexer.specs.declared.token.TokenKind.TheVariants as kind
use Rattle.slang_grammar.specs.Parts.{optional, name_token, label_token}
use Rattle.slang_grammar.specs.Proofs.{rule_token, CitesText, one_label, cites_tokens, AssumeText, assume_tokens, LetText, let_tokens, StepText, line, block, let_block, BehindText, nothing_behind, behind, StepsText, no_steps, last_step, step_then, step_tokens, behind_tokens, steps_tokens}
use Rattle.slang_grammar.specs.Statements.{value_word, TestText, test_tokens, ClaimsBehind, no_claims, claims_behind, claims_behind_tokens, InvariantText, invariant_tokens, StmtText, value, assignment, call, branch, loop, assertion, deduction, IfText, if_then, ElseText, no_else, else_block, else_if, BlockText, StmtsText, no_stmts, last_stmt, stmt_then, LoopText, no_body, body, stmt_tokens, if_tokens, else_tokens, block_tokens, stmts_tokens, loop_tokens}
use Rattle.slang_grammar.specs.Statements as s
use Rattle.print_layout.specs.Pieces.{Gap, none, blank, indent, piece, gap_before}
use Rattle.print_layout.specs.Pieces as pieces
use Rattle.print_layout.specs.Statements.{cites_pieces, assume_pieces, let_pieces, step_pieces, behind_pieces, steps_pieces, test_pieces, claims_behind_pieces, invariant_pieces, stmt_pieces, if_pieces, else_pieces, block_pieces, stmts_pieces, loop_pieces}
use Rattle.print_layout.proofs.Spells.{Spells, joined, over, begins, signed, listed-spells}
use Rattle.print_layout.proofs.Expressions.{names-spell, optional_typed-spells, expr-spells, exprs-spell}

-- ---- proofs

cites-spell : (c : Option CitesText) → Spells (cites_pieces c) (optional cites_tokens c)
cites-spell None = over
cites-spell (Some c) =
    joined
    (signed none kind.LeftParen c.left
    (listed-spells kind.Comma (λ before l. piece (gap_before none blank before) (label_token l) ∷ []) one_label
    (λ before l. begins (gap_before none blank before) (label_token l) over) None c.labels.front c.labels.last))
    (signed none kind.RightParen c.right over)

assume-spells : (depth : ℕ) (gap : Gap) (a : AssumeText) → Spells (assume_pieces depth gap a) (assume_tokens a)
assume-spells depth gap a =
    joined
    (signed gap kind.SubProof a.word (signed none kind.LeftParen a.left (begins (pieces.line (suc depth)) (label_token a.label)
    (signed blank kind.Assume a.assume (signed none kind.LeftParen a.claim_left (expr-spells none a.claim))))))
    (signed none kind.RightParen a.claim_right over)

let-spells : (l : LetText) → Spells (let_pieces l) (let_tokens l)
let-spells l =
    signed blank kind.Let l.word (signed none kind.LeftParen l.outer (signed none kind.LeftParen l.left (begins none (name_token l.variable)
    (signed none kind.Colon l.colon (signed blank kind.TypeZ l.ty (signed none kind.RightParen l.right (signed blank kind.FatArrow l.arrow over)))))))

mutual
  step-spells : (depth : ℕ) (text : StepText) → Spells (step_pieces depth text) (step_tokens text)
  step-spells depth (line label left claim right by rule cites) =
      joined (begins (pieces.line depth) (label_token label) (signed blank kind.LeftParen left (expr-spells none claim)))
      (signed none kind.RightParen right (signed blank kind.By by (begins blank (rule_token rule) (cites-spell cites))))
  step-spells depth (block label assume more right) =
      joined (joined (begins (pieces.line depth) (label_token label) (assume-spells depth blank assume)) (behind-spells (suc depth) more))
      (signed (pieces.line depth) kind.RightParen right over)
  step-spells depth (let_block label l assume more right outer) =
      joined
      (joined (joined (begins (pieces.line depth) (label_token label) (let-spells l)) (assume-spells depth blank assume)) (behind-spells (suc depth) more))
      (signed (pieces.line depth) kind.RightParen right (signed none kind.RightParen outer over))

  behind-spells : (depth : ℕ) (more : BehindText) → Spells (behind_pieces depth more) (behind_tokens more)
  behind-spells depth nothing_behind = over
  behind-spells depth (behind comma steps) = signed none kind.Comma comma (steps-spell depth steps)

  steps-spell : (depth : ℕ) (texts : StepsText) → Spells (steps_pieces depth texts) (steps_tokens texts)
  steps-spell depth no_steps = over
  steps-spell depth (last_step text) = step-spells depth text
  steps-spell depth (step_then text comma more) = joined (step-spells depth text) (signed none kind.Comma comma (steps-spell depth more))

-- ---- statements

test-spells : (gap : Gap) (k : TokenKind) (t : TestText) → Spells (test_pieces gap k t) (test_tokens k t)
test-spells gap k t =
    joined (signed gap k t.word (signed blank kind.LeftParen t.left (expr-spells none t.test))) (signed none kind.RightParen t.right over)

claims_behind-spell : (depth : ℕ) (claims : ClaimsBehind) → Spells (claims_behind_pieces depth claims) (claims_behind_tokens claims)
claims_behind-spell depth no_claims = over
claims_behind-spell depth (claims_behind comma claims) = signed none kind.Comma comma (exprs-spell (pieces.line depth) (pieces.line depth) claims)

invariant-spells : (depth : ℕ) (i : InvariantText) → Spells (invariant_pieces depth i) (invariant_tokens i)
invariant-spells depth i =
    joined
    (joined
    (signed (pieces.line depth) kind.Invariant i.word (signed none kind.LeftParen i.left (signed (pieces.line (suc depth)) kind.Modifies i.modifies (names-spell none i.names))))
    (claims_behind-spell (suc depth) i.claims))
    (signed (pieces.line depth) kind.RightParen i.right over)

mutual
  pub stmt-spells : (depth : ℕ) (gap : Gap) (text : StmtText) → Spells (stmt_pieces depth gap text) (stmt_tokens text)
  stmt-spells depth gap (value fixed word n ty equals e) =
      joined (signed gap (value_word fixed) word (begins blank (name_token n) (optional_typed-spells ty))) (signed blank kind.Equals equals (expr-spells blank e))
  stmt-spells depth gap (assignment n equals e) = begins gap (name_token n) (signed blank kind.Equals equals (expr-spells blank e))
  stmt-spells depth gap (call n left arguments right) =
      joined (begins gap (name_token n) (signed none kind.LeftParen left (exprs-spell none blank arguments))) (signed none kind.RightParen right over)
  stmt-spells depth gap (branch text) = if-spells depth gap text
  stmt-spells depth gap (loop test begin invariant text end) =
      joined
      (joined (joined (test-spells gap kind.While test) (signed blank kind.LeftBrace begin (invariant-spells (suc depth) invariant))) (loop-spells (suc depth) text))
      (signed (pieces.line depth) kind.RightBrace end over)
  stmt-spells depth gap (assertion word left claim right) =
      joined (signed gap kind.Assert word (signed none kind.LeftParen left (expr-spells none claim))) (signed none kind.RightParen right over)
  stmt-spells depth gap (deduction word left steps right) =
      joined (signed gap kind.Deduce word (signed none kind.LeftParen left (steps-spell (suc depth) steps))) (signed (pieces.line depth) kind.RightParen right over)

  if-spells : (depth : ℕ) (gap : Gap) (text : IfText) → Spells (if_pieces depth gap text) (if_tokens text)
  if-spells depth gap (if_then test then otherwise) = joined (joined (test-spells gap kind.If test) (block-spells depth then)) (else-spells depth otherwise)

  else-spells : (depth : ℕ) (text : ElseText) → Spells (else_pieces depth text) (else_tokens text)
  else-spells depth no_else = over
  else-spells depth (else_block word text) = signed blank kind.Else word (block-spells depth text)
  else-spells depth (else_if word text) = signed blank kind.Else word (if-spells depth blank text)

  block-spells : (depth : ℕ) (text : BlockText) → Spells (block_pieces depth text) (block_tokens text)
  block-spells depth (s.block begin stmts end) =
      joined (signed blank kind.LeftBrace begin (stmts-spell (suc depth) (pieces.line (suc depth)) stmts)) (signed (pieces.line depth) kind.RightBrace end over)

  stmts-spell : (depth : ℕ) (gap : Gap) (texts : StmtsText) → Spells (stmts_pieces depth gap texts) (stmts_tokens texts)
  stmts-spell depth gap no_stmts = over
  stmts-spell depth gap (last_stmt text) = stmt-spells depth gap text
  stmts-spell depth gap (stmt_then text newline more) =
      joined (stmt-spells depth gap text) (signed none kind.Newline newline (stmts-spell depth (indent depth) more))

  loop-spells : (depth : ℕ) (text : LoopText) → Spells (loop_pieces depth text) (loop_tokens text)
  loop-spells depth no_body = over
  loop-spells depth (body newline stmts) = signed none kind.Newline newline (stmts-spell depth (indent depth) stmts)
