-- Statements and steps of a text whose names are read have sound trees.
use Rattle.std.proofs.Common.{◌^◌, nat_lt, inl, inr, true, false, Bool, List, [], ◌∷◌, ◌++◌, map, Option, Some, None, refl, ltb-true}
use Rattle.std.specs.Option.{option_map}
use Rattle.std.specs.List.{AllByRecursion}
use Rattle.std.proofs.lemmas.Bool.{and_parts}
use Rattle.slang_lexer.specs.declared.token.TokenKind.{TokenKind}
use Rattle.slang_lexer.specs.declared.token.TokenKind.TheVariants as kind
use Rattle.slang_lexer.specs.Next.{value_of}
use Rattle.slang_tree.specs.declared.place.Place.{Place}
use Rattle.slang_tree.specs.declared.expression.Name.{Name}
use Rattle.slang_tree.specs.TypeTree.{TypeTree}
use Rattle.slang_tree.specs.ExprTree.{ExprTree}
use Rattle.slang_tokens.specs.Tok.{sign}
use Rattle.slang_grammar.specs.Parts.{members, optional, names_tokens, typed_tokens, typed_tree, LabelText, IsLabel, label_tree, is_numeral}
use Rattle.slang_grammar.specs.Expressions.{expr_tokens, exprs_tokens, expr_tree}
use Rattle.slang_grammar.specs.Proofs.{RuleText, rule_name, subst_less, subst_greater, rule_token, rule_tree, CitesText, cites_tokens, AreCites, cites_tree, cited, IsAssume, AssumeText, assume_tokens, let_tokens, StepText, line, block, let_block, BehindText, nothing_behind, behind, StepsText, no_steps, last_step, step_then, step_tokens, behind_tokens, steps_tokens, IsStep, AreBehind, AreSteps, step_tree, behind_tree, steps_tree}
use Rattle.slang_grammar.specs.Parts.{IfWritten}
use Rattle.slang_grammar.specs.Statements.{TestText, test_tokens, ClaimsBehind, no_claims, claims_behind, claims_behind_tokens, AreClaimsBehind, claims_behind_trees, invariant_tokens, StmtText, value, assignment, call, branch, loop, assertion, deduction, IfText, if_then, ElseText, no_else, else_block, else_if, BlockText, StmtsText, no_stmts, last_stmt, stmt_then, LoopText, no_body, body, stmt_tokens, if_tokens, else_tokens, block_tokens, stmts_tokens, loop_tokens, IsStmt, IsIf, IsElse, IsBlock, AreStmts, IsLoop, value_tree, stmt_tree, if_tree, else_tree, block_tree, stmts_tree, loop_tree}
use Rattle.slang_grammar.specs.Statements as s
use Rattle.sound_trees.specs.Sound.{IsNamed, IfSound, SoundExpr, SoundLabel, SoundRule, SoundStep, SoundSteps, SoundStmt, SoundStmts, SoundElse}
use Rattle.sound_trees.specs.Laws.{IsRead, AreRead}
use Rattle.sound_trees.proofs.Expressions.{halves, sound_names, if_typed, sound_expr, sound_exprs, sound_list}

-- ---- steps

sound_label : (l : LabelText) → IsLabel l → SoundLabel (label_tree l)
sound_label l h = ltb-true (value_of l.digits) (2 ^ 32) (and_parts (is_numeral l.digits) (nat_lt (value_of l.digits) (2 ^ 32)) h).1

sound_labels : (labels : List LabelText) → AllByRecursion IsLabel labels → AllByRecursion SoundLabel (map label_tree labels)
sound_labels [] h = tt
sound_labels (l ∷ labels) h = (sound_label l h.0, sound_labels labels h.1)

sound_cites : (cites : Option CitesText) → IfWritten AreCites cites → AllByRecursion SoundLabel (cited cites_tree cites)
sound_cites None h = tt
sound_cites (Some c) h = sound_labels (members c.labels) h.1

sound_rule : (rule : RuleText) → IsRead (rule_token rule) → SoundRule (rule_tree rule)
sound_rule (rule_name n) h = inl (h refl)
sound_rule (subst_less place) h = inr (inl refl)
sound_rule (subst_greater place) h = inr (inr refl)

sound_assume : (a : AssumeText) → IsAssume a → AreRead (assume_tokens a) → SoundExpr (expr_tree a.claim)
sound_assume a g h = sound_expr a.claim g.1 (halves (expr_tokens a.claim) (sign kind.RightParen a.claim_right ∷ []) h.1.1.1.1.1).0

mutual
  sound_step : (step : StepText) → IsStep step → AreRead (step_tokens step) → SoundStep (step_tree step)
  sound_step (line label left claim right by rule cites) g h =
      let s = halves (expr_tokens claim) (sign kind.RightParen right ∷ sign kind.By by ∷ rule_token rule ∷ optional cites_tokens cites) h.1.1 in
      (sound_label label g.0, sound_expr claim g.1 s.0, sound_rule rule s.1.1.1.0, sound_cites cites g.3)
  sound_step (block label assume more right) g h =
      let o = halves (assume_tokens assume ++ behind_tokens more) (sign kind.RightParen right ∷ []) h.1 in
      let s = halves (assume_tokens assume) (behind_tokens more) o.0 in
      (sound_label label g.0, sound_label assume.label g.1.0, sound_assume assume g.1 s.0, sound_behind more g.2 s.1)
  sound_step (let_block label l assume more right outer) g h =
      let o = halves (let_tokens l ++ assume_tokens assume ++ behind_tokens more) (sign kind.RightParen right ∷ sign kind.RightParen outer ∷ []) h.1 in
      let q = halves (let_tokens l ++ assume_tokens assume) (behind_tokens more) o.0 in
      let s = halves (let_tokens l) (assume_tokens assume) q.0 in
      (sound_label label g.0, s.0.1.1.1.0 refl, sound_label assume.label g.2.0, sound_assume assume g.2 s.1, sound_behind more g.3 q.1)

  sound_behind : (more : BehindText) → AreBehind more → AreRead (behind_tokens more) → SoundSteps (behind_tree more)
  sound_behind nothing_behind g h = tt
  sound_behind (behind comma steps) g h = sound_steps steps g h.1

  sound_steps : (steps : StepsText) → AreSteps steps → AreRead (steps_tokens steps) → SoundSteps (steps_tree steps)
  sound_steps no_steps g h = tt
  sound_steps (last_step step) g h = (sound_step step g h, tt)
  sound_steps (step_then step comma more) g h =
      let s = halves (step_tokens step) (sign kind.Comma comma ∷ steps_tokens more) h in
      (sound_step step g.0 s.0, sound_steps more g.1 s.1.1)

-- ---- statements

sound_value : (fixed : Bool) (place : Place) (n : Name) (ty : Option TypeTree) (e : ExprTree) → IsNamed n → IfSound ty → SoundExpr e
    → SoundStmt (value_tree fixed place n ty e)
sound_value true place n ty e h k l = (h, k, l)
sound_value false place n ty e h k l = (h, k, l)

sound_claims_behind : (c : ClaimsBehind) → AreClaimsBehind c → AreRead (claims_behind_tokens c) → AllByRecursion SoundExpr (claims_behind_trees c)
sound_claims_behind no_claims g h = tt
sound_claims_behind (claims_behind comma claims) g h = sound_list claims g h.1

test_part : (k : TokenKind) (t : TestText) → AreRead (test_tokens k t) → AreRead (expr_tokens t.test)
test_part k t h = (halves (expr_tokens t.test) (sign kind.RightParen t.right ∷ []) h.1.1).0

mutual
  pub sound_stmt : (stmt : StmtText) → IsStmt stmt → AreRead (stmt_tokens stmt) → SoundStmt (stmt_tree stmt)
  sound_stmt (value fixed word n ty equals e) g h =
      let s = halves (optional typed_tokens ty) (sign kind.Equals equals ∷ expr_tokens e) h.1.1 in
      sound_value fixed word n (option_map typed_tree ty) (expr_tree e) (h.1.0 refl) (if_typed ty s.0) (sound_expr e g.2 s.1.1)
  sound_stmt (assignment n equals e) g h = (h.0 refl, sound_expr e g.1 h.1.1)
  sound_stmt (call n left arguments right) g h =
      (h.0 refl, sound_exprs arguments g.1 (halves (exprs_tokens arguments) (sign kind.RightParen right ∷ []) h.1.1).0)
  sound_stmt (branch text) g h = sound_if text g h
  sound_stmt (loop test begin invariant text end) g h =
      let o = halves (test_tokens kind.While test ++ sign kind.LeftBrace begin ∷ invariant_tokens invariant ++ loop_tokens text)
      (sign kind.RightBrace end ∷ []) h in
      let q = halves (test_tokens kind.While test ++ sign kind.LeftBrace begin ∷ invariant_tokens invariant) (loop_tokens text) o.0 in
      let s = halves (test_tokens kind.While test) (sign kind.LeftBrace begin ∷ invariant_tokens invariant) q.0 in
      let c = halves (names_tokens invariant.names ++ claims_behind_tokens invariant.claims) (sign kind.RightParen invariant.right ∷ []) s.1.1.1.1.1 in
      let n = halves (names_tokens invariant.names) (claims_behind_tokens invariant.claims) c.0 in (
        sound_expr test.test g.0 (test_part kind.While test s.0),
        sound_names invariant.names n.0,
        sound_claims_behind invariant.claims g.1.1 n.1,
        sound_loop text g.2 q.1,
      )
  sound_stmt (assertion word left claim right) g h = sound_expr claim g (halves (expr_tokens claim) (sign kind.RightParen right ∷ []) h.1.1).0
  sound_stmt (deduction word left steps right) g h = sound_steps steps g.1 (halves (steps_tokens steps) (sign kind.RightParen right ∷ []) h.1.1).0

  sound_if : (text : IfText) → IsIf text → AreRead (if_tokens text) → SoundStmt (if_tree text)
  sound_if (if_then test then otherwise) g h =
      let o = halves (test_tokens kind.If test ++ block_tokens then) (else_tokens otherwise) h in
      let q = halves (test_tokens kind.If test) (block_tokens then) o.0 in
      (sound_expr test.test g.0 (test_part kind.If test q.0), sound_block then g.1 q.1, sound_else otherwise g.2 o.1)

  sound_else : (text : ElseText) → IsElse text → AreRead (else_tokens text) → SoundElse (else_tree text)
  sound_else no_else g h = tt
  sound_else (else_block word text) g h = sound_block text g h.1
  sound_else (else_if word text) g h = (sound_if text g h.1, tt)

  sound_block : (text : BlockText) → IsBlock text → AreRead (block_tokens text) → SoundStmts (block_tree text)
  sound_block (s.block begin stmts end) g h = sound_stmts stmts g (halves (stmts_tokens stmts) (sign kind.RightBrace end ∷ []) h.1).0

  sound_stmts : (stmts : StmtsText) → AreStmts stmts → AreRead (stmts_tokens stmts) → SoundStmts (stmts_tree stmts)
  sound_stmts no_stmts g h = tt
  sound_stmts (last_stmt stmt) g h = (sound_stmt stmt g h, tt)
  sound_stmts (stmt_then stmt newline more) g h =
      let p = halves (stmt_tokens stmt) (sign kind.Newline newline ∷ stmts_tokens more) h in
      (sound_stmt stmt g.0 p.0, sound_stmts more g.1 p.1.1)

  sound_loop : (text : LoopText) → IsLoop text → AreRead (loop_tokens text) → SoundStmts (loop_tree text)
  sound_loop no_body g h = tt
  sound_loop (body newline stmts) g h = sound_stmts stmts g h.1
