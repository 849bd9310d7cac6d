-- What is printed lightly of a statement adds no more than the statement.
use Rattle.std.proofs.Common.{◌≡◌, ◌+◌, ◌<◌, ◌≤◌, max, true, false, List, [], ◌∷◌, Option, Some, None, refl, sym, ap, subst, arith}
use Rattle.std.specs.Option.{option_map}
use Rattle.slang_tree.specs.declared.statement.Label.{Label}
use Rattle.slang_tree.specs.ExprTree.{ExprTree, exprs_of}
use Rattle.slang_tree.specs.StmtTree as t
use Rattle.slang_tree.specs.StmtTree.{StepTree, StepTrees, StmtTree, StmtTrees, ElseTree}
use Rattle.slang_grammar.specs.Parts.{TypeText, z_type, b_type, unit_type, sequence_type, record_type, type_tree, TypedText, typed_tree, ElementText}
use Rattle.slang_grammar.specs.Parts.{element_tree}
use Rattle.slang_grammar.specs.Expressions.{ExprsText, expr_trees, AreGrouped}
use Rattle.slang_grammar.specs.Proofs.{CitesText, cites_tree, cited, StepText, line, block, let_block, BehindText, nothing_behind, behind, StepsText}
use Rattle.slang_grammar.specs.Proofs.{no_steps, last_step, step_then, IsStep, AreBehind, AreSteps, step_tree, behind_tree, steps_tree}
use Rattle.slang_grammar.specs.Statements.{ClaimsBehind, no_claims, claims_behind, claims_behind_trees, AreClaimsBehind, InvariantText, IsInvariant, StmtText}
use Rattle.slang_grammar.specs.Statements.{value, assignment, call, branch, loop, assertion, deduction, IfText, if_then, ElseText, no_else, else_block}
use Rattle.slang_grammar.specs.Statements.{else_if, BlockText, StmtsText, no_stmts, last_stmt, stmt_then, LoopText, no_body, body, IsStmt, IsIf, IsElse}
use Rattle.slang_grammar.specs.Statements.{IsBlock, AreStmts, IsLoop, stmt_tree, if_tree, else_tree, block_tree, stmts_tree, loop_tree}
use Rattle.slang_grammar.specs.Statements as s
use Rattle.print_expressions.specs.Hefts.{around, type_heft, element_heft, peak_of, heavy}
use Rattle.print_expressions.specs.Accounts.{type_account, element_account, exprs_account}
use Rattle.print_statements.specs.Accounts.{typed_account, cites_account, as_behind, step_account, steps_account, claims_account, as_else, as_body}
use Rattle.print_statements.specs.Accounts.{stmt_account, stmts_account, else_account}
use Rattle.print_statements.proofs.Lists.{trees_of_list}
use Rattle.light_expressions.proofs.Lightest.{expressions_are_lightest, expression_lists_are_lightest}
use Rattle.light_files.specs.Hefts.{written_heft, typed_heft, cites_heft, step_heft, behind_peak, steps_peak, claims_peak, stmt_heft, if_heft, else_heft}
use Rattle.light_files.specs.Hefts.{stmts_peak, loop_peak}

-- ---- types

pub type_same : (ty : TypeText) → type_heft (type_account (type_tree ty)) ≡ type_heft ty
type_same (z_type place) = refl
type_same (b_type place) = refl
type_same (unit_type place) = refl
type_same (sequence_type word left element right) = ap (λ h. around h.peak) (type_same element)
type_same (record_type written) = refl

pub typed_same : (ty : Option TypedText) → written_heft typed_heft (option_map typed_account (option_map typed_tree ty)) ≡ written_heft typed_heft ty
typed_same None = refl
typed_same (Some t) = type_same t.ty

pub element_same : (ty : Option ElementText) → element_heft (option_map element_account (option_map element_tree ty)) ≡ element_heft ty
element_same None = refl
element_same (Some t) = ap (λ h. around h.peak) (type_same t.ty)

-- ---- lists of expressions

pub claims_lighter : (claims : ExprsText) → AreGrouped claims → peak_of claims < heavy
    → peak_of (exprs_account true (exprs_of (expr_trees claims))) ≤ peak_of claims
claims_lighter claims g p =
    subst (λ ts. peak_of (exprs_account true ts) ≤ peak_of claims) (sym (trees_of_list claims)) (expression_lists_are_lightest claims g p)

-- ---- proofs

cites_written : (labels : List Label) → (written_heft cites_heft (cites_account labels)).peak ≤ 1
cites_written [] = omega arith
cites_written (label ∷ labels) = omega arith

cites_lighter : (cites : Option CitesText) → (written_heft cites_heft (cites_account (cited cites_tree cites))).peak ≤ (written_heft cites_heft cites).peak
cites_lighter None = omega arith
cites_lighter (Some c) = cites_written (cites_tree c)

behind_is : (steps : StepsText) → behind_peak (as_behind steps) ≡ steps_peak steps
behind_is no_steps = refl
behind_is (last_step step) = refl
behind_is (step_then step comma more) = refl

steps_is : (step : StepTree) (steps : StepTrees)
    → steps_peak (steps_account true (t.step_then step steps)) ≡ max (step_heft (step_account true step)).peak (steps_peak (steps_account true steps))
steps_is step t.no_steps = omega arith
steps_is step (t.step_then next steps) = refl

mutual
  step_lighter : (step : StepText) → IsStep step → (step_heft step).peak < heavy → (step_heft (step_account true (step_tree step))).peak ≤ (step_heft step).peak
  step_lighter (line label left claim right by rule cites) g p =
      let h = expressions_are_lightest claim g.1 (omega (arith, p)) in
      let k = cites_lighter cites in
      omega (arith, h, k)
  step_lighter (block label assume more right) g p =
      let h = expressions_are_lightest assume.claim g.1.1 (omega (arith, p)) in
      let k = behind_lighter more g.2 (omega (arith, p)) in
      omega (arith, h, k)
  step_lighter (let_block label l assume more right outer) g p =
      let h = expressions_are_lightest assume.claim g.2.1 (omega (arith, p)) in
      let k = behind_lighter more g.3 (omega (arith, p)) in
      omega (arith, h, k)

  behind_lighter : (more : BehindText) → AreBehind more → behind_peak more < heavy
      → behind_peak (as_behind (steps_account true (behind_tree more))) ≤ behind_peak more
  behind_lighter nothing_behind g p = omega arith
  behind_lighter (behind comma steps) g p =
      let e = behind_is (steps_account true (steps_tree steps)) in
      let h = steps_lighter steps g p in
      omega (arith, e, h)

  steps_lighter : (steps : StepsText) → AreSteps steps → steps_peak steps < heavy → steps_peak (steps_account true (steps_tree steps)) ≤ steps_peak steps
  steps_lighter no_steps g p = omega arith
  steps_lighter (last_step step) g p = step_lighter step g p
  steps_lighter (step_then step comma more) g p =
      let e = steps_is (step_tree step) (steps_tree more) in
      let h = step_lighter step g.0 (omega (arith, p)) in
      let k = steps_lighter more g.1 (omega (arith, p)) in
      omega (arith, e, h, k)

-- ---- statements

claims_are : (claims : List ExprTree) → claims_peak (claims_account true claims) ≡ peak_of (exprs_account true (exprs_of claims))
claims_are [] = refl
claims_are (claim ∷ claims) = refl

behind_claims_lighter : (claims : ClaimsBehind) → AreClaimsBehind claims → claims_peak claims < heavy
    → claims_peak (claims_account true (claims_behind_trees claims)) ≤ claims_peak claims
behind_claims_lighter no_claims g p = omega arith
behind_claims_lighter (claims_behind comma claims) g p =
    let e = claims_are (expr_trees claims) in
    let h = claims_lighter claims g p in
    omega (arith, e, h)

-- an `if` that is all of it adds less without braces
else_lighter : (stmts : StmtsText) → (else_heft (as_else stmts)).peak ≤ stmts_peak stmts + 2
else_lighter no_stmts = omega arith
else_lighter (last_stmt (branch text)) = omega arith
else_lighter (last_stmt (value fixed word n ty equals e)) = omega arith
else_lighter (last_stmt (assignment n equals e)) = omega arith
else_lighter (last_stmt (call n left arguments right)) = omega arith
else_lighter (last_stmt (loop test begin invariant text end)) = omega arith
else_lighter (last_stmt (assertion word left claim right)) = omega arith
else_lighter (last_stmt (deduction word left steps right)) = omega arith
else_lighter (stmt_then stmt newline more) = omega arith

body_is : (stmts : StmtsText) → loop_peak (as_body stmts) ≡ stmts_peak stmts
body_is no_stmts = refl
body_is (last_stmt stmt) = refl
body_is (stmt_then stmt newline more) = refl

stmts_is : (stmt : StmtTree) (stmts : StmtTrees)
    → stmts_peak (stmts_account true (t.stmt_then stmt stmts)) ≡ max (stmt_heft (stmt_account true stmt)).peak (stmts_peak (stmts_account true stmts))
stmts_is stmt t.no_stmts = omega arith
stmts_is stmt (t.stmt_then next stmts) = refl

mutual
  pub stmt_lighter : (stmt : StmtText) → IsStmt stmt → (stmt_heft stmt).peak < heavy
      → (stmt_heft (stmt_account true (stmt_tree stmt))).peak ≤ (stmt_heft stmt).peak
  stmt_lighter (value true word n ty equals e) g p =
      let h = expressions_are_lightest e g.2 (omega (arith, p)) in
      let u = ap (λ w. w.peak) (typed_same ty) in
      let v = ap (λ w. w.count) (typed_same ty) in
      omega (arith, h, u, v)
  stmt_lighter (value false word n ty equals e) g p =
      let h = expressions_are_lightest e g.2 (omega (arith, p)) in
      let u = ap (λ w. w.peak) (typed_same ty) in
      let v = ap (λ w. w.count) (typed_same ty) in
      omega (arith, h, u, v)
  stmt_lighter (assignment n equals e) g p = expressions_are_lightest e g.1 p
  stmt_lighter (call n left arguments right) g p = let h = expression_lists_are_lightest arguments g.1 (omega (arith, p)) in omega (arith, h)
  stmt_lighter (branch text) g p = if_lighter text g p
  stmt_lighter (loop test begin invariant text end) g p =
      let h = expressions_are_lightest test.test g.0 (omega (arith, p)) in
      let k = behind_claims_lighter invariant.claims g.1.1 (omega (arith, p)) in
      let e = body_is (stmts_account true (loop_tree text)) in
      let m = loop_lighter text g.2 (omega (arith, p)) in
      omega (arith, h, k, e, m)
  stmt_lighter (assertion word left claim right) g p = let h = expressions_are_lightest claim g (omega (arith, p)) in omega (arith, h)
  stmt_lighter (deduction word left steps right) g p = let h = steps_lighter steps g.1 (omega (arith, p)) in omega (arith, h)

  if_lighter : (text : IfText) → IsIf text → (if_heft text).peak < heavy → (stmt_heft (stmt_account true (if_tree text))).peak ≤ (if_heft text).peak
  if_lighter (if_then test (s.block begin stmts end) otherwise) g p =
      let h = expressions_are_lightest test.test g.0 (omega (arith, p)) in
      let k = stmts_lighter stmts g.1 (omega (arith, p)) in
      let m = otherwise_lighter otherwise g.2 (omega (arith, p)) in
      omega (arith, h, k, m)

  otherwise_lighter : (otherwise : ElseText) → IsElse otherwise → (else_heft otherwise).peak < heavy
      → (else_heft (else_account true (else_tree otherwise))).peak ≤ (else_heft otherwise).peak
  otherwise_lighter no_else g p = omega arith
  otherwise_lighter (else_block word (s.block begin stmts end)) g p =
      let h = stmts_lighter stmts g (omega (arith, p)) in
      let k = else_lighter (stmts_account true (stmts_tree stmts)) in
      omega (arith, h, k)
  otherwise_lighter (else_if word (if_then test then otherwise)) g p =
      let h = if_lighter (if_then test then otherwise) g (omega (arith, p)) in
      omega (arith, h)

  stmts_lighter : (stmts : StmtsText) → AreStmts stmts → stmts_peak stmts < heavy → stmts_peak (stmts_account true (stmts_tree stmts)) ≤ stmts_peak stmts
  stmts_lighter no_stmts g p = omega arith
  stmts_lighter (last_stmt stmt) g p = stmt_lighter stmt g p
  stmts_lighter (stmt_then stmt newline more) g p =
      let e = stmts_is (stmt_tree stmt) (stmts_tree more) in
      let h = stmt_lighter stmt g.0 (omega (arith, p)) in
      let k = stmts_lighter more g.1 (omega (arith, p)) in
      omega (arith, e, h, k)

  loop_lighter : (text : LoopText) → IsLoop text → loop_peak text < heavy → stmts_peak (stmts_account true (loop_tree text)) ≤ loop_peak text
  loop_lighter no_body g p = omega arith
  loop_lighter (body newline stmts) g p = stmts_lighter stmts g p
