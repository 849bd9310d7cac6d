-- How statements and proofs are printed, as accounts of the grammar without places.
use Rattle.std.specs.Prelude.{Bool, true, false, if◌then◌else◌, List, [], ◌∷◌, map, Option, Some, None, codes}
use Rattle.std.specs.Option.{option_map}
use Rattle.std.specs.Str.{bytes_eq}
use Rattle.slang_tree.specs.declared.expression.Name.{Name}
use Rattle.slang_tree.specs.declared.statement.Label.{Label}
use Rattle.slang_tree.specs.TypeTree.{TypeTree}
use Rattle.slang_tree.specs.ExprTree.{ExprTree, exprs_of}
use Rattle.slang_tree.specs.StmtTree as t
use Rattle.slang_tree.specs.StmtTree.{StepTree, StepTrees, StmtTree, StmtTrees, ElseTree}
use Rattle.slang_grammar.specs.Parts.{Listed, LabelText, NamesText, TypedText}
use Rattle.slang_grammar.specs.Proofs.{RuleText, rule_name, subst_less, subst_greater, CitesText, AssumeText, LetText, StepText, line, block, let_block, BehindText, nothing_behind, behind, StepsText, no_steps, last_step, step_then}
use Rattle.slang_grammar.specs.Statements.{TestText, ClaimsBehind, no_claims, claims_behind, InvariantText, StmtText, value, assignment, call, branch, loop, assertion, deduction, if_then, ElseText, no_else, else_block, else_if, StmtsText, no_stmts, last_stmt, stmt_then, LoopText, no_body, body}
use Rattle.slang_grammar.specs.Statements as s
use Rattle.print_expressions.specs.Bare.{nowhere, bare_name}
use Rattle.print_expressions.specs.Accounts.{numeral, type_account, expr_account, exprs_account}

-- ---- lists

-- members with a separator between each two, and none behind the last
abbrev pub listed_of : {A : Type 0} → List A → Listed A
listed_of [] = record { front = []; last = None }
listed_of (member ∷ []) = record { front = []; last = Some member }
listed_of (member ∷ next ∷ more) = record { front = (member, nowhere) ∷ (listed_of (next ∷ more)).front; last = (listed_of (next ∷ more)).last }

abbrev pub names_account : List Name → NamesText
names_account names = record { left = nowhere; names = listed_of (map bare_name names); right = nowhere }

abbrev pub typed_account : TypeTree → TypedText
typed_account ty = record { colon = nowhere; ty = type_account ty }

-- ---- proofs

abbrev pub label_account : Label → LabelText
label_account label = record { digits = numeral label.number; place = nowhere }

abbrev pub rule_account : Name → RuleText
rule_account rule =
    if bytes_eq rule.text (codes "Subst_<") then subst_less nowhere
    else (if bytes_eq rule.text (codes "Subst_>") then subst_greater nowhere else rule_name (bare_name rule))

abbrev pub cites_account : List Label → Option CitesText
cites_account [] = None
cites_account (label ∷ labels) = Some (record { left = nowhere; labels = listed_of (map label_account (label ∷ labels)); right = nowhere })

abbrev pub let_account : Name → LetText
let_account variable = record {
  word = nowhere;
  outer = nowhere;
  left = nowhere;
  variable = bare_name variable;
  colon = nowhere;
  ty = nowhere;
  right = nowhere;
  arrow = nowhere;
}

-- behind an assumption
abbrev pub as_behind : StepsText → BehindText
as_behind no_steps = nothing_behind
as_behind steps = behind nowhere steps

-- what stands behind `else`: an `if` that is its one statement stands there without braces
abbrev pub as_else : StmtsText → ElseText
as_else (last_stmt (branch text)) = else_if nowhere text
as_else stmts = else_block nowhere (s.block nowhere stmts nowhere)

abbrev pub as_body : StmtsText → LoopText
as_body no_stmts = no_body
as_body stmts = body nowhere stmts

-- ---- expressions among them are printed lightly, or plainly

module _ (light : Bool) where
  abbrev pub assume_account : Label → ExprTree → AssumeText
  assume_account label given = record {
    word = nowhere;
    left = nowhere;
    label = label_account label;
    assume = nowhere;
    claim_left = nowhere;
    claim = expr_account light given;
    claim_right = nowhere;
  }

  abbrev mutual
    pub step_account : StepTree → StepText
    step_account (t.line label claim rule cites) =
        line (label_account label) nowhere (expr_account light claim) nowhere nowhere (rule_account rule) (cites_account cites)
    step_account (t.block label assumed given steps) = block (label_account label) (assume_account assumed given) (as_behind (steps_account steps)) nowhere
    step_account (t.let_block label variable assumed given steps) =
        let_block (label_account label) (let_account variable) (assume_account assumed given) (as_behind (steps_account steps)) nowhere nowhere

    pub steps_account : StepTrees → StepsText
    steps_account t.no_steps = no_steps
    steps_account (t.step_then step t.no_steps) = last_step (step_account step)
    steps_account (t.step_then step (t.step_then next steps)) = step_then (step_account step) nowhere (steps_account (t.step_then next steps))

  -- ---- statements

  abbrev pub test_account : ExprTree → TestText
  test_account test = record { word = nowhere; left = nowhere; test = expr_account light test; right = nowhere }

  abbrev pub claims_account : List ExprTree → ClaimsBehind
  claims_account [] = no_claims
  claims_account (claim ∷ claims) = claims_behind nowhere (exprs_account light (exprs_of (claim ∷ claims)))

  abbrev pub invariant_account : List Name → List ExprTree → InvariantText
  invariant_account modifies claims = record {
    word = nowhere;
    left = nowhere;
    modifies = nowhere;
    names = names_account modifies;
    claims = claims_account claims;
    right = nowhere;
  }

  abbrev mutual
    pub stmt_account : StmtTree → StmtText
    stmt_account (t.val place written ty e) = value true nowhere (bare_name written) (option_map typed_account ty) nowhere (expr_account light e)
    stmt_account (t.var place written ty e) = value false nowhere (bare_name written) (option_map typed_account ty) nowhere (expr_account light e)
    stmt_account (t.assignment written e) = assignment (bare_name written) nowhere (expr_account light e)
    stmt_account (t.call written arguments) = call (bare_name written) nowhere (exprs_account light arguments) nowhere
    stmt_account (t.branch place test on_true otherwise) =
        branch (if_then (test_account test) (s.block nowhere (stmts_account on_true) nowhere) (else_account otherwise))
    stmt_account (t.loop place test modifies claims stmts) =
        loop (test_account test) nowhere (invariant_account modifies claims) (as_body (stmts_account stmts)) nowhere
    stmt_account (t.assertion place claim) = assertion nowhere nowhere (expr_account light claim) nowhere
    stmt_account (t.deduction place steps) = deduction nowhere nowhere (steps_account steps) nowhere

    pub stmts_account : StmtTrees → StmtsText
    stmts_account t.no_stmts = no_stmts
    stmts_account (t.stmt_then stmt t.no_stmts) = last_stmt (stmt_account stmt)
    stmts_account (t.stmt_then stmt (t.stmt_then next stmts)) = stmt_then (stmt_account stmt) nowhere (stmts_account (t.stmt_then next stmts))

    pub else_account : ElseTree → ElseText
    else_account t.no_else = no_else
    else_account (t.else_then stmts) = as_else (stmts_account stmts)
