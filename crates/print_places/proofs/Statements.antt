-- What is printed of statements does not depend on places.
use Rattle.std.proofs.Common.{Bool, ◌≡◌, true, false, List, [], ◌∷◌, map, Option, Some, None, refl, ap, ap₂, ◌∙◌}
use Rattle.std.specs.Option.{option_map}
use Rattle.slang_tree.specs.declared.expression.Name.{Name}
use Rattle.slang_tree.specs.declared.statement.Label.{Label}
use Rattle.slang_tree.specs.TypeTree.{TypeTree}
use Rattle.slang_tree.specs.ExprTree.{ExprTree, exprs_of}
use Rattle.slang_tree.specs.ExprTree as e
use Rattle.slang_tree.specs.StmtTree as t
use Rattle.slang_tree.specs.StmtTree.{StepTree, StepTrees, StmtTree, StmtTrees, ElseTree}
use Rattle.slang_grammar.specs.Expressions.{ExprText}
use Rattle.slang_grammar.specs.Proofs.{AssumeText, line, block, let_block, last_step, step_then}
use Rattle.slang_grammar.specs.Statements.{TestText, claims_behind, value, assignment, call, branch, loop, assertion, deduction, if_then, last_stmt, stmt_then}
use Rattle.slang_grammar.specs.Statements as s
use Rattle.print_expressions.specs.Bare.{nowhere, bare_name, bare_type, bare_expr, bare_exprs}
use Rattle.print_expressions.specs.Accounts.{exprs_account}
use Rattle.print_expressions.proofs.Places.{type_bare, places_are_not_printed, lists_without_places}
use Rattle.print_statements.specs.Bare.{bare_label, bare_step, bare_steps, bare_stmt, bare_stmts, bare_else}
use Rattle.print_statements.specs.Accounts.{listed_of, names_account, typed_account, label_account, rule_account, cites_account, let_account, as_behind, step_account, steps_account, test_account, claims_account, invariant_account, as_else, as_body, stmt_account, stmts_account, else_account}

-- ---- parts

pub typed_same : (ty : Option TypeTree) → option_map typed_account (option_map bare_type ty) ≡ option_map typed_account ty
typed_same None = refl
typed_same (Some ty) = ap (λ text. Some (record { colon = nowhere; ty = text })) (type_bare ty)

names_same : (names : List Name) → map bare_name (map bare_name names) ≡ map bare_name names
names_same [] = refl
names_same (name ∷ names) = ap (λ ns. bare_name name ∷ ns) (names_same names)

pub names_alike : (names : List Name) → names_account (map bare_name names) ≡ names_account names
names_alike names = ap (λ ns. record { left = nowhere; names = listed_of ns; right = nowhere }) (names_same names)

labels_same : (labels : List Label) → map label_account (map bare_label labels) ≡ map label_account labels
labels_same [] = refl
labels_same (label ∷ labels) = ap (λ ls. label_account label ∷ ls) (labels_same labels)

cites_same : (labels : List Label) → cites_account (map bare_label labels) ≡ cites_account labels
cites_same [] = refl
cites_same (label ∷ labels) =
    ap (λ ls. Some (record { left = nowhere; labels = listed_of (label_account label ∷ ls); right = nowhere })) (labels_same labels)

exprs_bare : (claims : List ExprTree) → exprs_of (map bare_expr claims) ≡ bare_exprs (exprs_of claims)
exprs_bare [] = refl
exprs_bare (claim ∷ claims) = ap (e.expr_then (bare_expr claim)) (exprs_bare claims)

module _ (light : Bool) where
  pub exprs_same : (claims : List ExprTree) → exprs_account light (exprs_of (map bare_expr claims)) ≡ exprs_account light (exprs_of claims)
  exprs_same claims = ap (exprs_account light) (exprs_bare claims) ∙ lists_without_places light (exprs_of claims)

  claims_same : (claims : List ExprTree) → claims_account light (map bare_expr claims) ≡ claims_account light claims
  claims_same [] = refl
  claims_same (claim ∷ claims) = ap (claims_behind nowhere) (exprs_same (claim ∷ claims))

  invariant_same : (names : List Name) (claims : List ExprTree) → invariant_account light (map bare_name names) (map bare_expr claims) ≡ invariant_account light names claims
  invariant_same names claims =
      ap₂ (λ ns cs. record { word = nowhere; left = nowhere; modifies = nowhere; names = ns; claims = cs; right = nowhere }) (names_alike names)
      (claims_same claims)

  -- ---- proofs

  abbrev assumed_with : Label → ExprText → AssumeText
  assumed_with label claim = record {
    word = nowhere;
    left = nowhere;
    label = label_account label;
    assume = nowhere;
    claim_left = nowhere;
    claim = claim;
    claim_right = nowhere;
  }

  mutual
    step_same : (step : StepTree) → step_account light (bare_step step) ≡ step_account light step
    step_same (t.line label claim rule cites) =
        ap₂ (λ c s. line (label_account label) nowhere c nowhere nowhere (rule_account rule) s) (places_are_not_printed light claim) (cites_same cites)
    step_same (t.block label assumed given steps) =
        ap₂ (λ c s. block (label_account label) (assumed_with assumed c) (as_behind s) nowhere) (places_are_not_printed light given) (steps_same steps)
    step_same (t.let_block label variable assumed given steps) =
        ap₂ (λ c s. let_block (label_account label) (let_account variable) (assumed_with assumed c) (as_behind s) nowhere nowhere) (places_are_not_printed light given)
        (steps_same steps)

    steps_same : (steps : StepTrees) → steps_account light (bare_steps steps) ≡ steps_account light steps
    steps_same t.no_steps = refl
    steps_same (t.step_then step t.no_steps) = ap last_step (step_same step)
    steps_same (t.step_then step (t.step_then next steps)) = ap₂ (λ s ss. step_then s nowhere ss) (step_same step) (steps_same (t.step_then next steps))

  -- ---- statements

  abbrev tested : ExprText → TestText
  tested test = record { word = nowhere; left = nowhere; test = test; right = nowhere }

  mutual
    pub stmt_same : (stmt : StmtTree) → stmt_account light (bare_stmt stmt) ≡ stmt_account light stmt
    stmt_same (t.val place written ty e) = ap₂ (λ a b. value true nowhere (bare_name written) a nowhere b) (typed_same ty) (places_are_not_printed light e)
    stmt_same (t.var place written ty e) = ap₂ (λ a b. value false nowhere (bare_name written) a nowhere b) (typed_same ty) (places_are_not_printed light e)
    stmt_same (t.assignment written e) = ap (assignment (bare_name written) nowhere) (places_are_not_printed light e)
    stmt_same (t.call written arguments) = ap (λ a. call (bare_name written) nowhere a nowhere) (lists_without_places light arguments)
    stmt_same (t.branch place test on_true otherwise) =
        ap₂ (λ a b. branch (if_then (tested a) (s.block nowhere b nowhere) (else_account light (bare_else otherwise)))) (places_are_not_printed light test) (stmts_same on_true)
        ∙ ap (λ o. branch (if_then (test_account light test) (s.block nowhere (stmts_account light on_true) nowhere) o)) (else_same otherwise)
    stmt_same (t.loop place test modifies claims stmts) =
        ap₂ (λ a i. loop (tested a) nowhere i (as_body (stmts_account light (bare_stmts stmts))) nowhere) (places_are_not_printed light test) (invariant_same modifies claims)
        ∙ ap (λ b. loop (test_account light test) nowhere (invariant_account light modifies claims) (as_body b) nowhere) (stmts_same stmts)
    stmt_same (t.assertion place claim) = ap (λ c. assertion nowhere nowhere c nowhere) (places_are_not_printed light claim)
    stmt_same (t.deduction place steps) = ap (λ c. deduction nowhere nowhere c nowhere) (steps_same steps)

    stmts_same : (stmts : StmtTrees) → stmts_account light (bare_stmts stmts) ≡ stmts_account light stmts
    stmts_same t.no_stmts = refl
    stmts_same (t.stmt_then stmt t.no_stmts) = ap last_stmt (stmt_same stmt)
    stmts_same (t.stmt_then stmt (t.stmt_then next stmts)) = ap₂ (λ a b. stmt_then a nowhere b) (stmt_same stmt) (stmts_same (t.stmt_then next stmts))

    else_same : (otherwise : ElseTree) → else_account light (bare_else otherwise) ≡ else_account light otherwise
    else_same t.no_else = refl
    else_same (t.else_then stmts) = ap as_else (stmts_same stmts)
