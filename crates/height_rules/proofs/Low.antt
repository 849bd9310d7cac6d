-- Nothing is too high exactly where there is no fault of height.
use Rattle.std.proofs.Common.{◌≡◌, ℕ, zero, suc, ◌≤◌, nat_le, List, [], ◌∷◌, ◌++◌, Option, Some, None, refl, ap, leb-true, le-leb}
use Rattle.std.specs.List.{AllByRecursion}
use Rattle.slang_tree.specs.declared.place.Place.{Place}
use Rattle.slang_tree.specs.ExprTree.{ExprTree, ExprTrees, no_exprs, expr_then, place_of}
use Rattle.slang_tree.specs.StmtTree.{StepTree, line, block, let_block, StepTrees, no_steps, step_then, StmtTree, val, var, assignment, call, branch, loop, assertion, deduction, StmtTrees, no_stmts, stmt_then, ElseTree, no_else, else_then, stmts_of}
use Rattle.slang_tree.specs.DeclTree.{const_place, ReturnTree, DeclTree, import_decl, global_decl, record_decl, method_decl}
use Rattle.type_rules.specs.Faults.{unless}
use Rattle.text_heights.specs.Heights.{text_height, const_height}
use Rattle.text_heights.specs.Low.{IsLow, AreLow, HasNoSteps, IsLowStep, AreLowSteps, IsLowStmt, AreLowStmts, IsLowElse}
use Rattle.project_typing.specs.Projects.{IsLowReturn, IsLowDecl}
use Rattle.claim_typing.proofs.Parts.{both_nil, one_is_none, unless-nil}
use Rattle.typing_rules.proofs.Parts.{nil_both}
use Rattle.height_rules.specs.Faults.{too_high, expr_too_high, exprs_too_high, claims_too_high, too_deep, step_too_high, steps_too_high, stmt_too_high, stmts_too_high, else_too_high, return_too_high, decl_too_high}
use Rattle.height_rules.specs.Laws.{LowDeclsHaveNoFault}

within_to : (n : ℕ) (place : Place) → unless (nat_le n 1000) (too_high place) ≡ [] → n ≤ 1000
within_to n place h = leb-true n 1000 (unless-nil (nat_le n 1000) (too_high place) h)

within_from : (n : ℕ) (place : Place) → n ≤ 1000 → unless (nat_le n 1000) (too_high place) ≡ []
within_from n place h = ap (λ b. unless b (too_high place)) (le-leb n 1000 h)

-- ---- expressions

expr_to : (tree : ExprTree) → expr_too_high tree ≡ [] → IsLow tree
expr_to tree h = within_to (text_height tree) (place_of tree) h

expr_from : (tree : ExprTree) → IsLow tree → expr_too_high tree ≡ []
expr_from tree h = within_from (text_height tree) (place_of tree) h

exprs_to : (trees : ExprTrees) → exprs_too_high trees ≡ [] → AreLow trees
exprs_to no_exprs h = tt
exprs_to (expr_then tree trees) h =
    let p = both_nil (expr_too_high tree) (exprs_too_high trees) h in (expr_to tree p.0, exprs_to trees p.1)

exprs_from : (trees : ExprTrees) → AreLow trees → exprs_too_high trees ≡ []
exprs_from no_exprs h = refl
exprs_from (expr_then tree trees) h = nil_both (expr_too_high tree) (exprs_too_high trees) (expr_from tree h.0) (exprs_from trees h.1)

claims_to : (claims : List ExprTree) → claims_too_high claims ≡ [] → AllByRecursion IsLow claims
claims_to [] h = tt
claims_to (claim ∷ claims) h =
    let p = both_nil (expr_too_high claim) (claims_too_high claims) h in (expr_to claim p.0, claims_to claims p.1)

claims_from : (claims : List ExprTree) → AllByRecursion IsLow claims → claims_too_high claims ≡ []
claims_from [] h = refl
claims_from (claim ∷ claims) h = nil_both (expr_too_high claim) (claims_too_high claims) (expr_from claim h.0) (claims_from claims h.1)

-- ---- proofs

deep_to : (steps : StepTrees) → too_deep steps ≡ [] → HasNoSteps steps
deep_to no_steps h = tt
deep_to (step_then step steps) h = one_is_none h

deep_from : (steps : StepTrees) → HasNoSteps steps → too_deep steps ≡ []
deep_from no_steps h = refl
deep_from (step_then step steps) h = absurd h

mutual
  step_to : (depth : ℕ) (step : StepTree) → step_too_high depth step ≡ [] → IsLowStep depth step
  step_to depth (line label claim rule cites) h = expr_to claim h
  step_to zero (block label assumed given steps) h =
      let p = both_nil (expr_too_high given) (too_deep steps) h in (expr_to given p.0, deep_to steps p.1)
  step_to (suc depth) (block label assumed given steps) h =
      let p = both_nil (expr_too_high given) (steps_too_high depth steps) h in (expr_to given p.0, steps_to depth steps p.1)
  step_to zero (let_block label variable assumed given steps) h =
      let p = both_nil (expr_too_high given) (too_deep steps) h in (expr_to given p.0, deep_to steps p.1)
  step_to (suc depth) (let_block label variable assumed given steps) h =
      let p = both_nil (expr_too_high given) (steps_too_high depth steps) h in (expr_to given p.0, steps_to depth steps p.1)

  steps_to : (depth : ℕ) (steps : StepTrees) → steps_too_high depth steps ≡ [] → AreLowSteps depth steps
  steps_to depth no_steps h = tt
  steps_to depth (step_then step steps) h =
      let p = both_nil (step_too_high depth step) (steps_too_high depth steps) h in (step_to depth step p.0, steps_to depth steps p.1)

mutual
  step_from : (depth : ℕ) (step : StepTree) → IsLowStep depth step → step_too_high depth step ≡ []
  step_from depth (line label claim rule cites) h = expr_from claim h
  step_from zero (block label assumed given steps) h = nil_both (expr_too_high given) (too_deep steps) (expr_from given h.0) (deep_from steps h.1)
  step_from (suc depth) (block label assumed given steps) h =
      nil_both (expr_too_high given) (steps_too_high depth steps) (expr_from given h.0) (steps_from depth steps h.1)
  step_from zero (let_block label variable assumed given steps) h =
      nil_both (expr_too_high given) (too_deep steps) (expr_from given h.0) (deep_from steps h.1)
  step_from (suc depth) (let_block label variable assumed given steps) h =
      nil_both (expr_too_high given) (steps_too_high depth steps) (expr_from given h.0) (steps_from depth steps h.1)

  steps_from : (depth : ℕ) (steps : StepTrees) → AreLowSteps depth steps → steps_too_high depth steps ≡ []
  steps_from depth no_steps h = refl
  steps_from depth (step_then step steps) h =
      nil_both (step_too_high depth step) (steps_too_high depth steps) (step_from depth step h.0) (steps_from depth steps h.1)

-- ---- statements

mutual
  stmt_to : (stmt : StmtTree) → stmt_too_high stmt ≡ [] → IsLowStmt stmt
  stmt_to (val place written ty value) h = expr_to value h
  stmt_to (var place written ty value) h = expr_to value h
  stmt_to (assignment written value) h = expr_to value h
  stmt_to (call written arguments) h = exprs_to arguments h
  stmt_to (branch place test on_true otherwise) h =
      let q = both_nil (expr_too_high test ++ stmts_too_high on_true) (else_too_high otherwise) h in
      let p = both_nil (expr_too_high test) (stmts_too_high on_true) q.0 in
      (expr_to test p.0, stmts_to on_true p.1, else_to otherwise q.1)
  stmt_to (loop place test modifies claims body) h =
      let q = both_nil (expr_too_high test ++ claims_too_high claims) (stmts_too_high body) h in
      let p = both_nil (expr_too_high test) (claims_too_high claims) q.0 in
      (expr_to test p.0, claims_to claims p.1, stmts_to body q.1)
  stmt_to (assertion place claim) h = expr_to claim h
  stmt_to (deduction place steps) h = steps_to 200 steps h

  stmts_to : (stmts : StmtTrees) → stmts_too_high stmts ≡ [] → AreLowStmts stmts
  stmts_to no_stmts h = tt
  stmts_to (stmt_then stmt stmts) h =
      let p = both_nil (stmt_too_high stmt) (stmts_too_high stmts) h in (stmt_to stmt p.0, stmts_to stmts p.1)

  else_to : (otherwise : ElseTree) → else_too_high otherwise ≡ [] → IsLowElse otherwise
  else_to no_else h = tt
  else_to (else_then stmts) h = stmts_to stmts h

mutual
  stmt_from : (stmt : StmtTree) → IsLowStmt stmt → stmt_too_high stmt ≡ []
  stmt_from (val place written ty value) h = expr_from value h
  stmt_from (var place written ty value) h = expr_from value h
  stmt_from (assignment written value) h = expr_from value h
  stmt_from (call written arguments) h = exprs_from arguments h
  stmt_from (branch place test on_true otherwise) h =
      nil_both (expr_too_high test ++ stmts_too_high on_true) (else_too_high otherwise)
      (nil_both (expr_too_high test) (stmts_too_high on_true) (expr_from test h.0) (stmts_from on_true h.1)) (else_from otherwise h.2)
  stmt_from (loop place test modifies claims body) h =
      nil_both (expr_too_high test ++ claims_too_high claims) (stmts_too_high body)
      (nil_both (expr_too_high test) (claims_too_high claims) (expr_from test h.0) (claims_from claims h.1)) (stmts_from body h.2)
  stmt_from (assertion place claim) h = expr_from claim h
  stmt_from (deduction place steps) h = steps_from 200 steps h

  stmts_from : (stmts : StmtTrees) → AreLowStmts stmts → stmts_too_high stmts ≡ []
  stmts_from no_stmts h = refl
  stmts_from (stmt_then stmt stmts) h = nil_both (stmt_too_high stmt) (stmts_too_high stmts) (stmt_from stmt h.0) (stmts_from stmts h.1)

  else_from : (otherwise : ElseTree) → IsLowElse otherwise → else_too_high otherwise ≡ []
  else_from no_else h = refl
  else_from (else_then stmts) h = stmts_from stmts h

-- ---- declarations

return_to : (returned : Option ReturnTree) → return_too_high returned ≡ [] → IsLowReturn returned
return_to None h = tt
return_to (Some returned) h = expr_to returned.value h

return_from : (returned : Option ReturnTree) → IsLowReturn returned → return_too_high returned ≡ []
return_from None h = refl
return_from (Some returned) h = expr_from returned.value h

pub decl_to : (decl : DeclTree) → decl_too_high decl ≡ [] → IsLowDecl decl
decl_to (import_decl place path) h = tt
decl_to (global_decl decl) h = within_to (const_height decl.init) (const_place decl.init) h
decl_to (record_decl decl) h = tt
decl_to (method_decl decl) h =
    let first = claims_too_high decl.requires_ in
    let second = claims_too_high decl.ensures_ in
    let body = stmts_too_high (stmts_of decl.body) in
    let r = both_nil (first ++ second ++ body) (return_too_high decl.returned) h in
    let q = both_nil (first ++ second) body r.0 in
    let p = both_nil first second q.0 in
    record {
      requires_ = claims_to decl.requires_ p.0;
      ensures_ = claims_to decl.ensures_ p.1;
      body = stmts_to (stmts_of decl.body) q.1;
      returned = return_to decl.returned r.1;
    }

pub decl_from : (decl : DeclTree) → IsLowDecl decl → decl_too_high decl ≡ []
decl_from (import_decl place path) h = refl
decl_from (global_decl decl) h = within_from (const_height decl.init) (const_place decl.init) h
decl_from (record_decl decl) h = refl
decl_from (method_decl decl) h =
    let first = claims_too_high decl.requires_ in
    let second = claims_too_high decl.ensures_ in
    let body = stmts_too_high (stmts_of decl.body) in
    nil_both (first ++ second ++ body) (return_too_high decl.returned)
    (nil_both (first ++ second) body
    (nil_both first second (claims_from decl.requires_ h.requires_) (claims_from decl.ensures_ h.ensures_)) (stmts_from (stmts_of decl.body) h.body))
    (return_from decl.returned h.returned)

pub low_decls_have_no_fault : LowDeclsHaveNoFault
low_decls_have_no_fault decl = (decl_to decl, decl_from decl)
