-- What is printed of a statement is in the grammar, and has the same tree without places.
use Rattle.std.proofs.Common.{◌≡◌, Bool, true, false, map, Option, refl, ap, ap₂, ◌∙◌}
use Rattle.std.specs.Option.{option_map}
use Rattle.slang_tree.specs.declared.place.Place.{Place}
use Rattle.slang_tree.specs.declared.expression.Name.{Name}
use Rattle.slang_tree.specs.StmtTree as t
use Rattle.slang_tree.specs.StmtTree.{StmtTree, StmtTrees, ElseTree}
use Rattle.slang_grammar.specs.Parts.{members, IfWritten, IsPlain, TypedText, IsTyped, typed_tree}
use Rattle.slang_grammar.specs.Expressions.{ExprText, IsGrouped, expr_tree}
use Rattle.slang_grammar.specs.Statements.{InvariantText, IsInvariant, claims_behind_trees, StmtText, value, assignment, call, branch, loop, assertion, deduction, IfText, if_then, ElseText, no_else, else_block, else_if, BlockText, block, StmtsText, no_stmts, last_stmt, stmt_then, LoopText, no_body, body, IsStmt, IsIf, IsElse, IsBlock, AreStmts, IsLoop, value_tree, stmt_tree, if_tree, else_tree, block_tree, stmts_tree, loop_tree}
use Rattle.print_expressions.specs.Bare.{nowhere, bare_name, bare_expr}
use Rattle.print_expressions.proofs.Back.{expressions_read_back, expression_lists_read_back}
use Rattle.print_statements.specs.Bare.{bare_stmt, bare_stmts, bare_else}
use Rattle.print_statements.specs.Accounts.{invariant_account, claims_account, as_else, as_body, stmt_account, stmts_account, else_account}
use Rattle.print_statements.specs.Laws.{StatementsReadBack}
use Rattle.print_statements.proofs.Lists.{listed_members, names_plain, names_some, typed_back, claims_back}
use Rattle.print_statements.proofs.Steps.{steps_back, has_step}

-- ---- parts

-- what stands behind `else`, with braces or without
else_stands : (stmts : StmtsText) → AreStmts stmts → IsElse (as_else stmts) × (else_tree (as_else stmts) ≡ t.else_then (stmts_tree stmts))
else_stands no_stmts h = (h, refl)
else_stands (last_stmt (value fixed word n ty equals e)) h = (h, refl)
else_stands (last_stmt (assignment n equals e)) h = (h, refl)
else_stands (last_stmt (call n left arguments right)) h = (h, refl)
else_stands (last_stmt (branch text)) h = (h, refl)
else_stands (last_stmt (loop test begin invariant text end)) h = (h, refl)
else_stands (last_stmt (assertion word left claim right)) h = (h, refl)
else_stands (last_stmt (deduction word left steps right)) h = (h, refl)
else_stands (stmt_then stmt newline more) h = (h, refl)

body_stands : (stmts : StmtsText) → AreStmts stmts → IsLoop (as_body stmts) × (loop_tree (as_body stmts) ≡ stmts_tree stmts)
body_stands no_stmts h = (tt, refl)
body_stands (last_stmt stmt) h = (h, refl)
body_stands (stmt_then stmt newline more) h = (h, refl)

module _ (light : Bool) where
  abbrev IsBack : StmtTree → Type 0
  IsBack stmt = IsStmt (stmt_account light stmt) × (stmt_tree (stmt_account light stmt) ≡ bare_stmt stmt)

  abbrev AreBack : StmtTrees → Type 0
  AreBack stmts = AreStmts (stmts_account light stmts) × (stmts_tree (stmts_account light stmts) ≡ bare_stmts stmts)

  abbrev IsElseBack : ElseTree → Type 0
  IsElseBack otherwise = IsElse (else_account light otherwise) × (else_tree (else_account light otherwise) ≡ bare_else otherwise)

  more_back : (stmt : StmtTree) (stmts : StmtTrees) → IsBack stmt → AreBack stmts → AreBack (t.stmt_then stmt stmts)
  more_back stmt t.no_stmts h k = (h.0, ap (λ s. t.stmt_then s t.no_stmts) h.1)
  more_back stmt (t.stmt_then next stmts) h k = ((h.0, k.0), ap₂ t.stmt_then h.1 k.1)

  else_back : (stmts : StmtTrees) → AreBack stmts → IsElseBack (t.else_then stmts)
  else_back stmts h = let p = else_stands (stmts_account light stmts) h.0 in (p.0, p.1 ∙ ap t.else_then h.1)

  value_back : (fixed : Bool) (place : Place) (n : Name) (ty : Option TypedText) (e : ExprText) → IsPlain n → IfWritten IsTyped ty → IsGrouped e →
      IsBack (value_tree fixed place n (option_map typed_tree ty) (expr_tree e))
  value_back true place n ty e h k g =
      let p = typed_back ty k in
      let q = expressions_read_back light e g in
      ((h, p.0, q.0), ap₂ (t.val nowhere (bare_name n)) p.1 q.1)
  value_back false place n ty e h k g =
      let p = typed_back ty k in
      let q = expressions_read_back light e g in
      ((h, p.0, q.0), ap₂ (t.var nowhere (bare_name n)) p.1 q.1)

  branch_back : (place : Place) (test : ExprText) (stmts : StmtTrees) (otherwise : ElseTree) → IsGrouped test → AreBack stmts → IsElseBack otherwise →
      IsBack (t.branch place (expr_tree test) stmts otherwise)
  branch_back place test stmts otherwise g h k =
      let p = expressions_read_back light test g in (
        (p.0, h.0, k.0),
        ap (λ e. t.branch nowhere e (stmts_tree (stmts_account light stmts)) (else_tree (else_account light otherwise))) p.1 ∙ ap₂ (t.branch nowhere (bare_expr (expr_tree test))) h.1 k.1,
      )

  invariant_back : (invariant : InvariantText) → IsInvariant invariant →
      IsInvariant (invariant_account light (members invariant.names.names) (claims_behind_trees invariant.claims))
  invariant_back invariant h =
      let names = members invariant.names.names in
      ((names_some names h.0.0, names_plain names h.0.1), (claims_back light invariant.claims h.1).0)

  loop_back : (place : Place) (test : ExprText) (invariant : InvariantText) (stmts : StmtTrees) → IsGrouped test → IsInvariant invariant → AreBack stmts →
      IsBack (t.loop place (expr_tree test) (members invariant.names.names) (claims_behind_trees invariant.claims) stmts)
  loop_back place test invariant stmts g i h =
      let names = members invariant.names.names in
      let claims = claims_behind_trees invariant.claims in
      let p = expressions_read_back light test g in
      let b = body_stands (stmts_account light stmts) h.0 in (
        (p.0, invariant_back invariant i, b.0),
        ap₂ (λ e ns. t.loop nowhere e ns (claims_behind_trees (claims_account light claims)) (loop_tree (as_body (stmts_account light stmts)))) p.1
            (listed_members (map bare_name names))
            ∙ ap₂ (t.loop nowhere (bare_expr (expr_tree test)) (map bare_name names)) (claims_back light invariant.claims i.1).1 (b.1 ∙ h.1),
      )

  -- ---- statements

  mutual
    pub stmt_back : (text : StmtText) → IsStmt text → IsBack (stmt_tree text)
    stmt_back (value fixed word n ty equals e) h = value_back fixed word n ty e h.0 h.1 h.2
    stmt_back (assignment n equals e) h = let p = expressions_read_back light e h.1 in ((h.0, p.0), ap (t.assignment (bare_name n)) p.1)
    stmt_back (call n left arguments right) h = let p = expression_lists_read_back light arguments h.1 in ((h.0, p.0), ap (t.call (bare_name n)) p.1)
    stmt_back (branch text) h = if_back text h
    stmt_back (loop test begin invariant text end) h =
        loop_back test.word test.test invariant (loop_tree text) h.0 h.1 (loop_stmts_back text h.2)
    stmt_back (assertion word left claim right) h = let p = expressions_read_back light claim h in (p.0, ap (t.assertion nowhere) p.1)
    stmt_back (deduction word left steps right) h =
        let p = steps_back light steps h.1 in ((has_step light steps h.0, p.0), ap (t.deduction nowhere) p.1)

    if_back : (text : IfText) → IsIf text → IsBack (if_tree text)
    if_back (if_then test then otherwise) h =
        branch_back test.word test.test (block_tree then) (else_tree otherwise) h.0 (block_back then h.1) (otherwise_back otherwise h.2)

    otherwise_back : (otherwise : ElseText) → IsElse otherwise → IsElseBack (else_tree otherwise)
    otherwise_back no_else h = (tt, refl)
    otherwise_back (else_block word text) h = else_back (block_tree text) (block_back text h)
    otherwise_back (else_if word text) h = else_back (t.stmt_then (if_tree text) t.no_stmts) (more_back (if_tree text) t.no_stmts (if_back text h) (tt, refl))

    block_back : (text : BlockText) → IsBlock text → AreBack (block_tree text)
    block_back (block begin stmts end) h = stmts_back stmts h

    stmts_back : (texts : StmtsText) → AreStmts texts → AreBack (stmts_tree texts)
    stmts_back no_stmts h = (tt, refl)
    stmts_back (last_stmt text) h = more_back (stmt_tree text) t.no_stmts (stmt_back text h) (tt, refl)
    stmts_back (stmt_then text newline more) h = more_back (stmt_tree text) (stmts_tree more) (stmt_back text h.0) (stmts_back more h.1)

    loop_stmts_back : (text : LoopText) → IsLoop text → AreBack (loop_tree text)
    loop_stmts_back no_body h = (tt, refl)
    loop_stmts_back (body newline stmts) h = stmts_back stmts h

pub statements_read_back : StatementsReadBack
statements_read_back light text h = stmt_back light text h
