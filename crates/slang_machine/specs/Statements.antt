-- What comes behind a token of a statement, a step or a body.
use Rattle.std.specs.Prelude.{ℕ, suc, true, false, ◌&&◌, if◌then◌else◌, nat_le, List, [], ◌∷◌, ◌++◌, Option, Some, None, codes}
use Rattle.slang_lexer.specs.declared.token.TokenKind.TheVariants as kind
use Rattle.slang_lexer.specs.Next.{value_of as number_value}
use Rattle.slang_tree.specs.declared.place.Place.{Place}
use Rattle.slang_tree.specs.declared.expression.Name.{Name}
use Rattle.slang_tree.specs.declared.statement.Label.{Label}
use Rattle.slang_tree.specs.ExprTree.{ExprTree, exprs_of}
use Rattle.slang_tree.specs.StmtTree as s
use Rattle.slang_tree.specs.StmtTree.{StepTree, steps_of, StmtTree, stmts_of}
use Rattle.slang_tree.specs.DeclTree.{MethodDeclTree, method_decl}
use Rattle.slang_tokens.specs.Tok.{Tok}
use Rattle.slang_grammar.specs.Parts.{is_label}
use Rattle.slang_grammar.specs.Statements.{value_tree}
use Rattle.slang_machine.specs.Open.{Draft, Block, body_of, then_of, else_of, loop_of, in_block, Within, with_stmt, put, Steps, deduction_of, block_of, let_of, Labelled, ClaimWord, requiring, ensuring, LoopHead, Purpose, value_of, assigned_to, argument_of_call, test_of_if, test_of_loop, asserted, returned, clause_claim, loop_claim, step_claim, assumed_in, alone}
use Rattle.slang_machine.specs.States.{State, ended, part_or_end, part_end, clauses_due, clause_end, claims_due, claim_or_end, NamesOf, contract_names, loop_names, names_due, stmt_or_end, stmt_end, value_name, name_seen, call_or_end, if_left, then_due, else_or_end, loop_left, loop_begin, loop_claim_end, loop_claim_or_end, invariant_end, assert_left, steps_left, step_or_end, step_end, labelled, by_due, let_end, want}
use Rattle.slang_machine.specs.Expressions.{is, is_name, name_of, on}

-- Bodies.

abbrev pub with_method : Draft → MethodDeclTree → Draft
with_method draft method = record { done = draft.done; method = method }

-- the end of a method
abbrev pub end_method : Draft → State
end_method draft = ended (draft.done ++ method_decl draft.method ∷ [])

abbrev pub next_part_end : ℕ → Draft → Tok → Option State
next_part_end least draft token =
    if is kind.Newline token then Some (part_or_end least draft) else on (is kind.RightBrace token) (end_method draft)

-- the statements of a method so far
abbrev pub with_body : Draft → List StmtTree → Draft
with_body draft stmts = with_method draft (record draft.method { body = stmts })

-- behind a statement
abbrev pub after_stmt_in : List StmtTree → Block → State
after_stmt_in stmts (body_of draft) = part_end 1 (with_body draft stmts)
after_stmt_in stmts block = stmt_end (record { stmts = stmts; block = block })

abbrev pub after_stmt : Within → State
after_stmt at = after_stmt_in at.stmts at.block

abbrev pub after_loop : Place → ExprTree → List Name → List ExprTree → List StmtTree → Within → State
after_loop place test modifies claims stmts around = after_stmt (with_stmt around (s.loop place test modifies claims (stmts_of stmts)))

-- the end of a block
abbrev pub end_block : List StmtTree → Block → Option State
end_block stmts (body_of draft) = None
end_block stmts (then_of place test target) = Some (else_or_end place test (stmts_of stmts) target)
end_block stmts (else_of place test on_true target) = Some (after_stmt (put target (s.branch place test on_true (s.else_then (stmts_of stmts)))))
end_block stmts (loop_of place test modifies claims before block) = Some (after_loop place test modifies claims stmts (record {
  stmts = before;
  block = block;
}))

abbrev pub next_stmt_end_in : List StmtTree → Block → Tok → Option State
next_stmt_end_in stmts (body_of draft) token = next_part_end 1 (with_body draft stmts) token
next_stmt_end_in stmts block token =
    if is kind.Newline token then Some (stmt_or_end (record { stmts = stmts; block = block }))
    else (if is kind.RightBrace token then end_block stmts block else None)

abbrev pub next_stmt_end : Within → Tok → Option State
next_stmt_end at token = next_stmt_end_in at.stmts at.block token

-- where a statement begins
abbrev pub begin_stmt : Within → Tok → Option State
begin_stmt at token =
    if is kind.Val token then Some (value_name true token.place at)
    else (if is kind.Var token then Some (value_name false token.place at)
    else (if is_name token then Some (name_seen (name_of token) at)
    else (if is kind.If token then Some (if_left token.place (in_block at.stmts at.block))
    else (if is kind.While token then Some (loop_left token.place at)
    else (if is kind.Assert token then Some (assert_left token.place at)
    else on (is kind.Deduce token) (steps_left token.place at))))))

abbrev pub next_stmt_or_end : Within → Tok → Option State
next_stmt_or_end at token = if is kind.RightBrace token then end_block at.stmts at.block else begin_stmt at token

abbrev pub next_part : ℕ → Draft → Tok → Option State
next_part least draft token =
    if is kind.RightBrace token then Some (end_method draft)
    else (if is kind.Contract token then on (nat_le least 0) (clauses_due draft)
    else (if is kind.Return token then on (nat_le least 2) (want (alone (returned token.place draft)))
    else (if nat_le least 1 then begin_stmt (record { stmts = draft.method.body; block = body_of draft }) token else None)))

-- Contracts.

abbrev pub claim_order : ClaimWord → ℕ
claim_order requiring = 0
claim_order ensuring = 2

abbrev pub with_claims : ClaimWord → List ExprTree → Draft → Draft
with_claims requiring claims draft = with_method draft (record draft.method { requires_ = claims })
with_claims ensuring claims draft = with_method draft (record draft.method { ensures_ = claims })

abbrev pub end_claims : ClaimWord → List ExprTree → Draft → State
end_claims word claims draft = clause_end (suc (claim_order word)) (with_claims word claims draft)

abbrev pub next_clause : ℕ → Draft → Tok → Option State
next_clause least draft token =
    if is kind.RightParen token then Some (part_end 1 draft)
    else (if is kind.Requires token then on (nat_le least 0) (claims_due requiring draft)
    else (if is kind.Modifies token then on (nat_le least 1) (names_due (contract_names draft))
    else (if is kind.Ensures token then on (nat_le least 2) (claims_due ensuring draft) else None)))

-- Loops.

abbrev pub with_loop_claim : LoopHead → ExprTree → LoopHead
with_loop_claim head claim = record head { claims = head.claims ++ claim ∷ [] }

-- the body of a loop
abbrev pub loop_block : LoopHead → Block
loop_block head = loop_of head.place head.test head.modifies head.claims head.around.stmts head.around.block

abbrev pub end_names : List Name → NamesOf → State
end_names names (contract_names draft) = clause_end 2 (with_method draft (record draft.method { modifies = names }))
end_names names (loop_names place test around) = loop_claim_end (record { place = place; test = test; modifies = names; claims = []; around = around })

-- Steps.

-- a label
abbrev pub label_of : Tok → Option Label
label_of token = on (is kind.Number token && is_label token.text) (record { place = token.place; number = number_value token.text })

abbrev pub begin_step : List StepTree → Steps → Label → State
begin_step steps around label = labelled (record { label = label; steps = steps; around = around })

-- the end of steps
abbrev pub end_steps : List StepTree → Steps → State
end_steps steps (deduction_of place at) = after_stmt (with_stmt at (s.deduction place (steps_of steps)))
end_steps steps (block_of label assumed supposed before around) = step_end (before ++ s.block label assumed supposed (steps_of steps) ∷ []) around
end_steps steps (let_of label variable assumed supposed before around) =
    let_end (before ++ s.let_block label variable assumed supposed (steps_of steps) ∷ []) around

abbrev pub next_step_end : List StepTree → Steps → Tok → Option State
next_step_end steps around token =
    if is kind.Comma token then Some (step_or_end steps around) else on (is kind.RightParen token) (end_steps steps around)

abbrev pub with_line : ExprTree → Name → List Label → Labelled → List StepTree
with_line claim rule cites at = at.steps ++ s.line at.label claim rule cites ∷ []

-- a rule of deduction
abbrev pub rule_of : Tok → Option Name
rule_of token =
    if is_name token then Some (name_of token)
    else (if is kind.SubstLess token then Some (record { text = codes "Subst_<"; place = token.place })
    else on (is kind.SubstGreater token) (record { text = codes "Subst_>"; place = token.place }))

-- the steps of a SubProof, behind its assumption
abbrev pub sub_steps : Option Name → Label → ExprTree → Labelled → Steps
sub_steps None assumed claim at = block_of at.label assumed claim at.steps at.around
sub_steps (Some variable) assumed claim at = let_of at.label variable assumed claim at.steps at.around

-- Expressions that stand for themselves.

-- behind an expression that was read for this
abbrev pub next_whole : ExprTree → Purpose → Tok → Option State
next_whole expr (value_of fixed place written ty at) token = next_stmt_end (with_stmt at (value_tree fixed place written ty expr)) token
next_whole expr (assigned_to written at) token = next_stmt_end (with_stmt at (s.assignment written expr)) token
next_whole expr (argument_of_call written arguments at) token =
    if is kind.RightParen token then Some (after_stmt (with_stmt at (s.call written (exprs_of (arguments ++ expr ∷ [])))))
    else on (is kind.Comma token) (call_or_end written (arguments ++ expr ∷ []) at)
next_whole expr (test_of_if place target) token = on (is kind.RightParen token) (then_due place expr target)
next_whole expr (test_of_loop place at) token = on (is kind.RightParen token) (loop_begin place expr at)
next_whole expr (asserted place at) token = on (is kind.RightParen token) (after_stmt (with_stmt at (s.assertion place expr)))
next_whole expr (returned place draft) token = next_part_end 3 (with_method draft (record draft.method {
  returned = Some (record {
    place = place;
    value = expr;
  });
})) token
next_whole expr (clause_claim word claims draft) token =
    if is kind.RightParen token then Some (end_claims word (claims ++ expr ∷ []) draft) else on (is kind.Comma token) (claim_or_end word (claims ++ expr
    ∷ []) draft)
next_whole expr (loop_claim head) token =
    if is kind.RightParen token then Some (invariant_end (with_loop_claim head expr)) else on (is kind.Comma token) (loop_claim_or_end
    (with_loop_claim head expr))
next_whole expr (step_claim at) token = on (is kind.RightParen token) (by_due expr at)
next_whole expr (assumed_in variable assumed at) token = on (is kind.RightParen token) (step_end [] (sub_steps variable assumed expr at))
