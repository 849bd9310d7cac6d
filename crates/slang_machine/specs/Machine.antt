-- A machine that reads a text token by token. What it reads to the end is to be the tree of the text by the grammar, and from each
-- state that it reaches some text goes on.
use Rattle.std.specs.Prelude.{if◌then◌else◌, pos, List, [], ◌∷◌, ◌++◌, Option, Some, None, option_and_then}
use Rattle.std.specs.Option.{option_map}
use Rattle.slang_lexer.specs.declared.token.TokenKind.TheVariants as kind
use Rattle.slang_lexer.specs.Next.{value_of as number_value}
use Rattle.slang_tree.specs.ExprTree as e
use Rattle.slang_tree.specs.ExprTree.{exprs_of}
use Rattle.slang_tree.specs.StmtTree as s
use Rattle.slang_tree.specs.StmtTree.{stmts_of}
use Rattle.slang_tree.specs.DeclTree as d
use Rattle.slang_tree.specs.DeclTree.{DeclTree}
use Rattle.slang_tokens.specs.Tok.{Tok}
use Rattle.slang_machine.specs.Open.{then_of, else_of, behind_else, deduction_of, with_stmt, put, value_of, assigned_to, argument_of_call, test_of_if, test_of_loop, asserted, clause_claim, loop_claim, step_claim, assumed_in, alone, argument_of, element_of, low_of, constant_of, fields_in, of_result, of_elements, of_value, of_global, of_constants, of_field, of_param, of_method, whole_type, sequence_of}
use Rattle.slang_machine.specs.States.{whole, dotted, loop_names, State, top, ended, path_due, path_end, global_name, global_type, global_equals, want_const, minus_digits, consts_type, consts_left, const_or_end, fields_left, have_const, at_due, class_due, record_name_due, fields_due, field_due, field_name, field_colon_due, field_colon, field_end, naming, params_due, param_or_end, param_colon, param_end, result_colon, equals_due, begin_due, part_or_end, part_end, clauses_due, clause_or_end, clause_end, claims_due, claim_or_end, names_due, first_name, name_end, name_or_end, want_type, type_left, have_type, stmt_or_end, stmt_end, value_name, value_type, value_equals, name_seen, call_or_end, if_left, then_due, else_or_end, else_due, loop_left, loop_begin, invariant_due, invariant_left, modifies_due, loop_claim_end, loop_claim_or_end, invariant_end, assert_left, steps_left, step_due, step_or_end, step_end, labelled, by_due, rule_due, cites_or_end, cite_due, cite_end, cite_or_end, sub_left, assumed_due, assume_due, assume_left, let_left, let_inner, let_name, let_colon, let_type, let_right, let_arrow, let_sub, let_end, want, have, result_or_type, value_left, value_written, value_right, sequence_or_type, elements_due, element_or_end, argument_or_end, field_written, range_left, bound_left, bound_name, bound_arrow}
use Rattle.slang_machine.specs.Expressions.{is, is_name, name_of, is_number_token, on, next_want, next_have, end_or_want, application, body_around, value_tree, type_of}
use Rattle.slang_machine.specs.Statements.{next_part, next_part_end, next_clause, end_claims, loop_block, end_names, label_of, begin_step, end_steps, next_step_end, with_line, rule_of, after_stmt, next_stmt_end, next_stmt_or_end, end_block, next_whole}
use Rattle.slang_machine.specs.Declarations.{begin_type, close_type, end_const, close_consts, next_have_const, begin_const, begin_consts, import_decl, next_ended_decl, begin_decl, end_record, is_datatype}

abbrev pub next : State → Tok → Option State
-- declarations
next (top done) token = begin_decl done token
next (ended done) token = next_ended_decl done token
next (path_due place path done) token = on (is kind.Name token) (path_end place (path ++ name_of token ∷ []) done)
next (path_end place path done) token = if is kind.Dot token then Some (path_due place path done) else next_ended_decl (import_decl place path done) token
next (global_name fixed place done) token = on (is_name token) (global_type fixed place (name_of token) done)
next (global_type fixed place written done) token =
    if is kind.Colon token then Some (want_type (whole_type (of_global fixed place written done)))
    else on (is kind.Equals token) (want_const (constant_of fixed place written None done))
next (global_equals fixed place written ty done) token = on (is kind.Equals token) (want_const (constant_of fixed place written ty done))
next (want_const around) token = begin_const around token
next (minus_digits place around) token = on (is_number_token token) (end_const (d.const_minus place token.place (pos (number_value token.text))) around)
next (consts_type place around) token =
    if is kind.LeftBracket token then Some (want_type (whole_type (of_constants place around))) else on (is kind.LeftParen token)
    (begin_consts place None around)
next (consts_left place ty around) token = on (is kind.LeftParen token) (begin_consts place ty around)
next (const_or_end around) token = if is kind.RightParen token then close_consts around else begin_const around token
next (fields_left written around) token = on (is kind.LeftParen token) (want_const (fields_in written [] around))
next (have_const const around) token = next_have_const const around token
next (at_due place done) token = on (is_datatype token) (class_due place done)
next (class_due place done) token = on (is kind.Class token) (record_name_due place done)
next (record_name_due place done) token = on (is_name token) (fields_due place (name_of token) done)
next (fields_due place written done) token = on (is kind.LeftParen token) (field_name place written [] done)
next (field_due place written fields done) token =
    if is kind.RightParen token then Some (end_record place written fields done)
    else (if is kind.Val token then Some (field_colon_due place written fields done) else on (is_name token) (field_colon place written fields
    (name_of token) done))
next (field_name place written fields done) token =
    if is kind.Val token then Some (field_colon_due place written fields done) else on (is_name token) (field_colon place written fields (name_of token) done)
next (field_colon_due place written fields done) token = on (is_name token) (field_colon place written fields (name_of token) done)
next (field_colon place written fields name done) token = on (is kind.Colon token) (want_type (whole_type (of_field place written fields name done)))
next (field_end place written fields done) token =
    if is kind.Comma token then Some (field_due place written fields done) else on (is kind.RightParen token) (end_record place written fields done)
next (naming done) token = on (is_name token) (params_due (name_of token) done)
next (params_due written done) token = on (is kind.LeftParen token) (param_or_end written [] done)
next (param_or_end written params done) token =
    if is kind.RightParen token then Some (result_colon written params done) else on (is_name token) (param_colon written params (name_of token) done)
next (param_colon written params name done) token = on (is kind.Colon token) (want_type (whole_type (of_param written params name done)))
next (param_end written params done) token =
    if is kind.Comma token then Some (param_or_end written params done) else on (is kind.RightParen token) (result_colon written params done)
next (result_colon written params done) token = on (is kind.Colon token) (want_type (whole_type (of_method written params done)))
next (equals_due draft) token = on (is kind.Equals token) (begin_due draft)
next (begin_due draft) token = on (is kind.LeftBrace token) (part_or_end 0 draft)
-- bodies and contracts
next (part_or_end least draft) token = next_part least draft token
next (part_end least draft) token = next_part_end least draft token
next (clauses_due draft) token = on (is kind.LeftParen token) (clause_or_end 0 draft)
next (clause_or_end least draft) token = next_clause least draft token
next (clause_end least draft) token = if is kind.Comma token then Some (clause_or_end least draft) else on (is kind.RightParen token) (part_end 1 draft)
next (claims_due word draft) token = on (is kind.LeftParen token) (want (alone (clause_claim word [] draft)))
next (claim_or_end word claims draft) token = end_or_want (end_claims word claims draft) (alone (clause_claim word claims draft)) token
next (names_due of) token = on (is kind.LeftParen token) (first_name of)
next (first_name of) token = on (is_name token) (name_end (name_of token ∷ []) of)
next (name_end names of) token = if is kind.Comma token then Some (name_or_end names of) else on (is kind.RightParen token) (end_names names of)
next (name_or_end names of) token =
    if is kind.RightParen token then Some (end_names names of) else on (is_name token) (name_end (names ++ name_of token ∷ []) of)
-- types
next (want_type around) token = begin_type around token (type_of token)
next (type_left place around) token = on (is kind.LeftBracket token) (want_type (sequence_of place around))
next (have_type ty around) token = if is kind.RightBracket token then close_type ty around else None
-- statements
next (stmt_or_end at) token = next_stmt_or_end at token
next (stmt_end at) token = next_stmt_end at token
next (value_name fixed place at) token = on (is_name token) (value_type fixed place (name_of token) at)
next (value_type fixed place written at) token =
    if is kind.Colon token then Some (want_type (whole_type (of_value fixed place written at)))
    else on (is kind.Equals token) (want (alone (value_of fixed place written None at)))
next (value_equals fixed place written ty at) token = on (is kind.Equals token) (want (alone (value_of fixed place written ty at)))
next (name_seen written at) token =
    if is kind.Equals token then Some (want (alone (assigned_to written at))) else on (is kind.LeftParen token) (call_or_end written [] at)
next (call_or_end written arguments at) token =
    end_or_want (after_stmt (with_stmt at (s.call written (exprs_of arguments)))) (alone (argument_of_call written arguments at)) token
next (if_left place target) token = on (is kind.LeftParen token) (want (alone (test_of_if place target)))
next (then_due place test target) token = on (is kind.LeftBrace token) (stmt_or_end (record { stmts = []; block = then_of place test target }))
next (else_or_end place test on_true target) token =
    if is kind.Else token then Some (else_due place test on_true target) else next_stmt_end (put target (s.branch place test on_true s.no_else)) token
next (else_due place test on_true target) token =
    if is kind.If token then Some (if_left token.place (behind_else place test on_true target))
    else on (is kind.LeftBrace token) (stmt_or_end (record { stmts = []; block = else_of place test on_true target }))
next (loop_left place at) token = on (is kind.LeftParen token) (want (alone (test_of_loop place at)))
next (loop_begin place test at) token = on (is kind.LeftBrace token) (invariant_due place test at)
next (invariant_due place test at) token = on (is kind.Invariant token) (invariant_left place test at)
next (invariant_left place test at) token = on (is kind.LeftParen token) (modifies_due place test at)
next (modifies_due place test at) token = on (is kind.Modifies token) (names_due (loop_names place test at))
next (loop_claim_end head) token = if is kind.Comma token then Some (loop_claim_or_end head) else on (is kind.RightParen token) (invariant_end head)
next (loop_claim_or_end head) token = end_or_want (invariant_end head) (alone (loop_claim head)) token
next (invariant_end head) token =
    if is kind.Newline token then Some (stmt_or_end (record { stmts = []; block = loop_block head }))
    else (if is kind.RightBrace token then end_block [] (loop_block head) else None)
next (assert_left place at) token = on (is kind.LeftParen token) (want (alone (asserted place at)))
-- steps
next (steps_left place at) token = on (is kind.LeftParen token) (step_due [] (deduction_of place at))
next (step_due steps around) token = option_map (begin_step steps around) (label_of token)
next (step_or_end steps around) token =
    if is kind.RightParen token then Some (end_steps steps around) else option_map (begin_step steps around) (label_of token)
next (step_end steps around) token = next_step_end steps around token
next (labelled at) token =
    if is kind.LeftParen token then Some (want (alone (step_claim at)))
    else (if is kind.SubProof token then Some (sub_left None at) else on (is kind.Let token) (let_left at))
next (by_due claim at) token = on (is kind.By token) (rule_due claim at)
next (rule_due claim at) token = option_map (λ rule. cites_or_end claim rule at) (rule_of token)
next (cites_or_end claim rule at) token =
    if is kind.LeftParen token then Some (cite_due claim rule at) else next_step_end (with_line claim rule [] at) at.around token
next (cite_due claim rule at) token = option_map (λ label. cite_end claim rule (label ∷ []) at) (label_of token)
next (cite_end claim rule cites at) token =
    if is kind.Comma token then Some (cite_or_end claim rule cites at) else on (is kind.RightParen token) (step_end (with_line claim rule cites at) at.around)
next (cite_or_end claim rule cites at) token =
    if is kind.RightParen token then Some (step_end (with_line claim rule cites at) at.around)
    else option_map (λ label. cite_end claim rule (cites ++ label ∷ []) at) (label_of token)
next (sub_left variable at) token = on (is kind.LeftParen token) (assumed_due variable at)
next (assumed_due variable at) token = option_map (λ label. assume_due variable label at) (label_of token)
next (assume_due variable assumed at) token = on (is kind.Assume token) (assume_left variable assumed at)
next (assume_left variable assumed at) token = on (is kind.LeftParen token) (want (alone (assumed_in variable assumed at)))
next (let_left at) token = on (is kind.LeftParen token) (let_inner at)
next (let_inner at) token = on (is kind.LeftParen token) (let_name at)
next (let_name at) token = on (is_name token) (let_colon (name_of token) at)
next (let_colon variable at) token = on (is kind.Colon token) (let_type variable at)
next (let_type variable at) token = on (is kind.TypeZ token) (let_right variable at)
next (let_right variable at) token = on (is kind.RightParen token) (let_arrow variable at)
next (let_arrow variable at) token = on (is kind.FatArrow token) (let_sub variable at)
next (let_sub variable at) token = on (is kind.SubProof token) (sub_left (Some variable) at)
next (let_end steps around) token = on (is kind.RightParen token) (step_end steps around)
-- expressions
next (want around) token = next_want around token
next (have operand around) token = next_have next_whole operand around token
next (result_or_type place around) token =
    if is kind.LeftBracket token then Some (want_type (whole_type (of_result place around))) else next_have next_whole (whole
    (e.result place None)) around token
next (value_left word place around) token = on (is kind.LeftParen token) (value_written word place around)
next (value_written word place around) token = on (is_name token) (value_right word place (name_of token) around)
next (value_right word place written around) token = on (is kind.RightParen token) (have (whole (value_tree word place written)) around)
next (sequence_or_type place around) token =
    if is kind.LeftBracket token then Some (want_type (whole_type (of_elements place around))) else on (is kind.LeftParen token)
    (element_or_end place None [] around)
next (elements_due place ty around) token = on (is kind.LeftParen token) (element_or_end place (Some ty) [] around)
next (element_or_end place ty elements around) token =
    end_or_want (have (whole (e.sequence place ty (exprs_of elements))) around) (element_of place ty elements around) token
next (argument_or_end head arguments around) token = end_or_want (have (whole (application head arguments)) around) (argument_of head arguments around) token
next (field_written head around) token = on (is_name token) (have (dotted head (name_of token)) around)
next (range_left by place around) token = on (is kind.LeftParen token) (want (low_of by place around))
next (bound_left by place range around) token = on (is kind.LeftParen token) (bound_name by place range around)
next (bound_name by place range around) token = on (is_name token) (bound_arrow by place range (name_of token) around)
next (bound_arrow by place range variable around) token = on (is kind.FatArrow token) (want (body_around by place range variable around))

-- the text at its end
abbrev pub finish : State → Option (List DeclTree)
finish (top done) = Some done
finish (ended done) = Some done
finish (path_end place path done) = Some (import_decl place path done)
finish _ = None

-- the state behind these tokens
abbrev pub moved : State → List Tok → Option State
moved state [] = Some state
moved state (token ∷ tokens) = option_and_then (λ state'. moved state' tokens) (next state token)

-- the tree of the text, from a state on
abbrev pub run : State → List Tok → Option (List DeclTree)
run state [] = finish state
run state (token ∷ tokens) = option_and_then (λ state'. run state' tokens) (next state token)
