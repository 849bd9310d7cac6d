-- Each step of the machine is accounted for.
use Rattle.machine_stands.proofs.Tokens.{on_case, or_case}
use Rattle.machine_stands.proofs.Fronts.{none_yet, separator, grow, every, LastOf, WholeOf, front_is_whole, last_is_whole, last_has_any}
use Rattle.machine_stands.proofs.Opened.{At, Sign, Named, Datatype, TypeIs, Typed, Element, Head, Expressions, Tested, Decls, Path, behind_dot, GlobalHead, OpenConst, RecordHead, FieldsBegin, Fields, FieldNamed, ParamsBegin, Params, AllParams, Header, PartFits, part_step, BodyBegin, ClauseFits, clause_step, ContractBegin, Then, Else, InvariantIs, LoopBegin, OpenTarget}
use Rattle.machine_stands.proofs.Inside.{In, OpenNames, Names, ClaimsBegin, LoopNames, LabelIs, RuleIs, LetIs, StepsBegin, OpenSteps, Label-of, Sub, Claimed, Ruled, Cites, QuantifierAt, OpenRange, OpenAround, OpenType}
use Rattle.machine_stands.proofs.Stands.{value_kind, LetDone, Stands}
use Rattle.machine_stands.proofs.Ends.{at_step, sign_step, name_step, label_case, stands_after, if_is, put_done, loop_done, InnerBegin, whole_open, block_ends}
use Rattle.machine_steps.proofs.Expr.{whole_head}
use Rattle.machine_steps.proofs.Stmts.{part_end_stands, stmt_end_stands, claims_end, claims_of_loop, loop_claims_end, call_ends}
use Rattle.machine_steps.proofs.Starts.{applied_stands, sequence_stands, have_stands, want_stands, end_or_want_stands}
use Rattle.machine_steps.proofs.Types.{begin_type_stands, close_type_stands, consts_end, have_const_stands, begin_const_stands, minus_stands, begin_consts_stands}
use Rattle.machine_steps.proofs.Proofs.{line_done, cites_end, let_ends, whole_steps, step_end_stands, rule_case}
use Rattle.machine_sound.proofs.Decls.{path_due_stands, path_ends, ended_stands, begin_decl_stands, no_type, no_element, datatype_stands, record_ends_stands, field_behind_val, field_begins, clause_stands, clause_end_stands, names_end, begin_stmt_stands, part_stands}
use Rattle.machine_sound.proofs.Members.{mapped, exprs_at_paren, one_name_last, one_label_last, let_text_is}
use Rattle.slang_grammar.specs.Parts.{name_token, IsPlain, one_name, IsLabel, label_tree}
use Rattle.slang_grammar.specs.Expressions.{result, entry_value, old_value, expr_tokens, IsGrouped, expr_tree}
use Rattle.slang_grammar.specs.Proofs.{one_label, block, step_tokens, IsStep, step_tree}
use Rattle.slang_grammar.specs.Statements.{value_word, no_claims, no_else, no_body, stmt_tokens, IsStmt, stmt_tree}
use Rattle.slang_grammar.specs.Declarations.{const_tokens, IsConst, const_tree, param_tokens, IsParam, param_tree, field_tokens, IsField, field_tree, clause_tokens, part_tokens}
use Rattle.slang_machine.specs.Open.{then_of, else_of, behind_else, with_stmt, put, deduction_of, value_of, assigned_to, argument_of_call, test_of_if, test_of_loop, asserted, clause_claim, loop_claim, step_claim, assumed_in, alone, argument_of, element_of, low_of, body_over, body_over_indices, constant_of, fields_in, of_result, of_elements, of_value, of_global, of_constants, of_field, of_param, of_method, whole_type, sequence_of}
use Rattle.slang_machine.specs.States.{whole, dotted, between, indices_of, loop_names, entry_word, old_word, State, top, ended, path_due, path_end, global_name, global_type, global_equals, want_const, minus_digits, consts_type, consts_left, const_or_end, fields_left, have_const, at_due, class_due, record_name_due, fields_due, field_due, field_name, field_colon_due, field_colon, field_end, naming, params_due, param_or_end, param_colon, param_end, result_colon, equals_due, begin_due, part_or_end, part_end, clauses_due, clause_or_end, clause_end, claims_due, claim_or_end, names_due, first_name, name_end, name_or_end, want_type, type_left, have_type, stmt_or_end, stmt_end, value_name, value_type, value_equals, name_seen, call_or_end, if_left, then_due, else_or_end, else_due, loop_left, loop_begin, invariant_due, invariant_left, modifies_due, loop_claim_end, loop_claim_or_end, invariant_end, assert_left, steps_left, step_due, step_or_end, step_end, labelled, by_due, rule_due, cites_or_end, cite_due, cite_end, cite_or_end, sub_left, assumed_due, assume_due, assume_left, let_left, let_inner, let_name, let_colon, let_type, let_right, let_arrow, let_sub, let_end, want, have, result_or_type, value_left, value_written, value_right, sequence_or_type, elements_due, element_or_end, argument_or_end, field_written, range_left, bound_left, bound_name, bound_arrow}
use Rattle.slang_machine.specs.Expressions.{application, is, is_name, name_of, next_have}
use Rattle.slang_machine.specs.Statements.{after_stmt, end_block, next_stmt_end, begin_stmt, end_claims, loop_block, end_names, begin_step, end_steps, next_step_end, with_line, rule_of, next_whole}
use Rattle.slang_machine.specs.Declarations.{close_type, close_consts, begin_const, begin_consts, import_decl, next_ended_decl, end_record}
use Rattle.slang_machine.specs.Machine.{next}
use Rattle.slang_tree.specs.ExprTree.{exprs_of}
use Rattle.slang_tree.specs.declared.expression.Name.{Name}
use Rattle.slang_tokens.specs.Tok.{Tok, sign}
use Rattle.slang_tokens.proofs.Bare.{IsBare}
use Rattle.std.proofs.Common.{List, [], ◌∷◌, ◌++◌, Some, None, refl, sym, subst}
use Rattle.std.specs.Option.{IfSome}
use Rattle.slang_tree.specs.ExprTree as e
use Rattle.slang_lexer.specs.declared.token.TokenKind.TheVariants as kind
use Rattle.slang_tree.specs.StmtTree as s

-- what a token leads to is accounted for
pub stands_next : (all : List Tok) (state : State) (token : Tok) (rest : List Tok) → IsBare token → Stands all state (token ∷ rest)
    → IfSome (next state token) (λ state. Stands all state rest)
stands_next all (top done) token rest bare h =
    begin_decl_stands all done token rest bare h
stands_next all (ended done) token rest bare h =
    ended_stands all done token rest bare h
stands_next all (path_due place path done) token rest bare h =
    path_due_stands all place path done token rest h
stands_next all (path_end place path done) token rest bare h =
    or_case (is kind.Dot token) (Some (path_due place path done)) (next_ended_decl (import_decl place path done) token) (λ state. Stands all state rest)
    (λ b. behind_dot (sign_step kind.Dot token rest (Path all place path done) refl refl bare b h))
    (λ b. ended_stands all (import_decl place path done) token rest bare (path_ends all place path done (token ∷ rest) h))
stands_next all (global_name fixed place done) token rest bare h =
    on_case (is_name token) (global_type fixed place (name_of token) done) (λ state. Stands all state rest) (λ b. name_step token rest (GlobalHead all fixed place done) b h)
stands_next all (global_type fixed place written done) token rest bare h =
    let K : List Tok → Type 0 = Named written (GlobalHead all fixed place done) in
    or_case (is kind.Colon token) (Some (want_type (whole_type (of_global fixed place written done)))) _ (λ state. Stands all state rest)
    (λ b. sign_step kind.Colon token rest K refl refl bare b h)
    (λ b. on_case (is kind.Equals token) (want_const (constant_of fixed place written None done)) (λ state. Stands all state rest)
    (λ b. sign_step kind.Equals token rest (Typed None K) refl refl bare b (no_type K (token ∷ rest) h)))
stands_next all (global_equals fixed place written ty done) token rest bare h =
    on_case (is kind.Equals token) (want_const (constant_of fixed place written ty done)) (λ state. Stands all state rest)
    (λ b. sign_step kind.Equals token rest (Typed ty (Named written (GlobalHead all fixed place done))) refl refl bare b h)
stands_next all (want_const around) token rest bare h =
    begin_const_stands all around token rest bare h
stands_next all (minus_digits place around) token rest bare h =
    minus_stands all place around token rest bare h
stands_next all (consts_type place around) token rest bare h =
    let K : List Tok → Type 0 = At kind.TypeIsz place (OpenConst all around) in
    or_case (is kind.LeftBracket token) (Some (want_type (whole_type (of_constants place around)))) _ (λ state. Stands all state rest)
    (λ b. sign_step kind.LeftBracket token rest K refl refl bare b h)
    (λ b. on_case (is kind.LeftParen token) (begin_consts place None around) (λ state. Stands all state rest)
    (λ b. begin_consts_stands all place None around rest (sign_step kind.LeftParen token rest (Element None K) refl refl bare b (no_element K (token ∷ rest) h))))
stands_next all (consts_left place None around) token rest bare h =
    absurd h
stands_next all (consts_left place (Some ty) around) token rest bare h =
    on_case (is kind.LeftParen token) (begin_consts place (Some ty) around) (λ state. Stands all state rest)
    (λ b. begin_consts_stands all place (Some ty) around rest (sign_step kind.LeftParen token rest (Element (Some ty) (At kind.TypeIsz place
    (OpenConst all around))) refl refl bare b h))
stands_next all (const_or_end around) token rest bare h =
    or_case (is kind.RightParen token) (close_consts around) (begin_const around token) (λ state. Stands all state rest)
    (λ b. consts_end all around token.place rest h.0 (at_step kind.RightParen token rest (OpenConst all around) refl refl bare b h.1))
    (λ b. begin_const_stands all around token rest bare h.1)
stands_next all (fields_left written around) token rest bare h =
    on_case (is kind.LeftParen token) (want_const (fields_in written [] around)) (λ state. Stands all state rest)
    (λ b. none_yet kind.Comma const_tokens (every IsConst) (grow const_tree) [] (Sign kind.LeftParen (Named written (OpenConst all around))) rest
    (sign_step kind.LeftParen token rest (Named written (OpenConst all around)) refl refl bare b h))
stands_next all (have_const const around) token rest bare h =
    have_const_stands all const around token rest bare h.0 h.1
stands_next all (at_due place done) token rest bare h =
    datatype_stands all place done token rest h
stands_next all (class_due place done) token rest bare h =
    on_case (is kind.Class token) (record_name_due place done) (λ state. Stands all state rest)
    (λ b. sign_step kind.Class token rest (Datatype (At kind.At place (Decls all done))) refl refl bare b h)
stands_next all (record_name_due place done) token rest bare h =
    on_case (is_name token) (fields_due place (name_of token) done) (λ state. Stands all state rest) (λ b. name_step token rest (RecordHead all place done) b h)
stands_next all (fields_due place written done) token rest bare h =
    on_case (is kind.LeftParen token) (field_name place written [] done) (λ state. Stands all state rest)
    (λ b. none_yet kind.Comma field_tokens (every IsField) (grow field_tree) [] (FieldsBegin all place written done) rest
    (sign_step kind.LeftParen token rest (Named written (RecordHead all place done)) refl refl bare b h))
stands_next all (field_due place written fields done) token rest bare h =
    or_case (is kind.RightParen token) (Some (end_record place written fields done)) _ (λ state. Stands all state rest)
    (λ b. record_ends_stands all place written fields done token.place rest h.0
    (front_is_whole kind.Comma field_tokens IsField field_tree (FieldsBegin all place written done) fields (sign kind.RightParen token.place ∷ rest)
    (at_step kind.RightParen token rest (Fields all place written fields done) refl refl bare b h.1)))
    (λ b. field_begins all place written fields done token rest bare h.1)
stands_next all (field_name place written fields done) token rest bare h =
    field_begins all place written fields done token rest bare h
stands_next all (field_colon_due place written fields done) token rest bare h =
    field_behind_val all place written fields done token rest h
stands_next all (field_colon place written fields n done) token rest bare h =
    on_case (is kind.Colon token) (want_type (whole_type (of_field place written fields n done))) (λ state. Stands all state rest)
    (λ b. sign_step kind.Colon token rest (FieldNamed all place written fields n done) refl refl bare b h)
stands_next all (field_end place written fields done) token rest bare h =
    let K : List Tok → Type 0 = FieldsBegin all place written done in
    let any = last_has_any kind.Comma field_tokens IsField field_tree K fields (token ∷ rest) h in
    or_case (is kind.Comma token) (Some (field_due place written fields done)) _ (λ state. Stands all state rest)
    (λ b. (
      any,
      separator kind.Comma field_tokens (every IsField) (grow field_tree) [] K fields token.place rest
          (at_step kind.Comma token rest (LastOf kind.Comma field_tokens IsField field_tree K fields) refl refl bare b h),
    ))
    (λ b. on_case (is kind.RightParen token) (end_record place written fields done) (λ state. Stands all state rest)
    (λ b. record_ends_stands all place written fields done token.place rest any
    (last_is_whole kind.Comma field_tokens IsField field_tree K fields (sign kind.RightParen token.place ∷ rest)
    (at_step kind.RightParen token rest (LastOf kind.Comma field_tokens IsField field_tree K fields) refl refl bare b h))))
stands_next all (naming done) token rest bare h =
    on_case (is_name token) (params_due (name_of token) done) (λ state. Stands all state rest) (λ b. name_step token rest (Sign kind.Def (Decls all done)) b h)
stands_next all (params_due written done) token rest bare h =
    on_case (is kind.LeftParen token) (param_or_end written [] done) (λ state. Stands all state rest)
    (λ b. none_yet kind.Comma param_tokens (every IsParam) (grow param_tree) [] (ParamsBegin all written done) rest
    (sign_step kind.LeftParen token rest (Named written (Sign kind.Def (Decls all done))) refl refl bare b h))
stands_next all (param_or_end written params done) token rest bare h =
    let K : List Tok → Type 0 = ParamsBegin all written done in
    or_case (is kind.RightParen token) (Some (result_colon written params done)) _ (λ state. Stands all state rest)
    (λ b. sign_step kind.RightParen token rest (WholeOf kind.Comma param_tokens IsParam param_tree K params) refl refl bare b
    (front_is_whole kind.Comma param_tokens IsParam param_tree K params (token ∷ rest) h))
    (λ b. on_case (is_name token) (param_colon written params (name_of token) done) (λ state. Stands all state rest) (λ b. name_step token rest (Params all written params done) b h))
stands_next all (param_colon written params n done) token rest bare h =
    on_case (is kind.Colon token) (want_type (whole_type (of_param written params n done))) (λ state. Stands all state rest)
    (λ b. sign_step kind.Colon token rest (Named n (Params all written params done)) refl refl bare b h)
stands_next all (param_end written params done) token rest bare h =
    let K : List Tok → Type 0 = ParamsBegin all written done in
    or_case (is kind.Comma token) (Some (param_or_end written params done)) _ (λ state. Stands all state rest)
    (λ b. separator kind.Comma param_tokens (every IsParam) (grow param_tree) [] K params token.place rest
    (at_step kind.Comma token rest (LastOf kind.Comma param_tokens IsParam param_tree K params) refl refl bare b h))
    (λ b. on_case (is kind.RightParen token) (result_colon written params done) (λ state. Stands all state rest)
    (λ b. sign_step kind.RightParen token rest (WholeOf kind.Comma param_tokens IsParam param_tree K params) refl refl bare b
    (last_is_whole kind.Comma param_tokens IsParam param_tree K params (token ∷ rest) h)))
stands_next all (result_colon written params done) token rest bare h =
    on_case (is kind.Colon token) (want_type (whole_type (of_method written params done))) (λ state. Stands all state rest)
    (λ b. sign_step kind.Colon token rest (AllParams all written params done) refl refl bare b h)
stands_next all (equals_due draft) token rest bare h =
    on_case (is kind.Equals token) (begin_due draft) (λ state. Stands all state rest)
    (λ b. sign_step kind.Equals token rest (Header all draft.done draft.method) refl refl bare b h)
stands_next all (begin_due draft) token rest bare h =
    on_case (is kind.LeftBrace token) (part_or_end 0 draft) (λ state. Stands all state rest) (λ b. record {
      bare = draft.method;
      parts = none_yet kind.Newline part_tokens PartFits part_step (0, draft.method) (BodyBegin all draft.done draft.method) rest
          (sign_step kind.LeftBrace token rest (Sign kind.Equals (Header all draft.done draft.method)) refl refl bare b h);
    })
stands_next all (part_or_end least draft) token rest bare h =
    part_stands all least draft token rest bare h
stands_next all (part_end least draft) token rest bare h =
    part_end_stands all least draft token rest bare h
stands_next all (clauses_due draft) token rest bare h =
    on_case (is kind.LeftParen token) (clause_or_end 0 draft) (λ state. Stands all state rest) (λ b. record {
      bare = draft.method;
      clauses = none_yet kind.Comma clause_tokens ClauseFits clause_step (0, draft.method) (Sign kind.LeftParen (ContractBegin all draft)) rest
          (sign_step kind.LeftParen token rest (ContractBegin all draft) refl refl bare b h);
    })
stands_next all (clause_or_end least draft) token rest bare h =
    clause_stands all least draft token rest bare h
stands_next all (clause_end least draft) token rest bare h =
    clause_end_stands all least draft token rest bare h
stands_next all (claims_due word draft) token rest bare h =
    on_case (is kind.LeftParen token) (want (alone (clause_claim word [] draft))) (λ state. Stands all state rest)
    (λ b. none_yet kind.Comma expr_tokens (every IsGrouped) (grow expr_tree) [] (Sign kind.LeftParen (ClaimsBegin all word draft)) rest
    (sign_step kind.LeftParen token rest (ClaimsBegin all word draft) refl refl bare b h))
stands_next all (claim_or_end word claims draft) token rest bare h =
    end_or_want_stands all (end_claims word claims draft) (alone (clause_claim word claims draft)) token rest bare
    (λ b. claims_end all word claims draft token.place rest h.0
    (exprs_at_paren (Sign kind.LeftParen (ClaimsBegin all word draft)) claims token rest bare b h.1)) h.1
stands_next all (names_due of) token rest bare h =
    on_case (is kind.LeftParen token) (first_name of) (λ state. Stands all state rest)
    (λ b. sign_step kind.LeftParen token rest (OpenNames all of) refl refl bare b h)
stands_next all (first_name of) token rest bare h =
    on_case (is_name token) (name_end (name_of token ∷ []) of) (λ state. Stands all state rest) (λ b. one_name_last all of [] token rest b
    (none_yet kind.Comma one_name (every IsPlain) (grow (λ (n : Name). n)) [] (Sign kind.LeftParen (OpenNames all of)) (token ∷ rest) h))
stands_next all (name_end names of) token rest bare h =
    let K : List Tok → Type 0 = Sign kind.LeftParen (OpenNames all of) in
    let any = last_has_any kind.Comma one_name IsPlain (λ (n : Name). n) K names (token ∷ rest) h in
    or_case (is kind.Comma token) (Some (name_or_end names of)) _ (λ state. Stands all state rest)
    (λ b. (
      any,
      separator kind.Comma one_name (every IsPlain) (grow (λ (n : Name). n)) [] K names token.place rest
          (at_step kind.Comma token rest (LastOf kind.Comma one_name IsPlain (λ (n : Name). n) K names) refl refl bare b h),
    ))
    (λ b. on_case (is kind.RightParen token) (end_names names of) (λ state. Stands all state rest)
    (λ b. names_end all names of token.place rest any
    (last_is_whole kind.Comma one_name IsPlain (λ (n : Name). n) K names (sign kind.RightParen token.place ∷ rest)
    (at_step kind.RightParen token rest (LastOf kind.Comma one_name IsPlain (λ (n : Name). n) K names) refl refl bare b h))))
stands_next all (name_or_end names of) token rest bare h =
    let K : List Tok → Type 0 = Sign kind.LeftParen (OpenNames all of) in
    or_case (is kind.RightParen token) (Some (end_names names of)) _ (λ state. Stands all state rest)
    (λ b. names_end all names of token.place rest h.0
    (front_is_whole kind.Comma one_name IsPlain (λ (n : Name). n) K names (sign kind.RightParen token.place ∷ rest)
    (at_step kind.RightParen token rest (Names all of names) refl refl bare b h.1)))
    (λ b. on_case (is_name token) (name_end (names ++ name_of token ∷ []) of) (λ state. Stands all state rest) (λ b. one_name_last all of names token rest b h.1))
stands_next all (want_type around) token rest bare h =
    begin_type_stands all around token rest bare h
stands_next all (type_left place around) token rest bare h =
    on_case (is kind.LeftBracket token) (want_type (sequence_of place around)) (λ state. Stands all state rest)
    (λ b. sign_step kind.LeftBracket token rest (At kind.TypeIsz place (OpenType all around)) refl refl bare b h)
stands_next all (have_type ty around) token rest bare h =
    or_case (is kind.RightBracket token) (close_type ty around) None (λ state. Stands all state rest)
    (λ b. close_type_stands all ty around token.place rest h.0 (at_step kind.RightBracket token rest (TypeIs ty (OpenType all around)) refl refl bare b h.1))
    (λ b. tt)
stands_next all (stmt_or_end at) token rest bare h =
    or_case (is kind.RightBrace token) (end_block at.stmts at.block) (begin_stmt at token) (λ state. Stands all state rest)
    (λ b. block_ends all at.block at.stmts token.place rest h.0 (whole_open all at.block at.stmts (sign kind.RightBrace token.place ∷ rest) h.0
    (at_step kind.RightBrace token rest (In all at) refl refl bare b h.1)))
    (λ b. begin_stmt_stands all at token rest bare h.1)
stands_next all (stmt_end at) token rest bare h =
    stmt_end_stands all at token rest bare h.1
stands_next all (value_name fixed place at) token rest bare h =
    on_case (is_name token) (value_type fixed place (name_of token) at) (λ state. Stands all state rest) (λ b. name_step token rest (At (value_word fixed) place (In all at)) b h)
stands_next all (value_type fixed place written at) token rest bare h =
    let K : List Tok → Type 0 = Named written (At (value_word fixed) place (In all at)) in
    or_case (is kind.Colon token) (Some (want_type (whole_type (of_value fixed place written at)))) _ (λ state. Stands all state rest)
    (λ b. sign_step kind.Colon token rest K refl refl bare b h)
    (λ b. on_case (is kind.Equals token) (want (alone (value_of fixed place written None at))) (λ state. Stands all state rest)
    (λ b. sign_step kind.Equals token rest (Typed None K) refl refl bare b (no_type K (token ∷ rest) h)))
stands_next all (value_equals fixed place written ty at) token rest bare h =
    on_case (is kind.Equals token) (want (alone (value_of fixed place written ty at))) (λ state. Stands all state rest)
    (λ b. sign_step kind.Equals token rest (Typed ty (Named written (At (value_word fixed) place (In all at)))) refl refl bare b h)
stands_next all (name_seen written at) token rest bare h =
    or_case (is kind.Equals token) (Some (want (alone (assigned_to written at)))) _ (λ state. Stands all state rest)
    (λ b. sign_step kind.Equals token rest (Named written (In all at)) refl refl bare b h)
    (λ b. on_case (is kind.LeftParen token) (call_or_end written [] at) (λ state. Stands all state rest)
    (λ b. none_yet kind.Comma expr_tokens (every IsGrouped) (grow expr_tree) [] (Sign kind.LeftParen (Named written (In all at))) rest
    (sign_step kind.LeftParen token rest (Named written (In all at)) refl refl bare b h)))
stands_next all (call_or_end written arguments at) token rest bare h =
    end_or_want_stands all (after_stmt (with_stmt at (s.call written (exprs_of arguments)))) (alone (argument_of_call written arguments at)) token rest bare
    (λ b. call_ends all written at arguments token.place rest
    (exprs_at_paren (Sign kind.LeftParen (Named written (In all at))) arguments token rest bare b h)) h
stands_next all (if_left place target) token rest bare h =
    on_case (is kind.LeftParen token) (want (alone (test_of_if place target))) (λ state. Stands all state rest)
    (λ b. sign_step kind.LeftParen token rest (At kind.If place (OpenTarget all target)) refl refl bare b h)
stands_next all (then_due place test target) token rest bare h =
    on_case (is kind.LeftBrace token) (stmt_or_end (record { stmts = []; block = then_of place test target })) (λ state. Stands all state rest)
    (λ b. (
      tt,
      none_yet kind.Newline stmt_tokens (every IsStmt) (grow stmt_tree) [] (InnerBegin all (then_of place test target)) rest
          (sign_step kind.LeftBrace token rest (Tested kind.If place test (OpenTarget all target)) refl refl bare b h),
    ))
stands_next all (else_or_end place test on_true target) token rest bare h =
    or_case (is kind.Else token) (Some (else_due place test on_true target)) (next_stmt_end (put target (s.branch place test on_true s.no_else)) token) (λ state. Stands all state rest)
    (λ b. sign_step kind.Else token rest (Then place test on_true (OpenTarget all target)) refl refl bare b h)
    (λ b. stmt_end_stands all (put target (s.branch place test on_true s.no_else)) token rest bare
    (put_done all target (s.branch place test on_true s.no_else) (token ∷ rest)
    (if_is place test on_true (OpenTarget all target) no_else (token ∷ rest) tt h)))
stands_next all (else_due place test on_true target) token rest bare h =
    or_case (is kind.If token) (Some (if_left token.place (behind_else place test on_true target))) _ (λ state. Stands all state rest)
    (λ b. at_step kind.If token rest (Else place test on_true (OpenTarget all target)) refl refl bare b h)
    (λ b. on_case (is kind.LeftBrace token) (stmt_or_end (record { stmts = []; block = else_of place test on_true target })) (λ state. Stands all state rest)
    (λ b. (
      tt,
      none_yet kind.Newline stmt_tokens (every IsStmt) (grow stmt_tree) [] (InnerBegin all (else_of place test on_true target)) rest
          (sign_step kind.LeftBrace token rest (Else place test on_true (OpenTarget all target)) refl refl bare b h),
    )))
stands_next all (loop_left place at) token rest bare h =
    on_case (is kind.LeftParen token) (want (alone (test_of_loop place at))) (λ state. Stands all state rest)
    (λ b. sign_step kind.LeftParen token rest (At kind.While place (In all at)) refl refl bare b h)
stands_next all (loop_begin place test at) token rest bare h =
    on_case (is kind.LeftBrace token) (invariant_due place test at) (λ state. Stands all state rest)
    (λ b. sign_step kind.LeftBrace token rest (Tested kind.While place test (In all at)) refl refl bare b h)
stands_next all (invariant_due place test at) token rest bare h =
    on_case (is kind.Invariant token) (invariant_left place test at) (λ state. Stands all state rest)
    (λ b. sign_step kind.Invariant token rest (LoopBegin place test (In all at)) refl refl bare b h)
stands_next all (invariant_left place test at) token rest bare h =
    on_case (is kind.LeftParen token) (modifies_due place test at) (λ state. Stands all state rest)
    (λ b. sign_step kind.LeftParen token rest (Sign kind.Invariant (LoopBegin place test (In all at))) refl refl bare b h)
stands_next all (modifies_due place test at) token rest bare h =
    on_case (is kind.Modifies token) (names_due (loop_names place test at)) (λ state. Stands all state rest)
    (λ b. sign_step kind.Modifies token rest (Sign kind.LeftParen (Sign kind.Invariant (LoopBegin place test (In all at)))) refl refl bare b h)
stands_next all (loop_claim_end head) token rest bare h =
    or_case (is kind.Comma token) (Some (loop_claim_or_end head)) _ (λ state. Stands all state rest)
    (λ b. subst (λ x. Expressions (Sign kind.Comma (LoopNames all head)) x rest) (sym h.0)
    (none_yet kind.Comma expr_tokens (every IsGrouped) (grow expr_tree) [] (Sign kind.Comma (LoopNames all head)) rest
    (sign_step kind.Comma token rest (LoopNames all head) refl refl bare b h.1)))
    (λ b. on_case (is kind.RightParen token) (invariant_end head) (λ state. Stands all state rest)
    (λ b. claims_of_loop all head head.claims no_claims token.place rest tt (sym h.0)
    (at_step kind.RightParen token rest (LoopNames all head) refl refl bare b h.1)))
stands_next all (loop_claim_or_end head) token rest bare h =
    end_or_want_stands all (invariant_end head) (alone (loop_claim head)) token rest bare
    (λ b. loop_claims_end all head head.claims token.place rest (exprs_at_paren (Sign kind.Comma (LoopNames all head)) head.claims token rest bare b h)) h
stands_next all (invariant_end head) token rest bare h =
    let K : List Tok → Type 0 = InvariantIs head.modifies head.claims (LoopBegin head.place head.test (In all head.around)) in
    or_case (is kind.Newline token) (Some (stmt_or_end (record { stmts = []; block = loop_block head }))) _ (λ state. Stands all state rest)
    (λ b. (
      tt,
      none_yet kind.Newline stmt_tokens (every IsStmt) (grow stmt_tree) [] (InnerBegin all (loop_block head)) rest
          (sign_step kind.Newline token rest K refl refl bare b h),
    ))
    (λ b. or_case (is kind.RightBrace token) (end_block [] (loop_block head)) None (λ state. Stands all state rest)
    (λ b. stands_after all (with_stmt head.around (s.loop head.place head.test head.modifies head.claims s.no_stmts)) rest
    (loop_done all head.place head.test head.modifies head.claims head.around no_body token.place rest tt
    (at_step kind.RightBrace token rest K refl refl bare b h)))
    (λ b. tt))
stands_next all (assert_left place at) token rest bare h =
    on_case (is kind.LeftParen token) (want (alone (asserted place at))) (λ state. Stands all state rest)
    (λ b. sign_step kind.LeftParen token rest (At kind.Assert place (In all at)) refl refl bare b h)
stands_next all (steps_left place at) token rest bare h =
    on_case (is kind.LeftParen token) (step_due [] (deduction_of place at)) (λ state. Stands all state rest)
    (λ b. none_yet kind.Comma step_tokens (every IsStep) (grow step_tree) [] (StepsBegin all (deduction_of place at)) rest
    (sign_step kind.LeftParen token rest (At kind.Deduce place (In all at)) refl refl bare b h))
stands_next all (step_due steps around) token rest bare h =
    label_case token rest (OpenSteps all around steps) (begin_step steps around) (λ state. Stands all state rest) h (λ label k. k)
stands_next all (step_or_end steps around) token rest bare h =
    or_case (is kind.RightParen token) (Some (end_steps steps around)) _ (λ state. Stands all state rest)
    (λ b. whole_steps all around steps token.place rest h.0
    (front_is_whole kind.Comma step_tokens IsStep step_tree (StepsBegin all around) steps (sign kind.RightParen token.place ∷ rest)
    (at_step kind.RightParen token rest (OpenSteps all around steps) refl refl bare b h.1)))
    (λ b. label_case token rest (OpenSteps all around steps) (begin_step steps around) (λ state. Stands all state rest) h.1 (λ label k. k))
stands_next all (step_end steps around) token rest bare h =
    step_end_stands all steps around token rest bare h
stands_next all (labelled at) token rest bare h =
    or_case (is kind.LeftParen token) (Some (want (alone (step_claim at)))) _ (λ state. Stands all state rest)
    (λ b. sign_step kind.LeftParen token rest (Label-of all at) refl refl bare b h)
    (λ b. or_case (is kind.SubProof token) (Some (sub_left None at)) _ (λ state. Stands all state rest)
    (λ b. sign_step kind.SubProof token rest (Label-of all at) refl refl bare b h)
    (λ b. on_case (is kind.Let token) (let_left at) (λ state. Stands all state rest) (λ b. sign_step kind.Let token rest (Label-of all at) refl refl bare b h)))
stands_next all (by_due claim at) token rest bare h =
    on_case (is kind.By token) (rule_due claim at) (λ state. Stands all state rest)
    (λ b. sign_step kind.By token rest (Claimed all claim at) refl refl bare b h)
stands_next all (rule_due claim at) token rest bare h =
    mapped (rule_of token) (λ rule. RuleIs rule (Sign kind.By (Claimed all claim at)) rest) (λ rule. cites_or_end claim rule at) (λ state. Stands all state rest)
    (rule_case token rest (Sign kind.By (Claimed all claim at)) bare h) (λ rule k. k)
stands_next all (cites_or_end claim rule at) token rest bare h =
    or_case (is kind.LeftParen token) (Some (cite_due claim rule at)) (next_step_end (with_line claim rule [] at) at.around token) (λ state. Stands all state rest)
    (λ b. sign_step kind.LeftParen token rest (Ruled all claim rule at) refl refl bare b h)
    (λ b. step_end_stands all (with_line claim rule [] at) at.around token rest bare (line_done all claim rule [] at None (token ∷ rest) tt refl h))
stands_next all (cite_due claim rule at) token rest bare h =
    let K : List Tok → Type 0 = Sign kind.LeftParen (Ruled all claim rule at) in
    label_case token rest (Cites all claim rule [] at) (λ label. cite_end claim rule (label ∷ []) at) (λ state. Stands all state rest)
    (none_yet kind.Comma one_label (every IsLabel) (grow label_tree) [] K (token ∷ rest) h) (λ label k. one_label_last K [] label rest k)
stands_next all (cite_end claim rule cites at) token rest bare h =
    let K : List Tok → Type 0 = Sign kind.LeftParen (Ruled all claim rule at) in
    let any = last_has_any kind.Comma one_label IsLabel label_tree K cites (token ∷ rest) h in
    or_case (is kind.Comma token) (Some (cite_or_end claim rule cites at)) _ (λ state. Stands all state rest)
    (λ b. (
      any,
      separator kind.Comma one_label (every IsLabel) (grow label_tree) [] K cites token.place rest
          (at_step kind.Comma token rest (LastOf kind.Comma one_label IsLabel label_tree K cites) refl refl bare b h),
    ))
    (λ b. on_case (is kind.RightParen token) (step_end (with_line claim rule cites at) at.around) (λ state. Stands all state rest)
    (λ b. cites_end all claim rule cites at token.place rest any
    (last_is_whole kind.Comma one_label IsLabel label_tree K cites (sign kind.RightParen token.place ∷ rest)
    (at_step kind.RightParen token rest (LastOf kind.Comma one_label IsLabel label_tree K cites) refl refl bare b h))))
stands_next all (cite_or_end claim rule cites at) token rest bare h =
    let K : List Tok → Type 0 = Sign kind.LeftParen (Ruled all claim rule at) in
    or_case (is kind.RightParen token) (Some (step_end (with_line claim rule cites at) at.around)) _ (λ state. Stands all state rest)
    (λ b. cites_end all claim rule cites at token.place rest h.0
    (front_is_whole kind.Comma one_label IsLabel label_tree K cites (sign kind.RightParen token.place ∷ rest)
    (at_step kind.RightParen token rest (Cites all claim rule cites at) refl refl bare b h.1)))
    (λ b. label_case token rest (Cites all claim rule cites at) (λ label. cite_end claim rule (cites ++ label ∷ []) at) (λ state. Stands all state rest) h.1
    (λ label k. one_label_last K cites label rest k))
stands_next all (sub_left bound at) token rest bare h =
    on_case (is kind.LeftParen token) (assumed_due bound at) (λ state. Stands all state rest)
    (λ b. sign_step kind.LeftParen token rest (Sub all bound at) refl refl bare b h)
stands_next all (assumed_due bound at) token rest bare h =
    label_case token rest (Sign kind.LeftParen (Sub all bound at)) (λ label. assume_due bound label at) (λ state. Stands all state rest) h (λ label k. k)
stands_next all (assume_due bound assumed at) token rest bare h =
    on_case (is kind.Assume token) (assume_left bound assumed at) (λ state. Stands all state rest)
    (λ b. sign_step kind.Assume token rest (LabelIs assumed (Sign kind.LeftParen (Sub all bound at))) refl refl bare b h)
stands_next all (assume_left bound assumed at) token rest bare h =
    on_case (is kind.LeftParen token) (want (alone (assumed_in bound assumed at))) (λ state. Stands all state rest)
    (λ b. sign_step kind.LeftParen token rest (Sign kind.Assume (LabelIs assumed (Sign kind.LeftParen (Sub all bound at)))) refl refl bare b h)
stands_next all (let_left at) token rest bare h =
    on_case (is kind.LeftParen token) (let_inner at) (λ state. Stands all state rest)
    (λ b. sign_step kind.LeftParen token rest (Sign kind.Let (Label-of all at)) refl refl bare b h)
stands_next all (let_inner at) token rest bare h =
    on_case (is kind.LeftParen token) (let_name at) (λ state. Stands all state rest)
    (λ b. sign_step kind.LeftParen token rest (Sign kind.LeftParen (Sign kind.Let (Label-of all at))) refl refl bare b h)
stands_next all (let_name at) token rest bare h =
    on_case (is_name token) (let_colon (name_of token) at) (λ state. Stands all state rest) (λ b. name_step token rest (Sign kind.LeftParen (Sign kind.LeftParen (Sign kind.Let (Label-of all at)))) b h)
stands_next all (let_colon bound at) token rest bare h =
    on_case (is kind.Colon token) (let_type bound at) (λ state. Stands all state rest)
    (λ b. sign_step kind.Colon token rest (Named bound (Sign kind.LeftParen (Sign kind.LeftParen (Sign kind.Let (Label-of all at))))) refl refl bare b h)
stands_next all (let_type bound at) token rest bare h =
    on_case (is kind.TypeZ token) (let_right bound at) (λ state. Stands all state rest)
    (λ b. sign_step kind.TypeZ token rest (Sign kind.Colon (Named bound (Sign kind.LeftParen (Sign kind.LeftParen (Sign kind.Let (Label-of all at)))))) refl refl bare b h)
stands_next all (let_right bound at) token rest bare h =
    on_case (is kind.RightParen token) (let_arrow bound at) (λ state. Stands all state rest)
    (λ b. sign_step kind.RightParen token rest (Sign kind.TypeZ (Sign kind.Colon (Named bound (Sign kind.LeftParen (Sign kind.LeftParen (Sign kind.Let (Label-of all at))))))) refl refl bare b h)
stands_next all (let_arrow bound at) token rest bare h =
    on_case (is kind.FatArrow token) (let_sub bound at) (λ state. Stands all state rest)
    (λ b. let_text_is all bound at token.place rest (at_step kind.FatArrow token rest (λ r. Stands all (let_arrow bound at) r) refl refl bare b h))
stands_next all (let_sub bound at) token rest bare h =
    on_case (is kind.SubProof token) (sub_left (Some bound) at) (λ state. Stands all state rest)
    (λ b. sign_step kind.SubProof token rest (LetIs bound (Label-of all at)) refl refl bare b h)
stands_next all (let_end steps around) token rest bare h =
    on_case (is kind.RightParen token) (step_end steps around) (λ state. Stands all state rest)
    (λ b. let_ends all around steps token.place rest (at_step kind.RightParen token rest (LetDone all around steps) refl refl bare b h))
stands_next all (want around) token rest bare h =
    want_stands all around token rest bare h
stands_next all (have operand around) token rest bare h =
    have_stands all operand around token rest bare h
stands_next all (result_or_type place around) token rest bare h =
    let K : List Tok → Type 0 = At kind.Res place (OpenAround all around) in
    or_case (is kind.LeftBracket token) (Some (want_type (whole_type (of_result place around)))) (next_have next_whole (whole (e.result place None)) around token) (λ state. Stands all state rest)
    (λ b. sign_step kind.LeftBracket token rest K refl refl bare b h)
    (λ b. have_stands all (whole (e.result place None)) around token rest bare
    (whole_head all around (result place None) (e.result place None) (token ∷ rest) tt refl refl h))
stands_next all (value_left word place around) token rest bare h =
    on_case (is kind.LeftParen token) (value_written word place around) (λ state. Stands all state rest)
    (λ b. sign_step kind.LeftParen token rest (At (value_kind word) place (OpenAround all around)) refl refl bare b h)
stands_next all (value_written word place around) token rest bare h =
    on_case (is_name token) (value_right word place (name_of token) around) (λ state. Stands all state rest) (λ b. name_step token rest (Sign kind.LeftParen (At (value_kind word) place (OpenAround all around))) b h)
stands_next all (value_right entry_word place written around) token rest bare h =
    on_case (is kind.RightParen token) (have (whole (e.entry_value place written)) around) (λ state. Stands all state rest)
    (λ b. whole_head all around (entry_value place h.opened.place written token.place) (e.entry_value place written) rest h.plain refl refl
    (at_step kind.RightParen token rest (λ r. OpenAround all around (sign kind.In place ∷ sign kind.LeftParen h.opened.place ∷ name_token written ∷ r)) refl
    refl bare b h.opened.opened))
stands_next all (value_right old_word place written around) token rest bare h =
    on_case (is kind.RightParen token) (have (whole (e.old_value place written)) around) (λ state. Stands all state rest)
    (λ b. whole_head all around (old_value place h.opened.place written token.place) (e.old_value place written) rest h.plain refl refl
    (at_step kind.RightParen token rest (λ r. OpenAround all around (sign kind.Old place ∷ sign kind.LeftParen h.opened.place ∷ name_token written ∷ r)) refl
    refl bare b h.opened.opened))
stands_next all (sequence_or_type place around) token rest bare h =
    let K : List Tok → Type 0 = At kind.TypeIsz place (OpenAround all around) in
    or_case (is kind.LeftBracket token) (Some (want_type (whole_type (of_elements place around)))) _ (λ state. Stands all state rest)
    (λ b. sign_step kind.LeftBracket token rest K refl refl bare b h)
    (λ b. on_case (is kind.LeftParen token) (element_or_end place None [] around) (λ state. Stands all state rest)
    (λ b. none_yet kind.Comma expr_tokens (every IsGrouped) (grow expr_tree) [] (Sign kind.LeftParen (Element None K)) rest
    (sign_step kind.LeftParen token rest (Element None K) refl refl bare b (no_element K (token ∷ rest) h))))
stands_next all (elements_due place ty around) token rest bare h =
    let K : List Tok → Type 0 = Element (Some ty) (At kind.TypeIsz place (OpenAround all around)) in
    on_case (is kind.LeftParen token) (element_or_end place (Some ty) [] around) (λ state. Stands all state rest)
    (λ b. none_yet kind.Comma expr_tokens (every IsGrouped) (grow expr_tree) [] (Sign kind.LeftParen K) rest
    (sign_step kind.LeftParen token rest K refl refl bare b h))
stands_next all (element_or_end place ty elements around) token rest bare h =
    end_or_want_stands all (have (whole (e.sequence place ty (exprs_of elements))) around) (element_of place ty elements around) token rest bare
    (λ b. sequence_stands all place ty elements around token.place rest
    (exprs_at_paren (Sign kind.LeftParen (Element ty (At kind.TypeIsz place (OpenAround all around)))) elements token rest bare b h)) h
stands_next all (argument_or_end head arguments around) token rest bare h =
    end_or_want_stands all (have (whole (application head arguments)) around) (argument_of head arguments around) token rest bare
    (λ b. applied_stands all head arguments around token.place rest
    (exprs_at_paren (Sign kind.LeftParen (Head head (OpenAround all around))) arguments token rest bare b h)) h
stands_next all (field_written head around) token rest bare h =
    on_case (is_name token) (have (dotted head (name_of token)) around) (λ state. Stands all state rest) (λ b. name_step token rest (Sign kind.Dot (Head head (OpenAround all around))) b h)
stands_next all (range_left by place around) token rest bare h =
    on_case (is kind.LeftParen token) (want (low_of by place around)) (λ state. Stands all state rest)
    (λ b. sign_step kind.LeftParen token rest (QuantifierAt by place (OpenAround all around)) refl refl bare b h)
stands_next all (bound_left by place range around) token rest bare h =
    on_case (is kind.LeftParen token) (bound_name by place range around) (λ state. Stands all state rest)
    (λ b. sign_step kind.LeftParen token rest (OpenRange by place range (OpenAround all around)) refl refl bare b h)
stands_next all (bound_name by place range around) token rest bare h =
    on_case (is_name token) (bound_arrow by place range (name_of token) around) (λ state. Stands all state rest) (λ b. name_step token rest (Sign kind.LeftParen (OpenRange by place range (OpenAround all around))) b h)
stands_next all (bound_arrow by place (between low high) bound around) token rest bare h =
    on_case (is kind.FatArrow token) (want (body_over by place low high bound around)) (λ state. Stands all state rest)
    (λ b. sign_step kind.FatArrow token rest (Named bound (Sign kind.LeftParen (OpenRange by place (between low high) (OpenAround all around)))) refl refl bare b h)
stands_next all (bound_arrow by place (indices_of head) bound around) token rest bare h =
    on_case (is kind.FatArrow token) (want (body_over_indices by place head bound around)) (λ state. Stands all state rest)
    (λ b. sign_step kind.FatArrow token rest (Named bound (Sign kind.LeftParen (OpenRange by place (indices_of head) (OpenAround all around)))) refl refl bare b h)
