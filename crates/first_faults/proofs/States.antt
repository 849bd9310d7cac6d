-- From each state that stands a text can be completed.
use Rattle.machine_stands.proofs.Inside.{IsInner}
use Rattle.machine_stands.proofs.Stands.{Stands}
use Rattle.first_faults.proofs.Closing.{true_false, CanEnd, here, letter, by_token, by_sign, by_name, by_digit, ended_can, part_can, after_can, else_can, open_can, invariant_can, clause_can, names_can, name_can, first_can, steps_can, step_can, cites_can, rule_can, invariant_due_can, bound_can, operand_can, want_can, arguments_can, any_operand_can, elements_can, const_can, want_const_can, const_or_end_can, consts_left_can, begin_can, equals_can, result_can, want_type_can, have_type_can, have_const_can}
use Rattle.slang_grammar.specs.Proofs.{block}
use Rattle.slang_grammar.specs.Declarations.{datatype_token}
use Rattle.slang_machine.specs.Open.{Block, body_of, then_of, else_of, loop_of, Within, with_stmt, Steps, deduction_of, Labelled, value_of, assigned_to, test_of_if, test_of_loop, asserted, clause_claim, step_claim, assumed_in, Around, alone, low_of, Consts, constant_of, constants_in, fields_in, of_field, of_param, whole_type, sequence_of}
use Rattle.slang_machine.specs.States.{Range, loop_names, ValueWord, State, top, ended, path_due, path_end, global_name, global_type, global_equals, want_const, minus_digits, consts_type, consts_left, const_or_end, fields_left, have_const, at_due, class_due, record_name_due, fields_due, field_due, field_name, field_colon_due, field_colon, field_end, naming, params_due, param_or_end, param_colon, param_end, result_colon, equals_due, begin_due, part_or_end, part_end, clauses_due, clause_or_end, clause_end, claims_due, claim_or_end, names_due, first_name, name_end, name_or_end, want_type, type_left, have_type, stmt_or_end, stmt_end, value_name, value_type, value_equals, name_seen, call_or_end, if_left, then_due, else_or_end, else_due, loop_left, loop_begin, invariant_due, invariant_left, modifies_due, loop_claim_end, loop_claim_or_end, invariant_end, assert_left, steps_left, step_due, step_or_end, step_end, labelled, by_due, rule_due, cites_or_end, cite_due, cite_end, cite_or_end, sub_left, assumed_due, assume_due, assume_left, let_left, let_inner, let_name, let_colon, let_type, let_right, let_arrow, let_sub, let_end, want, have, result_or_type, value_left, value_written, value_right, sequence_or_type, elements_due, element_or_end, argument_or_end, field_written, range_left, bound_left, bound_name, bound_arrow}
use Rattle.slang_machine.specs.Expressions.{body_around}
use Rattle.slang_machine.specs.Statements.{claim_order, with_claims, with_line}
use Rattle.slang_machine.specs.Declarations.{begin_consts}
use Rattle.slang_tree.specs.TypeTree.{TypeTree}
use Rattle.slang_tree.specs.ExprTree.{ExprTree, exprs_of}
use Rattle.slang_tree.specs.StmtTree.{StepTree, StmtTree}
use Rattle.slang_tree.specs.DeclTree.{TypedName, DeclTree}
use Rattle.slang_tree.specs.declared.place.Place.{Place}
use Rattle.slang_tree.specs.declared.expression.Name.{Name}
use Rattle.slang_tree.specs.declared.statement.Label.{Label}
use Rattle.slang_values.specs.declared.operators.Quantifier.{Quantifier}
use Rattle.slang_lexer.specs.Spelling.{is_number}
use Rattle.slang_tokens.specs.Tok.{Tok}
use Rattle.std.proofs.Common.{Bool, List, [], Option, Some, None, refl, suc}
use Rattle.slang_tree.specs.ExprTree as e
use Rattle.slang_lexer.specs.declared.token.TokenKind.TheVariants as kind
use Rattle.slang_tree.specs.StmtTree as s

global_type_can : (fixed : Bool) (place : Place) (written : Name) (done : List DeclTree) → CanEnd (global_type fixed place written done)
global_type_can fixed place written done =
    by_sign kind.Equals (global_type fixed place written done) _ refl (want_const_can (constant_of fixed place written None done))

begin_consts_can : (place : Place) (ty : Option TypeTree) (around : Consts) → CanEnd (begin_consts place ty around)
begin_consts_can place None around = want_const_can (constants_in place None [] around)
begin_consts_can place (Some ty) around = const_or_end_can (constants_in place (Some ty) [] around)

field_colon_can : (place : Place) (written : Name) (fields : List TypedName) (n : Name) (done : List DeclTree) → CanEnd (field_colon place written fields n done)
field_colon_can place written fields n done =
    by_sign kind.Colon (field_colon place written fields n done) _ refl (want_type_can (whole_type (of_field place written fields n done)))

field_name_can : (place : Place) (written : Name) (fields : List TypedName) (done : List DeclTree) → CanEnd (field_name place written fields done)
field_name_can place written fields done = by_name (field_name place written fields done) _ refl (field_colon_can place written fields letter done)

field_due_can : (place : Place) (written : Name) (fields : List TypedName) (done : List DeclTree) → CanEnd (field_due place written fields done)
field_due_can place written fields done = by_sign kind.RightParen (field_due place written fields done) _ refl (ended_can _)

fields_can : (place : Place) (written : Name) (done : List DeclTree) → CanEnd (fields_due place written done)
fields_can place written done = by_sign kind.LeftParen (fields_due place written done) _ refl (field_name_can place written [] done)

record_name_can : (place : Place) (done : List DeclTree) → CanEnd (record_name_due place done)
record_name_can place done = by_name (record_name_due place done) _ refl (fields_can place letter done)

class_can : (place : Place) (done : List DeclTree) → CanEnd (class_due place done)
class_can place done = by_sign kind.Class (class_due place done) _ refl (record_name_can place done)

params_can : (written : Name) (done : List DeclTree) → CanEnd (params_due written done)
params_can written done =
    by_sign kind.LeftParen (params_due written done) _ refl
    (by_sign kind.RightParen (param_or_end written [] done) _ refl (result_can written [] done))

stmt_end_can : (inner : Block) (stmts : List StmtTree) → IsInner inner → CanEnd (stmt_end (record { stmts = stmts; block = inner }))
stmt_end_can (body_of draft) stmts i = absurd i
stmt_end_can (then_of place test target) stmts i = after_can (record { stmts = stmts; block = then_of place test target })
stmt_end_can (else_of place test on_true target) stmts i = after_can (record { stmts = stmts; block = else_of place test on_true target })
stmt_end_can (loop_of place test modifies claims before outer) stmts i =
    after_can (record { stmts = stmts; block = loop_of place test modifies claims before outer })

value_type_can : (fixed : Bool) (place : Place) (written : Name) (at : Within) → CanEnd (value_type fixed place written at)
value_type_can fixed place written at =
    by_sign kind.Equals (value_type fixed place written at) _ refl (want_can (alone (value_of fixed place written None at)))

modifies_can : (place : Place) (test : ExprTree) (at : Within) → CanEnd (modifies_due place test at)
modifies_can place test at =
    by_sign kind.Modifies (modifies_due place test at) _ refl
    (by_sign kind.LeftParen (names_due (loop_names place test at)) _ refl (first_can (loop_names place test at)))

labelled_can : (at : Labelled) → CanEnd (labelled at)
labelled_can at = by_sign kind.LeftParen (labelled at) _ refl (want_can (alone (step_claim at)))

step_due_can : (steps : List StepTree) (around : Steps) → CanEnd (step_due steps around)
unfolding is_number
step_due_can steps around = by_digit (step_due steps around) _ refl (labelled_can _)

cite_can : (claim : ExprTree) (rule : Name) (cites : List Label) (at : Labelled) → CanEnd (cite_end claim rule cites at)
cite_can claim rule cites at =
    by_sign kind.RightParen (cite_end claim rule cites at) _ refl (step_can (with_line claim rule cites at) at.around)

assume_can : (bound : Option Name) (assumed : Label) (at : Labelled) → CanEnd (assume_due bound assumed at)
assume_can bound assumed at =
    by_sign kind.Assume (assume_due bound assumed at) _ refl
    (by_sign kind.LeftParen (assume_left bound assumed at) _ refl (want_can (alone (assumed_in bound assumed at))))

sub_can : (bound : Option Name) (at : Labelled) → CanEnd (sub_left bound at)
unfolding is_number
sub_can bound at = by_sign kind.LeftParen (sub_left bound at) _ refl (by_digit (assumed_due bound at) _ refl (assume_can bound _ at))

let_sub_can : (bound : Name) (at : Labelled) → CanEnd (let_sub bound at)
let_sub_can bound at = by_sign kind.SubProof (let_sub bound at) _ refl (sub_can (Some bound) at)

let_right_can : (bound : Name) (at : Labelled) → CanEnd (let_right bound at)
let_right_can bound at =
    by_sign kind.RightParen (let_right bound at) _ refl (by_sign kind.FatArrow (let_arrow bound at) _ refl (let_sub_can bound at))

let_colon_can : (bound : Name) (at : Labelled) → CanEnd (let_colon bound at)
let_colon_can bound at =
    by_sign kind.Colon (let_colon bound at) _ refl (by_sign kind.TypeZ (let_type bound at) _ refl (let_right_can bound at))

let_name_can : (at : Labelled) → CanEnd (let_name at)
let_name_can at = by_name (let_name at) _ refl (let_colon_can letter at)

let_inner_can : (at : Labelled) → CanEnd (let_inner at)
let_inner_can at = by_sign kind.LeftParen (let_inner at) _ refl (let_name_can at)

value_written_can : (word : ValueWord) (place : Place) (around : Around) → CanEnd (value_written word place around)
value_written_can word place around =
    by_name (value_written word place around) _ refl
    (by_sign kind.RightParen (value_right word place letter around) _ refl (operand_can _ around))

bound_arrow_can : (by : Quantifier) (place : Place) (range : Range) (bound : Name) (around : Around) → CanEnd (bound_arrow by place range bound around)
bound_arrow_can by place range bound around =
    by_sign kind.FatArrow (bound_arrow by place range bound around) _ refl (want_can (body_around by place range bound around))

bound_name_can : (by : Quantifier) (place : Place) (range : Range) (around : Around) → CanEnd (bound_name by place range around)
bound_name_can by place range around = by_name (bound_name by place range around) _ refl (bound_arrow_can by place range letter around)

-- from each state that stands a text can be completed
pub can_end : (all : List Tok) (state : State) (rest : List Tok) → Stands all state rest → CanEnd state
unfolding is_number
can_end all (top done) rest h = record { more = []; bare = tt; file = done; reads = refl }
can_end all (ended done) rest h = record { more = []; bare = tt; file = done; reads = refl }
can_end all (path_due place path done) rest h =
    by_name (path_due place path done) _ refl (record { more = []; bare = tt; file = _; reads = refl })
can_end all (path_end place path done) rest h = record { more = []; bare = tt; file = _; reads = refl }
can_end all (global_name fixed place done) rest h =
    by_name (global_name fixed place done) _ refl (global_type_can fixed place letter done)
can_end all (global_type fixed place written done) rest h = global_type_can fixed place written done
can_end all (global_equals fixed place written ty done) rest h =
    by_sign kind.Equals (global_equals fixed place written ty done) _ refl (want_const_can (constant_of fixed place written ty done))
can_end all (want_const around) rest h = want_const_can around
can_end all (minus_digits place around) rest h =
    by_digit (minus_digits place around) _ refl (const_can around _)
can_end all (consts_type place around) rest h =
    by_sign kind.LeftParen (consts_type place around) _ refl (begin_consts_can place None around)
can_end all (consts_left place ty around) rest h = consts_left_can place ty around
can_end all (const_or_end around) rest h = const_or_end_can around
can_end all (fields_left written around) rest h =
    by_sign kind.LeftParen (fields_left written around) _ refl (want_const_can (fields_in written [] around))
can_end all (have_const const around) rest h = have_const_can const around h.0
can_end all (at_due place done) rest h =
    by_token (datatype_token here) (at_due place done) _ (record { bare = λ a b. absurd (true_false a) }) refl (class_can place done)
can_end all (class_due place done) rest h = class_can place done
can_end all (record_name_due place done) rest h = record_name_can place done
can_end all (fields_due place written done) rest h = fields_can place written done
can_end all (field_due place written fields done) rest h = field_due_can place written fields done
can_end all (field_name place written fields done) rest h = field_name_can place written fields done
can_end all (field_colon_due place written fields done) rest h =
    by_name (field_colon_due place written fields done) _ refl (field_colon_can place written fields letter done)
can_end all (field_colon place written fields n done) rest h = field_colon_can place written fields n done
can_end all (field_end place written fields done) rest h =
    by_sign kind.RightParen (field_end place written fields done) _ refl (ended_can _)
can_end all (naming done) rest h =
    by_name (naming done) _ refl (params_can letter done)
can_end all (params_due written done) rest h = params_can written done
can_end all (param_or_end written params done) rest h =
    by_sign kind.RightParen (param_or_end written params done) _ refl (result_can written params done)
can_end all (param_colon written params n done) rest h =
    by_sign kind.Colon (param_colon written params n done) _ refl (want_type_can (whole_type (of_param written params n done)))
can_end all (param_end written params done) rest h =
    by_sign kind.RightParen (param_end written params done) _ refl (result_can written params done)
can_end all (result_colon written params done) rest h = result_can written params done
can_end all (equals_due draft) rest h = equals_can draft
can_end all (begin_due draft) rest h = begin_can draft
can_end all (part_or_end least draft) rest h =
    by_sign kind.RightBrace (part_or_end least draft) _ refl (ended_can _)
can_end all (part_end least draft) rest h = part_can least draft
can_end all (clauses_due draft) rest h =
    by_sign kind.LeftParen (clauses_due draft) _ refl (by_sign kind.RightParen (clause_or_end 0 draft) _ refl (part_can 1 draft))
can_end all (clause_or_end least draft) rest h =
    by_sign kind.RightParen (clause_or_end least draft) _ refl (part_can 1 draft)
can_end all (clause_end least draft) rest h = clause_can least draft
can_end all (claims_due word draft) rest h =
    by_sign kind.LeftParen (claims_due word draft) _ refl (want_can (alone (clause_claim word [] draft)))
can_end all (claim_or_end word claims draft) rest h =
    by_sign kind.RightParen (claim_or_end word claims draft) _ refl (clause_can (suc (claim_order word)) (with_claims word claims draft))
can_end all (names_due of) rest h =
    by_sign kind.LeftParen (names_due of) _ refl (first_can of)
can_end all (first_name of) rest h = first_can of
can_end all (name_end names of) rest h = name_can names of
can_end all (name_or_end names of) rest h =
    by_sign kind.RightParen (name_or_end names of) _ refl (names_can names of)
can_end all (want_type around) rest h = want_type_can around
can_end all (type_left place around) rest h =
    by_sign kind.LeftBracket (type_left place around) _ refl (want_type_can (sequence_of place around))
can_end all (have_type ty around) rest h = have_type_can ty around h.0
can_end all (stmt_or_end at) rest h = open_can at.block at.stmts h.0
can_end all (stmt_end at) rest h = stmt_end_can at.block at.stmts h.0
can_end all (value_name fixed place at) rest h =
    by_name (value_name fixed place at) _ refl (value_type_can fixed place letter at)
can_end all (value_type fixed place written at) rest h = value_type_can fixed place written at
can_end all (value_equals fixed place written ty at) rest h =
    by_sign kind.Equals (value_equals fixed place written ty at) _ refl (want_can (alone (value_of fixed place written ty at)))
can_end all (name_seen written at) rest h =
    by_sign kind.Equals (name_seen written at) _ refl (want_can (alone (assigned_to written at)))
can_end all (call_or_end written arguments at) rest h =
    by_sign kind.RightParen (call_or_end written arguments at) _ refl (after_can (with_stmt at (s.call written (exprs_of arguments))))
can_end all (if_left place target) rest h =
    by_sign kind.LeftParen (if_left place target) _ refl (want_can (alone (test_of_if place target)))
can_end all (then_due place test target) rest h =
    by_sign kind.LeftBrace (then_due place test target) _ refl (open_can (then_of place test target) [] tt)
can_end all (else_or_end place test on_true target) rest h = else_can place test on_true target
can_end all (else_due place test on_true target) rest h =
    by_sign kind.LeftBrace (else_due place test on_true target) _ refl (open_can (else_of place test on_true target) [] tt)
can_end all (loop_left place at) rest h =
    by_sign kind.LeftParen (loop_left place at) _ refl (want_can (alone (test_of_loop place at)))
can_end all (loop_begin place test at) rest h =
    by_sign kind.LeftBrace (loop_begin place test at) _ refl (invariant_due_can place test at)
can_end all (invariant_due place test at) rest h = invariant_due_can place test at
can_end all (invariant_left place test at) rest h =
    by_sign kind.LeftParen (invariant_left place test at) _ refl (modifies_can place test at)
can_end all (modifies_due place test at) rest h = modifies_can place test at
can_end all (loop_claim_end head) rest h =
    by_sign kind.RightParen (loop_claim_end head) _ refl (invariant_can head)
can_end all (loop_claim_or_end head) rest h =
    by_sign kind.RightParen (loop_claim_or_end head) _ refl (invariant_can head)
can_end all (invariant_end head) rest h = invariant_can head
can_end all (assert_left place at) rest h =
    by_sign kind.LeftParen (assert_left place at) _ refl (want_can (alone (asserted place at)))
can_end all (steps_left place at) rest h =
    by_sign kind.LeftParen (steps_left place at) _ refl (step_due_can [] (deduction_of place at))
can_end all (step_due steps around) rest h = step_due_can steps around
can_end all (step_or_end steps around) rest h =
    by_sign kind.RightParen (step_or_end steps around) _ refl (steps_can around steps)
can_end all (step_end steps around) rest h = step_can steps around
can_end all (labelled at) rest h = labelled_can at
can_end all (by_due claim at) rest h =
    by_sign kind.By (by_due claim at) _ refl (rule_can claim at)
can_end all (rule_due claim at) rest h = rule_can claim at
can_end all (cites_or_end claim rule at) rest h = cites_can claim rule at
can_end all (cite_due claim rule at) rest h =
    by_digit (cite_due claim rule at) _ refl (cite_can claim rule _ at)
can_end all (cite_end claim rule cites at) rest h = cite_can claim rule cites at
can_end all (cite_or_end claim rule cites at) rest h =
    by_sign kind.RightParen (cite_or_end claim rule cites at) _ refl (step_can (with_line claim rule cites at) at.around)
can_end all (sub_left bound at) rest h = sub_can bound at
can_end all (assumed_due bound at) rest h =
    by_digit (assumed_due bound at) _ refl (assume_can bound _ at)
can_end all (assume_due bound assumed at) rest h = assume_can bound assumed at
can_end all (assume_left bound assumed at) rest h =
    by_sign kind.LeftParen (assume_left bound assumed at) _ refl (want_can (alone (assumed_in bound assumed at)))
can_end all (let_left at) rest h =
    by_sign kind.LeftParen (let_left at) _ refl (let_inner_can at)
can_end all (let_inner at) rest h = let_inner_can at
can_end all (let_name at) rest h = let_name_can at
can_end all (let_colon bound at) rest h = let_colon_can bound at
can_end all (let_type bound at) rest h =
    by_sign kind.TypeZ (let_type bound at) _ refl (let_right_can bound at)
can_end all (let_right bound at) rest h = let_right_can bound at
can_end all (let_arrow bound at) rest h =
    by_sign kind.FatArrow (let_arrow bound at) _ refl (let_sub_can bound at)
can_end all (let_sub bound at) rest h = let_sub_can bound at
can_end all (let_end steps around) rest h =
    by_sign kind.RightParen (let_end steps around) _ refl (step_can steps around)
can_end all (want around) rest h = want_can around
can_end all (have operand around) rest h = any_operand_can operand around
can_end all (result_or_type place around) rest h =
    by_sign kind.LeftParen (result_or_type place around) _ refl (arguments_can (e.result place None) [] around)
can_end all (value_left word place around) rest h = by_sign kind.LeftParen (value_left word place around) _ refl (value_written_can word place around)
can_end all (value_written word place around) rest h = value_written_can word place around
can_end all (value_right word place written around) rest h =
    by_sign kind.RightParen (value_right word place written around) _ refl (operand_can _ around)
can_end all (sequence_or_type place around) rest h =
    by_sign kind.LeftParen (sequence_or_type place around) _ refl (elements_can place None [] around)
can_end all (elements_due place ty around) rest h =
    by_sign kind.LeftParen (elements_due place ty around) _ refl (elements_can place (Some ty) [] around)
can_end all (element_or_end place ty elements around) rest h = elements_can place ty elements around
can_end all (argument_or_end head arguments around) rest h = arguments_can head arguments around
can_end all (field_written head around) rest h =
    by_name (field_written head around) _ refl (any_operand_can _ around)
can_end all (range_left by place around) rest h =
    by_sign kind.LeftParen (range_left by place around) _ refl (want_can (low_of by place around))
can_end all (bound_left by place range around) rest h = bound_can by place range around (λ x. operand_can x around)
can_end all (bound_name by place range around) rest h = bound_name_can by place range around
can_end all (bound_arrow by place range bound around) rest h = bound_arrow_can by place range bound around
