-- What each state says of the tokens before it.
use Rattle.machine_stands.proofs.Fronts.{LastOf, HasAny}
use Rattle.machine_stands.proofs.Opened.{At, Sign, Named, Datatype, TypeIs, Typed, Element, Head, Expressions, Tested, Decls, LastDecl, Path, PathDue, GlobalHead, OpenConst, Constant, IsNested, MayEnd, RecordHead, FieldsBegin, Fields, FieldNamed, ParamsBegin, Params, AllParams, Header, Parts, LastPart, ContractBegin, Clauses, LastClause, Then, Else, InvariantIs, LoopBegin, OpenTarget}
use Rattle.machine_stands.proofs.Inside.{In, EndIn, IsInner, OpenNames, Names, ClaimsBegin, LoopNames, LabelIs, LetIs, OpenSteps, EndOfStep, Label-of, Sub, Claimed, Ruled, Cites, QuantifierAt, OpenRange, OpenAround, OpenOperand, OpenType, InBrackets}
use Rattle.slang_grammar.specs.Parts.{IsPlain, one_name, LabelText, label_token, IsLabel, label_tree}
use Rattle.slang_grammar.specs.Expressions.{expr_tree}
use Rattle.slang_grammar.specs.Proofs.{one_label, AssumeText, assume_tokens, IsAssume, LetText, let_tokens, BehindText, behind_tokens, AreBehind, behind_tree}
use Rattle.slang_grammar.specs.Statements.{value_word}
use Rattle.slang_grammar.specs.Declarations.{param_tokens, IsParam, param_tree, field_tokens, IsField, field_tree}
use Rattle.slang_machine.specs.Open.{Steps, deduction_of}
use Rattle.slang_machine.specs.States.{ValueWord, entry_word, old_word, State, top, ended, path_due, path_end, global_name, global_type, global_equals, want_const, minus_digits, consts_type, consts_left, const_or_end, fields_left, have_const, at_due, class_due, record_name_due, fields_due, field_due, field_name, field_colon_due, field_colon, field_end, naming, params_due, param_or_end, param_colon, param_end, result_colon, equals_due, begin_due, part_or_end, part_end, clauses_due, clause_or_end, clause_end, claims_due, claim_or_end, names_due, first_name, name_end, name_or_end, want_type, type_left, have_type, stmt_or_end, stmt_end, value_name, value_type, value_equals, name_seen, call_or_end, if_left, then_due, else_or_end, else_due, loop_left, loop_begin, invariant_due, invariant_left, modifies_due, loop_claim_end, loop_claim_or_end, invariant_end, assert_left, steps_left, step_due, step_or_end, step_end, labelled, by_due, rule_due, cites_or_end, cite_due, cite_end, cite_or_end, sub_left, assumed_due, assume_due, assume_left, let_left, let_inner, let_name, let_colon, let_type, let_right, let_arrow, let_sub, let_end, want, have, result_or_type, value_left, value_written, value_right, sequence_or_type, elements_due, element_or_end, argument_or_end, field_written, range_left, bound_left, bound_name, bound_arrow}
use Rattle.slang_tree.specs.StmtTree.{StepTree}
use Rattle.slang_tree.specs.declared.place.Place.{Place}
use Rattle.slang_tree.specs.declared.expression.Name.{Name}
use Rattle.slang_lexer.specs.declared.token.TokenKind.{TokenKind}
use Rattle.slang_tokens.specs.Tok.{Tok, sign}
use Rattle.std.proofs.Common.{◌≡◌, List, [], ◌∷◌, ◌++◌, Some, None}
use Rattle.slang_lexer.specs.declared.token.TokenKind.TheVariants as kind
use Rattle.slang_tree.specs.StmtTree as s

abbrev pub value_kind : ValueWord → TokenKind
value_kind entry_word = kind.In
value_kind old_word = kind.Old

-- in a deduction a step stands before its end
abbrev pub MayEndSteps : List StepTree → Steps → Type 0
MayEndSteps steps (deduction_of place at) = HasAny steps
MayEndSteps steps _ = Unit {0}

-- behind the SubProof of a Let
pub record LetDone (all : List Tok) (around : Steps) (steps : List StepTree) (rest : List Tok) : Type 0 where
  pub before : List StepTree
  pub label : LabelText
  pub bound : LetText
  pub assume : AssumeText
  pub more : BehindText
  pub right : Place
  pub fits : IsLabel label × IsPlain bound.variable × IsAssume assume × AreBehind more
  pub same : before ++ s.let_block (label_tree label) bound.variable (label_tree assume.label) (expr_tree assume.claim) (behind_tree more) ∷ [] ≡ steps
  pub opened : OpenSteps all around before (label_token label ∷ let_tokens bound ++ assume_tokens assume ++ behind_tokens more
      ++ sign kind.RightParen right ∷ rest)

-- The tokens before these are accounted for as what the state says.
abbrev pub Stands : List Tok → State → List Tok → Type 0
Stands all (top done) rest = Decls all done rest
Stands all (ended done) rest = LastDecl all done rest
Stands all (path_due place path done) rest = PathDue all place path done rest
Stands all (path_end place path done) rest = Path all place path done rest
Stands all (global_name fixed place done) rest = GlobalHead all fixed place done rest
Stands all (global_type fixed place written done) rest = Named written (GlobalHead all fixed place done) rest
Stands all (global_equals fixed place written ty done) rest = Typed ty (Named written (GlobalHead all fixed place done)) rest
Stands all (want_const around) rest = OpenConst all around rest
Stands all (minus_digits place around) rest = At kind.Minus place (OpenConst all around) rest
Stands all (consts_type place around) rest = At kind.TypeIsz place (OpenConst all around) rest
Stands all (consts_left place None around) rest = ⊥
Stands all (consts_left place (Some ty) around) rest = Element (Some ty) (At kind.TypeIsz place (OpenConst all around)) rest
Stands all (const_or_end around) rest = MayEnd around × OpenConst all around rest
Stands all (fields_left written around) rest = Named written (OpenConst all around) rest
Stands all (have_const const around) rest = IsNested around × Constant const (OpenConst all around) rest
Stands all (at_due place done) rest = At kind.At place (Decls all done) rest
Stands all (class_due place done) rest = Datatype (At kind.At place (Decls all done)) rest
Stands all (record_name_due place done) rest = RecordHead all place done rest
Stands all (fields_due place written done) rest = Named written (RecordHead all place done) rest
Stands all (field_due place written fields done) rest = HasAny fields × Fields all place written fields done rest
Stands all (field_name place written fields done) rest = Fields all place written fields done rest
Stands all (field_colon_due place written fields done) rest = Sign kind.Val (Fields all place written fields done) rest
Stands all (field_colon place written fields n done) rest = FieldNamed all place written fields n done rest
Stands all (field_end place written fields done) rest = LastOf kind.Comma field_tokens IsField field_tree (FieldsBegin all place written done) fields rest
Stands all (naming done) rest = Sign kind.Def (Decls all done) rest
Stands all (params_due written done) rest = Named written (Sign kind.Def (Decls all done)) rest
Stands all (param_or_end written params done) rest = Params all written params done rest
Stands all (param_colon written params n done) rest = Named n (Params all written params done) rest
Stands all (param_end written params done) rest = LastOf kind.Comma param_tokens IsParam param_tree (ParamsBegin all written done) params rest
Stands all (result_colon written params done) rest = AllParams all written params done rest
Stands all (equals_due draft) rest = Header all draft.done draft.method rest
Stands all (begin_due draft) rest = Sign kind.Equals (Header all draft.done draft.method) rest
Stands all (part_or_end least draft) rest = Parts all least draft rest
Stands all (part_end least draft) rest = LastPart all least draft rest
Stands all (clauses_due draft) rest = ContractBegin all draft rest
Stands all (clause_or_end least draft) rest = Clauses all least draft rest
Stands all (clause_end least draft) rest = LastClause all least draft rest
Stands all (claims_due word draft) rest = ClaimsBegin all word draft rest
Stands all (claim_or_end word claims draft) rest = HasAny claims × Expressions (Sign kind.LeftParen (ClaimsBegin all word draft)) claims rest
Stands all (names_due of) rest = OpenNames all of rest
Stands all (first_name of) rest = Sign kind.LeftParen (OpenNames all of) rest
Stands all (name_end names of) rest = LastOf kind.Comma one_name IsPlain (λ (n : Name). n) (Sign kind.LeftParen (OpenNames all of)) names rest
Stands all (name_or_end names of) rest = HasAny names × Names all of names rest
Stands all (want_type around) rest = OpenType all around rest
Stands all (type_left place around) rest = At kind.TypeIsz place (OpenType all around) rest
Stands all (have_type ty around) rest = InBrackets around × TypeIs ty (OpenType all around) rest
Stands all (stmt_or_end at) rest = IsInner at.block × In all at rest
Stands all (stmt_end at) rest = IsInner at.block × EndIn all at.block at.stmts rest
Stands all (value_name fixed place at) rest = At (value_word fixed) place (In all at) rest
Stands all (value_type fixed place written at) rest = Named written (At (value_word fixed) place (In all at)) rest
Stands all (value_equals fixed place written ty at) rest = Typed ty (Named written (At (value_word fixed) place (In all at))) rest
Stands all (name_seen written at) rest = Named written (In all at) rest
Stands all (call_or_end written arguments at) rest = Expressions (Sign kind.LeftParen (Named written (In all at))) arguments rest
Stands all (if_left place target) rest = At kind.If place (OpenTarget all target) rest
Stands all (then_due place test target) rest = Tested kind.If place test (OpenTarget all target) rest
Stands all (else_or_end place test on_true target) rest = Then place test on_true (OpenTarget all target) rest
Stands all (else_due place test on_true target) rest = Else place test on_true (OpenTarget all target) rest
Stands all (loop_left place at) rest = At kind.While place (In all at) rest
Stands all (loop_begin place test at) rest = Tested kind.While place test (In all at) rest
Stands all (invariant_due place test at) rest = LoopBegin place test (In all at) rest
Stands all (invariant_left place test at) rest = Sign kind.Invariant (LoopBegin place test (In all at)) rest
Stands all (modifies_due place test at) rest = Sign kind.LeftParen (Sign kind.Invariant (LoopBegin place test (In all at))) rest
Stands all (loop_claim_end head) rest = (head.claims ≡ []) × LoopNames all head rest
Stands all (loop_claim_or_end head) rest = Expressions (Sign kind.Comma (LoopNames all head)) head.claims rest
Stands all (invariant_end head) rest = InvariantIs head.modifies head.claims (LoopBegin head.place head.test (In all head.around)) rest
Stands all (assert_left place at) rest = At kind.Assert place (In all at) rest
Stands all (steps_left place at) rest = At kind.Deduce place (In all at) rest
Stands all (step_due steps around) rest = OpenSteps all around steps rest
Stands all (step_or_end steps around) rest = MayEndSteps steps around × OpenSteps all around steps rest
Stands all (step_end steps around) rest = EndOfStep all around steps rest
Stands all (labelled at) rest = Label-of all at rest
Stands all (by_due claim at) rest = Claimed all claim at rest
Stands all (rule_due claim at) rest = Sign kind.By (Claimed all claim at) rest
Stands all (cites_or_end claim rule at) rest = Ruled all claim rule at rest
Stands all (cite_due claim rule at) rest = Sign kind.LeftParen (Ruled all claim rule at) rest
Stands all (cite_end claim rule cites at) rest = LastOf kind.Comma one_label IsLabel label_tree (Sign kind.LeftParen (Ruled all claim rule at)) cites rest
Stands all (cite_or_end claim rule cites at) rest = HasAny cites × Cites all claim rule cites at rest
Stands all (sub_left bound at) rest = Sub all bound at rest
Stands all (assumed_due bound at) rest = Sign kind.LeftParen (Sub all bound at) rest
Stands all (assume_due bound assumed at) rest = LabelIs assumed (Sign kind.LeftParen (Sub all bound at)) rest
Stands all (assume_left bound assumed at) rest = Sign kind.Assume (LabelIs assumed (Sign kind.LeftParen (Sub all bound at))) rest
Stands all (let_left at) rest = Sign kind.Let (Label-of all at) rest
Stands all (let_inner at) rest = Sign kind.LeftParen (Sign kind.Let (Label-of all at)) rest
Stands all (let_name at) rest = Sign kind.LeftParen (Sign kind.LeftParen (Sign kind.Let (Label-of all at))) rest
Stands all (let_colon bound at) rest = Named bound (Sign kind.LeftParen (Sign kind.LeftParen (Sign kind.Let (Label-of all at)))) rest
Stands all (let_type bound at) rest = Sign kind.Colon (Named bound (Sign kind.LeftParen (Sign kind.LeftParen (Sign kind.Let (Label-of all at))))) rest
Stands all (let_right bound at) rest =
    Sign kind.TypeZ (Sign kind.Colon (Named bound (Sign kind.LeftParen (Sign kind.LeftParen (Sign kind.Let (Label-of all at)))))) rest
Stands all (let_arrow bound at) rest =
    Sign kind.RightParen (Sign kind.TypeZ (Sign kind.Colon (Named bound (Sign kind.LeftParen (Sign kind.LeftParen (Sign kind.Let (Label-of all at))))))) rest
Stands all (let_sub bound at) rest = LetIs bound (Label-of all at) rest
Stands all (let_end steps around) rest = LetDone all around steps rest
Stands all (want around) rest = OpenAround all around rest
Stands all (have operand around) rest = OpenOperand all operand around rest
Stands all (result_or_type place around) rest = At kind.Res place (OpenAround all around) rest
Stands all (value_left word place around) rest = At (value_kind word) place (OpenAround all around) rest
Stands all (value_written word place around) rest = Sign kind.LeftParen (At (value_kind word) place (OpenAround all around)) rest
Stands all (value_right word place written around) rest = Named written (Sign kind.LeftParen (At (value_kind word) place (OpenAround all around))) rest
Stands all (sequence_or_type place around) rest = At kind.TypeIsz place (OpenAround all around) rest
Stands all (elements_due place ty around) rest = Element (Some ty) (At kind.TypeIsz place (OpenAround all around)) rest
Stands all (element_or_end place ty elements around) rest =
    Expressions (Sign kind.LeftParen (Element ty (At kind.TypeIsz place (OpenAround all around)))) elements rest
Stands all (argument_or_end head arguments around) rest = Expressions (Sign kind.LeftParen (Head head (OpenAround all around))) arguments rest
Stands all (field_written head around) rest = Sign kind.Dot (Head head (OpenAround all around)) rest
Stands all (range_left by place around) rest = QuantifierAt by place (OpenAround all around) rest
Stands all (bound_left by place range around) rest = OpenRange by place range (OpenAround all around) rest
Stands all (bound_name by place range around) rest = Sign kind.LeftParen (OpenRange by place range (OpenAround all around)) rest
Stands all (bound_arrow by place range bound around) rest =
    Named bound (Sign kind.LeftParen (OpenRange by place range (OpenAround all around))) rest
