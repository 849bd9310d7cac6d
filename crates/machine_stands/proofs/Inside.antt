-- What is open, and the tokens that account for it: statements, steps of proofs, expressions and types.
use Rattle.machine_stands.proofs.Fronts.{FrontOf, LastOf}
use Rattle.machine_stands.proofs.Opened.{At, Sign, Named, Indices, Typed, Element, Expression, Head, Expressions, Tested, GlobalHead, OpenConst, FieldNamed, Params, AllParams, Parts, LastPart, Clauses, Else, InvariantIs, LoopBegin, LastStmt, OpenIn, OpenTarget}
use Rattle.slang_grammar.specs.Parts.{members, IsPlain, NamesText, one_name, names_tokens, LabelText, label_token, IsLabel, label_tree}
use Rattle.slang_grammar.specs.Operators.{infix_of, prefix_kind}
use Rattle.slang_grammar.specs.Expressions.{QuantifierWord, quantifier_kind, ExprText, expr_tokens, IsOperand, IsGrouped, expr_tree}
use Rattle.slang_grammar.specs.Proofs.{RuleText, rule_token, IsRule, rule_tree, one_label, AssumeText, assume_tokens, IsAssume, LetText, let_tokens, step_tokens, IsStep, step_tree}
use Rattle.slang_grammar.specs.Statements.{value_word, AreNames}
use Rattle.slang_machine.specs.Open.{Draft, Block, body_of, then_of, else_of, loop_of, Within, Steps, deduction_of, block_of, let_of, Labelled, ClaimWord, requiring, ensuring, LoopHead, Purpose, value_of, assigned_to, argument_of_call, test_of_if, test_of_loop, asserted, returned, clause_claim, loop_claim, step_claim, assumed_in, Around, alone, inside, under, right_of, argument_of, element_at, element_of, low_of, high_of, body_over, body_over_indices, TypePurpose, of_result, of_elements, of_value, of_global, of_constants, of_field, of_param, of_method, AroundType, whole_type, sequence_of, pull, held}
use Rattle.slang_machine.specs.States.{Operand, whole, dotted, Range, between, indices_of, NamesOf, contract_names, loop_names}
use Rattle.slang_machine.specs.Statements.{with_body, claim_order}
use Rattle.slang_tree.specs.ExprTree.{ExprTree}
use Rattle.slang_tree.specs.StmtTree.{StepTree, StmtTree}
use Rattle.slang_tree.specs.declared.place.Place.{Place}
use Rattle.slang_tree.specs.declared.expression.Name.{Name}
use Rattle.slang_tree.specs.declared.statement.Label.{Label}
use Rattle.slang_values.specs.declared.operators.Quantifier.{Quantifier}
use Rattle.slang_grammar.specs.declared.operator.Infix.{Infix}
use Rattle.slang_grammar.specs.declared.operator.Side.TheVariants.{Left}
use Rattle.slang_lexer.specs.declared.token.TokenKind.{TokenKind}
use Rattle.slang_tokens.specs.Tok.{Tok, sign}
use Rattle.std.proofs.Common.{◌≡◌, ℕ, ◌<◌, ◌≤◌, ◌⊎◌, List, [], ◌∷◌, ◌++◌, Option, Some, None}
use Rattle.slang_lexer.specs.declared.token.TokenKind.TheVariants as kind
use Rattle.slang_grammar.specs.Expressions as ge

abbrev pub In : List Tok → Within → List Tok → Type 0
In all at rest = OpenIn all at.block at.stmts rest

-- behind a statement
abbrev pub EndIn : List Tok → Block → List StmtTree → List Tok → Type 0
EndIn all (body_of draft) stmts rest = LastPart all 1 (with_body draft stmts) rest
EndIn all (then_of place test target) stmts rest = LastStmt (Sign kind.LeftBrace (Tested kind.If place test (OpenTarget all target))) stmts rest
EndIn all (else_of place test on_true target) stmts rest = LastStmt (Sign kind.LeftBrace (Else place test on_true (OpenTarget all target))) stmts rest
EndIn all (loop_of place test modifies claims before outer) stmts rest =
    LastStmt (Sign kind.Newline (InvariantIs modifies claims (LoopBegin place test (OpenIn all outer before)))) stmts rest

-- a block other than a body
abbrev pub IsInner : Block → Type 0
IsInner (body_of draft) = ⊥
IsInner _ = Unit {0}

-- Names and claims in brackets.

pub record ModifiesBegin (all : List Tok) (draft : Draft) (rest : List Tok) : Type 0 where
  pub least : ℕ
  pub fits : least ≤ 1
  pub opened : Sign kind.Modifies (Clauses all least draft) rest

abbrev pub OpenNames : List Tok → NamesOf → List Tok → Type 0
OpenNames all (contract_names draft) rest = ModifiesBegin all draft rest
OpenNames all (loop_names place test at) rest = Sign kind.Modifies (Sign kind.LeftParen (Sign kind.Invariant (LoopBegin place test (In all at)))) rest

pub record NamesIs (names : List Name) (K : List Tok → Type 0) (rest : List Tok) : Type 0 where
  pub text : NamesText
  pub fits : AreNames text
  pub same : members text.names ≡ names
  pub opened : K (names_tokens text ++ rest)

abbrev pub Names : List Tok → NamesOf → List Name → List Tok → Type 0
Names all of names rest = FrontOf kind.Comma one_name IsPlain (λ (n : Name). n) (Sign kind.LeftParen (OpenNames all of)) names rest

abbrev pub claim_kind : ClaimWord → TokenKind
claim_kind requiring = kind.Requires
claim_kind ensuring = kind.Ensures

pub record ClaimsBegin (all : List Tok) (word : ClaimWord) (draft : Draft) (rest : List Tok) : Type 0 where
  pub least : ℕ
  pub fits : least ≤ claim_order word
  pub opened : Sign (claim_kind word) (Clauses all least draft) rest

-- the claims of a loop, behind its names
abbrev pub LoopNames : List Tok → LoopHead → List Tok → Type 0
LoopNames all head rest = NamesIs head.modifies (OpenNames all (loop_names head.place head.test head.around)) rest

-- Steps of proofs.

pub record LabelIs (label : Label) (K : List Tok → Type 0) (rest : List Tok) : Type 0 where
  pub text : LabelText
  pub fits : IsLabel text
  pub same : label_tree text ≡ label
  pub opened : K (label_token text ∷ rest)

pub record RuleIs (rule : Name) (K : List Tok → Type 0) (rest : List Tok) : Type 0 where
  pub text : RuleText
  pub fits : IsRule text
  pub same : rule_tree text ≡ rule
  pub opened : K (rule_token text ∷ rest)

-- behind `SubProof(label Assume(claim)`, and behind `Let((variable: Z) =>`
pub record AssumeIs (assumed : Label) (supposed : ExprTree) (K : List Tok → Type 0) (rest : List Tok) : Type 0 where
  pub text : AssumeText
  pub fits : IsAssume text
  pub same_label : label_tree text.label ≡ assumed
  pub same_claim : expr_tree text.claim ≡ supposed
  pub opened : K (assume_tokens text ++ rest)

pub record LetIs (bound : Name) (K : List Tok → Type 0) (rest : List Tok) : Type 0 where
  pub text : LetText
  pub plain : IsPlain text.variable
  pub same : text.variable ≡ bound
  pub opened : K (let_tokens text ++ rest)

abbrev pub StepsIn : (List Tok → Type 0) → List StepTree → List Tok → Type 0
StepsIn K steps rest = FrontOf kind.Comma step_tokens IsStep step_tree K steps rest

abbrev pub LastStep : (List Tok → Type 0) → List StepTree → List Tok → Type 0
LastStep K steps rest = LastOf kind.Comma step_tokens IsStep step_tree K steps rest

-- what stands before the first step
abbrev pub StepsBegin : List Tok → Steps → List Tok → Type 0
StepsBegin all (deduction_of place at) rest = Sign kind.LeftParen (At kind.Deduce place (In all at)) rest
StepsBegin all (block_of label assumed supposed before around) rest =
    Sign kind.Comma (AssumeIs assumed supposed (LabelIs label (StepsIn (StepsBegin all around) before))) rest
StepsBegin all (let_of label bound assumed supposed before around) rest =
    Sign kind.Comma (AssumeIs assumed supposed (LetIs bound (LabelIs label (StepsIn (StepsBegin all around) before)))) rest

abbrev pub OpenSteps : List Tok → Steps → List StepTree → List Tok → Type 0
OpenSteps all around steps rest = StepsIn (StepsBegin all around) steps rest

-- behind an assumption, where no step stands yet
abbrev pub NoSteps : List Tok → Steps → List StepTree → List Tok → Type 0
NoSteps all (deduction_of place at) steps rest = ⊥
NoSteps all (block_of label assumed supposed before around) steps rest =
    (steps ≡ []) × AssumeIs assumed supposed (LabelIs label (OpenSteps all around before)) rest
NoSteps all (let_of label bound assumed supposed before around) steps rest =
    (steps ≡ []) × AssumeIs assumed supposed (LetIs bound (LabelIs label (OpenSteps all around before))) rest

abbrev pub EndOfStep : List Tok → Steps → List StepTree → List Tok → Type 0
EndOfStep all around steps rest = LastStep (StepsBegin all around) steps rest ⊎ NoSteps all around steps rest

abbrev pub Label-of : List Tok → Labelled → List Tok → Type 0
Label-of all at rest = LabelIs at.label (OpenSteps all at.around at.steps) rest

-- the word of a SubProof, which may stand in a Let
abbrev pub SubBegin : List Tok → Option Name → Labelled → List Tok → Type 0
SubBegin all None at rest = Label-of all at rest
SubBegin all (Some bound) at rest = LetIs bound (Label-of all at) rest

abbrev pub Sub : List Tok → Option Name → Labelled → List Tok → Type 0
Sub all bound at rest = Sign kind.SubProof (SubBegin all bound at) rest

-- a line of a proof behind its claim, and behind its rule
abbrev pub Claimed : List Tok → ExprTree → Labelled → List Tok → Type 0
Claimed all claim at rest = Sign kind.RightParen (Expression claim (Sign kind.LeftParen (Label-of all at))) rest

abbrev pub Ruled : List Tok → ExprTree → Name → Labelled → List Tok → Type 0
Ruled all claim rule at rest = RuleIs rule (Sign kind.By (Claimed all claim at)) rest

abbrev pub Cites : List Tok → ExprTree → Name → List Label → Labelled → List Tok → Type 0
Cites all claim rule cites at rest = FrontOf kind.Comma one_label IsLabel label_tree (Sign kind.LeftParen (Ruled all claim rule at)) cites rest

-- Expressions.

pub record ReturnBegin (all : List Tok) (place : Place) (draft : Draft) (rest : List Tok) : Type 0 where
  pub least : ℕ
  pub fits : least ≤ 2
  pub opened : Parts all least draft (sign kind.Return place ∷ rest)

abbrev pub OpenPurpose : List Tok → Purpose → List Tok → Type 0
OpenPurpose all (value_of fixed place written ty at) rest = Sign kind.Equals (Typed ty (Named written (At (value_word fixed) place (In all at)))) rest
OpenPurpose all (assigned_to written at) rest = Sign kind.Equals (Named written (In all at)) rest
OpenPurpose all (argument_of_call written arguments at) rest = Expressions (Sign kind.LeftParen (Named written (In all at))) arguments rest
OpenPurpose all (test_of_if place target) rest = Sign kind.LeftParen (At kind.If place (OpenTarget all target)) rest
OpenPurpose all (test_of_loop place at) rest = Sign kind.LeftParen (At kind.While place (In all at)) rest
OpenPurpose all (asserted place at) rest = Sign kind.LeftParen (At kind.Assert place (In all at)) rest
OpenPurpose all (returned place draft) rest = ReturnBegin all place draft rest
OpenPurpose all (clause_claim word claims draft) rest = Expressions (Sign kind.LeftParen (ClaimsBegin all word draft)) claims rest
OpenPurpose all (loop_claim head) rest = Expressions (Sign kind.Comma (LoopNames all head)) head.claims rest
OpenPurpose all (step_claim at) rest = Sign kind.LeftParen (Label-of all at) rest
OpenPurpose all (assumed_in bound assumed at) rest =
    Sign kind.LeftParen (Sign kind.Assume (LabelIs assumed (Sign kind.LeftParen (Sub all bound at)))) rest

pub record QuantifierAt (by : Quantifier) (place : Place) (K : List Tok → Type 0) (rest : List Tok) : Type 0 where
  pub word : QuantifierWord
  pub same : ge.quantifier_of word ≡ by
  pub opened : K (sign (quantifier_kind word) place ∷ rest)

-- behind a left operand and its operator, which pulls it more strongly than what is open
pub record LeftOperand (left : ExprTree) (row : Infix) (weak : ℕ) (K : List Tok → Type 0) (rest : List Tok) : Type 0 where
  pub text : ExprText
  pub grouped : IsGrouped text
  pub same : expr_tree text ≡ left
  pub is_row : infix_of row.sign ≡ Some row
  pub operand : IsOperand Left row text
  pub pulls : weak < pull Left row
  pub place : Place
  pub opened : K (expr_tokens text ++ sign row.sign place ∷ rest)

abbrev pub RangeBegin : Quantifier → Place → (List Tok → Type 0) → List Tok → Type 0
RangeBegin by place K rest = Sign kind.LeftParen (QuantifierAt by place K) rest

abbrev pub OpenRange : Quantifier → Place → Range → (List Tok → Type 0) → List Tok → Type 0
OpenRange by place (between low high) K rest = Sign kind.RightParen (Expression high (Sign kind.Until (Expression low (RangeBegin by place K)))) rest
OpenRange by place (indices_of head) K rest = Sign kind.RightParen (Indices (Sign kind.Dot (Head head (RangeBegin by place K)))) rest

abbrev pub BodyOf : Quantifier → Place → Range → Name → (List Tok → Type 0) → List Tok → Type 0
BodyOf by place range bound K rest = Sign kind.FatArrow (Named bound (Sign kind.LeftParen (OpenRange by place range K))) rest

abbrev pub OpenAround : List Tok → Around → List Tok → Type 0
OpenAround all (alone at) rest = OpenPurpose all at rest
OpenAround all (inside around) rest = Sign kind.LeftParen (OpenAround all around) rest
OpenAround all (under by place around) rest = At (prefix_kind by) place (OpenAround all around) rest
OpenAround all (right_of left row around) rest = LeftOperand left row (held around) (OpenAround all around) rest
OpenAround all (argument_of head arguments around) rest = Expressions (Sign kind.LeftParen (Head head (OpenAround all around))) arguments rest
OpenAround all (element_at head index around) rest =
    Sign kind.TildeArrow (Expression index (Sign kind.LeftParen (Head head (OpenAround all around)))) rest
OpenAround all (element_of place ty elements around) rest =
    Expressions (Sign kind.LeftParen (Element ty (At kind.TypeIsz place (OpenAround all around)))) elements rest
OpenAround all (low_of by place around) rest = RangeBegin by place (OpenAround all around) rest
OpenAround all (high_of by place low around) rest = Sign kind.Until (Expression low (RangeBegin by place (OpenAround all around))) rest
OpenAround all (body_over by place low high bound around) rest = BodyOf by place (between low high) bound (OpenAround all around) rest
OpenAround all (body_over_indices by place head bound around) rest = BodyOf by place (indices_of head) bound (OpenAround all around) rest

-- an operand
abbrev pub OpenOperand : List Tok → Operand → Around → List Tok → Type 0
OpenOperand all (whole expr) around rest = Head expr (OpenAround all around) rest
OpenOperand all (dotted head written) around rest = Named written (Sign kind.Dot (Head head (OpenAround all around))) rest

-- Types.

abbrev pub OpenTypePurpose : List Tok → TypePurpose → List Tok → Type 0
OpenTypePurpose all (of_result place around) rest = Sign kind.LeftBracket (At kind.Res place (OpenAround all around)) rest
OpenTypePurpose all (of_elements place around) rest = Sign kind.LeftBracket (At kind.TypeIsz place (OpenAround all around)) rest
OpenTypePurpose all (of_value fixed place written at) rest = Sign kind.Colon (Named written (At (value_word fixed) place (In all at))) rest
OpenTypePurpose all (of_global fixed place written done) rest = Sign kind.Colon (Named written (GlobalHead all fixed place done)) rest
OpenTypePurpose all (of_constants place consts) rest = Sign kind.LeftBracket (At kind.TypeIsz place (OpenConst all consts)) rest
OpenTypePurpose all (of_field place written fields n done) rest = Sign kind.Colon (FieldNamed all place written fields n done) rest
OpenTypePurpose all (of_param written params n done) rest = Sign kind.Colon (Named n (Params all written params done)) rest
OpenTypePurpose all (of_method written params done) rest = Sign kind.Colon (AllParams all written params done) rest

abbrev pub OpenType : List Tok → AroundType → List Tok → Type 0
OpenType all (whole_type at) rest = OpenTypePurpose all at rest
OpenType all (sequence_of place around) rest = Sign kind.LeftBracket (At kind.TypeIsz place (OpenType all around)) rest

-- a type that a `]` ends
abbrev pub InBrackets : AroundType → Type 0
InBrackets (sequence_of place around) = Unit {0}
InBrackets (whole_type (of_result place around)) = Unit {0}
InBrackets (whole_type (of_elements place around)) = Unit {0}
InBrackets (whole_type (of_constants place consts)) = Unit {0}
InBrackets (whole_type _) = ⊥
