-- How the machine reads statements.
use Rattle.std.proofs.Common.{◌≡◌, Bool, true, false, cond, List, [], ◌∷◌, ◌++◌, Option, Some, None, refl, sym, ap, ◌∙◌}
use Rattle.std.specs.Prelude.{IfNone, IsTrue}
use Rattle.std.specs.Option.{option_map}
use Rattle.slang_lexer.specs.declared.token.TokenKind.TheVariants as kind
use Rattle.slang_tree.specs.declared.place.Place.{Place}
use Rattle.slang_tree.specs.declared.expression.Name.{Name}
use Rattle.slang_tree.specs.declared.expression.TypeName.{TypeName}
use Rattle.slang_tree.specs.TypeTree.{TypeTree, type_tree}
use Rattle.slang_tree.specs.ExprTree.{ExprTree, exprs_of}
use Rattle.slang_tree.specs.StmtTree as s
use Rattle.slang_tree.specs.StmtTree.{StmtTree, StmtTrees, stmts_of}
use Rattle.slang_tokens.specs.Tok.{Tok}
use Rattle.slang_machine.specs.Open.{Block, body_of, then_of, else_of, loop_of, Target, behind_else, Within, with_stmt, put, Purpose, value_of, assigned_to, test_of_if, test_of_loop, asserted, alone, of_value, whole_type}
use Rattle.slang_machine.specs.States.{State, whole, have, want, want_type, value_type, value_equals, name_seen, call_or_end, if_left, then_due, else_or_end, else_due, loop_begin, invariant_due, invariant_left, invariant_end, stmt_or_end, stmt_end}
use Rattle.slang_machine.specs.Expressions.{is, is_name, on}
use Rattle.slang_machine.specs.Statements.{after_stmt, after_stmt_in, after_loop, begin_stmt, end_block, loop_block, next_stmt_end, next_stmt_end_in, next_whole}
use Rattle.slang_machine.specs.Declarations.{end_type}
use Rattle.slang_machine.specs.Machine.{next, finish}
use Rattle.token_cursor.specs.declared.stop.Due.TheVariants as due
use Rattle.token_cursor.specs.Outcome.{outcome, stuck, due_of}
use Rattle.token_cursor.specs.Gives.{Expects}
use Rattle.token_cursor.specs.Lists.{begins, behind, member_or_end, member_end}
use Rattle.token_cursor.specs.Types.{BeginsType, optional_state}
use Rattle.token_cursor.proofs.Steps.{alike, expects, one_kind}
use Rattle.token_cursor.proofs.Turns.{or_end, end_by}
use Rattle.expression_parser.specs.Below.{StopsBefore}
use Rattle.expression_parser.specs.Expects.{ClosesExpr}
use Rattle.expression_parser.proofs.Beginnings.{split}
use Rattle.expression_parser.proofs.Haves.{whole_next}
use Rattle.statement_parser.specs.declared.statements.StmtHead.{StmtHead}
use Rattle.statement_parser.specs.Expects.{BeginsStmt, ClosesBlock, within, head_of_loop}
use Rattle.statement_parser.specs.Heads.{stmt_head_of, behind_stmt_head}
use Rattle.statement_parser.proofs.Reading.{takes_it, passes_by, misses}

-- The end of a statement.

ends_nowhere : (stmts : List StmtTree) (block : Block) → finish (after_stmt_in stmts block) ≡ None
ends_nowhere stmts (body_of draft) = refl
ends_nowhere stmts (then_of place test target) = refl
ends_nowhere stmts (else_of place test on_true target) = refl
ends_nowhere stmts (loop_of place test modifies claims before block) = refl

wants_no_other : (stmts : List StmtTree) (block : Block) → due_of (after_stmt_in stmts block) ≡ due.Other
wants_no_other stmts (body_of draft) = refl
wants_no_other stmts (then_of place test target) = refl
wants_no_other stmts (else_of place test on_true target) = refl
wants_no_other stmts (loop_of place test modifies claims before block) = refl

next_after : (stmts : List StmtTree) (block : Block) (token : Tok) → next (after_stmt_in stmts block) token ≡ next_stmt_end_in stmts block token
next_after stmts (body_of draft) token = refl
next_after stmts (then_of place test target) token = refl
next_after stmts (else_of place test on_true target) token = refl
next_after stmts (loop_of place test modifies claims before block) token = refl

-- an expression ends its statement
pub ends_stmt : (expr : ExprTree) (p : Purpose) (at : Within) (tokens : List Tok) → StopsBefore 0 tokens → ((token : Tok) → next_whole expr p token ≡ next_stmt_end at token)
    → outcome (have (whole expr) (alone p)) tokens ≡ outcome (after_stmt at) tokens
ends_stmt expr p at tokens stops h =
    alike (have (whole expr) (alone p)) (after_stmt at) tokens (sym (ends_nowhere at.stmts at.block)) (sym (wants_no_other at.stmts at.block))
    (λ token rest e. whole_next expr (alone p) token rest tokens refl e stops ∙ h token ∙ sym (next_after at.stmts at.block token))

-- Values, assignments and calls.

pub value_type_begins : (fixed : Bool) (place : Place) (written : Name) (at : Within)
    → BeginsType kind.Colon (value_type fixed place written at) (whole_type (of_value fixed place written at))
value_type_begins fixed place written at = record {
  at_end = refl;
  no_other = refl;
  begins = λ token h.
      ap (λ b. cond b (Some (want_type (whole_type (of_value fixed place written at)))) (on (is kind.Equals token) (want (alone (value_of fixed place written None at))))) h;
}

pub value_equals_due : (fixed : Bool) (place : Place) (written : Name) (at : Within) (ty : Option TypeName) (tokens : List Tok)
    → IfNone ty (begins kind.Colon tokens ≡ false)
    → Expects kind.Equals tokens (optional_state (value_type fixed place written at) (λ tree. end_type tree (whole_type (of_value fixed place written at))) (option_map type_tree ty))
    (want (alone (value_of fixed place written (option_map type_tree ty) at)))
value_equals_due fixed place written at None tokens absent = record {
  at_end = refl;
  no_other = refl;
  step = λ token rest e.
      ap (λ b. cond b (Some (want_type (whole_type (of_value fixed place written at)))) (on (is kind.Equals token) (want (alone (value_of fixed place written None at)))))
      (sym (ap (begins kind.Colon) e) ∙ absent);
}
value_equals_due fixed place written at (Some ty) tokens absent = expects kind.Equals _ _ refl refl (λ token. refl)

pub assigns : (written : Name) (at : Within) (tokens : List Tok) → begins kind.Equals tokens ≡ true
    → outcome (name_seen written at) tokens ≡ outcome (want (alone (assigned_to written at))) (behind tokens)
assigns written at tokens h =
    let value : State = want (alone (assigned_to written at)) in
    takes_it kind.Equals (name_seen written at) value tokens h (λ token g. ap (λ b. cond b (Some value) (on (is kind.LeftParen token) (call_or_end written [] at))) g)

pub call_due : (written : Name) (at : Within) (tokens : List Tok) → begins kind.Equals tokens ≡ false
    → Expects kind.LeftParen tokens (name_seen written at) (call_or_end written [] at)
call_due written at tokens h = record {
  at_end = refl;
  no_other = refl;
  step = λ token rest e.
      ap (λ b. cond b (Some (want (alone (assigned_to written at)))) (on (is kind.LeftParen token) (call_or_end written [] at))) (sym (ap (begins kind.Equals) e) ∙ h);
}

-- Tests.

pub closes_if : (place : Place) (target : Target) → ClosesExpr (alone (test_of_if place target)) (λ expr. then_due place expr target)
closes_if place target = record { begins = record { apart = refl; no_range = refl }; behind = λ expr token. refl }

pub closes_loop : (place : Place) (at : Within) → ClosesExpr (alone (test_of_loop place at)) (λ expr. loop_begin place expr at)
closes_loop place at = record { begins = record { apart = refl; no_range = refl }; behind = λ expr token. refl }

pub closes_assert : (place : Place) (at : Within) → ClosesExpr (alone (asserted place at)) (λ expr. after_stmt (with_stmt at (s.assertion place expr)))
closes_assert place at = record { begins = record { apart = refl; no_range = refl }; behind = λ expr token. refl }

-- Invariants.

pub invariant_comes : (place : Place) (test : ExprTree) (at : Within) (tokens : List Tok) → begins kind.Invariant tokens ≡ true
    → outcome (invariant_due place test at) tokens ≡ outcome (invariant_left place test at) (behind tokens)
invariant_comes place test at tokens h =
    takes_it kind.Invariant (invariant_due place test at) (invariant_left place test at) tokens h (λ token g. ap (λ b. on b (invariant_left place test at)) g)

pub invariant_misses : (place : Place) (test : ExprTree) (at : Within) (tokens : List Tok) → begins kind.Invariant tokens ≡ false
    → outcome (invariant_due place test at) tokens ≡ stuck tokens due.Invariant
invariant_misses place test at tokens h = misses kind.Invariant (invariant_due place test at) (invariant_left place test at) tokens h refl (λ token. refl)

-- Blocks.

pub closes_then : (place : Place) (test : ExprTree) (target : Target) → ClosesBlock (then_of place test target) (λ stmts. else_or_end place test (stmts_of stmts) target)
closes_then place test target = record { closed = λ stmts. refl }

pub closes_else : (place : Place) (test : ExprTree) (on_true : StmtTrees) (target : Target)
    → ClosesBlock (else_of place test on_true target) (λ stmts. after_stmt (put target (s.branch place test on_true (s.else_then (stmts_of stmts)))))
closes_else place test on_true target = record { closed = λ stmts. refl }

pub closes_body : (place : Place) (test : ExprTree) (names : List Name) (claims : List ExprTree) (at : Within)
    → ClosesBlock (loop_block (head_of_loop place test names claims at)) (λ stmts. after_loop place test names claims stmts at)
closes_body place test names claims at = record { closed = λ stmts. refl }

none_some : {A B : Type 0} {x : A} → None ≡ Some x → B
none_some e = absurd (cc)

inner_after : (block : Block) (to : List StmtTree → State) (stmts : List StmtTree) → ClosesBlock block to → after_stmt_in stmts block ≡ stmt_end (within stmts block)
inner_after (body_of draft) to stmts x = none_some (x.closed [])
inner_after (then_of place test target) to stmts x = refl
inner_after (else_of place test on_true target) to stmts x = refl
inner_after (loop_of place test modifies claims before block) to stmts x = refl

inner_next : (block : Block) (to : List StmtTree → State) (stmts : List StmtTree) (token : Tok) → ClosesBlock block to
    → next (stmt_end (within stmts block)) token ≡ cond (is kind.Newline token) (Some (stmt_or_end (within stmts block))) (cond (is kind.RightBrace token) (end_block stmts block) None)
inner_next (body_of draft) to stmts token x = none_some (x.closed [])
inner_next (then_of place test target) to stmts token x = refl
inner_next (else_of place test on_true target) to stmts token x = refl
inner_next (loop_of place test modifies claims before block) to stmts token x = refl

pub stmt_or_end_turn : (block : Block) (to : List StmtTree → State) (stmts : List StmtTree) (tokens : List Tok) → ClosesBlock block to
    → outcome (stmt_or_end (within stmts block)) tokens ≡ member_or_end kind.RightBrace (stmt_or_end (within stmts block)) (to stmts) tokens
stmt_or_end_turn block to stmts tokens x =
    let either : State = stmt_or_end (within stmts block) in
    or_end kind.RightBrace either either (to stmts) tokens refl refl
    (λ token h. ap (λ b. cond b (end_block stmts block) (begin_stmt (within stmts block) token)) h ∙ x.closed stmts) (λ token h. refl)

pub stmt_turn : (block : Block) (to : List StmtTree → State) (stmts : List StmtTree) (tokens : List Tok) → ClosesBlock block to
    → outcome (after_stmt (within stmts block)) tokens ≡ member_end kind.Newline kind.RightBrace (stmt_or_end (within stmts block)) (to stmts) tokens
stmt_turn block to stmts tokens x =
    let either : State = stmt_or_end (within stmts block) in
    let over : State = to stmts in
    ap (λ state. outcome state tokens) (inner_after block to stmts x)
    ∙ end_by kind.Newline kind.RightBrace (stmt_end (within stmts block)) either either over tokens refl refl refl
    (λ token rest e h. inner_next block to stmts token x ∙ ap (λ b. cond b (Some either) (cond (is kind.RightBrace token) (end_block stmts block) None)) h)
    (λ token rest e h.
    inner_next block to stmts token x ∙ ap (λ b. cond b (Some either) (cond (is kind.RightBrace token) (end_block stmts block) None)) h
    ∙ ap (λ o. cond (is kind.RightBrace token) o None) (x.closed stmts))
    (λ rest. stmt_or_end_turn block to stmts rest x)

pub loop_turn : (place : Place) (test : ExprTree) (names : List Name) (claims : List ExprTree) (at : Within) (tokens : List Tok)
    → outcome (invariant_end (head_of_loop place test names claims at)) tokens
    ≡ member_end kind.Newline kind.RightBrace (stmt_or_end (within [] (loop_block (head_of_loop place test names claims at))))
    (after_loop place test names claims [] at) tokens
loop_turn place test names claims at tokens =
    let block : Block = loop_block (head_of_loop place test names claims at) in
    let either : State = stmt_or_end (within [] block) in
    let over : State = after_loop place test names claims [] at in
    end_by kind.Newline kind.RightBrace (invariant_end (head_of_loop place test names claims at)) either either over tokens refl refl refl
    (λ token rest e h. ap (λ b. cond b (Some either) (cond (is kind.RightBrace token) (Some over) None)) h)
    (λ token rest e h. ap (λ b. cond b (Some either) (cond (is kind.RightBrace token) (Some over) None)) h)
    (λ rest. stmt_or_end_turn block (λ stmts. after_loop place test names claims stmts at) [] rest (closes_body place test names claims at))

-- a statement begins where no brace ends the block
pub member_begins : (stmts : List StmtTree) (block : Block) (tokens : List Tok) → begins kind.RightBrace tokens ≡ false
    → BeginsStmt tokens (stmt_or_end (within stmts block)) (within stmts block)
member_begins stmts block tokens h = record {
  at_end = refl;
  no_other = refl;
  step = λ token rest e. ap (λ b. cond b (end_block stmts block) (begin_stmt (within stmts block) token)) (sym (ap (begins kind.RightBrace) e) ∙ h);
}

-- Else.

pub no_else_comes : (place : Place) (test : ExprTree) (then : StmtTrees) (target : Target) (tokens : List Tok) → begins kind.Else tokens ≡ false
    → outcome (else_or_end place test then target) tokens ≡ outcome (after_stmt (put target (s.branch place test then s.no_else))) tokens
no_else_comes place test then target tokens h =
    let at : Within = put target (s.branch place test then s.no_else) in
    passes_by kind.Else (else_or_end place test then target) (after_stmt at) tokens h (sym (ends_nowhere at.stmts at.block)) (sym (wants_no_other at.stmts at.block))
    (λ token g. ap (λ b. cond b (Some (else_due place test then target)) (next_stmt_end at token)) g ∙ sym (next_after at.stmts at.block token))

pub else_comes : (place : Place) (test : ExprTree) (then : StmtTrees) (target : Target) (tokens : List Tok) → begins kind.Else tokens ≡ true
    → outcome (else_or_end place test then target) tokens ≡ outcome (else_due place test then target) (behind tokens)
else_comes place test then target tokens h =
    let at : Within = put target (s.branch place test then s.no_else) in
    takes_it kind.Else (else_or_end place test then target) (else_due place test then target) tokens h
    (λ token g. ap (λ b. cond b (Some (else_due place test then target)) (next_stmt_end at token)) g)

pub else_block_due : (place : Place) (test : ExprTree) (then : StmtTrees) (target : Target) (tokens : List Tok) → begins kind.If tokens ≡ false
    → Expects kind.LeftBrace tokens (else_due place test then target) (stmt_or_end (within [] (else_of place test then target)))
else_block_due place test then target tokens h = record {
  at_end = refl;
  no_other = refl;
  step = λ token rest e.
      ap (λ b. cond b (Some (if_left token.place (behind_else place test then target))) (on (is kind.LeftBrace token) (stmt_or_end (within [] (else_of place test then target)))))
      (sym (ap (begins kind.If) e) ∙ h);
}

pub next_else_if : (place : Place) (test : ExprTree) (then : StmtTrees) (target : Target) (token : Tok) → is kind.If token ≡ true
    → next (else_due place test then target) token ≡ Some (if_left token.place (behind_else place test then target))
next_else_if place test then target token h =
    ap (λ b. cond b (Some (if_left token.place (behind_else place test then target))) (on (is kind.LeftBrace token) (stmt_or_end (within [] (else_of place test then target))))) h

-- What a token begins.

pub stmt_begins : (at : Within) (token : Tok) → begin_stmt at token ≡ option_map (behind_stmt_head at token) (stmt_head_of token)
stmt_begins at token =
    let own : Option State → Option State = λ s. s in
    let to : Option StmtHead → Option State = λ h. option_map (behind_stmt_head at token) h in
    split (is kind.Val token) own to _ _ _ _ refl
    (split (is kind.Var token) own to _ _ _ _ refl
    (split (is_name token) own to _ _ _ _ refl
    (split (is kind.If token) own to _ _ _ _ refl
    (split (is kind.While token) own to _ _ _ _ refl
    (split (is kind.Assert token) own to _ _ _ _ refl
    (split (is kind.Deduce token) own to _ _ _ _ refl refl))))))
