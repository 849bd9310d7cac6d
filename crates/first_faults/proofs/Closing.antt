-- What is open can be closed.
use Rattle.machine_stands.proofs.Opened.{IsNested}
use Rattle.machine_stands.proofs.Inside.{IsInner, InBrackets}
use Rattle.slang_grammar.specs.Parts.{name_token, number_token}
use Rattle.slang_grammar.specs.Operators.{operators}
use Rattle.slang_grammar.specs.Expressions.{prefix_tree}
use Rattle.slang_grammar.specs.Proofs.{line, block}
use Rattle.slang_grammar.specs.Statements.{value_tree}
use Rattle.slang_machine.specs.Open.{Draft, Block, body_of, then_of, else_of, loop_of, Target, in_block, behind_else, Within, with_stmt, put, Steps, deduction_of, block_of, let_of, Labelled, LoopHead, Purpose, value_of, assigned_to, argument_of_call, test_of_if, test_of_loop, asserted, returned, clause_claim, loop_claim, step_claim, assumed_in, Around, alone, inside, under, right_of, argument_of, element_at, element_of, low_of, high_of, body_over, body_over_indices, Consts, constant_of, constants_in, fields_in, TypePurpose, of_result, of_elements, of_value, of_global, of_constants, of_field, of_param, of_method, AroundType, whole_type, sequence_of, pull, Grown, grown, infix_tree, close}
use Rattle.slang_machine.specs.States.{Operand, whole, Range, between, indices_of, NamesOf, contract_names, loop_names, State, ended, global_equals, want_const, consts_left, const_or_end, have_const, field_end, param_end, result_colon, equals_due, begin_due, part_or_end, part_end, clause_end, names_due, first_name, name_end, want_type, have_type, stmt_or_end, value_equals, then_due, else_or_end, loop_begin, invariant_due, invariant_left, modifies_due, loop_claim_end, invariant_end, step_end, by_due, rule_due, cites_or_end, let_end, want, have, elements_due, element_or_end, argument_or_end, bound_left, bound_name, bound_arrow}
use Rattle.slang_machine.specs.Expressions.{application, operand_tree, next_behind}
use Rattle.slang_machine.specs.Statements.{with_method, end_method, after_stmt_in, after_stmt, after_loop, claim_order, with_claims, with_loop_claim, end_names, end_steps, with_line, sub_steps, next_whole}
use Rattle.slang_machine.specs.Declarations.{typed_name, after_type, end_type, end_const}
use Rattle.slang_machine.specs.Machine.{next, run}
use Rattle.slang_machine.proofs.Operators.{apart-bounds}
use Rattle.slang_tree.specs.TypeTree.{TypeTree}
use Rattle.slang_tree.specs.ExprTree.{ExprTree, exprs_of, place_of}
use Rattle.slang_tree.specs.StmtTree.{StepTree, steps_of, StmtTree, StmtTrees, stmts_of}
use Rattle.slang_tree.specs.DeclTree.{ConstTree, TypedName, DeclTree}
use Rattle.slang_tree.specs.declared.place.Place.{Place}
use Rattle.slang_tree.specs.declared.expression.Name.{Name}
use Rattle.slang_values.specs.declared.operators.Quantifier.{Quantifier}
use Rattle.slang_grammar.specs.declared.operator.Infix.{Infix}
use Rattle.slang_grammar.specs.declared.operator.Side.TheVariants.{Right}
use Rattle.slang_lexer.specs.declared.token.TokenKind.{TokenKind}
use Rattle.slang_tokens.specs.Tok.{Tok, sign}
use Rattle.slang_tokens.proofs.Bare.{IsBare}
use Rattle.std.proofs.Common.{◌≡◌, ℕ, true, false, List, [], ◌∷◌, ◌++◌, Option, Some, None, refl, sym, ap, ◌∙◌, subst, arith, cond, ltb, suc}
use Rattle.std.specs.Prelude.{option_and_then, codes}
use Rattle.std.specs.List.{AllByRecursion}
use Rattle.std.proofs.lemmas.Bool.{lt-ltb}
use Rattle.slang_tree.specs.DeclTree as d
use Rattle.slang_tree.specs.ExprTree as e
use Rattle.slang_lexer.specs.declared.token.TokenKind.TheVariants as kind
use Rattle.slang_tree.specs.StmtTree as s
use Rattle.slang_tree.specs.TypeTree as ty_tree
use Rattle.machine_complete.proofs.Statements.{after}

pub true_false : true ≡ false → ⊥
true_false h = cc (h)

-- Some tokens lead from the state to the end of a text.
pub record CanEnd (state : State) : Type 0 where
  pub more : List Tok
  pub bare : AllByRecursion IsBare more
  pub file : List DeclTree
  pub reads : run state more ≡ Some file

abbrev pub here : Place
here = record { line = 1; col = 1 }

abbrev pub letter : Name
letter = record { text = codes "x"; place = here }

pub by_token : (token : Tok) (state state' : State) → IsBare token → next state token ≡ Some state' → CanEnd state' → CanEnd state
by_token token state state' bare h end = record {
  more = token ∷ end.more;
  bare = (bare, end.bare);
  file = end.file;
  reads = ap (λ o. option_and_then (λ s. run s end.more) o) h ∙ end.reads;
}

pub by_sign : (k : TokenKind) (state state' : State) → next state (sign k here) ≡ Some state' → CanEnd state' → CanEnd state
by_sign k state state' h end = by_token (sign k here) state state' (record { bare = λ a b. refl }) h end

pub name_bare : (n : Name) → IsBare (name_token n)
name_bare n = record { bare = λ a b. absurd (true_false a) }

pub number_bare : (digits : List ℕ) → IsBare (number_token digits here)
number_bare digits = record { bare = λ a b. absurd (true_false b) }

pub by_name : (state state' : State) → next state (name_token letter) ≡ Some state' → CanEnd state' → CanEnd state
by_name state state' h end = by_token (name_token letter) state state' (name_bare letter) h end

pub by_digit : (state state' : State) → next state (number_token (codes "1") here) ≡ Some state' → CanEnd state' → CanEnd state
by_digit state state' h end = by_token (number_token (codes "1") here) state state' (number_bare (codes "1")) h end

pub ended_can : (done : List DeclTree) → CanEnd (ended done)
ended_can done = record { more = []; bare = tt; file = done; reads = refl }

-- Blocks and bodies.

pub part_can : (least : ℕ) (draft : Draft) → CanEnd (part_end least draft)
part_can least draft = by_sign kind.RightBrace (part_end least draft) (end_method draft) refl (ended_can (draft.done ++ d.method_decl draft.method ∷ []))

-- the state can be closed by a `}`
pub record CanClose (state : State) : Type 0 where
  pub more : List Tok
  pub bare : AllByRecursion IsBare more
  pub file : List DeclTree
  pub reads : run state (sign kind.RightBrace here ∷ more) ≡ Some file

pub close_can : (state : State) → CanClose state → CanEnd state
close_can state h = record { more = sign kind.RightBrace here ∷ h.more; bare = (record { bare = λ a b. refl }, h.bare); file = h.file; reads = h.reads }

mutual
  close_in : (inner : Block) (stmts : List StmtTree) → CanClose (after_stmt_in stmts inner)
  close_in (body_of draft) stmts = record { more = []; bare = tt; file = _; reads = refl }
  close_in (then_of place test target) stmts =
      let outer = close_target target (s.branch place test (stmts_of stmts) s.no_else) in
      let branch_tree : StmtTree = s.branch place test (stmts_of stmts) s.no_else in
      record {
        more = sign kind.RightBrace here ∷ outer.more;
        bare = (record { bare = λ a b. refl }, outer.bare);
        file = outer.file;
        reads = sym (after (put target branch_tree) (sign kind.RightBrace here) outer.more) ∙ outer.reads;
      }
  close_in (else_of place test on_true target) stmts =
      let tree : StmtTree = s.branch place test on_true (s.else_then (stmts_of stmts)) in
      let outer = close_target target tree in
      record {
        more = sign kind.RightBrace here ∷ outer.more;
        bare = (record { bare = λ a b. refl }, outer.bare);
        file = outer.file;
        reads = outer.reads;
      }
  close_in (loop_of place test modifies claims before outer_block) stmts =
      let outer = close_in outer_block (before ++ s.loop place test modifies claims (stmts_of stmts) ∷ []) in
      record {
        more = sign kind.RightBrace here ∷ outer.more;
        bare = (record { bare = λ a b. refl }, outer.bare);
        file = outer.file;
        reads = outer.reads;
      }

  close_target : (target : Target) (stmt : StmtTree) → CanClose (after_stmt (put target stmt))
  close_target (in_block stmts inner) stmt = close_in inner (stmts ++ stmt ∷ [])
  close_target (behind_else place test on_true target) stmt =
      close_target target (s.branch place test on_true (s.else_then (s.stmt_then stmt s.no_stmts)))

pub after_can : (at : Within) → CanEnd (after_stmt at)
after_can at = close_can (after_stmt at) (close_in at.block at.stmts)

pub put_can : (target : Target) (stmt : StmtTree) → CanEnd (after_stmt (put target stmt))
put_can target stmt = close_can (after_stmt (put target stmt)) (close_target target stmt)

pub else_can : (place : Place) (test : ExprTree) (on_true : StmtTrees) (target : Target) → CanEnd (else_or_end place test on_true target)
else_can place test on_true target =
    let outer = close_target target (s.branch place test on_true s.no_else) in
    record {
      more = sign kind.RightBrace here ∷ outer.more;
      bare = (record { bare = λ a b. refl }, outer.bare);
      file = outer.file;
      reads = sym (after (put target (s.branch place test on_true s.no_else)) (sign kind.RightBrace here) outer.more) ∙ outer.reads;
    }

pub loop_can : (place : Place) (test : ExprTree) (modifies : List Name) (claims : List ExprTree) (stmts : List StmtTree) (around : Within)
    → CanEnd (after_loop place test modifies claims stmts around)
loop_can place test modifies claims stmts around = after_can (with_stmt around (s.loop place test modifies claims (stmts_of stmts)))

-- where a statement or the end of a block is due
pub open_can : (inner : Block) (stmts : List StmtTree) → IsInner inner → CanEnd (stmt_or_end (record { stmts = stmts; block = inner }))
open_can (body_of draft) stmts i = absurd i
open_can (then_of place test target) stmts i =
    by_sign kind.RightBrace (stmt_or_end (record { stmts = stmts; block = then_of place test target })) (else_or_end place test (stmts_of stmts) target) refl
    (else_can place test (stmts_of stmts) target)
open_can (else_of place test on_true target) stmts i =
    let tree : StmtTree = s.branch place test on_true (s.else_then (stmts_of stmts)) in
    by_sign kind.RightBrace (stmt_or_end (record { stmts = stmts; block = else_of place test on_true target })) (after_stmt (put target tree)) refl
    (put_can target tree)
open_can (loop_of place test modifies claims before outer) stmts i =
    let around : Within = record { stmts = before; block = outer } in
    by_sign kind.RightBrace (stmt_or_end (record { stmts = stmts; block = loop_of place test modifies claims before outer }))
    (after_loop place test modifies claims stmts around) refl (loop_can place test modifies claims stmts around)

pub invariant_can : (head : LoopHead) → CanEnd (invariant_end head)
invariant_can head =
    by_sign kind.RightBrace (invariant_end head) (after_loop head.place head.test head.modifies head.claims [] head.around) refl
    (loop_can head.place head.test head.modifies head.claims [] head.around)

-- Contracts, names and steps.

pub clause_can : (least : ℕ) (draft : Draft) → CanEnd (clause_end least draft)
clause_can least draft = by_sign kind.RightParen (clause_end least draft) (part_end 1 draft) refl (part_can 1 draft)

pub names_can : (names : List Name) (of : NamesOf) → CanEnd (end_names names of)
names_can names (contract_names draft) = clause_can 2 (with_method draft (record draft.method { modifies = names }))
names_can names (loop_names place test around) =
    let head : LoopHead = record { place = place; test = test; modifies = names; claims = []; around = around } in
    by_sign kind.RightParen (loop_claim_end head) (invariant_end head) refl (invariant_can head)

pub name_can : (names : List Name) (of : NamesOf) → CanEnd (name_end names of)
name_can names of = by_sign kind.RightParen (name_end names of) (end_names names of) refl (names_can names of)

pub first_can : (of : NamesOf) → CanEnd (first_name of)
first_can of = by_name (first_name of) (name_end (letter ∷ []) of) refl (name_can (letter ∷ []) of)

pub steps_can : (around : Steps) (steps : List StepTree) → CanEnd (end_steps steps around)
steps_can (deduction_of place at) steps = after_can (with_stmt at (s.deduction place (steps_of steps)))
steps_can (block_of label assumed supposed before around) steps =
    let more : List StepTree = before ++ s.block label assumed supposed (steps_of steps) ∷ [] in
    by_sign kind.RightParen (step_end more around) (end_steps more around) refl (steps_can around more)
steps_can (let_of label bound assumed supposed before around) steps =
    let more : List StepTree = before ++ s.let_block label bound assumed supposed (steps_of steps) ∷ [] in
    by_sign kind.RightParen (let_end more around) (step_end more around) refl
    (by_sign kind.RightParen (step_end more around) (end_steps more around) refl (steps_can around more))

pub step_can : (steps : List StepTree) (around : Steps) → CanEnd (step_end steps around)
step_can steps around = by_sign kind.RightParen (step_end steps around) (end_steps steps around) refl (steps_can around steps)

pub cites_can : (claim : ExprTree) (rule : Name) (at : Labelled) → CanEnd (cites_or_end claim rule at)
cites_can claim rule at =
    by_sign kind.RightParen (cites_or_end claim rule at) (end_steps (with_line claim rule [] at) at.around) refl (steps_can at.around (with_line claim rule [] at))

pub rule_can : (claim : ExprTree) (at : Labelled) → CanEnd (rule_due claim at)
rule_can claim at = by_name (rule_due claim at) (cites_or_end claim letter at) refl (cites_can claim letter at)

-- Expressions.

-- what ends an expression
pub data Closer : Type 0 where
  by_paren : Closer
  by_brace : Closer
  by_until : Closer

abbrev pub closer_kind : Closer → TokenKind
closer_kind by_paren = kind.RightParen
closer_kind by_brace = kind.RightBrace
closer_kind by_until = kind.Until

-- what has grown can be ended
pub record CanCloseExpr (g : Grown) : Type 0 where
  pub closer : Closer
  pub more : List Tok
  pub bare : AllByRecursion IsBare more
  pub file : List DeclTree
  pub reads : option_and_then (λ s. run s more) (next_behind next_whole g.expr g.around (sign (closer_kind closer) here)) ≡ Some file

ends_by : (closer : Closer) (expr : ExprTree) (around : Around) (state : State) → next_behind next_whole expr around (sign (closer_kind closer) here) ≡ Some state
    → CanEnd state → CanCloseExpr (grown expr around)
ends_by closer expr around state h end = record {
  closer = closer;
  more = end.more;
  bare = end.bare;
  file = end.file;
  reads = ap (λ o. option_and_then (λ s. run s end.more) o) h ∙ end.reads;
}

-- an operand can be ended as what it grows to
pub have_can : (expr : ExprTree) (around : Around) → CanCloseExpr (close 0 expr around) → CanEnd (have (whole expr) around)
unfolding operators
have_can expr around h = by h.closer h.reads where
  by : (closer : Closer) → option_and_then (λ s. run s h.more) (next_behind next_whole (close 0 expr around).expr (close 0 expr around).around
      (sign (closer_kind closer) here)) ≡ Some h.file → CanEnd (have (whole expr) around)
  by by_paren r = record { more = sign kind.RightParen here ∷ h.more; bare = (record { bare = λ a b. refl }, h.bare); file = h.file; reads = r }
  by by_brace r = record { more = sign kind.RightBrace here ∷ h.more; bare = (record { bare = λ a b. refl }, h.bare); file = h.file; reads = r }
  by by_until r = record { more = sign kind.Until here ∷ h.more; bare = (record { bare = λ a b. refl }, h.bare); file = h.file; reads = r }

pub invariant_due_can : (place : Place) (test : ExprTree) (at : Within) → CanEnd (invariant_due place test at)
invariant_due_can place test at =
    by_sign kind.Invariant (invariant_due place test at) _ refl
    (by_sign kind.LeftParen (invariant_left place test at) _ refl
    (by_sign kind.Modifies (modifies_due place test at) _ refl
    (by_sign kind.LeftParen (names_due (loop_names place test at)) _ refl (first_can (loop_names place test at)))))

-- what was read for a purpose can be ended
pub purpose_can : (expr : ExprTree) (purpose : Purpose) → CanCloseExpr (grown expr (alone purpose))
purpose_can expr (value_of fixed place written ty at) =
    let outer = close_in at.block (at.stmts ++ value_tree fixed place written ty expr ∷ []) in
    record {
      closer = by_brace;
      more = outer.more;
      bare = outer.bare;
      file = outer.file;
      reads = sym (after (with_stmt at (value_tree fixed place written ty expr)) (sign kind.RightBrace here) outer.more) ∙ outer.reads;
    }
purpose_can expr (assigned_to written at) =
    let outer = close_in at.block (at.stmts ++ s.assignment written expr ∷ []) in
    record {
      closer = by_brace;
      more = outer.more;
      bare = outer.bare;
      file = outer.file;
      reads = sym (after (with_stmt at (s.assignment written expr)) (sign kind.RightBrace here) outer.more) ∙ outer.reads;
    }
purpose_can expr (argument_of_call written arguments at) =
    ends_by by_paren expr (alone (argument_of_call written arguments at)) _ refl
    (after_can (with_stmt at (s.call written (exprs_of (arguments ++ expr ∷ [])))))
purpose_can expr (test_of_if place target) =
    ends_by by_paren expr (alone (test_of_if place target)) _ refl
    (by_sign kind.LeftBrace (then_due place expr target) _ refl (open_can (then_of place expr target) [] tt))
purpose_can expr (test_of_loop place at) =
    ends_by by_paren expr (alone (test_of_loop place at)) _ refl
    (by_sign kind.LeftBrace (loop_begin place expr at) _ refl (invariant_due_can place expr at))
purpose_can expr (asserted place at) =
    ends_by by_paren expr (alone (asserted place at)) _ refl (after_can (with_stmt at (s.assertion place expr)))
purpose_can expr (returned place draft) =
    ends_by by_brace expr (alone (returned place draft)) _ refl (ended_can _)
purpose_can expr (clause_claim word claims draft) =
    ends_by by_paren expr (alone (clause_claim word claims draft)) _ refl
    (clause_can (suc (claim_order word)) (with_claims word (claims ++ expr ∷ []) draft))
purpose_can expr (loop_claim head) = ends_by by_paren expr (alone (loop_claim head)) _ refl (invariant_can (with_loop_claim head expr))
purpose_can expr (step_claim at) =
    ends_by by_paren expr (alone (step_claim at)) _ refl (by_sign kind.By (by_due expr at) _ refl (rule_can expr at))
purpose_can expr (assumed_in bound assumed at) =
    ends_by by_paren expr (alone (assumed_in bound assumed at)) _ refl (step_can [] (sub_steps bound assumed expr at))

-- the range of a quantifier can be gone on from where what stands around can
pub bound_can : (by : Quantifier) (place : Place) (range : Range) (around : Around) → ((expr : ExprTree) → CanEnd (have (whole expr) around))
    → CanEnd (bound_left by place range around)
bound_can by place (between low high) around outer =
    by_sign kind.LeftParen (bound_left by place (between low high) around) _ refl
    (by_name (bound_name by place (between low high) around) _ refl
    (by_sign kind.FatArrow (bound_arrow by place (between low high) letter around) _ refl
    (by_sign kind.True (want (body_over by place low high letter around)) _ refl
    (have_can (e.truth here) (body_over by place low high letter around)
    (ends_by by_paren (e.truth here) (body_over by place low high letter around) _ refl (outer (e.quantified place by low high letter (e.truth here))))))))
bound_can by place (indices_of head) around outer =
    by_sign kind.LeftParen (bound_left by place (indices_of head) around) _ refl
    (by_name (bound_name by place (indices_of head) around) _ refl
    (by_sign kind.FatArrow (bound_arrow by place (indices_of head) letter around) _ refl
    (by_sign kind.True (want (body_over_indices by place head letter around)) _ refl
    (have_can (e.truth here) (body_over_indices by place head letter around)
    (ends_by by_paren (e.truth here) (body_over_indices by place head letter around) _ refl
    (outer (e.quantified_indices place by head letter (e.truth here))))))))

pulls_some : (row : Infix) → ltb 0 (pull Right row) ≡ true
pulls_some row = let p = apart-bounds Right row.joins in lt-ltb 0 (pull Right row) (omega (arith, p.0))

-- whatever is open can be closed
pub around_can : (around : Around) (expr : ExprTree) → CanCloseExpr (close 0 expr around)
around_can (alone purpose) expr = purpose_can expr purpose
around_can (inside around) expr = ends_by by_paren expr (inside around) (have (whole expr) around) refl (have_can expr around (around_can around expr))
around_can (under by place around) expr = around_can around (prefix_tree by place expr)
around_can (right_of left row around) expr =
    subst CanCloseExpr (sym (ap (λ b. cond b (close 0 (infix_tree row left expr) around) (grown expr (right_of left row around))) (pulls_some row)))
    (around_can around (infix_tree row left expr))
around_can (argument_of head arguments around) expr =
    let tree : ExprTree = application head (arguments ++ expr ∷ []) in
    ends_by by_paren expr (argument_of head arguments around) (have (whole tree) around) refl (have_can tree around (around_can around tree))
around_can (element_at head index around) expr =
    let tree : ExprTree = e.update (place_of head) head index expr in
    ends_by by_paren expr (element_at head index around) (have (whole tree) around) refl (have_can tree around (around_can around tree))
around_can (element_of place ty elements around) expr =
    let tree : ExprTree = e.sequence place ty (exprs_of (elements ++ expr ∷ [])) in
    ends_by by_paren expr (element_of place ty elements around) (have (whole tree) around) refl (have_can tree around (around_can around tree))
around_can (low_of by place around) expr =
    ends_by by_until expr (low_of by place around) (want (high_of by place expr around)) refl
    (by_sign kind.True (want (high_of by place expr around)) _ refl
    (have_can (e.truth here) (high_of by place expr around)
    (ends_by by_paren (e.truth here) (high_of by place expr around) _ refl
    (bound_can by place (between expr (e.truth here)) around (λ x. have_can x around (around_can around x))))))
around_can (high_of by place low around) expr =
    ends_by by_paren expr (high_of by place low around) _ refl
    (bound_can by place (between low expr) around (λ x. have_can x around (around_can around x)))
around_can (body_over by place low high bound around) expr =
    let tree : ExprTree = e.quantified place by low high bound expr in
    ends_by by_paren expr (body_over by place low high bound around) (have (whole tree) around) refl (have_can tree around (around_can around tree))
around_can (body_over_indices by place head bound around) expr =
    let tree : ExprTree = e.quantified_indices place by head bound expr in
    ends_by by_paren expr (body_over_indices by place head bound around) (have (whole tree) around) refl (have_can tree around (around_can around tree))

pub operand_can : (expr : ExprTree) (around : Around) → CanEnd (have (whole expr) around)
operand_can expr around = have_can expr around (around_can around expr)

pub want_can : (around : Around) → CanEnd (want around)
want_can around = by_sign kind.True (want around) (have (whole (e.truth here)) around) refl (operand_can (e.truth here) around)

pub arguments_can : (head : ExprTree) (arguments : List ExprTree) (around : Around) → CanEnd (argument_or_end head arguments around)
arguments_can head arguments around =
    by_sign kind.RightParen (argument_or_end head arguments around) _ refl (operand_can (application head arguments) around)

pub any_operand_can : (operand : Operand) (around : Around) → CanEnd (have operand around)
any_operand_can operand around = by_sign kind.LeftParen (have operand around) _ refl (arguments_can (operand_tree operand) [] around)

pub elements_can : (place : Place) (ty : Option TypeTree) (elements : List ExprTree) (around : Around) → CanEnd (element_or_end place ty elements around)
elements_can place ty elements around =
    by_sign kind.RightParen (element_or_end place ty elements around) _ refl (operand_can (e.sequence place ty (exprs_of elements)) around)

-- Constants and types.

pub const_can : (around : Consts) (const : ConstTree) → CanEnd (end_const const around)
const_can (constant_of fixed place written ty done) const = ended_can _
const_can (constants_in place ty consts around) const =
    by_sign kind.RightParen (have_const const (constants_in place ty consts around)) _ refl (const_can around _)
const_can (fields_in written consts around) const =
    by_sign kind.RightParen (have_const const (fields_in written consts around)) _ refl (const_can around _)

pub want_const_can : (around : Consts) → CanEnd (want_const around)
want_const_can around = by_sign kind.True (want_const around) (end_const (d.const_truth here) around) refl (const_can around (d.const_truth here))

pub const_or_end_can : (around : Consts) → CanEnd (const_or_end around)
const_or_end_can around = by_sign kind.True (const_or_end around) (end_const (d.const_truth here) around) refl (const_can around (d.const_truth here))

pub consts_left_can : (place : Place) (ty : Option TypeTree) (around : Consts) → CanEnd (consts_left place ty around)
consts_left_can place None around =
    by_sign kind.LeftParen (consts_left place None around) _ refl (want_const_can (constants_in place None [] around))
consts_left_can place (Some ty) around =
    by_sign kind.LeftParen (consts_left place (Some ty) around) _ refl (const_or_end_can (constants_in place (Some ty) [] around))

pub begin_can : (draft : Draft) → CanEnd (begin_due draft)
begin_can draft =
    by_sign kind.LeftBrace (begin_due draft) (part_or_end 0 draft) refl
    (by_sign kind.RightBrace (part_or_end 0 draft) (end_method draft) refl (ended_can _))

pub equals_can : (draft : Draft) → CanEnd (equals_due draft)
equals_can draft = by_sign kind.Equals (equals_due draft) (begin_due draft) refl (begin_can draft)

pub result_can : (written : Name) (params : List TypedName) (done : List DeclTree) → CanEnd (result_colon written params done)
result_can written params done =
    by_sign kind.Colon (result_colon written params done) _ refl
    (by_sign kind.TypeZ (want_type (whole_type (of_method written params done))) _ refl (equals_can _))

pub after_type_can : (ty : TypeTree) (purpose : TypePurpose) → CanEnd (after_type ty purpose)
after_type_can ty (of_value fixed place written at) =
    by_sign kind.Equals (value_equals fixed place written (Some ty) at) _ refl (want_can (alone (value_of fixed place written (Some ty) at)))
after_type_can ty (of_global fixed place written done) =
    by_sign kind.Equals (global_equals fixed place written (Some ty) done) _ refl (want_const_can (constant_of fixed place written (Some ty) done))
after_type_can ty (of_field place written fields n done) =
    by_sign kind.RightParen (field_end place written (fields ++ typed_name n ty ∷ []) done) _ refl (ended_can _)
after_type_can ty (of_param written params n done) =
    by_sign kind.RightParen (param_end written (params ++ typed_name n ty ∷ []) done) _ refl (result_can written (params ++ typed_name n ty ∷ []) done)
after_type_can ty (of_method written params done) = equals_can _
after_type_can ty (of_result place around) =
    by_sign kind.RightBracket (have_type ty (whole_type (of_result place around))) _ refl (operand_can (e.result place (Some ty)) around)
after_type_can ty (of_elements place around) =
    by_sign kind.RightBracket (have_type ty (whole_type (of_elements place around))) _ refl
    (by_sign kind.LeftParen (elements_due place ty around) _ refl (elements_can place (Some ty) [] around))
after_type_can ty (of_constants place consts) =
    by_sign kind.RightBracket (have_type ty (whole_type (of_constants place consts))) _ refl (consts_left_can place (Some ty) consts)

pub type_can : (around : AroundType) (ty : TypeTree) → CanEnd (end_type ty around)
type_can (whole_type purpose) ty = after_type_can ty purpose
type_can (sequence_of place around) ty =
    by_sign kind.RightBracket (have_type ty (sequence_of place around)) _ refl (type_can around (ty_tree.sequence_name place ty))

pub want_type_can : (around : AroundType) → CanEnd (want_type around)
want_type_can around = by_sign kind.TypeZ (want_type around) (end_type (ty_tree.z_name here) around) refl (type_can around (ty_tree.z_name here))

pub have_type_can : (ty : TypeTree) (around : AroundType) → InBrackets around → CanEnd (have_type ty around)
have_type_can ty (sequence_of place around) i = type_can (sequence_of place around) ty
have_type_can ty (whole_type (of_result place around)) i = after_type_can ty (of_result place around)
have_type_can ty (whole_type (of_elements place around)) i = after_type_can ty (of_elements place around)
have_type_can ty (whole_type (of_constants place consts)) i = after_type_can ty (of_constants place consts)
have_type_can ty (whole_type (of_value fixed place written at)) i = absurd i
have_type_can ty (whole_type (of_global fixed place written done)) i = absurd i
have_type_can ty (whole_type (of_field place written fields n done)) i = absurd i
have_type_can ty (whole_type (of_param written params n done)) i = absurd i
have_type_can ty (whole_type (of_method written params done)) i = absurd i

pub have_const_can : (const : ConstTree) (around : Consts) → IsNested around → CanEnd (have_const const around)
have_const_can const (constant_of fixed place written ty done) i = absurd i
have_const_can const (constants_in place ty consts around) i = const_can (constants_in place ty consts around) const
have_const_can const (fields_in written consts around) i = const_can (fields_in written consts around) const
