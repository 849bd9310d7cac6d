-- Statements are read.
use Rattle.machine_expressions.proofs.Behind.{no_bracket, read_type}
use Rattle.machine_expressions.proofs.Reading.{read_whole}
use Rattle.machine_complete.proofs.Lists.{read_names, read_call, read_loop_claims}
use Rattle.machine_complete.proofs.Steps.{read_in_brackets, steps_trees, read_steps, steps_from_first}
use Rattle.slang_grammar.specs.Parts.{members, optional, name_token, IsPlain, names_tokens, type_tokens, IfWritten, TypedText, typed_tokens, IsTyped, typed_tree}
use Rattle.slang_grammar.specs.Operators.{operators}
use Rattle.slang_grammar.specs.Expressions.{ExprText, expr_tokens, exprs_tokens, IsGrouped, expr_tree, exprs_tree}
use Rattle.slang_grammar.specs.Proofs.{steps_tokens, steps_tree}
use Rattle.slang_grammar.specs.Statements.{block, TestText, InvariantText, claims_behind_tokens, claims_behind_trees, invariant_tokens, IsInvariant, StmtText, value, assignment, call, branch, loop, assertion, deduction, IfText, if_then, ElseText, no_else, else_block, else_if, BlockText, StmtsText, no_stmts, last_stmt, stmt_then, LoopText, no_body, body, stmt_tokens, if_tokens, else_tokens, block_tokens, stmts_tokens, loop_tokens, IsStmt, IsIf, IsElse, IsBlock, AreStmts, IsLoop, value_tree, stmt_tree, if_tree, else_tree, block_tree, stmts_tree, loop_tree}
use Rattle.slang_machine.specs.Open.{Block, body_of, then_of, else_of, loop_of, Target, in_block, behind_else, Within, with_stmt, put, deduction_of, LoopHead, Purpose, value_of, assigned_to, test_of_if, test_of_loop, asserted, alone, of_value, whole_type, close}
use Rattle.slang_machine.specs.States.{loop_names, State, names_due, want_type, stmt_or_end, value_type, name_seen, if_left, then_due, else_or_end, else_due, loop_left, loop_begin, invariant_due, invariant_end, step_due, want}
use Rattle.slang_machine.specs.Expressions.{is, on}
use Rattle.slang_machine.specs.Statements.{after_stmt_in, after_stmt, after_loop, end_block, next_stmt_end_in, next_stmt_end, begin_stmt, loop_block, next_whole}
use Rattle.slang_machine.specs.Machine.{next, run}
use Rattle.slang_tree.specs.ExprTree.{ExprTree}
use Rattle.slang_tree.specs.StmtTree.{StmtTree, StmtTrees, stmts_of}
use Rattle.slang_tree.specs.DeclTree.{DeclTree}
use Rattle.slang_tree.specs.declared.place.Place.{Place}
use Rattle.slang_tree.specs.declared.expression.Name.{Name}
use Rattle.slang_tokens.specs.Tok.{Tok, sign}
use Rattle.std.proofs.Common.{◌≡◌, Bool, true, false, List, [], ◌∷◌, ◌++◌, Option, Some, None, refl, sym, ap, ◌∙◌, append_assoc, append-nil, cond}
use Rattle.std.specs.Prelude.{option_and_then}
use Rattle.std.specs.Option.{option_map}
use Rattle.slang_lexer.specs.declared.token.TokenKind.TheVariants as kind
use Rattle.slang_tree.specs.StmtTree as s

-- behind a statement stands a newline or a `}`
pub data IsStmtEnd : Tok → Type 0 where
  newline_ends : (place : Place) → IsStmtEnd (sign kind.Newline place)
  brace_ends : (place : Place) → IsStmtEnd (sign kind.RightBrace place)

-- what is read behind a token that leads to this
abbrev pub Goes : Option State → List Tok → Option (List DeclTree)
Goes led rest = option_and_then (λ s. run s rest) led

-- an expression that ends a statement
pub read_to_end : (at : Purpose) (text : ExprText) (token : Tok) (rest : List Tok) → IsGrouped text → IsStmtEnd token
    → run (want (alone at)) (expr_tokens text ++ token ∷ rest) ≡ Goes (next_whole (expr_tree text) at token) rest
unfolding operators
read_to_end at text _ rest g (newline_ends place) =
    read_whole text at (sign kind.Newline place) rest g (record { no_paren = refl; no_dot = refl; no_bracket = refl; no_operator = refl })
read_to_end at text _ rest g (brace_ends place) =
    read_whole text at (sign kind.RightBrace place) rest g (record { no_paren = refl; no_dot = refl; no_bracket = refl; no_operator = refl })

-- the state behind a statement takes its end as the statement does
after_in : (stmts : List StmtTree) (inner : Block) (token : Tok) → next (after_stmt_in stmts inner) token ≡ next_stmt_end_in stmts inner token
after_in stmts (body_of draft) token = refl
after_in stmts (then_of place test target) token = refl
after_in stmts (else_of place test on_true target) token = refl
after_in stmts (loop_of place test modifies claims before outer) token = refl

pub after : (at : Within) (token : Tok) (rest : List Tok) → run (after_stmt at) (token ∷ rest) ≡ Goes (next_stmt_end at token) rest
after at token rest = ap (λ o. Goes o rest) (after_in at.stmts at.block token)

no_else_here : (token : Tok) → IsStmtEnd token → is kind.Else token ≡ false
no_else_here _ (newline_ends place) = refl
no_else_here _ (brace_ends place) = refl

-- A statement is read from its first token on.
abbrev pub FromFirst : Within → List Tok → Option (List DeclTree)
FromFirst at [] = None
FromFirst at (token ∷ rest) = Goes (begin_stmt at token) rest

-- it does not begin with a `}`
stmt_in_block : (text : StmtText) (at : Within) (rest : List Tok) → run (stmt_or_end at) (stmt_tokens text ++ rest) ≡ FromFirst at (stmt_tokens text ++ rest)
stmt_in_block (value true word n ty equals expr) at rest = refl
stmt_in_block (value false word n ty equals expr) at rest = refl
stmt_in_block (assignment n equals expr) at rest = refl
stmt_in_block (call n left arguments right) at rest = refl
stmt_in_block (branch (if_then test then otherwise)) at rest = refl
stmt_in_block (loop test begin invariant text end) at rest = refl
stmt_in_block (assertion word left claim right) at rest = refl
stmt_in_block (deduction word left steps right) at rest = refl

-- a block other than the body of a method
abbrev pub IsInner : Block → Type 0
IsInner (body_of draft) = ⊥
IsInner _ = Unit {0}

-- the end of a statement there
ends_inner : (stmts : List StmtTree) (inner : Block) (place : Place) (rest : List Tok) → IsInner inner
    → Goes (next_stmt_end_in stmts inner (sign kind.Newline place)) rest ≡ run (stmt_or_end (record { stmts = stmts; block = inner })) rest
ends_inner stmts (body_of draft) place rest h = absurd h
ends_inner stmts (then_of here test target) place rest h = refl
ends_inner stmts (else_of here test on_true target) place rest h = refl
ends_inner stmts (loop_of here test modifies claims before outer) place rest h = refl

closes_inner : (stmts : List StmtTree) (inner : Block) (place : Place) → IsInner inner
    → next_stmt_end_in stmts inner (sign kind.RightBrace place) ≡ end_block stmts inner
closes_inner stmts (body_of draft) place h = absurd h
closes_inner stmts (then_of here test target) place h = refl
closes_inner stmts (else_of here test on_true target) place h = refl
closes_inner stmts (loop_of here test modifies claims before outer) place h = refl

-- the trees of the statements of a list
abbrev stmt_trees : StmtsText → List StmtTree
stmt_trees no_stmts = []
stmt_trees (last_stmt stmt) = stmt_tree stmt ∷ []
stmt_trees (stmt_then stmt newline more) = stmt_tree stmt ∷ stmt_trees more

abbrev loop_trees : LoopText → List StmtTree
loop_trees no_body = []
loop_trees (body newline stmts) = stmt_trees stmts

stmts_trees : (texts : StmtsText) → stmts_of (stmt_trees texts) ≡ stmts_tree texts
stmts_trees no_stmts = refl
stmts_trees (last_stmt stmt) = refl
stmts_trees (stmt_then stmt newline more) = ap (s.stmt_then (stmt_tree stmt)) (stmts_trees more)

loop_same : (text : LoopText) → stmts_of (loop_trees text) ≡ loop_tree text
loop_same no_body = refl
loop_same (body newline stmts) = stmts_trees stmts

-- `name = value`, or `name: type = value`, behind the name
read_value_behind : (fixed : Bool) (place : Place) (n : Name) (ty : Option TypedText) (equals : Place) (expr : ExprText) (at : Within) (token : Tok) (rest : List Tok)
    → IfWritten IsTyped ty → IsGrouped expr → IsStmtEnd token
    → run (value_type fixed place n at) ((optional typed_tokens ty ++ sign kind.Equals equals ∷ expr_tokens expr) ++ token ∷ rest)
    ≡ Goes (next_stmt_end (with_stmt at (value_tree fixed place n (option_map typed_tree ty) (expr_tree expr))) token) rest
read_value_behind fixed place n None equals expr at token rest t g ends = read_to_end (value_of fixed place n None at) expr token rest g ends
read_value_behind fixed place n (Some ty) equals expr at token rest t g ends =
    ap (run (want_type (whole_type (of_value fixed place n at)))) (append_assoc (type_tokens ty.ty) (sign kind.Equals equals ∷ expr_tokens expr) (token ∷ rest))
    ∙ read_type ty.ty (whole_type (of_value fixed place n at)) (sign kind.Equals equals ∷ expr_tokens expr ++ token ∷ rest) t
    ∙ read_to_end (value_of fixed place n (Some (typed_tree ty)) at) expr token rest g ends

-- `(test)` of an if-statement, and of a loop
read_test : (place : Place) (target : Target) (test : TestText) (rest : List Tok) → IsGrouped test.test
    → run (if_left place target) (sign kind.LeftParen test.left ∷ (expr_tokens test.test ++ sign kind.RightParen test.right ∷ []) ++ rest)
    ≡ run (then_due place (expr_tree test.test) target) rest
read_test place target test rest g = read_in_brackets (test_of_if place target) test.test test.right rest g

read_loop_test : (at : Within) (test : TestText) (rest : List Tok) → IsGrouped test.test
    → run (loop_left test.word at) (sign kind.LeftParen test.left ∷ (expr_tokens test.test ++ sign kind.RightParen test.right ∷ []) ++ rest)
    ≡ run (loop_begin test.word (expr_tree test.test) at) rest
read_loop_test at test rest g = read_in_brackets (test_of_loop test.word at) test.test test.right rest g

-- the invariant of a loop
read_invariant : (place : Place) (test : ExprTree) (at : Within) (i : InvariantText) (rest : List Tok) → IsInvariant i
    → run (invariant_due place test at) (invariant_tokens i ++ rest)
    ≡ run (invariant_end (record { place = place; test = test; modifies = members i.names.names; claims = claims_behind_trees i.claims; around = at })) rest
read_invariant place test at i rest g =
    let close : List Tok = sign kind.RightParen i.right ∷ [] in
    ap (run (names_due (loop_names place test at))) (append_assoc (names_tokens i.names ++ claims_behind_tokens i.claims) close rest
    ∙ append_assoc (names_tokens i.names) (claims_behind_tokens i.claims) (close ++ rest))
    ∙ read_names (loop_names place test at) i.names (claims_behind_tokens i.claims ++ sign kind.RightParen i.right ∷ rest) g.0
    ∙ read_loop_claims (record { place = place; test = test; modifies = members i.names.names; claims = []; around = at }) i.claims i.right rest refl g.1

-- An if-statement behind its word, and a block behind its brace.
abbrev FromIf : Target → List Tok → Option (List DeclTree)
FromIf target [] = None
FromIf target (token ∷ rest) = run (if_left token.place target) rest

abbrev FromBrace : Block → List Tok → Option (List DeclTree)
FromBrace inner [] = None
FromBrace inner (token ∷ rest) = run (stmt_or_end (record { stmts = []; block = inner })) rest

first_if : (text : IfText) (at : Within) (rest : List Tok) → FromFirst at (if_tokens text ++ rest) ≡ FromIf (in_block at.stmts at.block) (if_tokens text ++ rest)
first_if (if_then test then otherwise) at rest = refl

if_behind_else : (text : IfText) (place : Place) (test : ExprTree) (on_true : StmtTrees) (target : Target) (rest : List Tok)
    → run (else_due place test on_true target) (if_tokens text ++ rest) ≡ FromIf (behind_else place test on_true target) (if_tokens text ++ rest)
if_behind_else (if_then inner_test then otherwise) place test on_true target rest = refl

block_behind_else : (text : BlockText) (place : Place) (test : ExprTree) (on_true : StmtTrees) (target : Target) (rest : List Tok)
    → run (else_due place test on_true target) (block_tokens text ++ rest) ≡ FromBrace (else_of place test on_true target) (block_tokens text ++ rest)
block_behind_else (block begin stmts end) place test on_true target rest = refl

block_behind_test : (text : BlockText) (place : Place) (test : ExprTree) (target : Target) (rest : List Tok)
    → run (then_due place test target) (block_tokens text ++ rest) ≡ FromBrace (then_of place test target) (block_tokens text ++ rest)
block_behind_test (block begin stmts end) place test target rest = refl

abbrev block_trees : BlockText → List StmtTree
block_trees (block begin stmts end) = stmt_trees stmts

block_same : (text : BlockText) → stmts_of (block_trees text) ≡ block_tree text
block_same (block begin stmts end) = stmts_trees stmts

named : (n : Name) (at : Within) (rest : List Tok) → IsPlain n → FromFirst at (name_token n ∷ rest) ≡ run (name_seen n at) rest
named n at rest g = ap (λ b. Goes (cond b (Some (name_seen n at)) None) rest) g

mutual
  -- from its first token on, up to the token behind it
  pub read_stmt : (text : StmtText) (at : Within) (token : Tok) (rest : List Tok) → IsStmt text → IsStmtEnd token
      → FromFirst at (stmt_tokens text ++ token ∷ rest) ≡ Goes (next_stmt_end (with_stmt at (stmt_tree text)) token) rest
  read_stmt (value true word n ty equals expr) at token rest g ends =
      ap (λ b. Goes (on b (value_type true word n at)) ((optional typed_tokens ty ++ sign kind.Equals equals ∷ expr_tokens expr) ++ token ∷ rest)) g.0
      ∙ read_value_behind true word n ty equals expr at token rest g.1 g.2 ends
  read_stmt (value false word n ty equals expr) at token rest g ends =
      ap (λ b. Goes (on b (value_type false word n at)) ((optional typed_tokens ty ++ sign kind.Equals equals ∷ expr_tokens expr) ++ token ∷ rest)) g.0
      ∙ read_value_behind false word n ty equals expr at token rest g.1 g.2 ends
  read_stmt (assignment n equals expr) at token rest g ends =
      named n at (sign kind.Equals equals ∷ expr_tokens expr ++ token ∷ rest) g.0 ∙ read_to_end (assigned_to n at) expr token rest g.1 ends
  read_stmt (call n left arguments right) at token rest g ends =
      named n at (sign kind.LeftParen left ∷ (exprs_tokens arguments ++ sign kind.RightParen right ∷ []) ++ token ∷ rest) g.0
      ∙ read_call n at arguments right (token ∷ rest) g.1
      ∙ after (with_stmt at (s.call n (exprs_tree arguments))) token rest
  read_stmt (branch text) at token rest g ends =
      first_if text at (token ∷ rest) ∙ read_if text (in_block at.stmts at.block) token rest g ends
  read_stmt (loop test begin invariant text end) at token rest g ends =
      let tail : List Tok = token ∷ rest in
      let close : List Tok = sign kind.RightBrace end ∷ [] in
      let tested : List Tok = expr_tokens test.test ++ sign kind.RightParen test.right ∷ [] in
      let opened : List Tok = sign kind.LeftBrace begin ∷ invariant_tokens invariant in
      let head : LoopHead = record {
        place = test.word;
        test = expr_tree test.test;
        modifies = members invariant.names.names;
        claims = claims_behind_trees invariant.claims;
        around = at;
      } in
      ap (λ x. run (loop_left test.word at) (sign kind.LeftParen test.left ∷ x)) (append_assoc ((tested ++ opened) ++ loop_tokens text) close tail
      ∙ append_assoc (tested ++ opened) (loop_tokens text) (close ++ tail) ∙ append_assoc tested opened (loop_tokens text ++ (close ++ tail)))
      ∙ read_loop_test at test (opened ++ (loop_tokens text ++ (close ++ tail))) g.0
      ∙ read_invariant test.word (expr_tree test.test) at invariant (loop_tokens text ++ (close ++ tail)) g.1
      ∙ read_loop text head end tail g.2
      ∙ ap (λ stmts. run (after_stmt (with_stmt at (s.loop head.place head.test head.modifies head.claims stmts))) tail) (loop_same text)
      ∙ after (with_stmt at (stmt_tree (loop test begin invariant text end))) token rest
  read_stmt (assertion word left claim right) at token rest g ends =
      read_in_brackets (asserted word at) claim right (token ∷ rest) g ∙ after (with_stmt at (s.assertion word (expr_tree claim))) token rest
  read_stmt (deduction word left steps right) at token rest g ends =
      ap (run (step_due [] (deduction_of word at))) (append_assoc (steps_tokens steps) (sign kind.RightParen right ∷ []) (token ∷ rest))
      ∙ steps_from_first steps [] (deduction_of word at) (sign kind.RightParen right ∷ token ∷ rest) g.0
      ∙ read_steps steps [] (deduction_of word at) right (token ∷ rest) g.1
      ∙ ap (λ trees. run (after_stmt (with_stmt at (s.deduction word trees))) (token ∷ rest)) (steps_trees steps)
      ∙ after (with_stmt at (s.deduction word (steps_tree steps))) token rest

  read_if : (text : IfText) (target : Target) (token : Tok) (rest : List Tok) → IsIf text → IsStmtEnd token
      → FromIf target (if_tokens text ++ token ∷ rest) ≡ Goes (next_stmt_end (put target (if_tree text)) token) rest
  read_if (if_then test then otherwise) target token rest g ends =
      let tail : List Tok = token ∷ rest in
      let tested : List Tok = expr_tokens test.test ++ sign kind.RightParen test.right ∷ [] in
      ap (λ x. run (if_left test.word target) (sign kind.LeftParen test.left ∷ x)) (append_assoc (tested ++ block_tokens then) (else_tokens otherwise) tail
      ∙ append_assoc tested (block_tokens then) (else_tokens otherwise ++ tail))
      ∙ read_test test.word target test (block_tokens then ++ (else_tokens otherwise ++ tail)) g.0
      ∙ block_behind_test then test.word (expr_tree test.test) target (else_tokens otherwise ++ tail)
      ∙ read_block then (then_of test.word (expr_tree test.test) target) (else_tokens otherwise ++ tail) tt g.1
      ∙ ap (λ stmts. run (else_or_end test.word (expr_tree test.test) stmts target) (else_tokens otherwise ++ tail)) (block_same then)
      ∙ read_else otherwise test.word (expr_tree test.test) (block_tree then) target token rest g.2 ends

  read_else : (text : ElseText) (place : Place) (test : ExprTree) (on_true : StmtTrees) (target : Target) (token : Tok) (rest : List Tok)
      → IsElse text → IsStmtEnd token
      → run (else_or_end place test on_true target) (else_tokens text ++ token ∷ rest)
      ≡ Goes (next_stmt_end (put target (s.branch place test on_true (else_tree text))) token) rest
  read_else no_else place test on_true target token rest g ends =
      ap (λ b. Goes (cond b (Some (else_due place test on_true target)) (next_stmt_end (put target (s.branch place test on_true s.no_else)) token)) rest)
      (no_else_here token ends)
  read_else (else_block word text) place test on_true target token rest g ends =
      let whole_stmt : List StmtTree → StmtTree = λ stmts. s.branch place test on_true (s.else_then (stmts_of stmts)) in
      block_behind_else text place test on_true target (token ∷ rest)
      ∙ read_block text (else_of place test on_true target) (token ∷ rest) tt g
      ∙ after (put target (whole_stmt (block_trees text))) token rest
      ∙ ap (λ stmts. Goes (next_stmt_end (put target (s.branch place test on_true (s.else_then stmts))) token) rest) (block_same text)
  read_else (else_if word text) place test on_true target token rest g ends =
      if_behind_else text place test on_true target (token ∷ rest) ∙ read_if text (behind_else place test on_true target) token rest g ends

  read_block : (text : BlockText) (inner : Block) (rest : List Tok) → IsInner inner → IsBlock text
      → FromBrace inner (block_tokens text ++ rest) ≡ Goes (end_block (block_trees text) inner) rest
  read_block (block begin stmts end) inner rest h g =
      ap (run (stmt_or_end (record { stmts = []; block = inner }))) (append_assoc (stmts_tokens stmts) (sign kind.RightBrace end ∷ []) rest)
      ∙ read_stmts stmts [] inner end rest h g

  read_stmts : (texts : StmtsText) (stmts : List StmtTree) (inner : Block) (end : Place) (rest : List Tok) → IsInner inner → AreStmts texts
      → run (stmt_or_end (record { stmts = stmts; block = inner })) (stmts_tokens texts ++ sign kind.RightBrace end ∷ rest)
      ≡ Goes (end_block (stmts ++ stmt_trees texts) inner) rest
  read_stmts no_stmts stmts inner end rest h g = ap (λ x. Goes (end_block x inner) rest) (sym (append-nil stmts))
  read_stmts (last_stmt stmt) stmts inner end rest h g =
      let at : Within = record { stmts = stmts; block = inner } in
      stmt_in_block stmt at (sign kind.RightBrace end ∷ rest)
      ∙ read_stmt stmt at (sign kind.RightBrace end) rest g (brace_ends end)
      ∙ ap (λ o. Goes o rest) (closes_inner (stmts ++ stmt_tree stmt ∷ []) inner end h)
  read_stmts (stmt_then stmt newline more) stmts inner end rest h g =
      let at : Within = record { stmts = stmts; block = inner } in
      let close : List Tok = stmts_tokens more ++ sign kind.RightBrace end ∷ rest in
      ap (run (stmt_or_end at)) (append_assoc (stmt_tokens stmt) (sign kind.Newline newline ∷ stmts_tokens more) (sign kind.RightBrace end ∷ rest))
      ∙ stmt_in_block stmt at (sign kind.Newline newline ∷ close)
      ∙ read_stmt stmt at (sign kind.Newline newline) close g.0 (newline_ends newline)
      ∙ ends_inner (stmts ++ stmt_tree stmt ∷ []) inner newline close h
      ∙ read_stmts more (stmts ++ stmt_tree stmt ∷ []) inner end rest h g.1
      ∙ ap (λ x. Goes (end_block x inner) rest) (append_assoc stmts (stmt_tree stmt ∷ []) (stmt_trees more))

  read_loop : (text : LoopText) (head : LoopHead) (end : Place) (rest : List Tok) → IsLoop text
      → run (invariant_end head) (loop_tokens text ++ sign kind.RightBrace end ∷ rest)
      ≡ run (after_loop head.place head.test head.modifies head.claims (loop_trees text) head.around) rest
  read_loop no_body head end rest g = refl
  read_loop (body newline stmts) head end rest g = read_stmts stmts [] (loop_block head) end rest tt g
