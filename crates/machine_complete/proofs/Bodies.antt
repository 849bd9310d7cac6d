-- Contracts and bodies are read.
use Rattle.machine_complete.proofs.Lists.{read_names, read_claims}
use Rattle.machine_complete.proofs.Statements.{IsStmtEnd, newline_ends, brace_ends, Goes, read_to_end, FromFirst, read_stmt}
use Rattle.slang_grammar.specs.Parts.{members, separated, optional, listed, name_token, names_tokens, typed_tokens}
use Rattle.slang_grammar.specs.Expressions.{expr_tokens, exprs_tokens, claims_tokens}
use Rattle.slang_grammar.specs.Proofs.{block, steps_tokens}
use Rattle.slang_grammar.specs.Statements.{invariant_tokens, StmtText, value, assignment, call, branch, loop, assertion, deduction, IfText, if_then, stmt_tokens, if_tokens, else_tokens, block_tokens, loop_tokens}
use Rattle.slang_grammar.specs.Declarations.{ClauseText, requires_clause, modifies_clause, ensures_clause, clause_tokens, IsClause, clause_order, ContractText, Ascends, IsContract, PartText, contract_part, stmt_part, return_part, part_tokens, IsPart, part_order, order_behind, InOrder, with_clause, with_clauses, with_part, with_parts}
use Rattle.slang_machine.specs.Open.{Draft, body_of, in_block, Within, requiring, ensuring, returned, alone, close}
use Rattle.slang_machine.specs.States.{contract_names, part_or_end, part_end, clauses_due, clause_or_end, clause_end, claims_due, names_due, if_left, loop_left, assert_left, steps_left, want}
use Rattle.slang_machine.specs.Expressions.{on}
use Rattle.slang_machine.specs.Statements.{with_method, end_method, next_part_end, begin_stmt}
use Rattle.slang_machine.specs.Machine.{run}
use Rattle.slang_tree.specs.declared.place.Place.{Place}
use Rattle.slang_tokens.specs.Tok.{Tok, sign}
use Rattle.std.proofs.Common.{◌≡◌, ℕ, ◌≤◌, true, false, List, [], ◌∷◌, ◌++◌, Option, Some, None, refl, sym, ap, ◌∙◌, append_assoc, cond, leb, suc, map}
use Rattle.std.specs.Prelude.{option_to_list}
use Rattle.std.specs.List.{AllByRecursion}
use Rattle.std.proofs.lemmas.Bool.{le-leb}
use Rattle.slang_lexer.specs.declared.token.TokenKind.TheVariants as kind

-- Contracts.

-- a method with the clause
abbrev with_clause_in : Draft → ClauseText → Draft
with_clause_in draft clause = with_method draft (with_clause draft.method clause)

read_clause : (clause : ClauseText) (least : ℕ) (draft : Draft) (rest : List Tok) → least ≤ clause_order clause → IsClause clause
    → run (clause_or_end least draft) (clause_tokens clause ++ rest) ≡ run (clause_end (suc (clause_order clause)) (with_clause_in draft clause)) rest
read_clause (requires_clause word claims) least draft rest h g =
    ap (λ b. Goes (on b (claims_due requiring draft)) (claims_tokens claims ++ rest)) (le-leb least 0 h) ∙ read_claims requiring draft claims rest g
read_clause (modifies_clause word names) least draft rest h g =
    ap (λ b. Goes (on b (names_due (contract_names draft))) (names_tokens names ++ rest)) (le-leb least 1 h)
    ∙ read_names (contract_names draft) names rest g
read_clause (ensures_clause word claims) least draft rest h g =
    ap (λ b. Goes (on b (claims_due ensuring draft)) (claims_tokens claims ++ rest)) (le-leb least 2 h) ∙ read_claims ensuring draft claims rest g

read_clauses : (front : List (ClauseText × Place)) (last : Option ClauseText) (least : ℕ) (draft : Draft) (right : Place) (rest : List Tok)
    → Ascends least (map (λ m. m.0) front ++ option_to_list last) → AllByRecursion IsClause (map (λ m. m.0) front ++ option_to_list last)
    → run (clause_or_end least draft) ((separated kind.Comma clause_tokens front ++ optional clause_tokens last) ++ sign kind.RightParen right ∷ rest)
    ≡ run (part_end 1 (with_method draft (with_clauses draft.method (map (λ m. m.0) front ++ option_to_list last)))) rest
read_clauses [] None least draft right rest h g = refl
read_clauses [] (Some clause) least draft right rest h g = read_clause clause least draft (sign kind.RightParen right ∷ rest) h.0 g.0
read_clauses (first ∷ front) last least draft right rest h g =
    let close : List Tok = sign kind.RightParen right ∷ rest in
    let others : List Tok = separated kind.Comma clause_tokens front in
    let with_comma : List Tok = sign kind.Comma first.1 ∷ others in
    ap (run (clause_or_end least draft)) (append_assoc (clause_tokens first.0 ++ with_comma) (optional clause_tokens last) close
    ∙ append_assoc (clause_tokens first.0) with_comma (optional clause_tokens last ++ close)
    ∙ ap (λ x. clause_tokens first.0 ++ sign kind.Comma first.1 ∷ x) (sym (append_assoc others (optional clause_tokens last) close)))
    ∙ read_clause first.0 least draft (sign kind.Comma first.1 ∷ (others ++ optional clause_tokens last) ++ close) h.0 g.0
    ∙ read_clauses front last (suc (clause_order first.0)) (with_clause_in draft first.0) right rest h.1 g.1

read_contract : (c : ContractText) (draft : Draft) (rest : List Tok) → IsContract c
    → run (clauses_due draft) (sign kind.LeftParen c.left ∷ (listed kind.Comma clause_tokens c.clauses ++ sign kind.RightParen c.right ∷ []) ++ rest)
    ≡ run (part_end 1 (with_method draft (with_clauses draft.method (members c.clauses)))) rest
read_contract c draft rest g =
    ap (run (clause_or_end 0 draft)) (append_assoc (listed kind.Comma clause_tokens c.clauses) (sign kind.RightParen c.right ∷ []) rest)
    ∙ read_clauses c.clauses.front c.clauses.last 0 draft c.right rest g.0 g.1

-- Parts of a body.

abbrev body_within : Draft → Within
body_within draft = record { stmts = draft.method.body; block = body_of draft }

abbrev with_part_in : Draft → PartText → Draft
with_part_in draft part = with_method draft (with_part draft.method part)

if_in_body : (text : IfText) (least : ℕ) (draft : Draft) (rest : List Tok) → leb least 1 ≡ true
    → run (part_or_end least draft) (if_tokens text ++ rest) ≡ FromFirst (body_within draft) (if_tokens text ++ rest)
if_in_body (if_then test then otherwise) least draft rest h = ap (λ b. Goes (cond b (Some (if_left test.word (in_block draft.method.body (body_of draft)))) None) (sign kind.LeftParen test.left ∷ ((expr_tokens test.test ++ sign kind.RightParen test.right ∷ []) ++ block_tokens then ++ else_tokens otherwise) ++ rest)) h

-- a statement does not begin with a `}`, a contract or a return
stmt_in_body : (text : StmtText) (least : ℕ) (draft : Draft) (rest : List Tok) → leb least 1 ≡ true
    → run (part_or_end least draft) (stmt_tokens text ++ rest) ≡ FromFirst (body_within draft) (stmt_tokens text ++ rest)
stmt_in_body (value true word n ty equals expr) least draft rest h =
    ap (λ b. Goes (cond b (begin_stmt (body_within draft) (sign kind.Val word)) None) ((name_token n ∷ optional typed_tokens ty ++ sign kind.Equals equals ∷ expr_tokens expr) ++ rest)) h
stmt_in_body (value false word n ty equals expr) least draft rest h =
    ap (λ b. Goes (cond b (begin_stmt (body_within draft) (sign kind.Var word)) None) ((name_token n ∷ optional typed_tokens ty ++ sign kind.Equals equals ∷ expr_tokens expr) ++ rest)) h
stmt_in_body (assignment n equals expr) least draft rest h =
    ap (λ b. Goes (cond b (begin_stmt (body_within draft) (name_token n)) None) ((sign kind.Equals equals ∷ expr_tokens expr) ++ rest)) h
stmt_in_body (call n left arguments right) least draft rest h =
    ap (λ b. Goes (cond b (begin_stmt (body_within draft) (name_token n)) None) ((sign kind.LeftParen left ∷ exprs_tokens arguments ++ sign kind.RightParen right ∷ []) ++ rest)) h
stmt_in_body (branch text) least draft rest h = if_in_body text least draft rest h
stmt_in_body (loop test begin invariant text end) least draft rest h =
    ap (λ b. Goes (cond b (Some (loop_left test.word (body_within draft))) None)
    (((sign kind.LeftParen test.left ∷ expr_tokens test.test ++ sign kind.RightParen test.right ∷ []) ++ sign kind.LeftBrace begin ∷ invariant_tokens invariant ++ loop_tokens text ++ sign kind.RightBrace end ∷ []) ++ rest)) h
stmt_in_body (assertion word left claim right) least draft rest h =
    ap (λ b. Goes (cond b (Some (assert_left word (body_within draft))) None) ((sign kind.LeftParen left ∷ expr_tokens claim ++ sign kind.RightParen right ∷ []) ++ rest)) h
stmt_in_body (deduction word left steps right) least draft rest h =
    ap (λ b. Goes (cond b (Some (steps_left word (body_within draft))) None) ((sign kind.LeftParen left ∷ steps_tokens steps ++ sign kind.RightParen right ∷ []) ++ rest)) h

-- one part, up to the token behind it
read_part : (part : PartText) (least : ℕ) (draft : Draft) (token : Tok) (rest : List Tok) → least ≤ part_order part → IsPart part → IsStmtEnd token
    → run (part_or_end least draft) (part_tokens part ++ token ∷ rest) ≡ Goes (next_part_end (order_behind part) (with_part_in draft part) token) rest
read_part (contract_part contract) least draft token rest h g ends =
    ap (λ b. Goes (on b (clauses_due draft)) (sign kind.LeftParen contract.left ∷ (listed kind.Comma clause_tokens contract.clauses
    ++ sign kind.RightParen contract.right ∷ []) ++ token ∷ rest)) (le-leb least 0 h)
    ∙ read_contract contract draft (token ∷ rest) g
read_part (stmt_part stmt) least draft token rest h g ends =
    stmt_in_body stmt least draft (token ∷ rest) (le-leb least 1 h) ∙ read_stmt stmt (body_within draft) token rest g ends
read_part (return_part word expr) least draft token rest h g ends =
    ap (λ b. Goes (on b (want (alone (returned word draft)))) (expr_tokens expr ++ token ∷ rest)) (le-leb least 2 h)
    ∙ read_to_end (returned word draft) expr token rest g ends

pub read_parts : (front : List (PartText × Place)) (last : Option PartText) (least : ℕ) (draft : Draft) (end : Place) (rest : List Tok)
    → InOrder least (map (λ m. m.0) front ++ option_to_list last) → AllByRecursion IsPart (map (λ m. m.0) front ++ option_to_list last)
    → run (part_or_end least draft) ((separated kind.Newline part_tokens front ++ optional part_tokens last) ++ sign kind.RightBrace end ∷ rest)
    ≡ run (end_method (with_method draft (with_parts draft.method (map (λ m. m.0) front ++ option_to_list last)))) rest
read_parts [] None least draft end rest h g = refl
read_parts [] (Some part) least draft end rest h g = read_part part least draft (sign kind.RightBrace end) rest h.0 g.0 (brace_ends end)
read_parts (first ∷ front) last least draft end rest h g =
    let close : List Tok = sign kind.RightBrace end ∷ rest in
    let others : List Tok = separated kind.Newline part_tokens front in
    let with_newline : List Tok = sign kind.Newline first.1 ∷ others in
    ap (run (part_or_end least draft)) (append_assoc (part_tokens first.0 ++ with_newline) (optional part_tokens last) close
    ∙ append_assoc (part_tokens first.0) with_newline (optional part_tokens last ++ close)
    ∙ ap (λ x. part_tokens first.0 ++ sign kind.Newline first.1 ∷ x) (sym (append_assoc others (optional part_tokens last) close)))
    ∙ read_part first.0 least draft (sign kind.Newline first.1) ((others ++ optional part_tokens last) ++ close) h.0 g.0 (newline_ends first.1)
    ∙ read_parts front last (order_behind first.0) (with_part_in draft first.0) end rest h.1 g.1
