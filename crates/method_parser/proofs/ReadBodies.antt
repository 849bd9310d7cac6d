-- How the machine reads the bodies and contracts of methods.
use Rattle.std.proofs.Common.{◌≡◌, ℕ, ◌<◌, ◌≤◌, Bool, true, false, cond, List, [], ◌∷◌, Option, Some, None, refl, sym, ap, ◌∙◌}
use Rattle.std.proofs.lemmas.Bool.{le-leb, lt-leb}
use Rattle.std.specs.Prelude.{nat_le}
use Rattle.slang_lexer.specs.declared.token.TokenKind.TheVariants as kind
use Rattle.slang_tree.specs.ExprTree.{ExprTree}
use Rattle.slang_tree.specs.declared.place.Place.{Place}
use Rattle.slang_tokens.specs.Tok.{Tok}
use Rattle.slang_machine.specs.Open.{Draft, body_of, returned, alone, Within}
use Rattle.slang_machine.specs.States.{State, whole, have, want, clauses_due, clause_or_end, clause_end, part_or_end, part_end}
use Rattle.slang_machine.specs.Expressions.{is, on}
use Rattle.slang_machine.specs.Statements.{begin_stmt, end_method, next_clause}
use Rattle.slang_machine.specs.Machine.{next}
use Rattle.token_cursor.specs.declared.stop.Due.TheVariants as due
use Rattle.token_cursor.specs.Outcome.{outcome, stuck}
use Rattle.token_cursor.specs.Lists.{begins, behind, member_or_end, member_end}
use Rattle.token_cursor.proofs.Steps.{goes, stays, ends, alike, one_kind}
use Rattle.token_cursor.proofs.Turns.{or_end, end_by}
use Rattle.expression_parser.specs.Below.{StopsBefore}
use Rattle.expression_parser.proofs.Haves.{whole_next}
use Rattle.expression_parser.proofs.Beginnings.{split}
use Rattle.statement_parser.specs.Expects.{BeginsStmt}
use Rattle.statement_parser.proofs.Reading.{takes_it}
use Rattle.method_parser.specs.declared.bodies.ClauseHead.{ClauseHead}
use Rattle.method_parser.specs.declared.bodies.ClauseHead.TheVariants as clause
use Rattle.method_parser.specs.declared.bodies.PartHead.TheVariants as part
use Rattle.method_parser.specs.Bodies.{returned_to, IsStmtPart, clause_head_of, clause_order, behind_clause, part_head, part_order}

-- a test of an order
below : (a b : ℕ) → a ≤ b → nat_le a b ≡ true
below a b h = le-leb a b h

above : (a b : ℕ) → b < a → nat_le a b ≡ false
above a b h = lt-leb a b h

-- Clauses.

-- a clause that may follow
abbrev pub allowed : ℕ → Draft → Option ClauseHead → Option State
allowed least draft None = None
allowed least draft (Some head) = on (nat_le least (clause_order head)) (behind_clause draft head)

abbrev clause_word : ℕ → Draft → Tok → Option State
clause_word least draft token =
    cond (is kind.Requires token) (on (nat_le least 0) (behind_clause draft clause.Requires))
    (cond (is kind.Modifies token) (on (nat_le least 1) (behind_clause draft clause.Modifies))
    (cond (is kind.Ensures token) (on (nat_le least 2) (behind_clause draft clause.Ensures)) None))

next_of : (least : ℕ) (draft : Draft) (token : Tok) → is kind.RightParen token ≡ false → next_clause least draft token ≡ allowed least draft (clause_head_of token)
next_of least draft token p =
    let own : Option State → Option State = λ s. s in
    let to : Option ClauseHead → Option State = λ h. allowed least draft h in
    ap (λ b. cond b (Some (part_end 1 draft)) (clause_word least draft token)) p
    ∙ split (is kind.Requires token) own to _ _ _ _ refl
    (split (is kind.Modifies token) own to _ _ _ _ refl
    (split (is kind.Ensures token) own to _ _ _ _ refl refl))

pub clause_begins : (least : ℕ) (draft : Draft) (head : ClauseHead) (token : Tok) (rest tokens : List Tok) → tokens ≡ token ∷ rest → begins kind.RightParen tokens ≡ false
    → Some head ≡ clause_head_of token → least ≤ clause_order head → outcome (clause_or_end least draft) tokens ≡ outcome (behind_clause draft head) rest
clause_begins least draft head token rest tokens e p h o =
    goes (clause_or_end least draft) (behind_clause draft head) token rest tokens e
    (next_of least draft token (sym (ap (begins kind.RightParen) e) ∙ p) ∙ ap (allowed least draft) (sym h)
    ∙ ap (λ b. on b (behind_clause draft head)) (below least (clause_order head) o))

pub clause_refused : (least : ℕ) (draft : Draft) (head : Option ClauseHead) (token : Tok) (rest tokens : List Tok) → tokens ≡ token ∷ rest
    → begins kind.RightParen tokens ≡ false → head ≡ clause_head_of token → allowed least draft head ≡ None
    → outcome (clause_or_end least draft) tokens ≡ stuck tokens due.Other
clause_refused least draft head token rest tokens e p h o =
    stays (clause_or_end least draft) token rest tokens e
    (next_of least draft token (sym (ap (begins kind.RightParen) e) ∙ p) ∙ ap (allowed least draft) (sym h) ∙ o)

pub clause_late : (least : ℕ) (draft : Draft) (head : ClauseHead) → clause_order head < least → allowed least draft (Some head) ≡ None
clause_late least draft head o = ap (λ b. on b (behind_clause draft head)) (above least (clause_order head) o)

closing_clause : (least : ℕ) (draft : Draft) (token : Tok) → is kind.RightParen token ≡ true → next (clause_or_end least draft) token ≡ Some (part_end 1 draft)
closing_clause least draft token h = ap (λ b. cond b (Some (part_end 1 draft)) (clause_word least draft token)) h

pub clause_or_end_turn : (least : ℕ) (draft : Draft) (tokens : List Tok)
    → outcome (clause_or_end least draft) tokens ≡ member_or_end kind.RightParen (clause_or_end least draft) (part_end 1 draft) tokens
clause_or_end_turn least draft tokens =
    let either : State = clause_or_end least draft in
    let over : State = part_end 1 draft in
    or_end kind.RightParen either either over tokens refl refl (λ token h. closing_clause least draft token h) (λ token h. refl)

pub clause_turn : (least : ℕ) (draft : Draft) (tokens : List Tok)
    → outcome (clause_end least draft) tokens ≡ member_end kind.Comma kind.RightParen (clause_or_end least draft) (part_end 1 draft) tokens
clause_turn least draft tokens =
    let either : State = clause_or_end least draft in
    let over : State = part_end 1 draft in
    end_by kind.Comma kind.RightParen (clause_end least draft) either either over tokens refl refl refl
    (λ token rest e h. ap (λ b. cond b (Some either) (on (is kind.RightParen token) over)) h)
    (λ token rest e h. ap (λ b. cond b (Some either) (on (is kind.RightParen token) over)) h)
    (λ rest. clause_or_end_turn least draft rest)

-- Parts of bodies.

abbrev pub in_body : Draft → Within
in_body draft = record { stmts = draft.method.body; block = body_of draft }

abbrev after_contract : ℕ → Draft → Tok → Option State
after_contract least draft token =
    cond (is kind.Return token) (on (nat_le least 2) (want (alone (returned token.place draft))))
    (cond (nat_le least 1) (begin_stmt (in_body draft) token) None)

abbrev part_word : ℕ → Draft → Tok → Option State
part_word least draft token =
    cond (is kind.Contract token) (on (nat_le least 0) (clauses_due draft))
    (cond (is kind.Return token) (on (nat_le least 2) (want (alone (returned token.place draft))))
    (cond (nat_le least 1) (begin_stmt (in_body draft) token) None))

pub contract_comes : (least : ℕ) (draft : Draft) (tokens : List Tok) → least ≤ 0 → begins kind.Contract tokens ≡ true
    → outcome (part_or_end least draft) tokens ≡ outcome (clauses_due draft) (behind tokens)
contract_comes least draft tokens o h =
    takes_it kind.Contract (part_or_end least draft) (clauses_due draft) tokens h (λ token g.
    ap (λ b. cond b (Some (end_method draft)) (part_word least draft token)) (one_kind kind.Contract kind.RightBrace token refl g)
    ∙ ap (λ b. cond b (on (nat_le least 0) (clauses_due draft)) (after_contract least draft token)) g
    ∙ ap (λ b. on b (clauses_due draft)) (below least 0 o))

pub return_comes : (least : ℕ) (draft : Draft) (token : Tok) (rest tokens : List Tok) → tokens ≡ token ∷ rest → least ≤ 2 → begins kind.Return tokens ≡ true
    → outcome (part_or_end least draft) tokens ≡ outcome (want (alone (returned token.place draft))) rest
return_comes least draft token rest tokens e o h =
    let g : is kind.Return token ≡ true = sym (ap (begins kind.Return) e) ∙ h in
    let value : State = want (alone (returned token.place draft)) in
    goes (part_or_end least draft) value token rest tokens e
    (ap (λ b. cond b (Some (end_method draft)) (part_word least draft token)) (one_kind kind.Return kind.RightBrace token refl g)
    ∙ ap (λ b. cond b (on (nat_le least 0) (clauses_due draft)) (after_contract least draft token)) (one_kind kind.Return kind.Contract token refl g)
    ∙ ap (λ b. cond b (on (nat_le least 2) value) (cond (nat_le least 1) (begin_stmt (in_body draft) token) None)) g
    ∙ ap (λ b. on b value) (below least 2 o))

pub stmt_begins_part : (least : ℕ) (draft : Draft) (tokens : List Tok) → IsStmtPart least tokens → BeginsStmt tokens (part_or_end least draft) (in_body draft)
stmt_begins_part least draft tokens x = record {
  at_end = refl;
  no_other = refl;
  step = λ token rest e.
      ap (λ b. cond b (Some (end_method draft)) (part_word least draft token)) (sym (ap (begins kind.RightBrace) e) ∙ x.no_end)
      ∙ ap (λ b. cond b (on (nat_le least 0) (clauses_due draft)) (after_contract least draft token)) (sym (ap (begins kind.Contract) e) ∙ x.no_contract)
      ∙ ap (λ b. cond b (on (nat_le least 2) (want (alone (returned token.place draft)))) (cond (nat_le least 1) (begin_stmt (in_body draft) token) None))
      (sym (ap (begins kind.Return) e) ∙ x.no_return)
      ∙ ap (λ b. cond b (begin_stmt (in_body draft) token) None) (below least 1 x.order);
}

-- a part that may not follow
pub part_late : (least : ℕ) (draft : Draft) (tokens : List Tok) → begins kind.RightBrace tokens ≡ false → part_order (part_head tokens) < least
    → outcome (part_or_end least draft) tokens ≡ stuck tokens due.Other
part_late least draft [] p o = ends (part_or_end least draft) [] refl refl
part_late least draft (token ∷ rest) p o =
    stays (part_or_end least draft) token rest (token ∷ rest) refl
    (ap (λ b. cond b (Some (end_method draft)) (part_word least draft token)) p ∙ by_contract (is kind.Contract token) o) where
      by_return : (c : Bool) → part_order (cond c part.Return part.Stmt) < least
          → cond c (on (nat_le least 2) (want (alone (returned token.place draft)))) (cond (nat_le least 1) (begin_stmt (in_body draft) token) None) ≡ None
      by_return true h = ap (λ b. on b (want (alone (returned token.place draft)))) (above least 2 h)
      by_return false h = ap (λ b. cond b (begin_stmt (in_body draft) token) None) (above least 1 h)

      by_contract : (b : Bool) → part_order (cond b part.Contract (cond (is kind.Return token) part.Return part.Stmt)) < least
          → cond b (on (nat_le least 0) (clauses_due draft)) (after_contract least draft token) ≡ None
      by_contract true h = ap (λ b. on b (clauses_due draft)) (above least 0 h)
      by_contract false h = by_return (is kind.Return token) h

pub part_or_end_turn : (least : ℕ) (draft : Draft) (tokens : List Tok)
    → outcome (part_or_end least draft) tokens ≡ member_or_end kind.RightBrace (part_or_end least draft) (end_method draft) tokens
part_or_end_turn least draft tokens =
    let either : State = part_or_end least draft in
    let over : State = end_method draft in
    or_end kind.RightBrace either either over tokens refl refl (λ token h. ap (λ b. cond b (Some over) (part_word least draft token)) h) (λ token h. refl)

pub part_turn : (least : ℕ) (draft : Draft) (tokens : List Tok)
    → outcome (part_end least draft) tokens ≡ member_end kind.Newline kind.RightBrace (part_or_end least draft) (end_method draft) tokens
part_turn least draft tokens =
    let either : State = part_or_end least draft in
    let over : State = end_method draft in
    end_by kind.Newline kind.RightBrace (part_end least draft) either either over tokens refl refl refl
    (λ token rest e h. ap (λ b. cond b (Some either) (on (is kind.RightBrace token) over)) h)
    (λ token rest e h. ap (λ b. cond b (Some either) (on (is kind.RightBrace token) over)) h)
    (λ rest. part_or_end_turn least draft rest)

-- an expression ends its return
pub ends_return : (expr : ExprTree) (place : Place) (draft : Draft) (tokens : List Tok) → StopsBefore 0 tokens
    → outcome (have (whole expr) (alone (returned place draft))) tokens ≡ outcome (part_end 3 (returned_to draft (record { place = place; value = expr }))) tokens
ends_return expr place draft tokens stops =
    alike (have (whole expr) (alone (returned place draft))) (part_end 3 (returned_to draft (record { place = place; value = expr }))) tokens refl refl
    (λ token rest e. whole_next expr (alone (returned place draft)) token rest tokens refl e stops)

-- which part comes
pub is_contract : (tokens : List Tok) → part.Contract ≡ part_head tokens → begins kind.Contract tokens ≡ true
is_contract tokens h = by_tests (begins kind.Contract tokens) (begins kind.Return tokens) h where
  by_tests : (b c : Bool) → part.Contract ≡ cond b part.Contract (cond c part.Return part.Stmt) → b ≡ true
  by_tests true c e = refl
  by_tests false true e = absurd (cc)
  by_tests false false e = absurd (cc)

pub is_return : (tokens : List Tok) → part.Return ≡ part_head tokens → begins kind.Return tokens ≡ true
is_return tokens h = by_tests (begins kind.Contract tokens) (begins kind.Return tokens) h where
  by_tests : (b c : Bool) → part.Return ≡ cond b part.Contract (cond c part.Return part.Stmt) → c ≡ true
  by_tests true c e = absurd (cc)
  by_tests false true e = refl
  by_tests false false e = absurd (cc)

pub is_stmt : (tokens : List Tok) → part.Stmt ≡ part_head tokens → (begins kind.Contract tokens ≡ false) × (begins kind.Return tokens ≡ false)
is_stmt tokens h = by_tests (begins kind.Contract tokens) (begins kind.Return tokens) h where
  by_tests : (b c : Bool) → part.Stmt ≡ cond b part.Contract (cond c part.Return part.Stmt) → (b ≡ false) × (c ≡ false)
  by_tests true c e = absurd (cc)
  by_tests false true e = absurd (cc)
  by_tests false false e = (refl, refl)
