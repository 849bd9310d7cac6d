-- How the machine goes on behind an operand.
use denote.Enum.Bare.{same_true}
use Rattle.slang_lexer.specs.contracts.token.TokenKind.{the_type}
use Rattle.std.proofs.Common.{◌≡◌, ℕ, ◌+◌, ◌<◌, ◌≤◌, Bool, true, false, not, ◌&&◌, cond, List, [], ◌∷◌, ◌++◌, Option, Some, None, refl, sym, ap, ◌∙◌, arith, ltb}
use Rattle.std.specs.Prelude.{codes}
use Rattle.std.specs.Str.{bytes_eq}
use Rattle.std.proofs.lemmas.Bool.{and_parts, not-true, lt-ltb, le-ltb}
use Rattle.slang_lexer.specs.declared.token.TokenKind.TheVariants as kind
use Rattle.slang_values.specs.declared.operators.Quantifier.{Quantifier}
use Rattle.slang_tree.specs.declared.place.Place.{Place}
use Rattle.slang_tree.specs.declared.expression.Name.{Name}
use Rattle.slang_tree.specs.ExprTree.{ExprTree}
use Rattle.slang_tokens.specs.Tok.{Tok}
use Rattle.slang_grammar.specs.declared.operator.Side.TheVariants.{Left, Right}
use Rattle.slang_grammar.specs.declared.operator.Prefix.{Prefix}
use Rattle.slang_grammar.specs.declared.operator.Infix.{Infix}
use Rattle.slang_grammar.specs.Operators.{infix_of, operators}
use Rattle.slang_grammar.specs.Expressions.{prefix_tree}
use Rattle.slang_machine.specs.Open.{Purpose, Around, alone, inside, under, right_of, argument_of, element_at, element_of, low_of, high_of, body_over, body_over_indices, held, pull, Grown, grown, close, infix_tree}
use Rattle.slang_machine.specs.States.{Operand, whole, dotted, State, want, have, argument_or_end, field_written, bound_left, indices_of}
use Rattle.slang_machine.specs.Expressions.{is, on, operand_tree, range_of, application, next_operator, next_ended, next_behind, next_right}
use Rattle.slang_machine.specs.Statements.{next_whole}
use Rattle.slang_machine.specs.Machine.{next}
use Rattle.slang_machine.proofs.Operators.{pull-small}
use Rattle.token_cursor.specs.declared.stop.Due.TheVariants as due
use Rattle.token_cursor.specs.Outcome.{outcome, stuck, stepped}
use Rattle.token_cursor.specs.Gives.{Expects}
use Rattle.token_cursor.specs.Lists.{begins, behind}
use Rattle.expression_parser.specs.Below.{operator_at, ends_operand, IsBelow, StopsBefore}
use Rattle.expression_parser.specs.Expects.{begins_range, BeginsExpr, ClosesExpr}
use Rattle.expression_parser.specs.Forms.{IsIndicesOf, IsNoRange}
use Rattle.token_cursor.proofs.Steps.{one_kind, goes, stays}
use Rattle.expression_parser.proofs.Table.{no_paren, no_dot, pull_in_table}

-- The next token behind an operand.

-- what comes of a token that opens no bracket and is no dot
pub at_operator : (operand : Operand) (around : Around) (token : Tok) → is kind.LeftParen token ≡ false → is kind.Dot token ≡ false
    → next (have operand around) token ≡ next_operator next_whole operand around token (infix_of token.kind)
at_operator operand around token p d =
    let own : Option State = next_operator next_whole operand around token (infix_of token.kind) in
    ap (λ b. cond b (Some (argument_or_end (operand_tree operand) [] around)) (cond (is kind.Dot token) (Some (field_written (operand_tree operand) around)) own)) p
    ∙ ap (λ b. cond b (Some (field_written (operand_tree operand) around)) own) d

pub at_paren : (operand : Operand) (around : Around) (token : Tok) → is kind.LeftParen token ≡ true
    → next (have operand around) token ≡ Some (argument_or_end (operand_tree operand) [] around)
at_paren operand around token p =
    ap (λ b. cond b (Some (argument_or_end (operand_tree operand) [] around)) (cond (is kind.Dot token) (Some (field_written (operand_tree operand) around)) (next_operator next_whole operand around token (infix_of token.kind)))) p

pub at_dot : (operand : Operand) (around : Around) (token : Tok) → is kind.LeftParen token ≡ false → is kind.Dot token ≡ true
    → next (have operand around) token ≡ Some (field_written (operand_tree operand) around)
at_dot operand around token p d =
    let own : Option State = next_operator next_whole operand around token (infix_of token.kind) in
    ap (λ b. cond b (Some (argument_or_end (operand_tree operand) [] around)) (cond (is kind.Dot token) (Some (field_written (operand_tree operand) around)) own)) p
    ∙ ap (λ b. cond b (Some (field_written (operand_tree operand) around)) own) d

-- what ends an operand neither opens a bracket nor is a dot
pub ends_here : (token : Tok) (rest tokens : List Tok) → tokens ≡ token ∷ rest → ends_operand tokens ≡ true → (is kind.LeftParen token ≡ false) × (is kind.Dot token ≡ false)
ends_here token rest tokens e h =
    let p = and_parts _ _ (ap ends_operand (sym e) ∙ h) in
    (not-true _ p.0, not-true _ p.1)

pub ends_of : (tokens : List Tok) → begins kind.LeftParen tokens ≡ false → begins kind.Dot tokens ≡ false → ends_operand tokens ≡ true
ends_of [] p d = refl
ends_of (token ∷ rest) p d = ap (λ a. not a && not (is kind.Dot token)) p ∙ ap (λ b. not b) d

-- What closes alike goes on alike.

-- how strongly what comes next pulls an operand
abbrev pub least_of : Option Infix → ℕ
least_of None = 0
least_of (Some row) = pull Left row

same_operator : (operand operand' : Operand) (around around' : Around) (token : Tok) (row : Option Infix)
    → close (least_of row) (operand_tree operand) around ≡ close (least_of row) (operand_tree operand') around'
    → cond (is kind.RightParen token) (range_of operand around) None ≡ cond (is kind.RightParen token) (range_of operand' around') None
    → next_operator next_whole operand around token row ≡ next_operator next_whole operand' around' token row
same_operator operand operand' around around' token (Some row) h r = ap (λ (g : Grown). next_right g row) h
same_operator operand operand' around around' token None h r =
    ap (λ o. next_ended next_whole operand around token o) r ∙ by_range (cond (is kind.RightParen token) (range_of operand' around') None) where
      by_range : (o : Option State) → next_ended next_whole operand around token o ≡ next_ended next_whole operand' around' token o
      by_range (Some s) = refl
      by_range None = ap (λ (g : Grown). next_behind next_whole g.expr g.around token) h

same_have : (operand operand' : Operand) (around around' : Around) (tokens : List Tok) → ends_operand tokens ≡ true
    → close (least_of (operator_at tokens)) (operand_tree operand) around ≡ close (least_of (operator_at tokens)) (operand_tree operand') around'
    → cond (begins kind.RightParen tokens) (range_of operand around) None ≡ cond (begins kind.RightParen tokens) (range_of operand' around') None
    → outcome (have operand around) tokens ≡ outcome (have operand' around') tokens
same_have operand operand' around around' [] m h r = refl
same_have operand operand' around around' (token ∷ rest) m h r =
    let p = ends_here token rest (token ∷ rest) refl m in
    ap (stepped (λ s. outcome s rest) (stuck (token ∷ rest) due.Other))
    (at_operator operand around token p.0 p.1 ∙ same_operator operand operand' around around' token (infix_of token.kind) h r ∙ sym (at_operator operand' around' token p.0 p.1))

no_range_under : (operand : Operand) (by : Prefix) (place : Place) (around : Around) → range_of operand (under by place around) ≡ None
no_range_under (whole expr) by place around = refl
no_range_under (dotted head written) by place around = refl

-- an operand under its prefix
pub have_prefix : (operand : Operand) (by : Prefix) (place : Place) (around : Around) (tokens : List Tok) → ends_operand tokens ≡ true
    → outcome (have operand (under by place around)) tokens ≡ outcome (have (whole (prefix_tree by place (operand_tree operand))) around) tokens
have_prefix operand by place around tokens m =
    same_have operand (whole (prefix_tree by place (operand_tree operand))) (under by place around) around tokens m refl
    (ap (λ o. cond (begins kind.RightParen tokens) o None) (no_range_under operand by place around))

no_range : (operand : Operand) (around : Around) → begins_range around ≡ false → range_of operand around ≡ None
no_range (whole expr) around h = refl
no_range (dotted head written) (alone at) h = refl
no_range (dotted head written) (inside outer) h = refl
no_range (dotted head written) (under by place outer) h = refl
no_range (dotted head written) (right_of expr row outer) h = refl
no_range (dotted head written) (argument_of other arguments outer) h = refl
no_range (dotted head written) (element_at other index outer) h = refl
no_range (dotted head written) (element_of place ty elements outer) h = refl
no_range (dotted head written) (low_of by place outer) h = absurd (cc)
no_range (dotted head written) (high_of by place low outer) h = refl
no_range (dotted head written) (body_over by place low high bound outer) h = refl
no_range (dotted head written) (body_over_indices by place other bound outer) h = refl

-- an operand is an expression, where no range begins
pub have_whole : (operand : Operand) (around : Around) (tokens : List Tok) → ends_operand tokens ≡ true → begins_range around ≡ false
    → outcome (have operand around) tokens ≡ outcome (have (whole (operand_tree operand)) around) tokens
have_whole operand around tokens m h =
    same_have operand (whole (operand_tree operand)) around around tokens m refl
    (ap (λ o. cond (begins kind.RightParen tokens) o None) (no_range operand around h))

-- and also where one begins, if it does not end here
pub have_low : (operand : Operand) (by : Quantifier) (place : Place) (around : Around) (tokens : List Tok) → ends_operand tokens ≡ true
    → IsNoRange operand (begins kind.RightParen tokens)
    → outcome (have operand (low_of by place around)) tokens ≡ outcome (have (whole (operand_tree operand)) (low_of by place around)) tokens
have_low operand by place around tokens m h =
    same_have operand (whole (operand_tree operand)) (low_of by place around) (low_of by place around) tokens m refl (by_form operand (begins kind.RightParen tokens) h) where
      by_both : (b c : Bool) (state : State) → (b && c) ≡ false → cond b (on c state) None ≡ cond b None None
      by_both true true state e = absurd (cc)
      by_both true false state e = refl
      by_both false c state e = refl

      by_form : (o : Operand) (b : Bool) → IsNoRange o b → cond b (range_of o (low_of by place around)) None ≡ cond b (range_of (whole (operand_tree o)) (low_of by place around)) None
      by_form (whole expr) b k = refl
      by_form (dotted head written) b k = by_both b (bytes_eq written.text (codes "indices")) (bound_left by place (indices_of head) around) k

closing_no_operator : (token : Tok) → is kind.RightParen token ≡ true → infix_of token.kind ≡ None
unfolding operators
closing_no_operator token p = ap infix_of (same_true the_type tt token.kind kind.RightParen p)

-- the indices of an operand are a range
pub have_indices : (operand : Operand) (head : ExprTree) (by : Quantifier) (place : Place) (around : Around) (tokens : List Tok)
    → begins kind.RightParen tokens ≡ true → IsIndicesOf operand head
    → outcome (have operand (low_of by place around)) tokens ≡ outcome (bound_left by place (indices_of head) around) (behind tokens)
have_indices (whole expr) head by place around tokens p h = absurd h
have_indices (dotted other written) head by place around [] p h = absurd (cc)
have_indices (dotted other written) head by place around (token ∷ rest) p h =
    let operand = dotted other written in
    let low = low_of by place around in
    goes (have operand low) (bound_left by place (indices_of head) around) token rest (token ∷ rest) refl
    (at_operator operand low token (one_kind kind.RightParen kind.LeftParen token refl p) (one_kind kind.RightParen kind.Dot token refl p)
    ∙ ap (next_operator next_whole operand low token) (closing_no_operator token p)
    ∙ ap (λ b. next_ended next_whole operand low token (cond b (range_of operand low) None)) p
    ∙ ap (λ c. next_ended next_whole operand low token (on c (bound_left by place (indices_of other) around))) h.0
    ∙ ap (λ x. Some (bound_left by place (indices_of x) around)) h.1)

-- Operators.

-- what pulls no more strongly than this stays open
pub close_held : (around : Around) (least : ℕ) (expr : ExprTree) → least ≤ 18 → held around ≤ least → close least expr around ≡ grown expr around
close_held (under by place around) least expr a h = absurd (omega (arith, a, h))
close_held (right_of left row around) least expr a h =
    ap (λ c. cond c (close least (infix_tree row left expr) around) (grown expr (right_of left row around))) (le-ltb least (pull Right row) h)
close_held (alone at) least expr a h = refl
close_held (inside around) least expr a h = refl
close_held (argument_of head arguments around) least expr a h = refl
close_held (element_at head index around) least expr a h = refl
close_held (element_of place ty elements around) least expr a h = refl
close_held (low_of by place around) least expr a h = refl
close_held (high_of by place low around) least expr a h = refl
close_held (body_over by place low high bound around) least expr a h = refl
close_held (body_over_indices by place head bound around) least expr a h = refl

-- an operator behind what was read
next_after : (around : Around) (left : ExprTree) (token : Tok) (row : Infix) → infix_of token.kind ≡ Some row → held around ≤ pull Left row
    → next (have (whole left) around) token ≡ on (ltb (held around) (pull Left row)) (want (right_of left row around))
next_after around left token row is_row h =
    at_operator (whole left) around token (no_paren token row is_row) (no_dot token row is_row)
    ∙ ap (next_operator next_whole (whole left) around token) is_row
    ∙ ap (λ (g : Grown). next_right g row) (close_held around (pull Left row) left (pull_in_table Left token.kind row is_row).1 h)

-- an operator takes what was read as its left operand
pub takes_left : (around : Around) (left : ExprTree) (row : Infix) (tokens : List Tok) → operator_at tokens ≡ Some row → held around < pull Left row
    → outcome (have (whole left) around) tokens ≡ outcome (want (right_of left row around)) (behind tokens)
takes_left around left row [] is_row h = absurd (cc)
takes_left around left row (token ∷ rest) is_row h =
    goes (have (whole left) around) (want (right_of left row around)) token rest (token ∷ rest) refl
    (next_after around left token row is_row (omega arith) ∙ ap (λ b. on b (want (right_of left row around))) (lt-ltb (held around) (pull Left row) h))

-- where both pull alike, the operand goes to none
pub mixes : (around : Around) (left : ExprTree) (row : Infix) (tokens : List Tok) → operator_at tokens ≡ Some row → held around ≡ pull Left row
    → outcome (have (whole left) around) tokens ≡ stuck tokens due.Other
mixes around left row [] is_row h = absurd (cc)
mixes around left row (token ∷ rest) is_row h =
    stays (have (whole left) around) token rest (token ∷ rest) refl
    (next_after around left token row is_row (omega arith) ∙ ap (λ b. on b (want (right_of left row around))) (le-ltb (held around) (pull Left row) (omega arith)))

-- both operands are one where no operator comes that pulls the right one as strongly
pub joins_right : (right left : ExprTree) (row : Infix) (around : Around) (tokens : List Tok) → row.level ≤ 8 → StopsBefore (pull Right row) tokens
    → outcome (have (whole right) (right_of left row around)) tokens ≡ outcome (have (whole (infix_tree row left right)) around) tokens
joins_right right left row around tokens small h =
    same_have (whole right) (whole (infix_tree row left right)) (right_of left row around) around tokens h.operand (closes (operator_at tokens) h.below) refl where
      closes : (o : Option Infix) → IsBelow (pull Right row) o
          → close (least_of o) right (right_of left row around) ≡ close (least_of o) (infix_tree row left right) around
      closes (Some after) b =
          ap (λ c. cond c (close (pull Left after) (infix_tree row left right) around) (grown right (right_of left row around))) (lt-ltb (pull Left after) (pull Right row) b)
      closes None b =
          let p = pull-small Right row small in
          ap (λ c. cond c (close 0 (infix_tree row left right) around) (grown right (right_of left row around))) (lt-ltb 0 (pull Right row) p.0)

-- The end of an expression.

no_operator : (o : Option Infix) → IsBelow 0 o → o ≡ None
no_operator None h = refl
no_operator (Some row) h = absurd (omega arith)

abbrev nowhere : Option State
nowhere = None

neither : (b : Bool) → cond b nowhere nowhere ≡ nowhere
neither true = refl
neither false = refl

-- what begins anew ends as it is read for
pub whole_next : (expr : ExprTree) (at : Around) (token : Tok) (rest tokens : List Tok) → held at ≡ 0 → tokens ≡ token ∷ rest → StopsBefore 0 tokens
    → next (have (whole expr) at) token ≡ next_behind next_whole expr at token
whole_next expr at token rest tokens z e s =
    let p = ends_here token rest tokens e s.operand in
    at_operator (whole expr) at token p.0 p.1
    ∙ ap (next_operator next_whole (whole expr) at token) (sym (ap operator_at e) ∙ no_operator (operator_at tokens) s.below)
    ∙ ap (next_ended next_whole (whole expr) at token) (neither (is kind.RightParen token))
    ∙ ap (λ (g : Grown). next_behind next_whole g.expr g.around token) (close_held at 0 expr (omega arith) (omega arith))

-- its closing bracket is due
pub closes : (expr : ExprTree) (at : Around) (to : ExprTree → State) (tokens : List Tok) → ClosesExpr at to → StopsBefore 0 tokens
    → Expects kind.RightParen tokens (have (whole expr) at) (to expr)
closes expr at to tokens c s = record {
  at_end = refl;
  no_other = refl;
  step = λ token rest e. whole_next expr at token rest tokens c.begins.apart e s ∙ c.behind expr token;
}

-- behind the lower bound of a range its word is due
pub until_due : (low : ExprTree) (by : Quantifier) (place : Place) (around : Around) (tokens : List Tok) → StopsBefore 0 tokens
    → Expects kind.Until tokens (have (whole low) (low_of by place around)) (want (high_of by place low around))
until_due low by place around tokens s = record {
  at_end = refl;
  no_other = refl;
  step = λ token rest e. whole_next low (low_of by place around) token rest tokens refl e s;
}

-- behind the first argument it may turn out to be an index
pub index_arrow : (first head : ExprTree) (around : Around) (tokens : List Tok) → StopsBefore 0 tokens → begins kind.TildeArrow tokens ≡ true
    → outcome (have (whole first) (argument_of head [] around)) tokens ≡ outcome (want (element_at head first around)) (behind tokens)
index_arrow first head around [] s h = absurd (cc)
index_arrow first head around (token ∷ rest) s h =
    let at = argument_of head [] around in
    let arrow : Option State = on (is kind.TildeArrow token) (want (element_at head first around)) in
    let over : State = have (whole (application head (first ∷ []))) around in
    goes (have (whole first) at) (want (element_at head first around)) token rest (token ∷ rest) refl
    (whole_next first at token rest (token ∷ rest) refl refl s
    ∙ ap (λ b. cond b (Some over) (cond (is kind.Comma token) (Some (argument_or_end head (first ∷ []) around)) arrow)) (one_kind kind.TildeArrow kind.RightParen token refl h)
    ∙ ap (λ b. cond b (Some (argument_or_end head (first ∷ []) around)) arrow) (one_kind kind.TildeArrow kind.Comma token refl h)
    ∙ ap (λ b. on b (want (element_at head first around))) h)

-- or it is an argument, whose end is due
pub argument_ends : (first head : ExprTree) (around : Around) (tokens : List Tok) → StopsBefore 0 tokens → begins kind.TildeArrow tokens ≡ false → begins kind.Comma tokens ≡ false
    → Expects kind.RightParen tokens (have (whole first) (argument_of head [] around)) (have (whole (application head (first ∷ []))) around)
argument_ends first head around tokens s t c = record {
  at_end = refl;
  no_other = refl;
  step = λ token rest e.
      let over : State = have (whole (application head (first ∷ []))) around in
      let arrow : Option State = on (is kind.TildeArrow token) (want (element_at head first around)) in
      whole_next first (argument_of head [] around) token rest tokens refl e s
      ∙ ap (λ b. cond (is kind.RightParen token) (Some over) (cond b (Some (argument_or_end head (first ∷ []) around)) arrow)) (sym (ap (begins kind.Comma) e) ∙ c)
      ∙ ap (λ b. cond (is kind.RightParen token) (Some over) (on b (want (element_at head first around)))) (sym (ap (begins kind.TildeArrow) e) ∙ t);
}

pub argument_goes_on : (first head : ExprTree) (around : Around) (tokens : List Tok) → StopsBefore 0 tokens → begins kind.Comma tokens ≡ true
    → outcome (have (whole first) (argument_of head [] around)) tokens ≡ outcome (argument_or_end head (first ∷ []) around) (behind tokens)
argument_goes_on first head around [] s h = absurd (cc)
argument_goes_on first head around (token ∷ rest) s h =
    let at = argument_of head [] around in
    let arrow : Option State = on (is kind.TildeArrow token) (want (element_at head first around)) in
    let over : State = have (whole (application head (first ∷ []))) around in
    goes (have (whole first) at) (argument_or_end head (first ∷ []) around) token rest (token ∷ rest) refl
    (whole_next first at token rest (token ∷ rest) refl refl s
    ∙ ap (λ b. cond b (Some over) (cond (is kind.Comma token) (Some (argument_or_end head (first ∷ []) around)) arrow)) (one_kind kind.Comma kind.RightParen token refl h)
    ∙ ap (λ b. cond b (Some (argument_or_end head (first ∷ []) around)) arrow) h)

-- Brackets and dots behind an operand.

pub bracket_opens : (operand : Operand) (around : Around) (tokens : List Tok) → begins kind.LeftParen tokens ≡ true
    → outcome (have operand around) tokens ≡ outcome (argument_or_end (operand_tree operand) [] around) (behind tokens)
bracket_opens operand around [] h = absurd (cc)
bracket_opens operand around (token ∷ rest) h =
    goes (have operand around) (argument_or_end (operand_tree operand) [] around) token rest (token ∷ rest) refl (at_paren operand around token h)

is_other : (a b : Bool) → a ≡ false → (not a && not b) ≡ false → b ≡ true
is_other true b h k = absurd (cc)
is_other false true h k = refl
is_other false false h k = absurd (cc)

pub dot_opens : (operand : Operand) (around : Around) (tokens : List Tok) → ends_operand tokens ≡ false → begins kind.LeftParen tokens ≡ false
    → outcome (have operand around) tokens ≡ outcome (field_written (operand_tree operand) around) (behind tokens)
dot_opens operand around [] m h = absurd (cc)
dot_opens operand around (token ∷ rest) m h =
    goes (have operand around) (field_written (operand_tree operand) around) token rest (token ∷ rest) refl
    (at_dot operand around token h (is_other (is kind.LeftParen token) (is kind.Dot token) h m))
