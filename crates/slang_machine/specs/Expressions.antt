-- What comes behind a token of a type or of an expression. An expression that stands for itself ends as its purpose says, which
-- is given.
use Rattle.std.specs.Prelude.{Bool, ◌&&◌, if◌then◌else◌, nat_lt, pos, List, [], ◌∷◌, ◌++◌, Option, Some, None, codes}
use Rattle.std.specs.Str.{bytes_eq}
use Rattle.slang_lexer.specs.declared.token.TokenKind.{TokenKind}
use Rattle.slang_lexer.specs.declared.token.TokenKind.TheVariants as kind
use Rattle.slang_lexer.specs.Next.{value_of as number_value}
use Rattle.slang_values.specs.declared.operators.Quantifier.{Quantifier}
use Rattle.slang_values.specs.declared.operators.Quantifier.TheVariants as quantifier
use Rattle.slang_tree.specs.declared.place.Place.{Place}
use Rattle.slang_tree.specs.declared.expression.Name.{Name}
use Rattle.slang_tree.specs.TypeTree.{TypeTree, z_name, b_name, unit_name, record_name}
use Rattle.slang_tree.specs.ExprTree as e
use Rattle.slang_tree.specs.ExprTree.{ExprTree, exprs_of, place_of}
use Rattle.slang_tokens.specs.Tok.{Tok, same_kind}
use Rattle.slang_grammar.specs.declared.operator.Side.TheVariants.{Left}
use Rattle.slang_grammar.specs.declared.operator.Prefix.{Prefix}
use Rattle.slang_grammar.specs.declared.operator.Prefix.TheVariants as prefix
use Rattle.slang_grammar.specs.declared.operator.Infix.{Infix}
use Rattle.slang_grammar.specs.Operators.{infix_of}
use Rattle.slang_grammar.specs.Parts.{is_plain, is_numeral}
use Rattle.slang_machine.specs.Open.{Purpose, Around, alone, inside, under, right_of, argument_of, element_at, element_of, low_of, high_of, body_over, body_over_indices, Grown, close, held, pull}
use Rattle.slang_machine.specs.States.{Operand, whole, dotted, Range, between, indices_of, ValueWord, entry_word, old_word, State, want, have, result_or_type, value_left, sequence_or_type, element_or_end, argument_or_end, field_written, range_left, bound_left}

abbrev pub is : TokenKind → Tok → Bool
is k token = same_kind token.kind k

abbrev pub is_name : Tok → Bool
is_name token = is kind.Name token && is_plain token.text

abbrev pub name_of : Tok → Name
name_of token = record { text = token.text; place = token.place }

abbrev pub is_number_token : Tok → Bool
is_number_token token = is kind.Number token && is_numeral token.text

abbrev pub on : {A : Type 0} → Bool → A → Option A
on test value = if test then Some value else None

-- the operand that one token is
abbrev pub leaf_of : Tok → Option ExprTree
leaf_of token =
    if is kind.True token then Some (e.truth token.place)
    else (if is kind.False token then Some (e.falsity token.place)
    else (if is_name token then Some (e.name token.text token.place)
    else on (is_number_token token) (e.number token.place (pos (number_value token.text)))))

abbrev pub prefix_of : Tok → Option Prefix
prefix_of token = if is kind.Bang token then Some prefix.Not else on (is kind.Minus token) prefix.Minus

abbrev pub quantifier_of : Tok → Option Quantifier
quantifier_of token =
    if is kind.All token then Some quantifier.All
    else (if is kind.ForAllSign token then Some quantifier.All
    else (if is kind.Exists token then Some quantifier.Exists
    else on (is kind.ExistsSign token) quantifier.Exists))

abbrev pub value_word_of : Tok → Option ValueWord
value_word_of token = if is kind.In token then Some entry_word else on (is kind.Old token) old_word

-- an operand that begins with its own word
abbrev pub next_word : Around → Tok → Option Quantifier → Option ValueWord → Option State
next_word around token (Some by) value = Some (range_left by token.place around)
next_word around token None (Some word) = Some (value_left word token.place around)
next_word around token None None =
    if is kind.Res token then Some (result_or_type token.place around)
    else (if is kind.TypeIsz token then Some (sequence_or_type token.place around)
    else on (is kind.LeftParen token) (want (inside around)))

abbrev pub next_begin : Around → Tok → Option ExprTree → Option Prefix → Option State
next_begin around token (Some leaf) by = Some (have (whole leaf) around)
next_begin around token None (Some by) = Some (want (under by token.place around))
next_begin around token None None = next_word around token (quantifier_of token) (value_word_of token)

-- where an operand is due
abbrev pub next_want : Around → Tok → Option State
next_want around token = next_begin around token (leaf_of token) (prefix_of token)

abbrev pub operand_tree : Operand → ExprTree
operand_tree (whole expr) = expr
operand_tree (dotted head written) = e.field (place_of head) head written

abbrev pub application : ExprTree → List ExprTree → ExprTree
application head arguments = e.application (place_of head) head (exprs_of arguments)

-- behind a first argument, which may be an index
abbrev pub next_index : ExprTree → List ExprTree → ExprTree → Around → Tok → Option State
next_index head [] expr around token = on (is kind.TildeArrow token) (want (element_at head expr around))
next_index head (argument ∷ arguments) expr around token = None

-- behind an expression that no operator goes on from
abbrev pub next_behind : (ExprTree → Purpose → Tok → Option State) → ExprTree → Around → Tok → Option State
next_behind ends expr (alone at) token = ends expr at token
next_behind ends expr (inside around) token = on (is kind.RightParen token) (have (whole expr) around)
next_behind ends expr (under by place around) token = None
next_behind ends expr (right_of left row around) token = None
next_behind ends expr (argument_of head arguments around) token =
    if is kind.RightParen token then Some (have (whole (application head (arguments ++ expr ∷ []))) around)
    else (if is kind.Comma token then Some (argument_or_end head (arguments ++ expr ∷ []) around) else next_index head arguments expr around token)
next_behind ends expr (element_at head index around) token = on (is kind.RightParen token) (have (whole (e.update (place_of head) head index expr)) around)
next_behind ends expr (element_of place ty elements around) token =
    if is kind.RightParen token then Some (have (whole (e.sequence place ty (exprs_of (elements ++ expr ∷ [])))) around)
    else on (is kind.Comma token) (element_or_end place ty (elements ++ expr ∷ []) around)
next_behind ends expr (low_of by place around) token = on (is kind.Until token) (want (high_of by place expr around))
next_behind ends expr (high_of by place low around) token = on (is kind.RightParen token) (bound_left by place (between low expr) around)
next_behind ends expr (body_over by place low high variable around) token =
    on (is kind.RightParen token) (have (whole (e.quantified place by low high variable expr)) around)
next_behind ends expr (body_over_indices by place head variable around) token =
    on (is kind.RightParen token) (have (whole (e.quantified_indices place by head variable expr)) around)

-- an operator takes what has grown, if it pulls it more strongly than what is open
abbrev pub next_right : Grown → Infix → Option State
next_right g row = on (nat_lt (held g.around) (pull Left row)) (want (right_of g.expr row g.around))

-- the range of a quantifier, where it is that of the indices of an operand
abbrev pub range_of : Operand → Around → Option State
range_of (dotted head written) (low_of by place around) = on (bytes_eq written.text (codes "indices")) (bound_left by place (indices_of head) around)
range_of operand around = None

-- a token that is no operator
abbrev pub next_ended : (ExprTree → Purpose → Tok → Option State) → Operand → Around → Tok → Option State → Option State
next_ended ends operand around token (Some state) = Some state
next_ended ends operand around token None = (λ (g : Grown). next_behind ends g.expr g.around token) (close 0 (operand_tree operand) around)

abbrev pub next_operator : (ExprTree → Purpose → Tok → Option State) → Operand → Around → Tok → Option Infix → Option State
next_operator ends operand around token (Some row) = next_right (close (pull Left row) (operand_tree operand) around) row
next_operator ends operand around token None = next_ended ends operand around token (if is kind.RightParen token then range_of operand around else None)

-- behind an operand
abbrev pub next_have : (ExprTree → Purpose → Tok → Option State) → Operand → Around → Tok → Option State
next_have ends operand around token =
    if is kind.LeftParen token then Some (argument_or_end (operand_tree operand) [] around)
    else (if is kind.Dot token then Some (field_written (operand_tree operand) around) else next_operator ends operand around token (infix_of token.kind))

-- an operand may come, or the end of its list
abbrev pub end_or_want : State → Around → Tok → Option State
end_or_want end around token = if is kind.RightParen token then Some end else next_want around token

-- what a range and a variable begin
abbrev pub body_around : Quantifier → Place → Range → Name → Around → Around
body_around by place (between low high) variable around = body_over by place low high variable around
body_around by place (indices_of head) variable around = body_over_indices by place head variable around

abbrev pub value_tree : ValueWord → Place → Name → ExprTree
value_tree entry_word place written = e.entry_value place written
value_tree old_word place written = e.old_value place written

-- the type that one token is
abbrev pub type_of : Tok → Option TypeTree
type_of token =
    if is kind.TypeZ token then Some (z_name token.place)
    else (if is kind.TypeB token then Some (b_name token.place)
    else (if is kind.TypeUnit token then Some (unit_name token.place)
    else on (is_name token) (record_name (name_of token))))
