-- What a token begins where an operand is due.
use Rattle.std.specs.Prelude.{if◌then◌else◌, pos, Option, Some, None}
use Rattle.std.specs.Option.{option_map}
use Rattle.slang_lexer.specs.declared.token.TokenKind.TheVariants as kind
use Rattle.slang_lexer.specs.Next.{value_of as number_value}
use Rattle.slang_values.specs.declared.operators.Quantifier.TheVariants as quantifier
use Rattle.slang_tree.specs.declared.place.Place.{Place}
use Rattle.slang_tree.specs.ExprTree as e
use Rattle.slang_tree.specs.ExprTree.{ExprTree}
use Rattle.slang_tokens.specs.Tok.{Tok}
use Rattle.slang_grammar.specs.declared.operator.Prefix.TheVariants as prefix
use Rattle.slang_machine.specs.Open.{Around, inside, under}
use Rattle.slang_machine.specs.States.{State, whole, entry_word, old_word, want, have, result_or_type, value_left, sequence_or_type, range_left}
use Rattle.slang_machine.specs.Expressions.{is, is_name, is_number_token}
use Rattle.expression_parser.specs.declared.begin.Beginning.{Beginning}
use Rattle.expression_parser.specs.declared.begin.Beginning.TheVariants as begin
use Rattle.expression_parser.specs.declared.begin.Head.{Head}
use Rattle.expression_parser.specs.declared.begin.Head.TheVariants as head

-- what its own word or a bracket begins
abbrev pub word_of : Tok → Option Head
word_of token =
    if is kind.All token then Some (head.Quantifier quantifier.All)
    else (if is kind.ForAllSign token then Some (head.Quantifier quantifier.All)
    else (if is kind.Exists token then Some (head.Quantifier quantifier.Exists)
    else (if is kind.ExistsSign token then Some (head.Quantifier quantifier.Exists)
    else (if is kind.In token then Some head.Entry
    else (if is kind.Old token then Some head.Old
    else (if is kind.Res token then Some head.Result
    else (if is kind.TypeIsz token then Some head.Sequence
    else (if is kind.LeftParen token then Some head.Bracket else None))))))))

abbrev pub begin_of : Tok → Option Beginning
begin_of token =
    if is kind.True token then Some (begin.Head head.True)
    else (if is kind.False token then Some (begin.Head head.False)
    else (if is_name token then Some (begin.Head head.Name)
    else (if is_number_token token then Some (begin.Head (head.Number (pos (number_value token.text))))
    else (if is kind.Bang token then Some (begin.Prefix prefix.Not)
    else (if is kind.Minus token then Some (begin.Prefix prefix.Minus)
    else option_map (λ h. begin.Head h) (word_of token))))))

-- the state behind the token
abbrev pub behind_head : Around → Tok → Head → State
behind_head around token (head.Number value) = have (whole (e.number token.place value)) around
behind_head around token head.True = have (whole (e.truth token.place)) around
behind_head around token head.False = have (whole (e.falsity token.place)) around
behind_head around token head.Name = have (whole (e.name token.text token.place)) around
behind_head around token (head.Quantifier by) = range_left by token.place around
behind_head around token head.Entry = value_left entry_word token.place around
behind_head around token head.Old = value_left old_word token.place around
behind_head around token head.Result = result_or_type token.place around
behind_head around token head.Sequence = sequence_or_type token.place around
behind_head around token head.Bracket = want (inside around)

abbrev pub behind_begin : Around → Tok → Beginning → State
behind_begin around token (begin.Prefix by) = want (under by token.place around)
behind_begin around token (begin.Head h) = behind_head around token h
