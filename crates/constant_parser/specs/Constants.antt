-- What a token begins where a constant is due, and lists of constants.
use Rattle.std.specs.Prelude.{◌≡◌, if◌then◌else◌, pos, List, [], ◌∷◌, ◌++◌, Option, Some}
use Rattle.slang_lexer.specs.declared.token.TokenKind.TheVariants as kind
use Rattle.slang_lexer.specs.Next.{value_of as number_value}
use Rattle.slang_tree.specs.DeclTree as d
use Rattle.slang_tree.specs.DeclTree.{ConstTree}
use Rattle.slang_tokens.specs.Tok.{Tok}
use Rattle.slang_machine.specs.Open.{Consts}
use Rattle.slang_machine.specs.States.{State, minus_digits, consts_type, fields_left, have_const}
use Rattle.slang_machine.specs.Expressions.{is, is_name, name_of, is_number_token, on}
use Rattle.slang_machine.specs.Declarations.{end_const, with_const, close_consts}
use Rattle.constant_parser.specs.declared.constants.ConstHead.{ConstHead}
use Rattle.constant_parser.specs.declared.constants.ConstHead.TheVariants as head

abbrev pub const_head_of : Tok → Option ConstHead
const_head_of token =
    if is_number_token token then Some (head.Number (pos (number_value token.text)))
    else (if is kind.Minus token then Some head.Minus
    else (if is kind.True token then Some head.True
    else (if is kind.False token then Some head.False
    else (if is kind.TypeIsz token then Some head.Sequence
    else on (is_name token) head.Name))))

-- the state behind the token
abbrev pub behind_const_head : Consts → Tok → ConstHead → State
behind_const_head around token (head.Number value) = end_const (d.const_number token.place value) around
behind_const_head around token head.Minus = minus_digits token.place around
behind_const_head around token head.True = end_const (d.const_truth token.place) around
behind_const_head around token head.False = end_const (d.const_falsity token.place) around
behind_const_head around token head.Sequence = consts_type token.place around
behind_const_head around token head.Name = fields_left (name_of token) around

-- constants are read one by one into this list, and then this comes behind its bracket
pub record ReadsConsts (at : List ConstTree → Consts) (over : List ConstTree → State) : Type 0 where
  pub added : (consts : List ConstTree) (const : ConstTree) → with_const const (at consts) ≡ at (consts ++ const ∷ [])
  pub inside : (consts : List ConstTree) (const : ConstTree) → end_const const (at consts) ≡ have_const const (at consts)
  pub closed : (consts : List ConstTree) → close_consts (at consts) ≡ Some (over consts)
