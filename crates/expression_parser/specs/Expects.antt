-- What an expression is read for, as far as its end goes.
use Rattle.std.specs.Prelude.{◌≡◌, ◌≤◌, ℕ, Bool, true, false, if◌then◌else◌, List, [], ◌∷◌, ◌++◌, length, Some, None}
use Rattle.slang_lexer.specs.declared.token.TokenKind.TheVariants as kind
use Rattle.slang_tree.specs.declared.expression.Expr.{Expr}
use Rattle.slang_tree.specs.ExprTree.{ExprTree}
use Rattle.slang_tokens.specs.Tok.{Tok}
use Rattle.slang_machine.specs.Open.{Around, low_of, held}
use Rattle.slang_machine.specs.States.{State}
use Rattle.slang_machine.specs.Expressions.{is, on, next_behind, end_or_want}
use Rattle.slang_machine.specs.Statements.{next_whole}
use Rattle.slang_machine.specs.Machine.{next, finish}
use Rattle.token_cursor.specs.declared.stop.Due.TheVariants as due
use Rattle.token_cursor.specs.Outcome.{due_of}
use Rattle.token_cursor.specs.Lists.{begins}
use Rattle.expression_parser.specs.Below.{StopsBefore}

-- the range of a quantifier begins
abbrev pub begins_range : Around → Bool
begins_range (low_of by place around) = true
begins_range _ = false

-- an expression begins anew, and no range
pub record BeginsExpr (at : Around) : Type 0 where
  pub apart : held at ≡ 0
  pub no_range : begins_range at ≡ false

-- an expression begins anew, and behind it a closing bracket is due, which leads there
pub record ClosesExpr (at : Around) (to : ExprTree → State) : Type 0 where
  pub begins : BeginsExpr at
  pub behind : (expr : ExprTree) (token : Tok) → next_behind next_whole expr at token ≡ on (is kind.RightParen token) (to expr)

-- A list of expressions: what each member is read for behind others, the state where a member or the end may come, and that
-- behind the closing bracket.
pub record ExprList : Type 0 where
  pub member : List ExprTree → Around
  pub member_or_end : List ExprTree → State
  pub over : List ExprTree → State

-- an operand begins a member where it begins anything
pub record IsExprList (list : ExprList) (so_far : List ExprTree) : Type 0 where
  pub begins : BeginsExpr (list.member so_far)
  pub at_end : finish (list.member_or_end so_far) ≡ None
  pub operand : due_of (list.member_or_end so_far) ≡ due.Operand
  pub next_member : (token : Tok) → next (list.member_or_end so_far) token ≡ end_or_want (list.over so_far) (list.member so_far) token
  pub behind : (expr : ExprTree) (token : Tok) → next_behind next_whole expr (list.member so_far) token
      ≡ (if is kind.RightParen token then Some (list.over (so_far ++ expr ∷ [])) else on (is kind.Comma token) (list.member_or_end (so_far ++ expr ∷ [])))

-- so it goes in a list from that many members on
pub record ReadsExprs (list : ExprList) (count : ℕ) : Type 0 where
  pub each : (so_far : List ExprTree) → count ≤ length so_far → IsExprList list so_far

-- this is the first of some arguments, and the only one so far, and none of these tokens makes it an index
pub record IsFirstArgument (first : Expr) (so_far : List Expr) (tokens : List Tok) : Type 0 where
  pub alone : so_far ≡ first ∷ []
  pub ends : StopsBefore 0 tokens
  pub no_index : begins kind.TildeArrow tokens ≡ false
