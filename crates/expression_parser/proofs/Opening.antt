-- Where a list opens in front of which a type may stand.
use Rattle.std.proofs.Common.{◌≡◌, false, List, Option, Some, None, sym, ap, ◌∙◌}
use Rattle.std.specs.Prelude.{IfNone}
use Rattle.std.specs.Option.{option_map}
use Rattle.slang_lexer.specs.declared.token.TokenKind.TheVariants as kind
use Rattle.slang_tree.specs.declared.expression.TypeName.{TypeName}
use Rattle.slang_tree.specs.TypeTree.{TypeTree, type_tree}
use Rattle.slang_tokens.specs.Tok.{Tok}
use Rattle.slang_machine.specs.Open.{AroundType}
use Rattle.slang_machine.specs.States.{State}
use Rattle.token_cursor.specs.Gives.{Expects}
use Rattle.token_cursor.specs.Lists.{begins}
use Rattle.token_cursor.specs.Types.{OpensList, optional_state}

-- behind the type of a list, or where it was left out, its bracket is due
pub list_due : (from : State) (inner : AroundType) (typed : TypeTree → State) (bare : State) (begun : TypeTree → State) (ty : Option TypeName) (tokens : List Tok)
    → OpensList from inner typed bare begun → IfNone ty (begins kind.LeftBracket tokens ≡ false)
    → Expects kind.LeftParen tokens (optional_state from typed (option_map type_tree ty)) (optional_state bare begun (option_map type_tree ty))
list_due from inner typed bare begun None tokens x absent = record {
  at_end = x.begins.at_end;
  no_other = x.begins.no_other;
  step = λ token rest e. x.without token (sym (ap (begins kind.LeftBracket) e) ∙ absent);
}
list_due from inner typed bare begun (Some ty) tokens x absent = record {
  at_end = x.typed_end (type_tree ty);
  no_other = x.typed_due (type_tree ty);
  step = λ token rest e. x.with_type (type_tree ty) token;
}
