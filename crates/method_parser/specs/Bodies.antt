-- What stands in the body of a method, and in which order.
use Rattle.std.specs.Prelude.{◌≡◌, ℕ, ◌≤◌, false, if◌then◌else◌, List, Option, Some}
use Rattle.slang_lexer.specs.declared.token.TokenKind.TheVariants as kind
use Rattle.slang_tree.specs.declared.declaration.MethodDecl.{MethodDecl}
use Rattle.slang_tree.specs.DeclTree.{DeclTree, ReturnTree, method_decl_tree}
use Rattle.slang_tokens.specs.Tok.{Tok}
use Rattle.slang_machine.specs.Open.{Draft, requiring, ensuring}
use Rattle.slang_machine.specs.States.{State, contract_names, claims_due, names_due}
use Rattle.slang_machine.specs.Expressions.{is, on}
use Rattle.slang_machine.specs.Statements.{with_method}
use Rattle.token_cursor.specs.Lists.{begins}
use Rattle.method_parser.specs.declared.bodies.ClauseHead.{ClauseHead}
use Rattle.method_parser.specs.declared.bodies.ClauseHead.TheVariants as clause
use Rattle.method_parser.specs.declared.bodies.PartHead.{PartHead}
use Rattle.method_parser.specs.declared.bodies.PartHead.TheVariants as part

-- the declarations before a method, and the method
abbrev pub draft_of : List DeclTree → MethodDecl → Draft
draft_of done method = record { done = done; method = method_decl_tree method }

-- the clause that a word begins
abbrev pub clause_head_of : Tok → Option ClauseHead
clause_head_of token =
    if is kind.Requires token then Some clause.Requires
    else (if is kind.Modifies token then Some clause.Modifies
    else on (is kind.Ensures token) clause.Ensures)

abbrev pub clause_order : ClauseHead → ℕ
clause_order clause.Requires = 0
clause_order clause.Modifies = 1
clause_order clause.Ensures = 2

-- the state behind the word
abbrev pub behind_clause : Draft → ClauseHead → State
behind_clause draft clause.Requires = claims_due requiring draft
behind_clause draft clause.Modifies = names_due (contract_names draft)
behind_clause draft clause.Ensures = claims_due ensuring draft

-- the part of a body that comes next, where it does not end
abbrev pub part_head : List Tok → PartHead
part_head tokens = if begins kind.Contract tokens then part.Contract else (if begins kind.Return tokens then part.Return else part.Stmt)

abbrev pub part_order : PartHead → ℕ
part_order part.Contract = 0
part_order part.Stmt = 1
part_order part.Return = 2

-- a statement is due, of a body in which no part of a lower order than this follows
pub record IsStmtPart (least : ℕ) (tokens : List Tok) : Type 0 where
  pub order : least ≤ 1
  pub no_end : begins kind.RightBrace tokens ≡ false
  pub no_contract : begins kind.Contract tokens ≡ false
  pub no_return : begins kind.Return tokens ≡ false

-- a method with what it returns
abbrev pub returned_to : Draft → ReturnTree → Draft
returned_to draft returned = with_method draft (record draft.method { returned = Some returned })
