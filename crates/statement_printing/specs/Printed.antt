-- The bytes that are printed of statements.
use Rattle.std.specs.Prelude.{ℕ, suc, Bool, true, false, List, [], ◌∷◌, ◌++◌, map, Option, Some, None}
use Rattle.std.specs.Option.{option_map}
use Rattle.slang_lexer.specs.declared.token.TokenKind.TheVariants as kind
use Rattle.slang_tree.specs.declared.expression.Name.{Name}
use Rattle.slang_tree.specs.declared.expression.Expr.{Expr}
use Rattle.slang_tree.specs.declared.expression.TypeName.{TypeName}
use Rattle.slang_tree.specs.declared.statement.Step.{Step}
use Rattle.slang_tree.specs.declared.statement.Stmt.{Stmt}
use Rattle.slang_tree.specs.TypeTree.{type_tree}
use Rattle.slang_tree.specs.ExprTree.{expr_tree}
use Rattle.slang_tree.specs.StmtTree as t
use Rattle.slang_tree.specs.StmtTree.{StmtTree, step_tree, steps_of, stmt_tree, stmts_of, else_of}
use Rattle.slang_grammar.specs.Parts.{name_token}
use Rattle.slang_grammar.specs.Statements.{value_word}
use Rattle.slang_grammar.specs.Statements as s
use Rattle.print_expressions.specs.Bare.{nowhere, bare_name}
use Rattle.print_expressions.specs.Accounts.{expr_account}
use Rattle.print_statements.specs.Accounts.{typed_account, invariant_account, steps_account, as_else, as_body, stmt_account, stmts_account, else_account}
use Rattle.print_layout.specs.Pieces.{Gap, none, blank, Piece, piece, mark}
use Rattle.print_layout.specs.Pieces as pieces
use Rattle.print_layout.specs.Expressions.{name_pieces, optional_typed, expr_pieces}
use Rattle.print_layout.specs.Statements.{steps_pieces, invariant_pieces, stmt_pieces, else_pieces, block_pieces, loop_pieces}

-- names, each behind a comma, and parted by commas
abbrev pub names_behind : List Name → List Piece
names_behind [] = []
names_behind (name ∷ names) = (mark none kind.Comma nowhere ∷ name_pieces blank (bare_name name)) ++ names_behind names

abbrev pub names_listed : List Name → List Piece
names_listed [] = []
names_listed (name ∷ names) = name_pieces none (bare_name name) ++ names_behind names

-- what is declared, up to its value
abbrev pub declared_pieces : Gap → Bool → Name → Option TypeName → List Piece
declared_pieces gap fixed name ty =
    (mark gap (value_word fixed) nowhere ∷ piece blank (name_token (bare_name name)) ∷ optional_typed (option_map typed_account (option_map type_tree ty)))
    ++ mark blank kind.Equals nowhere ∷ []

module _ (light : Bool) where
  -- in round brackets
  abbrev pub enclosed_pieces : Gap → Expr → List Piece
  enclosed_pieces gap expr = (mark gap kind.LeftParen nowhere ∷ expr_pieces none (expr_account light (expr_tree expr))) ++ mark none kind.RightParen nowhere ∷ []

  abbrev pub deduction_pieces : ℕ → Gap → List Step → List Piece
  deduction_pieces depth gap steps =
      (mark gap kind.Deduce nowhere ∷ mark none kind.LeftParen nowhere ∷ steps_pieces (suc depth) (steps_account light (steps_of (map step_tree steps))))
      ++ mark (pieces.line depth) kind.RightParen nowhere ∷ []

abbrev pub is_branch : StmtTree → Bool
is_branch (t.branch place test then otherwise) = true
is_branch _ = false

abbrev pub only_branch : List Stmt → Bool
only_branch (stmt ∷ []) = is_branch (stmt_tree stmt)
only_branch _ = false

module _ (light : Bool) where
  -- each at the beginning of a line: a newline that is a token and one that is none are one byte
  abbrev pub stmt_lines : ℕ → List Stmt → List Piece
  stmt_lines depth [] = []
  stmt_lines depth (stmt ∷ stmts) = stmt_pieces depth (pieces.line depth) (stmt_account light (stmt_tree stmt)) ++ stmt_lines depth stmts

  abbrev pub braced_pieces : ℕ → List Stmt → List Piece
  braced_pieces depth stmts = block_pieces depth (s.block nowhere (stmts_account light (stmts_of (map stmt_tree stmts))) nowhere)

  abbrev pub otherwise_pieces : ℕ → Option (List Stmt) → List Piece
  otherwise_pieces depth stmts = else_pieces depth (else_account light (else_of (option_map (map stmt_tree) stmts)))

  -- `else` and what stands behind it
  abbrev pub else_of_pieces : ℕ → List Stmt → List Piece
  else_of_pieces depth stmts = else_pieces depth (as_else (stmts_account light (stmts_of (map stmt_tree stmts))))

  abbrev pub loop_of : ℕ → List Name → List Expr → List Stmt → List Piece
  loop_of depth modifies claims body =
      ((mark blank kind.LeftBrace nowhere ∷ invariant_pieces (suc depth) (invariant_account light modifies (map expr_tree claims)))
      ++ loop_pieces (suc depth) (as_body (stmts_account light (stmts_of (map stmt_tree body)))))
      ++ mark (pieces.line depth) kind.RightBrace nowhere ∷ []
