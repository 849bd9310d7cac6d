-- The bytes that are printed of steps.
use Rattle.std.specs.Prelude.{Bool, ℕ, suc, List, [], ◌∷◌, ◌++◌}
use Rattle.slang_lexer.specs.declared.token.TokenKind.TheVariants as kind
use Rattle.slang_tree.specs.declared.expression.Name.{Name}
use Rattle.slang_tree.specs.declared.expression.Expr.{Expr}
use Rattle.slang_tree.specs.declared.statement.Label.{Label}
use Rattle.slang_tree.specs.declared.statement.Step.{Step}
use Rattle.slang_tree.specs.ExprTree.{expr_tree}
use Rattle.slang_tree.specs.StmtTree.{step_tree}
use Rattle.slang_grammar.specs.Parts.{label_token}
use Rattle.slang_grammar.specs.Proofs.{rule_token, AssumeText, line}
use Rattle.print_expressions.specs.Bare.{nowhere}
use Rattle.print_expressions.specs.Accounts.{expr_account}
use Rattle.print_statements.specs.Accounts.{label_account, rule_account, cites_account, assume_account, step_account}
use Rattle.print_layout.specs.Pieces.{Gap, none, blank, Piece, piece, mark}
use Rattle.print_layout.specs.Pieces as pieces
use Rattle.print_layout.specs.Expressions.{expr_pieces}
use Rattle.print_layout.specs.Statements.{step_pieces}

abbrev pub label_pieces : Gap → Label → List Piece
label_pieces gap label = piece gap (label_token (label_account label)) ∷ []

-- each behind a comma
abbrev pub labels_behind : List Label → List Piece
labels_behind [] = []
labels_behind (label ∷ labels) = (mark none kind.Comma nowhere ∷ label_pieces blank label) ++ labels_behind labels

abbrev pub rule_pieces : Name → List Piece
rule_pieces rule = piece blank (rule_token (rule_account rule)) ∷ []

-- what is assumed, on a line at that depth
abbrev pub assumption_pieces : ℕ → AssumeText → List Piece
assumption_pieces inner a =
    mark blank kind.SubProof a.word ∷ mark none kind.LeftParen a.left ∷ piece (pieces.line inner) (label_token a.label) ∷ mark blank kind.Assume a.assume
    ∷ mark none kind.LeftParen a.claim_left ∷ expr_pieces none a.claim ++ mark none kind.RightParen a.claim_right ∷ []

module _ (light : Bool) where
  abbrev pub line_pieces : ℕ → Label → Expr → Name → List Label → List Piece
  line_pieces depth label claim rule cites =
      step_pieces depth (line (label_account label) nowhere (expr_account light (expr_tree claim)) nowhere nowhere (rule_account rule) (cites_account cites))

  -- each behind a comma
  abbrev pub steps_behind : ℕ → List Step → List Piece
  steps_behind depth [] = []
  steps_behind depth (step ∷ steps) = (mark none kind.Comma nowhere ∷ step_pieces depth (step_account light (step_tree step))) ++ steps_behind depth steps

  -- an assumption with the steps behind it
  abbrev pub block_pieces : ℕ → Label → Expr → List Step → List Piece
  block_pieces depth assumed claim steps =
      (assumption_pieces (suc depth) (assume_account light assumed (expr_tree claim)) ++ steps_behind (suc depth) steps)
      ++ mark (pieces.line depth) kind.RightParen nowhere ∷ []
