-- Statements on lines of their own, by their bytes.
use Rattle.std.proofs.Common.{Bool, ◌≡◌, ℕ, suc, ◌+◌, ◌<◌, List, [], ◌∷◌, ◌++◌, map, take, length, get_or, append_assoc, append-nil, refl, sym, ap, ◌∙◌, subst}
use Rattle.std.proofs.lemmas.List.{take_more}
use Rattle.slang_lexer.specs.declared.token.TokenKind.TheVariants as kind
use Rattle.slang_lexer.specs.Spelling.{signs, words}
use Rattle.slang_tree.specs.declared.statement.Stmt.{Stmt}
use Rattle.slang_tree.specs.StmtTree.{stmt_tree, stmts_of}
use Rattle.slang_grammar.specs.Statements.{StmtText, value, assignment, call, branch, loop, assertion, deduction, if_then}
use Rattle.print_expressions.specs.Bare.{nowhere}
use Rattle.print_statements.specs.Accounts.{as_body, stmt_account, stmts_account}
use Rattle.print_layout.specs.Pieces.{none, indent, Piece, mark, bytes_of}
use Rattle.print_layout.specs.Pieces as pieces
use Rattle.print_layout.specs.Statements.{stmt_pieces, stmts_pieces, loop_pieces}
use Rattle.expression_printing.specs.Printed.{Adds}
use Rattle.expression_printing.proofs.Adds.{adds_then, bytes-append}
use Rattle.expression_printing.proofs.Forms.{adds_same}
use Rattle.statement_printing.specs.Printed.{stmt_lines}

-- a newline that is a token and one that is none are one byte
pub newline_is : (depth : ℕ) (stmt : StmtText) → bytes_of (mark none kind.Newline nowhere ∷ stmt_pieces depth (indent depth) stmt) ≡ bytes_of (stmt_pieces depth (pieces.line depth) stmt)
unfolding signs words
newline_is depth (value fixed word n ty equals e) = refl
newline_is depth (assignment n equals e) = refl
newline_is depth (call n left arguments right) = refl
newline_is depth (branch (if_then test then otherwise)) = refl
newline_is depth (loop test begin invariant text end) = refl
newline_is depth (assertion word left claim right) = refl
newline_is depth (deduction word left steps right) = refl

module _ (light : Bool) where
  lines_behind : (depth : ℕ) (stmt : Stmt) (stmts : List Stmt) →
      bytes_of (mark none kind.Newline nowhere ∷ stmts_pieces depth (indent depth) (stmts_account light (stmts_of (map stmt_tree (stmt ∷ stmts)))))
      ≡ bytes_of (stmt_lines light depth (stmt ∷ stmts))
  lines_behind depth stmt [] =
      newline_is depth (stmt_account light (stmt_tree stmt)) ∙ ap bytes_of (sym (append-nil (stmt_pieces depth (pieces.line depth) (stmt_account light (stmt_tree stmt)))))
  lines_behind depth stmt (other ∷ stmts) =
      let own = stmt_account light (stmt_tree stmt) in
      let more = mark none kind.Newline nowhere ∷ stmts_pieces depth (indent depth) (stmts_account light (stmts_of (map stmt_tree (other ∷ stmts)))) in
      bytes-append (mark none kind.Newline nowhere ∷ stmt_pieces depth (indent depth) own) more
      ∙ ap (λ l. l ++ bytes_of more) (newline_is depth own)
      ∙ ap (λ l. bytes_of (stmt_pieces depth (pieces.line depth) own) ++ l) (lines_behind depth other stmts)
      ∙ sym (bytes-append (stmt_pieces depth (pieces.line depth) own) (stmt_lines light depth (other ∷ stmts)))

  pub lines_are : (depth : ℕ) (stmts : List Stmt) →
      bytes_of (stmts_pieces depth (pieces.line depth) (stmts_account light (stmts_of (map stmt_tree stmts)))) ≡ bytes_of (stmt_lines light depth stmts)
  lines_are depth [] = refl
  lines_are depth (stmt ∷ []) = ap bytes_of (sym (append-nil (stmt_pieces depth (pieces.line depth) (stmt_account light (stmt_tree stmt)))))
  lines_are depth (stmt ∷ other ∷ stmts) =
      let own = stmt_account light (stmt_tree stmt) in
      let more = mark none kind.Newline nowhere ∷ stmts_pieces depth (indent depth) (stmts_account light (stmts_of (map stmt_tree (other ∷ stmts)))) in
      bytes-append (stmt_pieces depth (pieces.line depth) own) more
      ∙ ap (λ l. bytes_of (stmt_pieces depth (pieces.line depth) own) ++ l) (lines_behind depth other stmts)
      ∙ sym (bytes-append (stmt_pieces depth (pieces.line depth) own) (stmt_lines light depth (other ∷ stmts)))

  pub body_lines : (depth : ℕ) (stmts : List Stmt) →
      bytes_of (loop_pieces depth (as_body (stmts_account light (stmts_of (map stmt_tree stmts))))) ≡ bytes_of (stmt_lines light depth stmts)
  body_lines depth [] = refl
  body_lines depth (stmt ∷ []) = lines_behind depth stmt []
  body_lines depth (stmt ∷ other ∷ stmts) = lines_behind depth stmt (other ∷ stmts)

-- the same bytes
pub adds_bytes : {a b : List ℕ} (xs ys : List Piece) → bytes_of xs ≡ bytes_of ys → Adds a b xs → Adds a b ys
adds_bytes {a} xs ys same h = record { is = h.is ∙ ap (λ l. a ++ l) same }

module _ (light : Bool) where
  lines-append : (depth : ℕ) (xs ys : List Stmt) → stmt_lines light depth (xs ++ ys) ≡ stmt_lines light depth xs ++ stmt_lines light depth ys
  lines-append depth [] ys = refl
  lines-append depth (x ∷ xs) ys =
      ap (λ l. stmt_pieces depth (pieces.line depth) (stmt_account light (stmt_tree x)) ++ l) (lines-append depth xs ys)
      ∙ sym (append_assoc (stmt_pieces depth (pieces.line depth) (stmt_account light (stmt_tree x))) (stmt_lines light depth xs) (stmt_lines light depth ys))

  -- one statement more
  pub one_line : {a b c : List ℕ} (depth : ℕ) (stmts : List Stmt) (at : ℕ) (stmt : Stmt) → at < length stmts → stmt ≡ get_or stmts at stmt →
      Adds a b (stmt_lines light depth (take at stmts)) → Adds b c (stmt_pieces depth (pieces.line depth) (stmt_account light (stmt_tree stmt))) →
      Adds a c (stmt_lines light depth (take (at + 1) stmts))
  one_line {a} {b} {c} depth stmts at stmt within is before added =
      adds_same _ _
      (ap (λ l. stmt_lines light depth (take at stmts) ++ l) (sym (append-nil (stmt_pieces depth (pieces.line depth) (stmt_account light (stmt_tree stmt)))))
      ∙ sym (lines-append depth (take at stmts) (stmt ∷ []))
      ∙ ap (stmt_lines light depth) (ap (λ x. take at stmts ++ x ∷ []) is ∙ sym (take_more stmts at stmt within)))
      (adds_then before added)
