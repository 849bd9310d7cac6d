-- The parts of a body on lines of their own, by their bytes.
use Rattle.std.proofs.Common.{Bool, ◌≡◌, ℕ, suc, ◌+◌, ◌<◌, Option, Some, None, List, [], ◌∷◌, ◌++◌, map, take, length, get_or, append_assoc, append-nil, refl, sym, ap, ◌∙◌}
use Rattle.std.proofs.lemmas.List.{take_more}
use Rattle.slang_lexer.specs.declared.token.TokenKind.TheVariants as kind
use Rattle.slang_lexer.specs.Spelling.{signs, words}
use Rattle.slang_tree.specs.declared.statement.Stmt.{Stmt}
use Rattle.slang_tree.specs.StmtTree.{stmt_tree}
use Rattle.slang_grammar.specs.Declarations.{PartText, contract_part, stmt_part, return_part}
use Rattle.print_expressions.specs.Bare.{nowhere}
use Rattle.print_statements.specs.Accounts.{listed_of, stmt_account}
use Rattle.print_declarations.specs.Accounts.{stmt_parts}
use Rattle.print_layout.specs.Pieces.{none, indent, line, Piece, mark, listed_pieces, gap_before, bytes_of}
use Rattle.print_layout.specs.Statements.{stmt_pieces}
use Rattle.print_layout.specs.Declarations.{part_pieces}
use Rattle.expression_printing.specs.Printed.{Adds}
use Rattle.expression_printing.proofs.Adds.{adds_then, bytes-append}
use Rattle.expression_printing.proofs.Forms.{adds_same}
use Rattle.statement_printing.proofs.Lines.{newline_is}
use Rattle.declaration_printing.specs.Printed.{part_lines}

-- a newline that is a token and one that is none are one byte
part_newline : (part : PartText) → bytes_of (mark none kind.Newline nowhere ∷ part_pieces (indent 1) part) ≡ bytes_of (part_pieces (line 1) part)
unfolding signs words
part_newline (contract_part contract) = refl
part_newline (stmt_part stmt) = newline_is 1 stmt
part_newline (return_part word e) = refl

abbrev listed_parts : Option PartText → List PartText → List Piece
listed_parts before parts =
    listed_pieces kind.Newline (λ b part. part_pieces (gap_before (line 1) (indent 1) b) part) before (listed_of parts).front (listed_of parts).last

parts_behind : (before : PartText) (part : PartText) (parts : List PartText) →
    bytes_of (mark none kind.Newline nowhere ∷ listed_parts (Some before) (part ∷ parts)) ≡ bytes_of (part_lines (part ∷ parts))
parts_behind before part [] = part_newline part ∙ ap bytes_of (sym (append-nil (part_pieces (line 1) part)))
parts_behind before part (other ∷ parts) =
    let more = mark none kind.Newline nowhere ∷ listed_parts (Some part) (other ∷ parts) in
    bytes-append (mark none kind.Newline nowhere ∷ part_pieces (indent 1) part) more
    ∙ ap (λ l. l ++ bytes_of more) (part_newline part)
    ∙ ap (λ l. bytes_of (part_pieces (line 1) part) ++ l) (parts_behind part other parts)
    ∙ sym (bytes-append (part_pieces (line 1) part) (part_lines (other ∷ parts)))

pub parts_are : (parts : List PartText) → bytes_of (part_lines parts) ≡ bytes_of (listed_parts None parts)
parts_are [] = refl
parts_are (part ∷ []) = ap bytes_of (append-nil (part_pieces (line 1) part))
parts_are (part ∷ other ∷ parts) =
    let more = mark none kind.Newline nowhere ∷ listed_parts (Some part) (other ∷ parts) in
    bytes-append (part_pieces (line 1) part) (part_lines (other ∷ parts))
    ∙ ap (λ l. bytes_of (part_pieces (line 1) part) ++ l) (sym (parts_behind part other parts))
    ∙ sym (bytes-append (part_pieces (line 1) part) more)

pub lines-append : (xs ys : List PartText) → part_lines (xs ++ ys) ≡ part_lines xs ++ part_lines ys
lines-append [] ys = refl
lines-append (x ∷ xs) ys =
    ap (λ l. part_pieces (line 1) x ++ l) (lines-append xs ys) ∙ sym (append_assoc (part_pieces (line 1) x) (part_lines xs) (part_lines ys))

module _ (light : Bool) where
  body_more : (xs : List Stmt) (stmt : Stmt) →
      part_lines (stmt_parts light (map stmt_tree (xs ++ stmt ∷ []))) ≡ part_lines (stmt_parts light (map stmt_tree xs)) ++ stmt_pieces 1 (line 1) (stmt_account light
      (stmt_tree stmt))
  body_more [] stmt = append-nil (stmt_pieces 1 (line 1) (stmt_account light (stmt_tree stmt)))
  body_more (x ∷ xs) stmt =
      let own = stmt_pieces 1 (line 1) (stmt_account light (stmt_tree x)) in
      ap (λ l. own ++ l) (body_more xs stmt)
      ∙ sym (append_assoc own (part_lines (stmt_parts light (map stmt_tree xs))) (stmt_pieces 1 (line 1) (stmt_account light (stmt_tree stmt))))

  -- one statement more
  pub one_part : {a b c : List ℕ} (stmts : List Stmt) (at : ℕ) (stmt : Stmt) → at < length stmts → stmt ≡ get_or stmts at stmt →
      Adds a b (part_lines (stmt_parts light (map stmt_tree (take at stmts)))) → Adds b c (stmt_pieces 1 (line 1) (stmt_account light (stmt_tree stmt))) →
      Adds a c (part_lines (stmt_parts light (map stmt_tree (take (at + 1) stmts))))
  one_part stmts at stmt within is before added =
      adds_same _ _
      (sym (body_more (take at stmts) stmt)
      ∙ ap (λ l. part_lines (stmt_parts light (map stmt_tree l))) (ap (λ y. take at stmts ++ y ∷ []) is ∙ sym (take_more stmts at stmt within)))
      (adds_then before added)
