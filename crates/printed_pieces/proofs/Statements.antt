-- Statements are laid out so that their tokens may stand beside each other. They stand right inside braces.
use Rattle.std.proofs.Common.{◌≡◌, ℕ, suc, Bool, true, false, not, List, [], ◌∷◌, refl}
use Rattle.std.specs.List.{AllByRecursion, list_all}
use Rattle.slang_lexer.specs.declared.token.TokenKind.{TokenKind}
use Rattle.slang_lexer.specs.declared.token.TokenKind.TheVariants as kind
use Rattle.slang_lexer.specs.Spelling.{words}
use Rattle.slang_lexer.specs.Statement.{ends_statement, begins_statement}
use Rattle.slang_tree.specs.declared.expression.Name.{Name}
use Rattle.slang_tree.specs.ExprTree.{ExprTree, exprs_of}
use Rattle.slang_tree.specs.StmtTree.{StmtTree, StmtTrees, no_stmts, stmt_then, ElseTree}
use Rattle.slang_tree.specs.StmtTree as t
use Rattle.slang_tokens.specs.Tok.{same_kind}
use Rattle.slang_grammar.specs.Statements as s
use Rattle.print_expressions.specs.Bare.{nowhere}
use Rattle.print_statements.specs.Accounts.{test_account, claims_account, invariant_account, as_body, stmt_account, stmts_account, else_account}
use Rattle.print_layout.specs.Pieces.{Gap, none, blank, indent}
use Rattle.print_layout.specs.Pieces as pieces
use Rattle.print_layout.specs.Statements.{test_pieces, claims_behind_pieces, invariant_pieces, stmt_pieces, else_pieces, block_pieces, stmts_pieces, loop_pieces}
use Rattle.sound_trees.specs.Sound.{IsNamed, SoundExpr, SoundExprs, SoundStmt, SoundStmts, SoundElse}
use Rattle.laid_tokens.specs.Kinds.{has, fits, may_begin_line, is_plain, is_word}
use Rattle.laid_tokens.specs.Laid.{inside, Laid, done, plain, opening, closing, newline}
use Rattle.laid_tokens.specs.Laid as laid
use Rattle.laid_tokens.proofs.Tables.{of_has}
use Rattle.printed_pieces.proofs.Ends.{laid_append, Ended, fits_blank, fits_line, fits_end, ends_line, enters_paren, enters_blank, enters_line_comma, close_paren}
use Rattle.printed_pieces.proofs.Expressions.{arguments, expr_laid, exprs_laid}
use Rattle.printed_pieces.proofs.Lists.{names_laid, optional_laid}
use Rattle.printed_pieces.proofs.Steps.{proof_laid}

-- ---- where a statement may begin

abbrev pub stmt_kinds : List TokenKind
stmt_kinds =
    kind.Val ∷ kind.Var ∷ kind.Name ∷ kind.If ∷ kind.While ∷ kind.Assert ∷ kind.Deduce ∷ kind.Return ∷ kind.Contract ∷ []

pub record Begins (last : TokenKind) (gap : Gap) : Type 0 where
  pub starts : (k : TokenKind) → has stmt_kinds k ≡ true → fits false last gap k ≡ true

pub begins_brace : (depth : ℕ) → Begins kind.LeftBrace (pieces.line depth)
unfolding ends_statement
begins_brace depth = record { starts = λ k h. refl }

stmts_begin : list_all may_begin_line stmt_kinds ≡ true
unfolding begins_statement
stmts_begin = refl

pub begins_newline : (depth : ℕ) → Begins kind.Newline (indent depth)
begins_newline depth = record { starts = λ k h. of_has may_begin_line stmt_kinds k stmts_begin h }

begins_else : Begins kind.Else blank
begins_else = record { starts = λ k h. refl }

-- ---- lists

pub list_sound : (claims : List ExprTree) → AllByRecursion SoundExpr claims → SoundExprs (exprs_of claims)
list_sound [] h = tt
list_sound (claim ∷ claims) h = (h.0, list_sound claims h.1)

abbrev pub HasStmt : StmtTrees → Type 0
HasStmt no_stmts = ⊥
HasStmt (stmt_then stmt stmts) = Unit {0}

module _ (light : Bool) where
  -- ---- parts

  -- `(test)` behind its word, `if` or `while`
  test_laid : (k : TokenKind) (test : ExprTree) → SoundExpr test → (around : List Bool) (last : TokenKind) (gap : Gap) → is_plain k ≡ true → is_word k ≡ true
      → not (same_kind k kind.Newline) ≡ true → fits (inside around) last gap k ≡ true → Laid around last
      (test_pieces gap k (test_account light test)) around kind.RightParen
  test_laid k test h around last gap p w n f =
      plain p (laid.word w refl) f
      (opening refl (laid.sign refl refl) n (close_paren nowhere (expr_laid light test h (true ∷ around) kind.LeftParen none (enters_paren true))))

  -- claims behind the names that are modified, up to the last bracket
  claims_laid : (claims : List ExprTree) → AllByRecursion SoundExpr claims → (depth : ℕ) (around : List Bool)
      → Ended (true ∷ around) kind.RightParen (claims_behind_pieces (suc depth) (claims_account light claims))
  claims_laid [] h depth around = record { end = kind.RightParen; ends = refl; laid = done }
  claims_laid (claim ∷ claims) h depth around =
      let m = exprs_laid light (exprs_of (claim ∷ claims)) (list_sound (claim ∷ claims) h) tt around kind.Comma (pieces.line (suc depth)) (pieces.line (suc depth))
      (enters_line_comma (suc depth)) (enters_line_comma (suc depth)) in
      record { end = m.end; ends = m.ends; laid = plain refl (laid.sign refl refl) refl m.laid }

  invariant_laid : (modifies : List Name) (claims : List ExprTree) → AllByRecursion IsNamed modifies → AllByRecursion SoundExpr claims → (depth : ℕ)
      (around : List Bool) → Laid (false ∷ around) kind.LeftBrace (invariant_pieces depth (invariant_account light modifies claims)) (false ∷ around) kind.RightParen
  unfolding words ends_statement
  invariant_laid modifies claims h k depth around =
      let c = claims_laid claims k depth (false ∷ around) in
      plain refl (laid.word refl refl) refl
      (opening refl (laid.sign refl refl) refl
      (plain refl (laid.word refl refl) refl
      (laid_append (laid_append (names_laid modifies h (true ∷ false ∷ around) kind.Modifies refl) c.laid)
      (closing refl (laid.sign refl refl) (fits_line c.end kind.RightParen depth c.ends) done))))

  -- what stands inside a block from its first line on
  abbrev InBlock : ℕ → StmtTrees → List Bool → Type 0
  InBlock depth stmts around = HasStmt stmts → Ended (false ∷ around) kind.LeftBrace (stmts_pieces (suc depth) (pieces.line (suc depth)) (stmts_account light stmts))

  block_laid : (stmts : StmtTrees) (depth : ℕ) (around : List Bool) (last : TokenKind) → not (same_kind last kind.Newline) ≡ true → InBlock depth stmts around
      → Laid around last (block_pieces depth (s.block nowhere (stmts_account light stmts) nowhere)) around kind.RightBrace
  unfolding ends_statement begins_statement
  block_laid no_stmts depth around last n m = opening refl (laid.sign refl refl) n (closing refl (laid.sign refl refl) refl done)
  block_laid (stmt_then stmt stmts) depth around last n m =
      let b = m tt in
      opening refl (laid.sign refl refl) n (laid_append b.laid (closing refl (laid.sign refl refl) (fits_end b.end depth b.ends) done))

  -- `else` in front of a block
  else_block_laid : (stmts : StmtTrees) (depth : ℕ) (around : List Bool) → InBlock depth stmts around
      → Ended around kind.RightBrace (else_pieces depth (s.else_block nowhere (s.block nowhere (stmts_account light stmts) nowhere)))
  unfolding words
  else_block_laid stmts depth around m = record {
    end = kind.RightBrace;
    ends = refl;
    laid = plain refl (laid.word refl refl) refl (block_laid stmts depth around kind.Else refl m);
  }

  -- what stands in a loop behind its invariant
  loop_laid : (stmts : StmtTrees) (depth : ℕ) (around : List Bool)
      → (HasStmt stmts → Ended (false ∷ around) kind.Newline (stmts_pieces depth (indent depth) (stmts_account light stmts)))
      → Ended (false ∷ around) kind.RightParen (loop_pieces depth (as_body (stmts_account light stmts)))
  unfolding ends_statement
  loop_laid no_stmts depth around m = record { end = kind.RightParen; ends = refl; laid = done }
  loop_laid (stmt_then stmt no_stmts) depth around m =
      let b = m tt in record { end = b.end; ends = b.ends; laid = newline refl refl b.laid }
  loop_laid (stmt_then stmt (stmt_then more stmts)) depth around m =
      let b = m tt in record { end = b.end; ends = b.ends; laid = newline refl refl b.laid }

  -- ---- statements

  mutual
    unfolding words

    pub stmt_laid : (stmt : StmtTree) → SoundStmt stmt → (depth : ℕ) (around : List Bool) (last : TokenKind) (gap : Gap) → Begins last gap
        → Ended (false ∷ around) last (stmt_pieces depth gap (stmt_account light stmt))
    stmt_laid (t.val place written ty value) h depth around last gap at =
        let y = optional_laid ty h.1 (false ∷ around) in
        let m = expr_laid light value h.2 (false ∷ around) kind.Equals blank (enters_blank false kind.Equals refl) in
        record {
          end = m.end;
          ends = m.ends;
          laid = plain refl (laid.word refl refl) (at.starts kind.Val refl)
              (plain refl (laid.name refl h.0) refl
              (laid_append y.laid (plain refl (laid.sign refl refl) (fits_blank false y.end kind.Equals y.ends) m.laid)));
        }
    stmt_laid (t.var place written ty value) h depth around last gap at =
        let y = optional_laid ty h.1 (false ∷ around) in
        let m = expr_laid light value h.2 (false ∷ around) kind.Equals blank (enters_blank false kind.Equals refl) in
        record {
          end = m.end;
          ends = m.ends;
          laid = plain refl (laid.word refl refl) (at.starts kind.Var refl)
              (plain refl (laid.name refl h.0) refl
              (laid_append y.laid (plain refl (laid.sign refl refl) (fits_blank false y.end kind.Equals y.ends) m.laid)));
        }
    stmt_laid (t.assignment written value) h depth around last gap at =
        let m = expr_laid light value h.1 (false ∷ around) kind.Equals blank (enters_blank false kind.Equals refl) in
        record {
          end = m.end;
          ends = m.ends;
          laid = plain refl (laid.name refl h.0) (at.starts kind.Name refl) (plain refl (laid.sign refl refl) refl m.laid);
        }
    stmt_laid (t.call written args) h depth around last gap at =
        let a = arguments light args (false ∷ around) (λ some. exprs_laid light args h.1 some (false ∷ around) kind.LeftParen none blank (enters_paren true)
        (enters_blank true kind.Comma refl)) in
        record {
          end = kind.RightParen;
          ends = refl;
          laid = plain refl (laid.name refl h.0) (at.starts kind.Name refl)
              (opening refl (laid.sign refl refl) refl (laid_append a.laid (closing refl (laid.sign refl refl) a.closes done)));
        }
    stmt_laid (t.branch place test on_true otherwise) h depth around last gap at =
        let c = test_laid kind.If test h.0 (false ∷ around) last gap refl refl refl (at.starts kind.If refl) in
        let b = block_laid on_true depth (false ∷ around) kind.RightParen refl (λ some. stmts_laid on_true h.1 some (suc depth) (false ∷ around) kind.LeftBrace
        (pieces.line (suc depth)) (begins_brace (suc depth))) in
        let e = else_laid otherwise h.2 depth around in
        record { end = e.end; ends = e.ends; laid = laid_append (laid_append c b) e.laid }
    stmt_laid (t.loop place test modifies claims body) h depth around last gap at =
        let c = test_laid kind.While test h.0 (false ∷ around) last gap refl refl refl (at.starts kind.While refl) in
        let i = invariant_laid modifies claims h.1 h.2 (suc depth) (false ∷ around) in
        let b = loop_laid body (suc depth) (false ∷ around) (λ some. stmts_laid body h.3 some (suc depth) (false ∷ around) kind.Newline (indent (suc depth))
        (begins_newline (suc depth))) in
        record {
          end = kind.RightBrace;
          ends = refl;
          laid = laid_append (laid_append (laid_append c (opening refl (laid.sign refl refl) refl i)) b.laid)
              (closing refl (laid.sign refl refl) (fits_end b.end depth b.ends) done);
        }
    stmt_laid (t.assertion place claim) h depth around last gap at =
        let m = expr_laid light claim h (true ∷ false ∷ around) kind.LeftParen none (enters_paren true) in
        record {
          end = kind.RightParen;
          ends = refl;
          laid = plain refl (laid.word refl refl) (at.starts kind.Assert refl) (opening refl (laid.sign refl refl) refl (close_paren nowhere m));
        }
    stmt_laid (t.deduction place steps) h depth around last gap at = record {
      end = kind.RightParen;
      ends = refl;
      laid = plain refl (laid.word refl refl) (at.starts kind.Deduce refl) (opening refl (laid.sign refl refl) refl (proof_laid light steps h depth (false ∷ around)));
    }

    stmts_laid : (stmts : StmtTrees) → SoundStmts stmts → HasStmt stmts → (depth : ℕ) (around : List Bool) (last : TokenKind) (gap : Gap) → Begins last gap
        → Ended (false ∷ around) last (stmts_pieces depth gap (stmts_account light stmts))
    stmts_laid no_stmts h some depth around last gap at = absurd some
    stmts_laid (stmt_then stmt no_stmts) h some depth around last gap at = stmt_laid stmt h.0 depth around last gap at
    stmts_laid (stmt_then stmt (stmt_then more stmts)) h some depth around last gap at =
        let m = stmt_laid stmt h.0 depth around last gap at in
        let r = stmts_laid (stmt_then more stmts) h.1 tt depth around kind.Newline (indent depth) (begins_newline depth) in
        record { end = r.end; ends = r.ends; laid = laid_append m.laid (newline refl (ends_line m.end m.ends) r.laid) }

    -- `else` behind a block, where it stands
    else_laid : (otherwise : ElseTree) → SoundElse otherwise → (depth : ℕ) (around : List Bool)
        → Ended (false ∷ around) kind.RightBrace (else_pieces depth (else_account light otherwise))
    else_laid t.no_else h depth around = record { end = kind.RightBrace; ends = refl; laid = done }
    else_laid (t.else_then no_stmts) h depth around = else_block_laid no_stmts depth (false ∷ around) (λ some. absurd some)
    else_laid (t.else_then (stmt_then (t.branch place test on_true otherwise) no_stmts)) h depth around =
        let m = stmt_laid (t.branch place test on_true otherwise) h.0 depth around kind.Else blank begins_else in
        record { end = m.end; ends = m.ends; laid = plain refl (laid.word refl refl) refl m.laid }
    else_laid (t.else_then (stmt_then (t.val place written ty value) no_stmts)) h depth around =
        else_block_laid (stmt_then (t.val place written ty value) no_stmts) depth (false ∷ around)
        (λ some. stmts_laid (stmt_then (t.val place written ty value) no_stmts) h some (suc depth) (false ∷ around) kind.LeftBrace (pieces.line (suc depth))
        (begins_brace (suc depth)))
    else_laid (t.else_then (stmt_then (t.var place written ty value) no_stmts)) h depth around =
        else_block_laid (stmt_then (t.var place written ty value) no_stmts) depth (false ∷ around)
        (λ some. stmts_laid (stmt_then (t.var place written ty value) no_stmts) h some (suc depth) (false ∷ around) kind.LeftBrace (pieces.line (suc depth))
        (begins_brace (suc depth)))
    else_laid (t.else_then (stmt_then (t.assignment written value) no_stmts)) h depth around =
        else_block_laid (stmt_then (t.assignment written value) no_stmts) depth (false ∷ around)
        (λ some. stmts_laid (stmt_then (t.assignment written value) no_stmts) h some (suc depth) (false ∷ around) kind.LeftBrace (pieces.line (suc depth))
        (begins_brace (suc depth)))
    else_laid (t.else_then (stmt_then (t.call written args) no_stmts)) h depth around =
        else_block_laid (stmt_then (t.call written args) no_stmts) depth (false ∷ around)
        (λ some. stmts_laid (stmt_then (t.call written args) no_stmts) h some (suc depth) (false ∷ around) kind.LeftBrace (pieces.line (suc depth))
        (begins_brace (suc depth)))
    else_laid (t.else_then (stmt_then (t.loop place test modifies claims body) no_stmts)) h depth around =
        else_block_laid (stmt_then (t.loop place test modifies claims body) no_stmts) depth (false ∷ around)
        (λ some. stmts_laid (stmt_then (t.loop place test modifies claims body) no_stmts) h some (suc depth) (false ∷ around) kind.LeftBrace
        (pieces.line (suc depth)) (begins_brace (suc depth)))
    else_laid (t.else_then (stmt_then (t.assertion place claim) no_stmts)) h depth around =
        else_block_laid (stmt_then (t.assertion place claim) no_stmts) depth (false ∷ around)
        (λ some. stmts_laid (stmt_then (t.assertion place claim) no_stmts) h some (suc depth) (false ∷ around) kind.LeftBrace (pieces.line (suc depth))
        (begins_brace (suc depth)))
    else_laid (t.else_then (stmt_then (t.deduction place steps) no_stmts)) h depth around =
        else_block_laid (stmt_then (t.deduction place steps) no_stmts) depth (false ∷ around)
        (λ some. stmts_laid (stmt_then (t.deduction place steps) no_stmts) h some (suc depth) (false ∷ around) kind.LeftBrace (pieces.line (suc depth))
        (begins_brace (suc depth)))
    else_laid (t.else_then (stmt_then stmt (stmt_then more stmts))) h depth around =
        else_block_laid (stmt_then stmt (stmt_then more stmts)) depth (false ∷ around)
        (λ some. stmts_laid (stmt_then stmt (stmt_then more stmts)) h some (suc depth) (false ∷ around) kind.LeftBrace (pieces.line (suc depth))
        (begins_brace (suc depth)))
