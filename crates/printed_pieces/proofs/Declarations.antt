-- Declarations and whole files are laid out so that their tokens may stand beside each other.
use Rattle.std.proofs.Common.{◌≡◌, Bool, true, false, List, [], ◌∷◌, ◌++◌, map, Option, Some, None, refl, sym, subst, arith, append_assoc}
use Rattle.std.specs.Prelude.{nat_abs}
use Rattle.std.specs.List.{AllByRecursion, list_all}
use Rattle.slang_lexer.specs.declared.token.TokenKind.{TokenKind}
use Rattle.slang_lexer.specs.declared.token.TokenKind.TheVariants as kind
use Rattle.slang_lexer.specs.Spelling.{words}
use Rattle.slang_lexer.specs.Statement.{ends_statement, begins_statement}
use Rattle.slang_tree.specs.declared.place.Place.{Place}
use Rattle.slang_tree.specs.declared.expression.Name.{Name}
use Rattle.slang_tree.specs.ExprTree.{ExprTree, exprs_of}
use Rattle.slang_tree.specs.StmtTree.{StmtTree}
use Rattle.slang_tree.specs.DeclTree.{ConstTree, ConstTrees, no_consts, const_then, TypedName, ReturnTree, MethodDeclTree, DeclTree}
use Rattle.slang_tree.specs.DeclTree as t
use Rattle.slang_grammar.specs.Statements.{value_word}
use Rattle.slang_grammar.specs.Declarations.{ParamText, FieldText, ClauseText, PartText, stmt_part, DeclText, import_text, global_text, record_text}
use Rattle.slang_grammar.specs.Declarations.{method_text}
use Rattle.print_expressions.specs.Bare.{nowhere}
use Rattle.print_expressions.proofs.Numerals.{numerals_read_back}
use Rattle.print_statements.specs.Accounts.{typed_account, stmt_account}
use Rattle.print_declarations.specs.Accounts.{const_account, consts_account, param_account, field_account, claims_text, requires_clauses}
use Rattle.print_declarations.specs.Accounts.{modifies_clauses, ensures_clauses, clauses_of, contract_parts, stmt_parts, return_parts, parts_of}
use Rattle.print_declarations.specs.Accounts.{method_account, path_account, decl_account}
use Rattle.print_layout.specs.Pieces.{Gap, none, blank, indent, line, Piece, listed_pieces, gap_before}
use Rattle.print_layout.specs.Pieces as pieces
use Rattle.print_layout.specs.Expressions.{typed_pieces}
use Rattle.print_layout.specs.Declarations.{const_pieces, consts_pieces, param_pieces, field_pieces, claims_pieces, clause_pieces, part_pieces}
use Rattle.print_layout.specs.Declarations.{path_pieces, decl_pieces, gap_between, method_pieces}
use Rattle.sound_trees.specs.Sound.{IsNamed, SoundExpr, SoundStmt, SoundConst, SoundConsts, SoundTyped, SoundReturn, SoundMethod, SoundDecl}
use Rattle.laid_tokens.specs.Kinds.{has, fits, may_begin_line}
use Rattle.laid_tokens.specs.Laid.{inside, Laid, done, plain, opening, closing, newline, annotation}
use Rattle.laid_tokens.specs.Laid as laid
use Rattle.laid_tokens.proofs.Tables.{of_has}
use Rattle.printed_pieces.specs.Laws.{PrintedFilesAreLaidOut}
use Rattle.printed_pieces.proofs.Ends.{laid_append, Ended, fits_paren, fits_comma, fits_open, fits_blank, fits_line, fits_end, ends_line, Enters}
use Rattle.printed_pieces.proofs.Ends.{enters_paren, enters_blank, close_paren}
use Rattle.printed_pieces.proofs.Expressions.{element_laid, Arguments, expr_laid, exprs_laid}
use Rattle.printed_pieces.proofs.Lists.{list_pieces, commas, in_parens, all_mapped, names_laid, typed_laid, optional_laid}
use Rattle.printed_pieces.proofs.Statements.{list_sound, Begins, begins_brace, begins_newline, stmt_laid}

-- ---- constants

abbrev HasConst : ConstTrees → Type 0
HasConst no_consts = ⊥
HasConst (const_then tree trees) = Unit {0}

constants : (trees : ConstTrees) (around : List Bool) → (HasConst trees → Ended (true ∷ around) kind.LeftParen (consts_pieces none (consts_account trees)))
    → Arguments around (consts_pieces none (consts_account trees))
constants no_consts around s = record { end = kind.LeftParen; closes = refl; laid = done }
constants (const_then tree trees) around s = let m = s tt in record { end = m.end; closes = fits_paren true m.end m.ends; laid = m.laid }

enters_minus_none : (group : Bool) → fits group kind.Minus none kind.Number ≡ true
unfolding words
enters_minus_none group = refl

mutual
  unfolding words

  const_laid : (tree : ConstTree) → SoundConst tree → (around : List Bool) (last : TokenKind) (gap : Gap) → Enters (inside around) last gap
      → Ended around last (const_pieces gap (const_account tree))
  const_laid (t.const_number place z) h around last gap at =
      record { end = kind.Number; ends = refl; laid = plain refl (laid.number refl (numerals_read_back (nat_abs z) h).0) (at.starts kind.Number refl) done }
  const_laid (t.const_minus place digits z) h around last gap at = record {
    end = kind.Number;
    ends = refl;
    laid = plain refl (laid.sign refl refl) (at.starts kind.Minus refl)
        (plain refl (laid.number refl (numerals_read_back (nat_abs z) h).0) (enters_minus_none (inside around)) done);
  }
  const_laid (t.const_truth place) h around last gap at =
      record { end = kind.True; ends = refl; laid = plain refl (laid.word refl refl) (at.starts kind.True refl) done }
  const_laid (t.const_falsity place) h around last gap at =
      record { end = kind.False; ends = refl; laid = plain refl (laid.word refl refl) (at.starts kind.False refl) done }
  const_laid (t.const_sequence place ty elements) h around last gap at =
      let y = element_laid ty h.0 around kind.TypeIsz refl in
      let a = constants elements around (λ some. consts_laid elements h.1 some around kind.LeftParen none (enters_paren true)) in
      record {
        end = kind.RightParen;
        ends = refl;
        laid = plain refl (laid.word refl refl) (at.starts kind.TypeIsz refl)
            (laid_append (laid_append y.laid (opening refl (laid.sign refl refl) (fits_open (inside around) y.end (y.ends refl)) a.laid))
            (closing refl (laid.sign refl refl) a.closes done));
      }
  const_laid (t.const_record written fields) h around last gap at =
      let a = constants fields around (λ some. consts_laid fields h.1 some around kind.LeftParen none (enters_paren true)) in
      record {
        end = kind.RightParen;
        ends = refl;
        laid = plain refl (laid.name refl h.0) (at.starts kind.Name refl)
            (opening refl (laid.sign refl refl) refl (laid_append a.laid (closing refl (laid.sign refl refl) a.closes done)));
      }

  consts_laid : (trees : ConstTrees) → SoundConsts trees → HasConst trees → (around : List Bool) (last : TokenKind) (gap : Gap) → Enters true last gap
      → Ended (true ∷ around) last (consts_pieces gap (consts_account trees))
  consts_laid no_consts h some around last gap at = absurd some
  consts_laid (const_then tree no_consts) h some around last gap at = const_laid tree h.0 (true ∷ around) last gap at
  consts_laid (const_then tree (const_then more trees)) h some around last gap at =
      let m = const_laid tree h.0 (true ∷ around) last gap at in
      let r = consts_laid (const_then more trees) h.1 tt around kind.Comma blank (enters_blank true kind.Comma refl) in
      record { end = r.end; ends = r.ends; laid = laid_append m.laid (plain refl (laid.sign refl refl) (fits_comma true m.end m.ends) r.laid) }

-- ---- parameters and fields

abbrev SoundParam : ParamText → Type 0
SoundParam p = (around : List Bool) (last : TokenKind) (gap : Gap) → fits true last gap kind.Name ≡ true → Ended (true ∷ around) last (param_pieces gap p)

param_laid : (named : TypedName) → SoundTyped named → SoundParam (param_account named)
param_laid named h = λ around last gap f.
    let y = typed_laid named.ty h.1 (true ∷ around) kind.Name refl in
    record { end = y.end; ends = y.ends; laid = plain refl (laid.name refl h.0) f y.laid }

params_laid : (params : List TypedName) → AllByRecursion SoundTyped params → (around : List Bool)
    → Arguments around (list_pieces kind.Comma (λ before param. param_pieces (gap_before none blank before) param) None (map param_account params))
params_laid params h around =
    in_parens SoundParam (λ before param. param_pieces (gap_before none blank before) param) around (λ before x p. p around kind.Comma blank refl)
    (λ x p. p around kind.LeftParen none refl) (map param_account params) (all_mapped SoundTyped SoundParam param_account param_laid params h)

abbrev SoundField : FieldText → Type 0
SoundField f = (around : List Bool) (last : TokenKind) (gap : Gap) → fits true last gap kind.Name ≡ true → Ended (true ∷ around) last (field_pieces gap f)

field_laid : (named : TypedName) → SoundTyped named → SoundField (field_account named)
field_laid named h = param_laid named h

fields_laid : (fields : List TypedName) → AllByRecursion SoundTyped fields → (around : List Bool)
    → Arguments around (list_pieces kind.Comma (λ before f. field_pieces (gap_before none blank before) f) None (map field_account fields))
fields_laid fields h around =
    in_parens SoundField (λ before f. field_pieces (gap_before none blank before) f) around (λ before x p. p around kind.Comma blank refl)
    (λ x p. p around kind.LeftParen none refl) (map field_account fields) (all_mapped SoundTyped SoundField field_account field_laid fields h)

-- ---- contracts

abbrev SoundClause : ClauseText → Type 0
SoundClause clause =
    (around : List Bool) (last : TokenKind) → fits true last (line 2) kind.Requires ≡ true → fits true last (line 2) kind.Modifies ≡ true
    → fits true last (line 2) kind.Ensures ≡ true → Ended (true ∷ around) last (clause_pieces (line 2) clause)

modifies_laid : (names : List Name) → AllByRecursion IsNamed names → AllByRecursion SoundClause (modifies_clauses names)
unfolding words
modifies_laid [] h = tt
modifies_laid (name ∷ names) h = (
  λ around last r m e. record {
    end = kind.RightParen;
    ends = refl;
    laid = plain refl (laid.word refl refl) m (names_laid (name ∷ names) h (true ∷ around) kind.Modifies refl);
  },
  tt,
)

all_append : {A : Type 0} (P : A → Type 0) (xs ys : List A) → AllByRecursion P xs → AllByRecursion P ys → AllByRecursion P (xs ++ ys)
all_append P [] ys h k = k
all_append P (x ∷ xs) ys h k = (h.0, all_append P xs ys h.1 k)

-- ---- bodies

abbrev SoundPart : PartText → Type 0
SoundPart part = (last : TokenKind) (gap : Gap) → Begins last gap → Ended (false ∷ []) last (part_pieces gap part)

contract_laid : (clauses : List ClauseText) → AllByRecursion SoundClause clauses → AllByRecursion SoundPart (contract_parts clauses)
unfolding words
contract_laid [] h = tt
contract_laid (clause ∷ clauses) h = (
  λ last gap at.
      let m = commas SoundClause (λ before c. clause_pieces (line 2) c) (false ∷ []) (λ before x p. p
      (false ∷ []) kind.Comma refl refl refl) None kind.LeftParen clause clauses
      (h.0 (false ∷ []) kind.LeftParen refl refl refl) h.1 in
      record {
        end = kind.RightParen;
        ends = refl;
        laid = plain refl (laid.word refl refl) (at.starts kind.Contract refl)
            (opening refl (laid.sign refl refl) refl (laid_append m.laid (closing refl (laid.sign refl refl)
            (fits_line m.end kind.RightParen 1 m.ends) done)));
      },
  tt,
)

abbrev body_part : Option PartText → PartText → List Piece
body_part before part = part_pieces (gap_before (line 1) (indent 1) before) part

lines : (before : Option PartText) (last : TokenKind) (part : PartText) (parts : List PartText) → Ended (false ∷ []) last (body_part before part)
    → AllByRecursion SoundPart parts → Ended (false ∷ []) last (list_pieces kind.Newline body_part before (part ∷ parts))
lines before last part [] m h = m
lines before last part (next ∷ parts) m h =
    let r = lines (Some part) kind.Newline next parts (h.0 kind.Newline (indent 1) (begins_newline 1)) h.1 in
    record { end = r.end; ends = r.ends; laid = laid_append m.laid (newline refl (ends_line m.end m.ends) r.laid) }

body_laid : (parts : List PartText) → AllByRecursion SoundPart parts
    → Laid (false ∷ []) kind.LeftBrace (list_pieces kind.Newline body_part None parts ++ pieces.mark (line 0) kind.RightBrace nowhere ∷ []) [] kind.RightBrace
unfolding ends_statement begins_statement
body_laid [] h = closing refl (laid.sign refl refl) refl done
body_laid (part ∷ parts) h =
    let m = lines None kind.LeftBrace part parts (h.0 kind.LeftBrace (line 1) (begins_brace 1)) h.1 in
    laid_append m.laid (closing refl (laid.sign refl refl) (fits_end m.end 0 m.ends) done)

-- ---- declarations

-- where a declaration may begin
abbrev decl_kinds : List TokenKind
decl_kinds = kind.Import ∷ kind.Val ∷ kind.Var ∷ kind.At ∷ kind.Def ∷ []

record Declares (last : TokenKind) (gap : Gap) : Type 0 where
  starts : (k : TokenKind) → has decl_kinds k ≡ true → fits false last gap k ≡ true

at_beginning : Declares kind.End none
at_beginning = record { starts = λ k h. refl }

decls_begin : list_all may_begin_line decl_kinds ≡ true
unfolding begins_statement
decls_begin = refl

behind_line : Declares kind.Newline (indent 0)
behind_line = record { starts = λ k h. of_has may_begin_line decl_kinds k decls_begin h }

behind_empty : Declares kind.Newline (line 0)
unfolding begins_statement
behind_empty = record { starts = λ k h. of_has (λ j. fits false kind.Newline (line 0) j) decl_kinds k refl h }

between : (before decl : DeclText) → Declares kind.Newline (gap_between (Some before) decl)
between (import_text w f p) (import_text word first path) = behind_line
between (import_text w f p) (global_text fixed word n ty equals init) = behind_empty
between (import_text w f p) (record_text at datatype word n left fields right) = behind_empty
between (import_text w f p) (method_text m) = behind_empty
between (global_text x w m y q i) (import_text word first path) = behind_empty
between (global_text x w m y q i) (global_text fixed word n ty equals init) = behind_line
between (global_text x w m y q i) (record_text at datatype word n left fields right) = behind_empty
between (global_text x w m y q i) (method_text method) = behind_empty
between (record_text a d w m l fs r) (import_text word first path) = behind_empty
between (record_text a d w m l fs r) (global_text fixed word n ty equals init) = behind_empty
between (record_text a d w m l fs r) (record_text at datatype word n left fields right) = behind_empty
between (record_text a d w m l fs r) (method_text method) = behind_empty
between (method_text m) (import_text word first path) = behind_empty
between (method_text m) (global_text fixed word n ty equals init) = behind_empty
between (method_text m) (record_text at datatype word n left fields right) = behind_empty
between (method_text m) (method_text method) = behind_empty

path_laid : (names : List Name) → AllByRecursion IsNamed names → Ended [] kind.Name (path_pieces (map path_account names))
path_laid [] h = record { end = kind.Name; ends = refl; laid = done }
path_laid (name ∷ names) h =
    let m = path_laid names h.1 in
    record { end = m.end; ends = m.ends; laid = plain refl (laid.sign refl refl) refl (plain refl (laid.name refl h.0) refl m.laid) }

global_laid : (fixed : Bool) (last : TokenKind) (gap : Gap) (place : Place) (rest : List Piece) → Declares last gap
    → ((k : TokenKind) → fits false k blank kind.Name ≡ true → Ended [] k rest) → Ended [] last (pieces.mark gap (value_word fixed) place ∷ rest)
unfolding words
global_laid true last gap place rest at more =
    let m = more kind.Val refl in record { end = m.end; ends = m.ends; laid = plain refl (laid.word refl refl) (at.starts kind.Val refl) m.laid }
global_laid false last gap place rest at more =
    let m = more kind.Var refl in record { end = m.end; ends = m.ends; laid = plain refl (laid.word refl refl) (at.starts kind.Var refl) m.laid }

-- what stands behind the `(` of a method's parameters
method_rest : (params typed body : List Piece) → Arguments [] params → Ended [] kind.RightParen typed
    → Laid (false ∷ []) kind.LeftBrace (body ++ pieces.mark (line 0) kind.RightBrace nowhere ∷ []) [] kind.RightBrace
    → Laid (true ∷ []) kind.LeftParen (params ++ pieces.mark none kind.RightParen nowhere ∷ typed ++ pieces.mark blank kind.Equals nowhere
    ∷ pieces.mark blank kind.LeftBrace nowhere ∷ body ++ pieces.mark (line 0) kind.RightBrace nowhere ∷ []) [] kind.RightBrace
method_rest params typed body a y b =
    subst (λ ps. Laid (true ∷ []) kind.LeftParen ps [] kind.RightBrace)
    (sym (append_assoc (params ++ pieces.mark none kind.RightParen nowhere ∷ typed)
    (pieces.mark blank kind.Equals nowhere ∷ pieces.mark blank kind.LeftBrace nowhere ∷ body) (pieces.mark (line 0) kind.RightBrace nowhere ∷ [])))
    (laid_append (laid_append a.laid (closing refl (laid.sign refl refl) a.closes y.laid))
    (plain refl (laid.sign refl refl) (fits_blank false y.end kind.Equals y.ends) (opening refl (laid.sign refl refl) refl b)))

abbrev file_part : Option DeclText → DeclText → List Piece
file_part before decl = decl_pieces (gap_between before decl) decl

module _ (light : Bool) where
  -- ---- what holds expressions

  claim_list : (claim : ExprTree) (claims : List ExprTree) → AllByRecursion SoundExpr (claim ∷ claims) → (around : List Bool) (last : TokenKind)
      → fits (inside around) last none kind.LeftParen ≡ true → Laid around last (claims_pieces (claims_text light (claim ∷ claims))) around kind.RightParen
  claim_list claim claims h around last f =
      opening refl (laid.sign refl refl) f
      (close_paren nowhere (exprs_laid light (exprs_of (claim ∷ claims)) (list_sound (claim ∷ claims) h) tt around kind.LeftParen none blank (enters_paren true)
      (enters_blank true kind.Comma refl)))

  requires_laid : (claims : List ExprTree) → AllByRecursion SoundExpr claims → AllByRecursion SoundClause (requires_clauses light claims)
  unfolding words
  requires_laid [] h = tt
  requires_laid (claim ∷ claims) h = (
    λ around last r m e. record {
      end = kind.RightParen;
      ends = refl;
      laid = plain refl (laid.word refl refl) r (claim_list claim claims h (true ∷ around) kind.Requires refl);
    },
    tt,
  )

  ensures_laid : (claims : List ExprTree) → AllByRecursion SoundExpr claims → AllByRecursion SoundClause (ensures_clauses light claims)
  unfolding words
  ensures_laid [] h = tt
  ensures_laid (claim ∷ claims) h = (
    λ around last r m e. record {
      end = kind.RightParen;
      ends = refl;
      laid = plain refl (laid.word refl refl) e (claim_list claim claims h (true ∷ around) kind.Ensures refl);
    },
    tt,
  )

  clauses_laid : (decl : MethodDeclTree) → SoundMethod decl → AllByRecursion SoundClause (clauses_of light decl)
  clauses_laid decl h =
      all_append SoundClause (requires_clauses light decl.requires_ ++ modifies_clauses decl.modifies) (ensures_clauses light decl.ensures_)
      (all_append SoundClause (requires_clauses light decl.requires_) (modifies_clauses decl.modifies) (requires_laid decl.requires_ h.requires_)
      (modifies_laid decl.modifies h.modifies)) (ensures_laid decl.ensures_ h.ensures_)

  part_of : (stmt : StmtTree) → SoundStmt stmt → SoundPart (stmt_part (stmt_account light stmt))
  part_of stmt h = λ last gap at. stmt_laid light stmt h 1 [] last gap at

  return_laid : (returned : Option ReturnTree) → SoundReturn returned → AllByRecursion SoundPart (return_parts light returned)
  unfolding words
  return_laid None h = tt
  return_laid (Some returned) h = (
    λ last gap at.
        let m = expr_laid light returned.value h (false ∷ []) kind.Return blank (enters_blank false kind.Return refl) in
        record { end = m.end; ends = m.ends; laid = plain refl (laid.word refl refl) (at.starts kind.Return refl) m.laid },
    tt,
  )

  parts_laid : (decl : MethodDeclTree) → SoundMethod decl → AllByRecursion SoundPart (parts_of light decl)
  parts_laid decl h =
      all_append SoundPart (contract_parts (clauses_of light decl) ++ stmt_parts light decl.body) (return_parts light decl.returned)
      (all_append SoundPart (contract_parts (clauses_of light decl)) (stmt_parts light decl.body) (contract_laid (clauses_of light decl) (clauses_laid decl h))
      (all_mapped SoundStmt SoundPart (λ stmt. stmt_part (stmt_account light stmt)) part_of decl.body h.body)) (return_laid decl.returned h.returned)

  method_laid : (decl : MethodDeclTree) → SoundMethod decl → (last : TokenKind) (gap : Gap) → Declares last gap
      → Ended [] last (method_pieces gap (method_account light decl))
  unfolding words
  method_laid decl h last gap at =
      let a = params_laid decl.params h.params [] in
      let y = typed_laid decl.result h.result [] kind.RightParen refl in
      record {
        end = kind.RightBrace;
        ends = refl;
        laid = plain refl (laid.word refl refl) (at.starts kind.Def refl)
            (plain refl (laid.name refl h.written) refl
            (opening refl (laid.sign refl refl) refl
            (method_rest (list_pieces kind.Comma (λ before param. param_pieces (gap_before none blank before) param) None (map param_account decl.params))
            (typed_pieces (typed_account decl.result)) (list_pieces kind.Newline body_part None (parts_of light decl)) a y (body_laid (parts_of light decl)
            (parts_laid decl h)))));
      }

  decl_laid : (decl : DeclTree) → SoundDecl decl → (last : TokenKind) (gap : Gap) → Declares last gap → Ended [] last (decl_pieces gap (decl_account light decl))
  unfolding words
  decl_laid (t.import_decl place []) h last gap at = absurd (omega (arith, h.0))
  decl_laid (t.import_decl place (name ∷ names)) h last gap at =
      let m = path_laid names h.1.1 in
      record {
        end = m.end;
        ends = m.ends;
        laid = plain refl (laid.word refl refl) (at.starts kind.Import refl) (plain refl (laid.name refl h.1.0) refl m.laid);
      }
  decl_laid (t.global_decl decl) h last gap at =
      let y = optional_laid decl.ty h.1 [] in
      let m = const_laid decl.init h.2 [] kind.Equals blank (enters_blank false kind.Equals refl) in
      global_laid decl.fixed last gap nowhere _ at (λ k f. record {
        end = m.end;
        ends = m.ends;
        laid = plain refl (laid.name refl h.0) f (laid_append y.laid (plain refl (laid.sign refl refl) (fits_blank false y.end kind.Equals y.ends) m.laid));
      })
  decl_laid (t.record_decl decl) h last gap at =
      let a = fields_laid decl.fields h.1 [] in
      record {
        end = kind.RightParen;
        ends = refl;
        laid = annotation (at.starts kind.At refl)
            (plain refl (laid.name refl h.0) refl
            (opening refl (laid.sign refl refl) refl (laid_append a.laid (closing refl (laid.sign refl refl) a.closes done))));
      }
  decl_laid (t.method_decl decl) h last gap at = method_laid decl h last gap at

  -- ---- files

  abbrev ended_decls : List DeclTree → List (DeclText × Place)
  ended_decls decls = map (λ decl. (decl_account light decl, nowhere)) decls

  -- declarations behind another, with a newline behind each
  decls_laid : (before : DeclText) (decls : List DeclTree) → AllByRecursion SoundDecl decls
      → Laid [] kind.Newline (listed_pieces kind.Newline file_part (Some before) (ended_decls decls) None) [] kind.Newline
  decls_laid before [] h = done
  decls_laid before (decl ∷ decls) h =
      let m = decl_laid decl h.0 kind.Newline (gap_between (Some before) (decl_account light decl)) (between before (decl_account light decl)) in
      laid_append m.laid (newline refl (ends_line m.end m.ends) (decls_laid (decl_account light decl) decls h.1))

pub printed_files_are_laid_out : PrintedFilesAreLaidOut
printed_files_are_laid_out light [] h = (kind.End, done)
printed_files_are_laid_out light (decl ∷ decls) h =
    let m = decl_laid light decl h.0 kind.End none at_beginning in
    (kind.Newline, laid_append m.laid (newline refl (ends_line m.end m.ends) (decls_laid light (decl_account light decl) decls h.1)))
