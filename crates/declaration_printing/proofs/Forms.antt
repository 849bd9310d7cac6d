-- The forms of declarations, from the parts that were added one after the other.
use Rattle.std.proofs.Common.{false, ◌≡◌, ℕ, suc, Bool, Option, Some, None, List, [], ◌∷◌, ◌++◌, map, codes, length, arith, append_assoc, append-nil, refl, sym, ap, ◌∙◌, subst}
use Rattle.std.specs.Option.{option_map}
use Rattle.slang_lexer.specs.declared.token.TokenKind.TheVariants as kind
use Rattle.slang_lexer.specs.Spelling.{signs, words}
use Rattle.slang_tree.specs.declared.expression.Name.{Name}
use Rattle.slang_tree.specs.declared.statement.Stmt.{Stmt}
use Rattle.slang_tree.specs.declared.declaration.Return.{Return}
use Rattle.slang_tree.specs.TypeTree.{TypeTree}
use Rattle.slang_tree.specs.ExprTree.{expr_tree}
use Rattle.slang_tree.specs.StmtTree.{stmt_tree}
use Rattle.slang_tree.specs.DeclTree.{ConstTree, TypedName, GlobalDeclTree, RecordDeclTree, MethodDeclTree, DeclTree, global_decl, record_decl, return_tree}
use Rattle.slang_grammar.specs.Parts.{name_token}
use Rattle.slang_grammar.specs.Statements.{value_word}
use Rattle.slang_grammar.specs.Declarations.{PartText, datatype_token}
use Rattle.print_expressions.specs.Bare.{nowhere, bare_name}
use Rattle.print_expressions.specs.Accounts.{type_account, expr_account}
use Rattle.print_statements.specs.Accounts.{listed_of, typed_account}
use Rattle.print_declarations.specs.Accounts.{const_account, param_account, field_account, clauses_of, contract_parts, stmt_parts, return_parts, parts_of, method_account, import_account, decl_account}
use Rattle.print_layout.specs.Pieces.{Gap, none, blank, indent, line, Piece, piece, mark, gap_bytes, listed_pieces, gap_before, bytes_of}
use Rattle.print_layout.specs.Expressions.{type_pieces, optional_typed, expr_pieces}
use Rattle.print_layout.specs.Declarations.{const_pieces, param_pieces, field_pieces, part_pieces, method_pieces, decl_pieces}
use Rattle.expression_printing.specs.Printed.{Adds}
use Rattle.expression_printing.proofs.Adds.{adds_none, adds_then, adds_token, adds_text, adds_word, adds_name}
use Rattle.expression_printing.proofs.Forms.{adds_same}
use Rattle.statement_printing.proofs.Lines.{adds_bytes}
use Rattle.declaration_printing.specs.Printed.{params_listed, part_lines, path_behind}
use Rattle.declaration_printing.proofs.Lists.{params_are, fields_are}
use Rattle.declaration_printing.proofs.Lines.{parts_are, lines-append}

module _ (light : Bool) where
  pub return_added : {a b c : List ℕ} (own : Option Return) (returned : Return) → own ≡ Some returned → b ≡ a ++ gap_bytes (line 1) ++ codes "return" →
      Adds b c (expr_pieces blank (expr_account light (expr_tree returned.value))) → Adds a c (part_lines (return_parts light (option_map return_tree own)))
  unfolding signs words
  return_added {a} {b} {c} own returned is word added =
      subst (λ o. Adds a c (part_lines (return_parts light (option_map return_tree o)))) (sym is)
      (adds_same _ _ (sym (append-nil (mark (line 1) kind.Return nowhere ∷ expr_pieces blank (expr_account light (expr_tree returned.value)))))
      (adds_then (adds_word (line 1) kind.Return nowhere (codes "return") refl word) added))

  -- of the same statements
  pub body_shown : {a b : List ℕ} (stmts shown : List Stmt) → shown ≡ stmts → Adds a b (part_lines (stmt_parts light (map stmt_tree shown))) →
      Adds a b (part_lines (stmt_parts light (map stmt_tree stmts)))
  body_shown {a} {b} stmts shown is h = subst (λ l. Adds a b (part_lines (stmt_parts light (map stmt_tree l)))) is h

abbrev body_pieces : List PartText → List Piece
body_pieces parts =
    mark blank kind.Equals nowhere ∷ mark blank kind.LeftBrace nowhere
    ∷ listed_pieces kind.Newline (λ b part. part_pieces (gap_before (line 1) (indent 1) b) part) None (listed_of parts).front (listed_of parts).last

module _ (light : Bool) where
  body_added : {a b c d e f : List ℕ} (decl : MethodDeclTree) → b ≡ a ++ gap_bytes blank ++ codes "=" → c ≡ b ++ gap_bytes blank ++ codes "{" →
      Adds c d (part_lines (contract_parts (clauses_of light decl))) → Adds d e (part_lines (stmt_parts light decl.body)) →
      Adds e f (part_lines (return_parts light decl.returned)) →
      Adds a f (body_pieces (parts_of light decl))
  unfolding signs words
  body_added {a} {b} {c} {d} {e} {f} decl equals left contract stmts returned =
      let first = contract_parts (clauses_of light decl) in
      let second = stmt_parts light decl.body in
      let third = return_parts light decl.returned in
      let parts : Adds c f (part_lines ((first ++ second) ++ third))
      = adds_same ((part_lines first ++ part_lines second) ++ part_lines third) (part_lines ((first ++ second) ++ third))
      (ap (λ l. l ++ part_lines third) (sym (lines-append first second)) ∙ sym (lines-append (first ++ second) third))
      (adds_then (adds_then contract stmts) returned) in
      adds_then (adds_word blank kind.Equals nowhere (codes "=") refl equals)
      (adds_then (adds_word blank kind.LeftBrace nowhere (codes "{") refl left) (adds_bytes _ _ (parts_are ((first ++ second) ++ third)) parts))

  pub method_added : {a b c d e f g h i j k l m n : List ℕ} (gap : Gap) (decl : MethodDeclTree) → b ≡ a ++ gap_bytes gap ++ codes "def" →
      c ≡ b ++ gap_bytes blank ++ decl.written.text → d ≡ c ++ codes "(" → Adds d e (params_listed decl.params) → f ≡ e ++ codes ")" → g ≡ f ++ codes ":" →
      h ≡ g ++ bytes_of (type_pieces blank (type_account decl.result)) → i ≡ h ++ gap_bytes blank ++ codes "=" → j ≡ i ++ gap_bytes blank ++ codes "{" →
      Adds j k (part_lines (contract_parts (clauses_of light decl))) → Adds k l (part_lines (stmt_parts light decl.body)) →
      Adds l m (part_lines (return_parts light decl.returned)) →
      n ≡ m ++ gap_bytes (line 0) ++ codes "}" → Adds a n (method_pieces gap (method_account light decl))
  unfolding signs words
  method_added {a} {b} {c} {d} {e} {f} {g} {h} {i} {j} {k} {l} {m} {n} gap decl word named left params right colon typed equals brace contract stmts returned end =
      let params2 : Adds d e (listed_pieces kind.Comma (λ b p. param_pieces (gap_before none blank b) p) None
      (listed_of (map param_account decl.params)).front (listed_of (map param_account decl.params)).last)
      = adds_same _ _ (sym (params_are decl.params)) params in
      let ty : Adds g h (type_pieces blank (type_account decl.result)) = record { is = typed } in
      adds_then
      (adds_then
      (adds_then
      (adds_then (adds_word gap kind.Def nowhere (codes "def") refl word)
      (adds_then (adds_name blank decl.written named) (adds_then (adds_text kind.LeftParen nowhere (codes "(") refl left) params2)))
      (adds_then (adds_text kind.RightParen nowhere (codes ")") refl right) (adds_then (adds_text kind.Colon nowhere (codes ":") refl colon) ty)))
      (body_added decl equals brace contract stmts returned))
      (adds_word (line 0) kind.RightBrace nowhere (codes "}") refl end)

-- ---- other declarations

module _ (light : Bool) where
  -- what is printed of a tree
  pub adds_decl : {a b : List ℕ} (gap : Gap) (own tree : DeclTree) → own ≡ tree → Adds a b (decl_pieces gap (decl_account light tree)) →
      Adds a b (decl_pieces gap (decl_account light own))
  adds_decl {a} {b} gap own tree same h = subst (λ t. Adds a b (decl_pieces gap (decl_account light t))) (sym same) h

pub import_added : {a b c d : List ℕ} (gap : Gap) (own : List Name) (name : Name) (names : List Name) → own ≡ name ∷ names →
    b ≡ a ++ gap_bytes gap ++ codes "import" →
    c ≡ b ++ gap_bytes blank ++ name.text → Adds c d (path_behind names) → Adds a d (decl_pieces gap (import_account own))
unfolding signs words
import_added {a} {b} {c} {d} gap own name names is word named path =
    subst (λ o. Adds a d (decl_pieces gap (import_account o))) (sym is)
    (adds_then (adds_word gap kind.Import nowhere (codes "import") refl word) (adds_then (adds_name blank name named) path))

pub no_import_added : {a b c : List ℕ} (gap : Gap) (own : List Name) → length own ≡ 0 → b ≡ a ++ gap_bytes gap ++ codes "import" → c ≡ b ++ codes " " →
    Adds a c (decl_pieces gap (import_account own))
unfolding signs words
no_import_added {a} {b} {c} gap [] nothing word added =
    adds_then (adds_word gap kind.Import nowhere (codes "import") refl word)
    (adds_name blank (record { text = []; place = nowhere }) (added ∙ sym (append-nil (b ++ codes " "))))
no_import_added gap (name ∷ names) nothing word added = absurd (omega arith)

pub import_shown : {a b : List ℕ} (gap : Gap) (path shown : List Name) → shown ≡ path → Adds a b (decl_pieces gap (import_account shown)) →
    Adds a b (decl_pieces gap (import_account path))
import_shown {a} {b} gap path shown is h = subst (λ l. Adds a b (decl_pieces gap (import_account l))) is h

pub global_added : {a b c : List ℕ} (gap : Gap) (decl : GlobalDeclTree) →
    Adds a b ((mark gap (value_word decl.fixed) nowhere ∷ piece blank (name_token (bare_name decl.written)) ∷ optional_typed (option_map typed_account decl.ty))
    ++ mark blank kind.Equals nowhere ∷ []) →
    Adds b c (const_pieces blank (const_account decl.init)) → Adds a c (decl_pieces gap (decl_account false (global_decl decl)))
global_added gap decl declared added =
    adds_same _ _
    (append_assoc (mark gap (value_word decl.fixed) nowhere ∷ piece blank (name_token (bare_name decl.written)) ∷ optional_typed
    (option_map typed_account decl.ty))
    (mark blank kind.Equals nowhere ∷ []) (const_pieces blank (const_account decl.init)))
    (adds_then declared added)

datatype_added : {a b : List ℕ} → b ≡ a ++ codes "datatype" → Adds a b (piece none (datatype_token nowhere) ∷ [])
datatype_added {a} h = adds_token none (datatype_token nowhere) (codes "datatype") refl (h ∙ ap (λ l. l ++ codes "datatype") (sym (append-nil a)))

pub record_added : {a b c d e f g h : List ℕ} (gap : Gap) (decl : RecordDeclTree) → b ≡ a ++ gap_bytes gap ++ codes "@" → c ≡ b ++ codes "datatype" →
    d ≡ c ++ gap_bytes blank ++ codes "class" → e ≡ d ++ gap_bytes blank ++ decl.written.text → f ≡ e ++ codes "(" → Adds f g (params_listed decl.fields) →
    h ≡ g ++ codes ")" → Adds a h (decl_pieces gap (decl_account false (record_decl decl)))
unfolding signs words
record_added {a} {b} {c} {d} {e} {f} {g} {h} gap decl at datatype word named left fields right =
    let fields2 : Adds f g (listed_pieces kind.Comma (λ b it. field_pieces (gap_before none blank b) it) None
    (listed_of (map field_account decl.fields)).front (listed_of (map field_account decl.fields)).last)
    = adds_same _ _ (sym (fields_are decl.fields)) fields in
    adds_then
    (adds_then (adds_word gap kind.At nowhere (codes "@") refl at)
    (adds_then (datatype_added datatype)
    (adds_then (adds_word blank kind.Class nowhere (codes "class") refl word)
    (adds_then (adds_name blank decl.written named) (adds_then (adds_text kind.LeftParen nowhere (codes "(") refl left) fields2)))))
    (adds_text kind.RightParen nowhere (codes ")") refl right)
