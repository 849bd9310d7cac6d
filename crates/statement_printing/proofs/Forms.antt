-- The forms of statements, from the parts that were added one after the other.
use Rattle.std.proofs.Common.{◌≡◌, ℕ, suc, ◌+◌, ◌<◌, eqb, true≢false, arith, Bool, true, false, Option, Some, None, List, [], ◌∷◌, ◌++◌, map, codes, take, length, get_or, append_assoc, append-nil, refl, sym, ap, ◌∙◌, subst}
use Rattle.std.specs.Option.{option_map}
use Rattle.std.proofs.lemmas.List.{take_more}
use Rattle.std.proofs.lemmas.Bool.Decides.{Decides-eqb}
use Rattle.slang_lexer.specs.declared.token.TokenKind.TheVariants as kind
use Rattle.slang_lexer.specs.Spelling.{signs, words}
use Rattle.slang_tree.specs.declared.place.Place.{Place}
use Rattle.slang_tree.specs.declared.expression.Name.{Name}
use Rattle.slang_tree.specs.declared.expression.Expr.{Expr}
use Rattle.slang_tree.specs.declared.expression.TypeName.{TypeName}
use Rattle.slang_tree.specs.declared.statement.Step.{Step}
use Rattle.slang_tree.specs.declared.statement.Stmt.{Stmt}
use Rattle.slang_tree.specs.TypeTree.{type_tree}
use Rattle.slang_tree.specs.ExprTree.{expr_tree, exprs_of}
use Rattle.slang_tree.specs.StmtTree as t
use Rattle.slang_tree.specs.StmtTree.{StmtTree, step_tree, steps_of, stmt_tree, stmts_of, else_of}
use Rattle.slang_grammar.specs.Parts.{name_token}
use Rattle.slang_grammar.specs.Statements.{value_word, last_stmt, else_block}
use Rattle.slang_grammar.specs.Statements as s
use Rattle.print_expressions.specs.Bare.{nowhere, bare_name}
use Rattle.print_expressions.specs.Accounts.{expr_account, type_account}
use Rattle.print_statements.specs.Accounts.{listed_of, names_account, typed_account, claims_account, invariant_account, steps_account, as_else, as_body, stmt_account, stmts_account}
use Rattle.print_layout.specs.Pieces.{Gap, none, blank, Piece, piece, mark, gap_bytes, listed_pieces, gap_before, bytes_of}
use Rattle.print_layout.specs.Pieces as pieces
use Rattle.print_layout.specs.Expressions.{name_pieces, names_pieces, type_pieces, optional_typed, expr_pieces, exprs_pieces}
use Rattle.print_layout.specs.Statements.{claims_behind_pieces, invariant_pieces, steps_pieces, stmt_pieces, stmts_pieces, else_pieces, loop_pieces}
use Rattle.expression_standing.specs.Account.{accounts_of}
use Rattle.expression_printing.specs.Printed.{Adds, arguments_pieces}
use Rattle.expression_printing.proofs.Adds.{adds_none, adds_then, adds_text, adds_word, adds_name}
use Rattle.expression_printing.proofs.Forms.{adds_same}
use Rattle.statement_printing.specs.Printed.{names_behind, names_listed, declared_pieces, enclosed_pieces, deduction_pieces, is_branch, only_branch, stmt_lines, braced_pieces, otherwise_pieces, else_of_pieces, loop_of}
use Rattle.statement_printing.proofs.Lines.{lines_are, body_lines, adds_bytes}

-- ---- names and types

names_from : (before : Option Name) (name : Name) (names : List Name) →
    listed_pieces kind.Comma (λ b n. name_pieces (gap_before none blank b) n) before
    (listed_of (map bare_name (name ∷ names))).front (listed_of (map bare_name (name ∷ names))).last
    ≡ piece (gap_before none blank before) (name_token (bare_name name)) ∷ names_behind names
names_from before name [] = refl
names_from before name (other ∷ names) =
    ap (λ l. piece (gap_before none blank before) (name_token (bare_name name)) ∷ mark none kind.Comma nowhere ∷ l) (names_from (Some (bare_name name)) other names)

names_are : (names : List Name) → names_pieces none (names_account names) ≡ (mark none kind.LeftParen nowhere ∷ names_listed names) ++ mark none kind.RightParen nowhere ∷ []
names_are [] = refl
names_are (name ∷ names) = ap (λ l. (mark none kind.LeftParen nowhere ∷ l) ++ mark none kind.RightParen nowhere ∷ []) (names_from None name names)

pub names_added : {a b c d : List ℕ} (names : List Name) → b ≡ a ++ codes "(" → Adds b c (names_listed names) → d ≡ c ++ codes ")" → Adds a d (names_pieces none (names_account names))
unfolding signs words
names_added names left listed right =
    adds_same _ _ (sym (names_are names))
    (adds_then (adds_then (adds_text kind.LeftParen nowhere (codes "(") refl left) listed) (adds_text kind.RightParen nowhere (codes ")") refl right))

names-append : (xs ys : List Name) → names_behind (xs ++ ys) ≡ names_behind xs ++ names_behind ys
names-append [] ys = refl
names-append (x ∷ xs) ys = ap (λ l. mark none kind.Comma nowhere ∷ piece blank (name_token (bare_name x)) ∷ l) (names-append xs ys)

pub one_name_behind : {a b c d : List ℕ} (names : List Name) (at : ℕ) (name : Name) → at < length names → name ≡ get_or names at name →
    Adds a b (names_behind (take at names)) → c ≡ b ++ codes "," → d ≡ c ++ gap_bytes blank ++ name.text → Adds a d (names_behind (take (at + 1) names))
unfolding signs words
one_name_behind names at name within is before comma added =
    adds_same _ _
    (sym (names-append (take at names) (name ∷ [])) ∙ ap names_behind (ap (λ x. take at names ++ x ∷ []) is ∙ sym (take_more names at name within)))
    (adds_then before (adds_then (adds_text kind.Comma nowhere (codes ",") refl comma) (adds_name blank name added)))

pub names_listed_added : {a b c : List ℕ} (own : List Name) (name : Name) (names : List Name) → own ≡ name ∷ names → b ≡ a ++ gap_bytes none ++ name.text →
    Adds b c (names_behind names) → Adds a c (names_listed own)
names_listed_added {a} {b} {c} own name names is h k = subst (λ o. Adds a c (names_listed o)) (sym is) (adds_then (adds_name none name h) k)

pub typed_added : {a b c : List ℕ} (own : Option TypeName) (ty : TypeName) → own ≡ Some ty → b ≡ a ++ codes ":" →
    c ≡ b ++ bytes_of (type_pieces blank (type_account (type_tree ty))) → Adds a c (optional_typed (option_map typed_account (option_map type_tree own)))
unfolding signs words
typed_added {a} {b} {c} own ty is colon added =
    subst (λ o. Adds a c (optional_typed (option_map typed_account (option_map type_tree o)))) (sym is)
    (adds_then (adds_text kind.Colon nowhere (codes ":") refl colon) (record { is = added }))

pub declared_added : {a b c d e : List ℕ} (gap : Gap) (fixed : Bool) (name : Name) (ty : Option TypeName) → Adds a b (mark gap (value_word fixed) nowhere ∷ []) →
    c ≡ b ++ gap_bytes blank ++ name.text → Adds c d (optional_typed (option_map typed_account (option_map type_tree ty))) →
    e ≡ d ++ gap_bytes blank ++ codes "=" → Adds a e (declared_pieces gap fixed name ty)
unfolding signs words
declared_added gap fixed name ty word named typed equals =
    adds_then (adds_then word (adds_then (adds_name blank name named) typed)) (adds_word blank kind.Equals nowhere (codes "=") refl equals)

-- ---- lists that are empty, and lone statements

is_nothing : {X : Type 0} (xs : List X) → true ≡ eqb (length xs) 0 → xs ≡ []
is_nothing [] e = refl
is_nothing (x ∷ xs) e = absurd (let z : length (x ∷ xs) ≡ 0 = (Decides-eqb (length (x ∷ xs)) 0).0 (sym e) in omega arith)

pub only_of_none : (own : List Stmt) → length own ≡ 0 → only_branch own ≡ false
only_of_none [] h = refl
only_of_none (stmt ∷ stmts) h = absurd (omega (arith, h))

pub only_of_one : (stmt : Stmt) (others : List Stmt) → true ≡ eqb (length others) 0 → is_branch (stmt_tree stmt) ≡ only_branch (stmt ∷ others)
only_of_one stmt others h = ap (λ l. only_branch (stmt ∷ l)) (sym (is_nothing others h))

pub only_of_more : (stmt : Stmt) (others : List Stmt) → false ≡ eqb (length others) 0 → false ≡ only_branch (stmt ∷ others)
only_of_more stmt [] h = absurd (true≢false (sym h))
only_of_more stmt (other ∷ others) h = refl

module _ (light : Bool) where
  pub enclosed_added : {a b c d : List ℕ} (gap : Gap) (expr : Expr) → b ≡ a ++ gap_bytes gap ++ codes "(" → Adds b c (expr_pieces none (expr_account light (expr_tree expr))) →
      d ≡ c ++ codes ")" → Adds a d (enclosed_pieces light gap expr)
  unfolding signs words
  enclosed_added gap expr left inner right =
      adds_then (adds_then (adds_word gap kind.LeftParen nowhere (codes "(") refl left) inner) (adds_text kind.RightParen nowhere (codes ")") refl right)

  -- ---- claims and invariants

  pub no_claims_added : {a : List ℕ} (depth : ℕ) (claims : List Expr) → true ≡ eqb (length claims) 0 →
      Adds a a (claims_behind_pieces depth (claims_account light (map expr_tree claims)))
  no_claims_added {a} depth claims nothing =
      subst (λ l. Adds a a (claims_behind_pieces depth (claims_account light (map expr_tree l)))) (sym (is_nothing claims nothing)) adds_none

  pub claims_added : {a b c : List ℕ} (depth : ℕ) (claims : List Expr) → false ≡ eqb (length claims) 0 → b ≡ a ++ codes "," →
      Adds b c (exprs_pieces (pieces.line depth) (pieces.line depth) (accounts_of light claims)) → Adds a c (claims_behind_pieces depth (claims_account light (map expr_tree claims)))
  unfolding signs words
  claims_added depth [] some comma added = absurd (true≢false (sym some))
  claims_added depth (claim ∷ claims) some comma added = adds_then (adds_text kind.Comma nowhere (codes ",") refl comma) added

  pub invariant_added : {a b c d e f g : List ℕ} (depth inner : ℕ) (modifies : List Name) (claims : List Expr) → inner ≡ suc depth →
      b ≡ a ++ gap_bytes (pieces.line depth) ++ codes "Invariant" → c ≡ b ++ codes "(" → d ≡ c ++ gap_bytes (pieces.line inner) ++ codes "Modifies" →
      Adds d e (names_pieces none (names_account modifies)) → Adds e f (claims_behind_pieces inner (claims_account light (map expr_tree claims))) →
      g ≡ f ++ gap_bytes (pieces.line depth) ++ codes ")" → Adds a g (invariant_pieces depth (invariant_account light modifies (map expr_tree claims)))
  unfolding signs words
  invariant_added {a} {b} {c} {d} {e} {f} depth inner modifies claims is word left modified names claimed right =
      adds_then
      (adds_then
      (adds_then (adds_word (pieces.line depth) kind.Invariant nowhere (codes "Invariant") refl word)
      (adds_then (adds_text kind.LeftParen nowhere (codes "(") refl left)
      (adds_then (adds_word (pieces.line (suc depth)) kind.Modifies nowhere (codes "Modifies") refl
      (subst (λ n. d ≡ c ++ gap_bytes (pieces.line n) ++ codes "Modifies") is modified)) names)))
      (subst (λ n. Adds e f (claims_behind_pieces n (claims_account light (map expr_tree claims)))) is claimed))
      (adds_word (pieces.line depth) kind.RightParen nowhere (codes ")") refl right)

  pub deduction_added : {a b c d e : List ℕ} (depth inner : ℕ) (gap : Gap) (steps : List Step) → inner ≡ suc depth → b ≡ a ++ gap_bytes gap ++ codes "Deduce" →
      c ≡ b ++ codes "(" → Adds c d (steps_pieces inner (steps_account light (steps_of (map step_tree steps)))) → e ≡ d ++ gap_bytes (pieces.line depth) ++ codes ")" →
      Adds a e (deduction_pieces light depth gap steps)
  unfolding signs words
  deduction_added {a} {b} {c} {d} depth inner gap steps is word left added right =
      adds_then
      (adds_then (adds_word gap kind.Deduce nowhere (codes "Deduce") refl word)
      (adds_then (adds_text kind.LeftParen nowhere (codes "(") refl left)
      (subst (λ n. Adds c d (steps_pieces n (steps_account light (steps_of (map step_tree steps))))) is added)))
      (adds_word (pieces.line depth) kind.RightParen nowhere (codes ")") refl right)

  -- ---- blocks

  pub braced_added : {a b c d : List ℕ} (depth inner : ℕ) (stmts : List Stmt) → inner ≡ suc depth → b ≡ a ++ gap_bytes blank ++ codes "{" →
      Adds b c (stmt_lines light inner stmts) → d ≡ c ++ gap_bytes (pieces.line depth) ++ codes "}" → Adds a d (braced_pieces light depth stmts)
  unfolding signs words
  braced_added {a} {b} {c} depth inner stmts is left added right =
      adds_then
      (adds_then (adds_word blank kind.LeftBrace nowhere (codes "{") refl left)
      (adds_bytes (stmt_lines light (suc depth) stmts) (stmts_pieces (suc depth) (pieces.line (suc depth)) (stmts_account light (stmts_of (map stmt_tree stmts))))
      (sym (lines_are light (suc depth) stmts)) (subst (λ n. Adds b c (stmt_lines light n stmts)) is added)))
      (adds_word (pieces.line depth) kind.RightBrace nowhere (codes "}") refl right)

  pub loop_added : {a b c d e : List ℕ} (depth inner : ℕ) (modifies : List Name) (claims : List Expr) (body : List Stmt) → inner ≡ suc depth →
      b ≡ a ++ gap_bytes blank ++ codes "{" → Adds b c (invariant_pieces inner (invariant_account light modifies (map expr_tree claims))) → Adds c d (stmt_lines light inner body) →
      e ≡ d ++ gap_bytes (pieces.line depth) ++ codes "}" → Adds a e (loop_of light depth modifies claims body)
  unfolding signs words
  loop_added {a} {b} {c} {d} depth inner modifies claims body is left invariant added right =
      adds_then
      (adds_then
      (adds_then (adds_word blank kind.LeftBrace nowhere (codes "{") refl left)
      (subst (λ n. Adds b c (invariant_pieces n (invariant_account light modifies (map expr_tree claims)))) is invariant))
      (adds_bytes (stmt_lines light (suc depth) body) (loop_pieces (suc depth) (as_body (stmts_account light (stmts_of (map stmt_tree body)))))
      (sym (body_lines light (suc depth) body)) (subst (λ n. Adds c d (stmt_lines light n body)) is added)))
      (adds_word (pieces.line depth) kind.RightBrace nowhere (codes "}") refl right)

  -- ---- what stands behind `else`

  lone_if : (depth : ℕ) (tree : StmtTree) → is_branch tree ≡ true →
      else_pieces depth (as_else (last_stmt (stmt_account light tree))) ≡ mark blank kind.Else nowhere ∷ stmt_pieces depth blank (stmt_account light tree)
  lone_if depth (t.branch place test then otherwise) h = refl
  lone_if depth (t.val place written ty value) h = absurd (true≢false (sym h))
  lone_if depth (t.var place written ty value) h = absurd (true≢false (sym h))
  lone_if depth (t.assignment written value) h = absurd (true≢false (sym h))
  lone_if depth (t.call written arguments) h = absurd (true≢false (sym h))
  lone_if depth (t.loop place test modifies claims body) h = absurd (true≢false (sym h))
  lone_if depth (t.assertion place claim) h = absurd (true≢false (sym h))
  lone_if depth (t.deduction place steps) h = absurd (true≢false (sym h))

  lone_other : (tree : StmtTree) → is_branch tree ≡ false →
      as_else (last_stmt (stmt_account light tree)) ≡ else_block nowhere (s.block nowhere (last_stmt (stmt_account light tree)) nowhere)
  lone_other (t.branch place test then otherwise) h = absurd (true≢false h)
  lone_other (t.val place written ty value) h = refl
  lone_other (t.var place written ty value) h = refl
  lone_other (t.assignment written value) h = refl
  lone_other (t.call written arguments) h = refl
  lone_other (t.loop place test modifies claims body) h = refl
  lone_other (t.assertion place claim) h = refl
  lone_other (t.deduction place steps) h = refl

  else_if_is : (depth : ℕ) (stmt : Stmt) (others : List Stmt) → only_branch (stmt ∷ others) ≡ true →
      else_of_pieces light depth (stmt ∷ others) ≡ mark blank kind.Else nowhere ∷ stmt_pieces depth blank (stmt_account light (stmt_tree stmt))
  else_if_is depth stmt [] h = lone_if depth (stmt_tree stmt) h
  else_if_is depth stmt (other ∷ others) h = absurd (true≢false (sym h))

  else_block_is : (depth : ℕ) (stmts : List Stmt) → only_branch stmts ≡ false → else_of_pieces light depth stmts ≡ mark blank kind.Else nowhere ∷ braced_pieces light depth stmts
  else_block_is depth [] h = refl
  else_block_is depth (stmt ∷ []) h = ap (else_pieces depth) (lone_other (stmt_tree stmt) h)
  else_block_is depth (stmt ∷ other ∷ stmts) h = refl

  pub else_if_added : {a b c : List ℕ} (depth : ℕ) (own : List Stmt) (stmt : Stmt) (others : List Stmt) → own ≡ stmt ∷ others → only_branch (stmt ∷ others) ≡ true →
      b ≡ a ++ gap_bytes blank ++ codes "else" → Adds b c (stmt_pieces depth blank (stmt_account light (stmt_tree stmt))) → Adds a c (else_of_pieces light depth own)
  unfolding signs words
  else_if_added {a} {b} {c} depth own stmt others is lone word added =
      subst (λ o. Adds a c (else_of_pieces light depth o)) (sym is)
      (adds_same _ _ (sym (else_if_is depth stmt others lone)) (adds_then (adds_word blank kind.Else nowhere (codes "else") refl word) added))

  pub else_block_added : {a b c : List ℕ} (depth : ℕ) (own : List Stmt) → only_branch own ≡ false → b ≡ a ++ gap_bytes blank ++ codes "else" →
      Adds b c (braced_pieces light depth own) → Adds a c (else_of_pieces light depth own)
  unfolding signs words
  else_block_added depth own lone word added =
      adds_same _ _ (sym (else_block_is depth own lone)) (adds_then (adds_word blank kind.Else nowhere (codes "else") refl word) added)

  -- ---- statements

  pub adds_stmt : {a b : List ℕ} (depth : ℕ) (gap : Gap) (own tree : StmtTree) → own ≡ tree → Adds a b (stmt_pieces depth gap (stmt_account light tree)) →
      Adds a b (stmt_pieces depth gap (stmt_account light own))
  adds_stmt {a} {b} depth gap own tree same h = subst (λ t. Adds a b (stmt_pieces depth gap (stmt_account light t))) (sym same) h

  pub value_added : {a b c : List ℕ} (depth : ℕ) (gap : Gap) (fixed : Bool) (name : Name) (ty : Option TypeName) (e : Expr) → Adds a b (declared_pieces gap fixed name ty) →
      Adds b c (expr_pieces blank (expr_account light (expr_tree e))) →
      Adds a c (stmt_pieces depth gap (s.value fixed nowhere (bare_name name) (option_map typed_account (option_map type_tree ty)) nowhere (expr_account light (expr_tree e))))
  value_added depth gap fixed name ty e declared added =
      adds_same _ _
      (append_assoc (mark gap (value_word fixed) nowhere ∷ piece blank (name_token (bare_name name)) ∷ optional_typed (option_map typed_account (option_map type_tree ty)))
      (mark blank kind.Equals nowhere ∷ []) (expr_pieces blank (expr_account light (expr_tree e))))
      (adds_then declared added)

  pub assignment_added : {a b c d : List ℕ} (depth : ℕ) (gap : Gap) (name : Name) (e : Expr) → b ≡ a ++ gap_bytes gap ++ name.text → c ≡ b ++ gap_bytes blank ++ codes "=" →
      Adds c d (expr_pieces blank (expr_account light (expr_tree e))) → Adds a d (stmt_pieces depth gap (stmt_account light (t.assignment name (expr_tree e))))
  unfolding signs words
  assignment_added depth gap name e named equals added =
      adds_then (adds_name gap name named) (adds_then (adds_word blank kind.Equals nowhere (codes "=") refl equals) added)

  pub call_added : {a b c : List ℕ} (depth : ℕ) (gap : Gap) (name : Name) (arguments shown : List Expr) → shown ≡ arguments → b ≡ a ++ gap_bytes gap ++ name.text →
      Adds b c (arguments_pieces light shown) → Adds a c (stmt_pieces depth gap (stmt_account light (t.call name (exprs_of (map expr_tree arguments)))))
  call_added {a} {b} {c} depth gap name arguments shown is named added =
      adds_then (adds_name gap name named) (subst (λ l. Adds b c (arguments_pieces light l)) is added)

  pub branch_added : {a b c d e : List ℕ} (depth : ℕ) (gap : Gap) (place : Place) (test : Expr) (then shown : List Stmt) (otherwise : Option (List Stmt)) → shown ≡ then →
      b ≡ a ++ gap_bytes gap ++ codes "if" → Adds b c (enclosed_pieces light blank test) → Adds c d (braced_pieces light depth shown) → Adds d e (otherwise_pieces light depth otherwise) →
      Adds a e (stmt_pieces depth gap (stmt_account light (t.branch place (expr_tree test) (stmts_of (map stmt_tree then)) (else_of (option_map (map stmt_tree) otherwise)))))
  unfolding signs words
  branch_added {a} {b} {c} {d} {e} depth gap place test then shown otherwise is word tested braced added =
      adds_then
      (adds_then (adds_then (adds_word gap kind.If nowhere (codes "if") refl word) tested) (subst (λ l. Adds c d (braced_pieces light depth l)) is braced))
      added

  regroup : (l m n o : List Piece) → l ++ ((m ++ n) ++ o) ≡ ((l ++ m) ++ n) ++ o
  regroup l m n o = simp append_assoc

  pub while_added : {a b c d : List ℕ} (depth : ℕ) (gap : Gap) (place : Place) (test : Expr) (modifies modified : List Name) (claims claimed : List Expr)
      (body shown : List Stmt) → modified ≡ modifies → claimed ≡ claims → shown ≡ body → b ≡ a ++ gap_bytes gap ++ codes "while" → Adds b c (enclosed_pieces light blank test) →
      Adds c d (loop_of light depth modified claimed shown) →
      Adds a d (stmt_pieces depth gap (stmt_account light (t.loop place (expr_tree test) modifies (map expr_tree claims) (stmts_of (map stmt_tree body)))))
  unfolding signs words
  while_added {a} {b} {c} {d} depth gap place test modifies modified claims claimed body shown modifies_is claims_is body_is word tested added =
      adds_same _ _
      (regroup (mark gap kind.While nowhere ∷ enclosed_pieces light blank test)
      (mark blank kind.LeftBrace nowhere ∷ invariant_pieces (suc depth) (invariant_account light modifies (map expr_tree claims)))
      (loop_pieces (suc depth) (as_body (stmts_account light (stmts_of (map stmt_tree body))))) (mark (pieces.line depth) kind.RightBrace nowhere ∷ []))
      (adds_then (adds_then (adds_word gap kind.While nowhere (codes "while") refl word) tested)
      (subst (λ l. Adds c d (loop_of light depth l claims body)) modifies_is
      (subst (λ l. Adds c d (loop_of light depth modified l body)) claims_is (subst (λ l. Adds c d (loop_of light depth modified claimed l)) body_is added))))

  pub assertion_added : {a b c : List ℕ} (depth : ℕ) (gap : Gap) (place : Place) (claim : Expr) → b ≡ a ++ gap_bytes gap ++ codes "assert" →
      Adds b c (enclosed_pieces light none claim) → Adds a c (stmt_pieces depth gap (stmt_account light (t.assertion place (expr_tree claim))))
  unfolding signs words
  assertion_added depth gap place claim word added = adds_then (adds_word gap kind.Assert nowhere (codes "assert") refl word) added

  pub deduce_added : {a b : List ℕ} (depth : ℕ) (gap : Gap) (place : Place) (steps shown : List Step) → shown ≡ steps → Adds a b (deduction_pieces light depth gap shown) →
      Adds a b (stmt_pieces depth gap (stmt_account light (t.deduction place (steps_of (map step_tree steps)))))
  deduce_added {a} {b} depth gap place steps shown is added = subst (λ l. Adds a b (deduction_pieces light depth gap l)) is added

  pub otherwise_added : {a b : List ℕ} (depth : ℕ) (own : Option (List Stmt)) (stmts shown : List Stmt) → own ≡ Some stmts → shown ≡ stmts →
      Adds a b (else_of_pieces light depth shown) → Adds a b (otherwise_pieces light depth own)
  otherwise_added {a} {b} depth own stmts shown is same added =
      subst (λ o. Adds a b (otherwise_pieces light depth o)) (sym is) (subst (λ l. Adds a b (else_of_pieces light depth l)) same added)
