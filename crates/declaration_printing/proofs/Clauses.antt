-- The clauses of a contract, from those that were added one after the other.
use Rattle.std.proofs.Common.{◌≡◌, ℕ, suc, ◌&&◌, eqb, Bool, true, false, true≢false, Option, Some, None, List, [], ◌∷◌, ◌++◌, map, codes, length, append_assoc, append-nil, refl, sym, ap, ap₂, ◌∙◌, subst, arith}
use Rattle.std.proofs.lemmas.Bool.Decides.{Decides-eqb}
use Rattle.slang_lexer.specs.declared.token.TokenKind.TheVariants as kind
use Rattle.slang_lexer.specs.Spelling.{signs, words}
use Rattle.slang_tree.specs.declared.expression.Name.{Name}
use Rattle.slang_tree.specs.declared.expression.Expr.{Expr}
use Rattle.slang_tree.specs.declared.declaration.MethodDecl.{MethodDecl}
use Rattle.slang_tree.specs.ExprTree.{expr_tree}
use Rattle.slang_tree.specs.DeclTree.{method_decl_tree}
use Rattle.slang_grammar.specs.Declarations.{ClauseText}
use Rattle.print_expressions.specs.Bare.{nowhere}
use Rattle.print_statements.specs.Accounts.{listed_of, names_account}
use Rattle.print_declarations.specs.Accounts.{requires_clauses, modifies_clauses, ensures_clauses, clauses_of, contract_parts}
use Rattle.print_layout.specs.Pieces.{none, line, Piece, mark, gap_bytes, listed_pieces}
use Rattle.print_layout.specs.Expressions.{names_pieces}
use Rattle.print_layout.specs.Declarations.{clause_pieces}
use Rattle.expression_printing.specs.Printed.{Adds, arguments_pieces}
use Rattle.expression_printing.proofs.Adds.{adds_none, adds_then, adds_text, adds_word}
use Rattle.expression_printing.proofs.Forms.{adds_same}
use Rattle.declaration_printing.specs.Printed.{comma_unless, clauses_joined, clauses_written, part_lines}

is_nil : {X : Type 0} → List X → Bool
is_nil [] = true
is_nil (x ∷ xs) = false

nil_is : {X : Type 0} (xs : List X) (said : Bool) → said ≡ eqb (length xs) 0 → said ≡ is_nil xs
unfolding is_nil
nil_is [] said h = h
nil_is (x ∷ xs) true h = absurd (let z : length (x ∷ xs) ≡ 0 = (Decides-eqb (length (x ∷ xs)) 0).0 (sym h) in omega arith)
nil_is (x ∷ xs) false h = refl

nil_of : {X : Type 0} (xs : List X) → eqb (length xs) 0 ≡ is_nil xs
nil_of xs = nil_is xs (eqb (length xs) 0) refl

-- ---- each clause

module _ (light : Bool) where
  pub no_requires_added : {a : List ℕ} (claims : List Expr) → true ≡ eqb (length claims) 0 →
      Adds a a (clauses_joined true (requires_clauses light (map expr_tree claims)))
  unfolding is_nil
  no_requires_added [] h = adds_none
  no_requires_added (claim ∷ claims) h = absurd (true≢false (nil_is (claim ∷ claims) true h))

  pub requires_added : {a b c : List ℕ} (claims : List Expr) → false ≡ eqb (length claims) 0 → b ≡ a ++ gap_bytes (line 2) ++ codes "Requires" →
      Adds b c (arguments_pieces light claims) → Adds a c (clauses_joined true (requires_clauses light (map expr_tree claims)))
  unfolding signs words is_nil
  requires_added [] h word added = absurd (true≢false (sym (nil_is {X = Expr} [] false h)))
  requires_added (claim ∷ claims) h word added =
      adds_same _ _ (sym (append-nil (mark (line 2) kind.Requires nowhere ∷ arguments_pieces light (claim ∷ claims))))
      (adds_then (adds_word (line 2) kind.Requires nowhere (codes "Requires") refl word) added)

pub no_modifies_added : {a : List ℕ} (first : Bool) (names : List Name) → true ≡ eqb (length names) 0 → Adds a a (clauses_joined first (modifies_clauses names))
unfolding is_nil
no_modifies_added first [] h = adds_none
no_modifies_added first (name ∷ names) h = absurd (true≢false (nil_is (name ∷ names) true h))

pub modifies_added : {a b c d : List ℕ} (first : Bool) (names : List Name) → false ≡ eqb (length names) 0 → Adds a b (comma_unless first) →
    c ≡ b ++ gap_bytes (line 2) ++ codes "Modifies" → Adds c d (names_pieces none (names_account names)) →
    Adds a d (clauses_joined first (modifies_clauses names))
unfolding signs words is_nil
modifies_added first [] h comma word added = absurd (true≢false (sym (nil_is {X = Name} [] false h)))
modifies_added first (name ∷ names) h comma word added =
    adds_same _ _ (sym (append-nil (comma_unless first ++ (mark (line 2) kind.Modifies nowhere ∷ names_pieces none (names_account (name ∷ names))))))
    (adds_then comma (adds_then (adds_word (line 2) kind.Modifies nowhere (codes "Modifies") refl word) added))

module _ (light : Bool) where
  pub no_ensures_added : {a : List ℕ} (first : Bool) (claims : List Expr) → true ≡ eqb (length claims) 0 →
      Adds a a (clauses_joined first (ensures_clauses light (map expr_tree claims)))
  unfolding is_nil
  no_ensures_added first [] h = adds_none
  no_ensures_added first (claim ∷ claims) h = absurd (true≢false (nil_is (claim ∷ claims) true h))

  pub ensures_added : {a b c d : List ℕ} (first : Bool) (claims : List Expr) → false ≡ eqb (length claims) 0 → Adds a b (comma_unless first) →
      c ≡ b ++ gap_bytes (line 2) ++ codes "Ensures" → Adds c d (arguments_pieces light claims) →
      Adds a d (clauses_joined first (ensures_clauses light (map expr_tree claims)))
  unfolding signs words is_nil
  ensures_added first [] h comma word added = absurd (true≢false (sym (nil_is {X = Expr} [] false h)))
  ensures_added first (claim ∷ claims) h comma word added =
      adds_same _ _ (sym (append-nil (comma_unless first ++ (mark (line 2) kind.Ensures nowhere ∷ arguments_pieces light (claim ∷ claims)))))
      (adds_then comma (adds_then (adds_word (line 2) kind.Ensures nowhere (codes "Ensures") refl word) added))

-- ---- all clauses

joined-append : (first : Bool) (xs ys : List ClauseText) → clauses_joined first (xs ++ ys) ≡ clauses_joined first xs ++ clauses_joined (first && is_nil xs) ys
unfolding is_nil
joined-append true [] ys = refl
joined-append false [] ys = refl
joined-append true (x ∷ xs) ys =
    ap (λ l. (comma_unless true ++ clause_pieces (line 2) x) ++ l) (joined-append false xs ys)
    ∙ sym (append_assoc (comma_unless true ++ clause_pieces (line 2) x) (clauses_joined false xs) (clauses_joined false ys))
joined-append false (x ∷ xs) ys =
    ap (λ l. (comma_unless false ++ clause_pieces (line 2) x) ++ l) (joined-append false xs ys)
    ∙ sym (append_assoc (comma_unless false ++ clause_pieces (line 2) x) (clauses_joined false xs) (clauses_joined false ys))

module _ (light : Bool) where
  nil_requires : (claims : List Expr) → is_nil (requires_clauses light (map expr_tree claims)) ≡ is_nil claims
  unfolding is_nil
  nil_requires [] = refl
  nil_requires (claim ∷ claims) = refl

  nil_first_two : (claims : List Expr) (names : List Name) →
      is_nil (requires_clauses light (map expr_tree claims) ++ modifies_clauses names) ≡ (is_nil claims && is_nil names)
  unfolding is_nil
  nil_first_two [] [] = refl
  nil_first_two [] (name ∷ names) = refl
  nil_first_two (claim ∷ claims) names = refl

  nil_written : (claims : List Expr) (names : List Name) (ensured : List Expr) →
      is_nil (clauses_written light claims names ensured) ≡ ((is_nil claims && is_nil names) && is_nil ensured)
  unfolding is_nil
  nil_written [] [] [] = refl
  nil_written [] [] (e ∷ es) = refl
  nil_written [] (name ∷ names) ensured = refl
  nil_written (claim ∷ claims) names ensured = refl

  pub clauses_added : {a b c d : List ℕ} (claims : List Expr) (names : List Name) (ensured : List Expr) (first neither : Bool) → first ≡ eqb (length claims) 0 →
      neither ≡ (eqb (length claims) 0 && eqb (length names) 0) → Adds a b (clauses_joined true (requires_clauses light (map expr_tree claims))) →
      Adds b c (clauses_joined first (modifies_clauses names)) → Adds c d (clauses_joined neither (ensures_clauses light (map expr_tree ensured))) →
      Adds a d (clauses_joined true (clauses_written light claims names ensured))
  clauses_added {a} {b} {c} {d} claims names ensured first neither first_is neither_is h k m =
      let required = requires_clauses light (map expr_tree claims) in
      let modified = modifies_clauses names in
      let k2 : Adds b c (clauses_joined (is_nil required) modified)
      = subst (λ f. Adds b c (clauses_joined f modified)) (first_is ∙ nil_of claims ∙ sym (nil_requires claims)) k in
      let m2 : Adds c d (clauses_joined (is_nil (required ++ modified)) (ensures_clauses light (map expr_tree ensured)))
      = subst (λ f. Adds c d (clauses_joined f (ensures_clauses light (map expr_tree ensured))))
      (neither_is ∙ ap₂ (λ x y. x && y) (nil_of claims) (nil_of names) ∙ sym (nil_first_two claims names)) m in
      adds_same _ _ (sym (joined-append true (required ++ modified) (ensures_clauses light (map expr_tree ensured))))
      (adds_then (adds_same _ _ (sym (joined-append true required modified)) (adds_then h k2)) m2)

clauses_from : (before : Option ClauseText) (clause : ClauseText) (clauses : List ClauseText) →
    listed_pieces kind.Comma (λ b it. clause_pieces (line 2) it) before (listed_of (clause ∷ clauses)).front (listed_of (clause ∷ clauses)).last
    ≡ clause_pieces (line 2) clause ++ clauses_joined false clauses
clauses_from before clause [] = sym (append-nil (clause_pieces (line 2) clause))
clauses_from before clause (other ∷ clauses) =
    ap (λ l. clause_pieces (line 2) clause ++ (mark none kind.Comma nowhere ∷ l)) (clauses_from (Some clause) other clauses)

contract_of : {a b c d e : List ℕ} (clauses : List ClauseText) → is_nil clauses ≡ false → b ≡ a ++ gap_bytes (line 1) ++ codes "Contract" → c ≡ b ++ codes "(" →
    Adds c d (clauses_joined true clauses) → e ≡ d ++ gap_bytes (line 1) ++ codes ")" → Adds a e (part_lines (contract_parts clauses))
unfolding signs words is_nil
contract_of [] h word left added right = absurd (true≢false h)
contract_of (clause ∷ clauses) h word left added right =
    let last = mark (line 1) kind.RightParen nowhere ∷ [] in
    adds_same _ _
    (ap (λ l. (mark (line 1) kind.Contract nowhere ∷ mark none kind.LeftParen nowhere ∷ l) ++ last) (sym (clauses_from None clause clauses))
    ∙ sym (append-nil ((mark (line 1) kind.Contract nowhere ∷ mark none kind.LeftParen nowhere
    ∷ listed_pieces kind.Comma (λ b it. clause_pieces (line 2) it) None (listed_of (clause ∷ clauses)).front (listed_of (clause ∷ clauses)).last) ++ last)))
    (adds_then
    (adds_then (adds_word (line 1) kind.Contract nowhere (codes "Contract") refl word) (adds_then (adds_text kind.LeftParen nowhere
    (codes "(") refl left) added))
    (adds_word (line 1) kind.RightParen nowhere (codes ")") refl right))

module _ (light : Bool) where
  pub contract_added : {a b c d e : List ℕ} (claims : List Expr) (names : List Name) (ensured : List Expr) →
      false ≡ ((eqb (length claims) 0 && eqb (length names) 0) && eqb (length ensured) 0) → b ≡ a ++ gap_bytes (line 1) ++ codes "Contract" → c ≡ b ++ codes "(" →
      Adds c d (clauses_joined true (clauses_written light claims names ensured)) → e ≡ d ++ gap_bytes (line 1) ++ codes ")" →
      Adds a e (part_lines (contract_parts (clauses_written light claims names ensured)))
  contract_added claims names ensured h word left added right =
      contract_of (clauses_written light claims names ensured)
      (nil_written light claims names ensured ∙ ap₂ (λ x y. x && y) (ap₂ (λ x y. x && y) (sym (nil_of claims)) (sym (nil_of names))) (sym (nil_of ensured)) ∙ sym h)
      word left added right

no_contract : {a : List ℕ} (clauses : List ClauseText) → is_nil clauses ≡ true → Adds a a (part_lines (contract_parts clauses))
unfolding is_nil
no_contract [] h = adds_none
no_contract (clause ∷ clauses) h = absurd (true≢false (sym h))

module _ (light : Bool) where
  pub no_contract_added : {a : List ℕ} (claims : List Expr) (names : List Name) (ensured : List Expr) →
      true ≡ ((eqb (length claims) 0 && eqb (length names) 0) && eqb (length ensured) 0) →
      Adds a a (part_lines (contract_parts (clauses_written light claims names ensured)))
  no_contract_added claims names ensured h =
      no_contract (clauses_written light claims names ensured)
      (nil_written light claims names ensured ∙ ap₂ (λ x y. x && y) (ap₂ (λ x y. x && y) (sym (nil_of claims)) (sym (nil_of names))) (sym (nil_of ensured)) ∙ sym h)

  -- the clauses of a method
  pub contract_shown : {a b : List ℕ} (decl : MethodDecl) (claims : List Expr) (names : List Name) (ensured : List Expr) → claims ≡ decl.requires_ →
      names ≡ decl.modifies →
      ensured ≡ decl.ensures_ → Adds a b (part_lines (contract_parts (clauses_written light claims names ensured))) →
      Adds a b (part_lines (contract_parts (clauses_of light (method_decl_tree decl))))
  contract_shown {a} {b} decl claims names ensured claims_is names_is ensured_is h =
      subst (λ l. Adds a b (part_lines (contract_parts (clauses_written light decl.requires_ decl.modifies l)))) ensured_is
      (subst (λ l. Adds a b (part_lines (contract_parts (clauses_written light decl.requires_ l ensured)))) names_is
      (subst (λ l. Adds a b (part_lines (contract_parts (clauses_written light l names ensured)))) claims_is h))
