-- Bytes that were added one after the other.
use Rattle.std.proofs.Common.{◌≡◌, ℕ, Bool, List, [], ◌∷◌, ◌++◌, append_assoc, append-nil, refl, sym, ap, ◌∙◌, subst}
use Rattle.slang_lexer.specs.declared.token.TokenKind.{TokenKind}
use Rattle.slang_tree.specs.declared.place.Place.{Place}
use Rattle.slang_tree.specs.declared.expression.Name.{Name}
use Rattle.slang_tree.specs.ExprTree.{ExprTree}
use Rattle.slang_tokens.specs.Tok.{Tok, sign}
use Rattle.slang_grammar.specs.Parts.{name_token}
use Rattle.print_expressions.specs.Bare.{bare_name}
use Rattle.print_expressions.specs.Accounts.{expr_account}
use Rattle.print_layout.specs.Pieces.{Gap, none, Piece, piece, mark, gap_bytes, spelling, bytes_of}
use Rattle.print_layout.specs.Expressions.{expr_pieces}
use Rattle.expression_printing.specs.Printed.{Adds}

pub bytes-append : (xs ys : List Piece) → bytes_of (xs ++ ys) ≡ bytes_of xs ++ bytes_of ys
bytes-append [] ys = refl
bytes-append (x ∷ xs) ys =
    ap (λ l. (gap_bytes x.gap ++ spelling x.token) ++ l) (bytes-append xs ys)
    ∙ sym (append_assoc (gap_bytes x.gap ++ spelling x.token) (bytes_of xs) (bytes_of ys))

pub adds_none : {a : List ℕ} → Adds a a []
adds_none {a} = record { is = sym (append-nil a) }

pub adds_then : {a b c : List ℕ} {xs ys : List Piece} → Adds a b xs → Adds b c ys → Adds a c (xs ++ ys)
adds_then {a} {b} {c} {xs} {ys} h k = record {
  is = k.is ∙ ap (λ l. l ++ bytes_of ys) h.is ∙ append_assoc a (bytes_of xs) (bytes_of ys) ∙ ap (λ l. a ++ l) (sym (bytes-append xs ys));
}

-- a token behind a gap
pub adds_token : {a b : List ℕ} (gap : Gap) (token : Tok) (word : List ℕ) → spelling token ≡ word → b ≡ a ++ gap_bytes gap ++ word → Adds a b (piece gap token ∷ [])
adds_token {a} gap token word spelled h = record {
  is = h ∙ append_assoc a (gap_bytes gap) word ∙ ap (λ w. a ++ (gap_bytes gap ++ w)) (sym spelled)
      ∙ ap (λ l. a ++ l) (sym (append-nil (gap_bytes gap ++ spelling token)));
}

pub adds_word : {a b : List ℕ} (gap : Gap) (k : TokenKind) (place : Place) (word : List ℕ) → spelling (sign k place) ≡ word → b ≡ a ++ gap_bytes gap ++ word →
    Adds a b (mark gap k place ∷ [])
adds_word gap k place word spelled h = adds_token gap (sign k place) word spelled h

pub adds_text : {a b : List ℕ} (k : TokenKind) (place : Place) (word : List ℕ) → spelling (sign k place) ≡ word → b ≡ a ++ word → Adds a b (mark none k place ∷ [])
adds_text {a} k place word spelled h = adds_token none (sign k place) word spelled (h ∙ ap (λ l. l ++ word) (sym (append-nil a)))

pub adds_name : {a b : List ℕ} (gap : Gap) (written : Name) → b ≡ a ++ gap_bytes gap ++ written.text → Adds a b (piece gap (name_token (bare_name written)) ∷ [])
adds_name gap written h = adds_token gap (name_token (bare_name written)) written.text refl h

-- what is printed of a tree
pub adds_tree : {a b : List ℕ} (light : Bool) (gap : Gap) (own tree : ExprTree) → own ≡ tree → Adds a b (expr_pieces gap (expr_account light tree))
    → Adds a b (expr_pieces gap (expr_account light own))
adds_tree {a} {b} light gap own tree same h = subst (λ t. Adds a b (expr_pieces gap (expr_account light t))) (sym same) h
