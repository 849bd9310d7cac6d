-- The forms of constants, from the parts that were added one after the other.
use Rattle.std.proofs.Common.{◌≡◌, ℕ, ℤ, suc, ◌+◌, ◌<◌, Option, List, [], ◌∷◌, ◌++◌, map, codes, take, length, get_or, append_assoc, append-nil, refl, sym, ap, ◌∙◌, subst}
use Rattle.std.specs.Prelude.{nat_abs}
use Rattle.std.specs.Option.{option_map}
use Rattle.std.proofs.lemmas.List.{take_more}
use Rattle.slang_lexer.specs.declared.token.TokenKind.TheVariants as kind
use Rattle.slang_lexer.specs.Spelling.{signs, words}
use Rattle.slang_tree.specs.declared.place.Place.{Place}
use Rattle.slang_tree.specs.declared.expression.Name.{Name}
use Rattle.slang_tree.specs.declared.expression.TypeName.{TypeName}
use Rattle.slang_tree.specs.declared.declaration.Const.{Const}
use Rattle.slang_tree.specs.TypeTree.{type_tree}
use Rattle.slang_tree.specs.DeclTree.{ConstTree, const_minus, const_sequence, const_record, const_tree, consts_of}
use Rattle.slang_grammar.specs.Expressions.{number}
use Rattle.print_expressions.specs.Bare.{nowhere}
use Rattle.print_expressions.specs.Accounts.{numeral}
use Rattle.print_declarations.specs.Accounts.{const_account, consts_account}
use Rattle.print_layout.specs.Pieces.{Gap, none, blank, Piece, mark, gap_bytes}
use Rattle.print_layout.specs.Expressions.{expr_pieces}
use Rattle.print_layout.specs.Declarations.{const_pieces, consts_pieces}
use Rattle.expression_printing.specs.Printed.{Adds, element_pieces}
use Rattle.expression_printing.proofs.Adds.{adds_then, adds_text, adds_word, adds_name}
use Rattle.expression_printing.proofs.Forms.{adds_same}
use Rattle.constant_printing.specs.Printed.{enclosed_consts, consts_listed, consts_behind}

-- what is printed of a tree
pub adds_const : {a b : List ℕ} (gap : Gap) (own tree : ConstTree) → own ≡ tree → Adds a b (const_pieces gap (const_account tree)) →
    Adds a b (const_pieces gap (const_account own))
adds_const {a} {b} gap own tree same h = subst (λ t. Adds a b (const_pieces gap (const_account t))) (sym same) h

-- a number, as the code holds it
pub number_held : {a b : List ℕ} (gap : Gap) (held z : ℤ) → held ≡ z → Adds a b (expr_pieces gap (number (numeral (nat_abs held)) nowhere)) →
    Adds a b (expr_pieces gap (number (numeral (nat_abs z)) nowhere))
number_held {a} {b} gap held z is h = subst (λ n. Adds a b (expr_pieces gap (number (numeral (nat_abs n)) nowhere))) is h

pub minus_added : {a b c : List ℕ} (gap : Gap) (place digits : Place) (z : ℤ) → b ≡ a ++ gap_bytes gap ++ codes "-" →
    Adds b c (expr_pieces none (number (numeral (nat_abs z)) nowhere)) → Adds a c (const_pieces gap (const_account (const_minus place digits z)))
unfolding signs words
minus_added gap place digits z minus added = adds_then (adds_word gap kind.Minus nowhere (codes "-") refl minus) added

-- ---- lists

consts_are : (gap : Gap) (constant : Const) (constants : List Const) →
    consts_pieces gap (consts_account (consts_of (map const_tree (constant ∷ constants)))) ≡ const_pieces gap (const_account (const_tree constant)) ++ consts_behind constants
consts_are gap constant [] = sym (append-nil (const_pieces gap (const_account (const_tree constant))))
consts_are gap constant (other ∷ constants) =
    ap (λ l. const_pieces gap (const_account (const_tree constant)) ++ (mark none kind.Comma nowhere ∷ l)) (consts_are blank other constants)

pub listed_added : {a b c : List ℕ} (own : List Const) (constant : Const) (constants : List Const) → own ≡ constant ∷ constants →
    Adds a b (const_pieces none (const_account (const_tree constant))) → Adds b c (consts_behind constants) → Adds a c (consts_listed own)
listed_added {a} {b} {c} own constant constants is h k =
    subst (λ o. Adds a c (consts_listed o)) (sym is) (adds_same _ _ (sym (consts_are none constant constants)) (adds_then h k))

behind-append : (xs ys : List Const) → consts_behind (xs ++ ys) ≡ consts_behind xs ++ consts_behind ys
behind-append [] ys = refl
behind-append (x ∷ xs) ys =
    ap (λ l. (mark none kind.Comma nowhere ∷ const_pieces blank (const_account (const_tree x))) ++ l) (behind-append xs ys)
    ∙ sym (append_assoc (mark none kind.Comma nowhere ∷ const_pieces blank (const_account (const_tree x))) (consts_behind xs) (consts_behind ys))

-- one constant more behind a comma
pub one_behind : {a b c d : List ℕ} (constants : List Const) (at : ℕ) (constant : Const) → at < length constants → constant ≡ get_or constants at constant →
    Adds a b (consts_behind (take at constants)) → c ≡ b ++ codes "," → Adds c d (const_pieces blank (const_account (const_tree constant))) →
    Adds a d (consts_behind (take (at + 1) constants))
unfolding signs words
one_behind {a} {b} {c} {d} constants at constant within is before comma added =
    adds_same _ _
    (ap (λ l. consts_behind (take at constants) ++ l) (sym (append-nil (mark none kind.Comma nowhere ∷ const_pieces blank (const_account (const_tree constant)))))
    ∙ sym (behind-append (take at constants) (constant ∷ []))
    ∙ ap consts_behind (ap (λ x. take at constants ++ x ∷ []) is ∙ sym (take_more constants at constant within)))
    (adds_then before (adds_then (adds_text kind.Comma nowhere (codes ",") refl comma) added))

pub enclosed_added : {a b c d : List ℕ} (constants : List Const) → b ≡ a ++ codes "(" → Adds b c (consts_listed constants) → d ≡ c ++ codes ")" →
    Adds a d (enclosed_consts constants)
unfolding signs words
enclosed_added constants left listed right =
    adds_then (adds_then (adds_text kind.LeftParen nowhere (codes "(") refl left) listed) (adds_text kind.RightParen nowhere (codes ")") refl right)

-- ---- sequences and records

pub sequence_added : {a b c d : List ℕ} (gap : Gap) (place : Place) (ty : Option TypeName) (elements shown : List Const) → shown ≡ elements →
    b ≡ a ++ gap_bytes gap ++ codes "ISZ" → Adds b c (element_pieces ty) → Adds c d (enclosed_consts shown) →
    Adds a d (const_pieces gap (const_account (const_sequence place (option_map type_tree ty) (consts_of (map const_tree elements)))))
unfolding signs words
sequence_added {a} {b} {c} {d} gap place ty elements shown is word element enclosed =
    adds_same _ _
    (sym (append_assoc (mark gap kind.TypeIsz nowhere ∷ element_pieces ty) (mark none kind.LeftParen nowhere ∷ consts_listed elements)
    (mark none kind.RightParen nowhere ∷ [])))
    (adds_then (adds_then (adds_word gap kind.TypeIsz nowhere (codes "ISZ") refl word) element) (subst (λ l. Adds c d (enclosed_consts l)) is enclosed))

pub record_added : {a b c : List ℕ} (gap : Gap) (name : Name) (fields shown : List Const) → shown ≡ fields → b ≡ a ++ gap_bytes gap ++ name.text →
    Adds b c (enclosed_consts shown) → Adds a c (const_pieces gap (const_account (const_record name (consts_of (map const_tree fields)))))
record_added {a} {b} {c} gap name fields shown is named enclosed =
    adds_then (adds_name gap name named) (subst (λ l. Adds b c (enclosed_consts l)) is enclosed)
