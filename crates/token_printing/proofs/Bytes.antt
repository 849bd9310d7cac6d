-- Bytes one after the other.
use Rattle.std.proofs.Common.{◌≡◌, ℕ, zero, suc, ◌+◌, ◌*◌, List, [], ◌∷◌, ◌++◌, replicate, codes, append_assoc, append-nil, refl, sym, ap, ◌∙◌, arith}
use Rattle.slang_lexer.specs.declared.token.TokenKind.TheVariants as kind
use Rattle.slang_lexer.specs.Spelling.{signs, words}
use Rattle.slang_tree.specs.declared.place.Place.{Place}
use Rattle.slang_tree.specs.declared.expression.Name.{Name}
use Rattle.slang_tree.specs.TypeTree.{TypeTree, sequence_name}
use Rattle.print_expressions.specs.Bare.{nowhere}
use Rattle.print_expressions.specs.Accounts.{type_account}
use Rattle.slang_grammar.specs.Parts.{TypeText, z_type, b_type, unit_type, sequence_type, record_type}
use Rattle.print_layout.specs.Pieces.{Gap, none, Piece, mark, gap_bytes, spelling, bytes_of}
use Rattle.print_layout.specs.Expressions.{type_pieces}

-- what was added, and then more
pub then_bytes : (old middle new a b : List ℕ) → middle ≡ old ++ a → new ≡ middle ++ b → new ≡ old ++ (a ++ b)
then_bytes old middle new a b h k = k ∙ ap (λ l. l ++ b) h ∙ append_assoc old a b

abbrev blanks : ℕ → List ℕ
blanks n = replicate n 32

two_more : (k : ℕ) → blanks k ++ blanks 2 ≡ blanks (suc (suc k))
two_more zero = refl
two_more (suc k) = ap (λ l. 32 ∷ l) (two_more k)

-- two blanks more
pub blanks_more : (old middle new : List ℕ) (n : ℕ) → middle ≡ old ++ replicate (2 * n) 32 → new ≡ middle ++ codes "  " → new ≡ old ++ replicate (2 * (n + 1)) 32
blanks_more old middle new n h k =
    then_bytes old middle new (blanks (2 * n)) (blanks 2) h k
    ∙ ap (λ l. old ++ l) (two_more (2 * n) ∙ ap blanks (let e : suc (suc (2 * n)) ≡ 2 * (n + 1) = omega arith in e))

bytes-append : (xs ys : List Piece) → bytes_of (xs ++ ys) ≡ bytes_of xs ++ bytes_of ys
bytes-append [] ys = refl
bytes-append (x ∷ xs) ys =
    ap (λ l. (gap_bytes x.gap ++ spelling x.token) ++ l) (bytes-append xs ys)
    ∙ sym (append_assoc (gap_bytes x.gap ++ spelling x.token) (bytes_of xs) (bytes_of ys))

-- ---- types

pub type_line-Z : (gap : Gap) (place : Place) → gap_bytes gap ++ codes "Z" ≡ bytes_of (type_pieces gap (z_type place))
unfolding signs words
type_line-Z gap place = sym (append-nil (gap_bytes gap ++ codes "Z"))

pub type_line-B : (gap : Gap) (place : Place) → gap_bytes gap ++ codes "B" ≡ bytes_of (type_pieces gap (b_type place))
unfolding signs words
type_line-B gap place = sym (append-nil (gap_bytes gap ++ codes "B"))

pub type_line-Unit : (gap : Gap) (place : Place) → gap_bytes gap ++ codes "Unit" ≡ bytes_of (type_pieces gap (unit_type place))
unfolding signs words
type_line-Unit gap place = sym (append-nil (gap_bytes gap ++ codes "Unit"))

pub type_line-Named : (gap : Gap) (written : Name) → gap_bytes gap ++ written.text ≡ bytes_of (type_pieces gap (record_type written))
type_line-Named gap written = sym (append-nil (gap_bytes gap ++ written.text))

pub type_line-Seq : (gap : Gap) (word left : Place) (element : TypeText) (right : Place) →
    (gap_bytes gap ++ codes "ISZ[") ++ bytes_of (type_pieces none element) ++ codes "]" ≡ bytes_of (type_pieces gap (sequence_type word left element right))
unfolding signs words
type_line-Seq gap word left element right =
    ap (λ l. l ++ bytes_of (type_pieces none element) ++ codes "]") (sym (append_assoc (gap_bytes gap) (codes "ISZ") (codes "[")))
    ∙ ap (λ l. l ++ codes "]") (append_assoc (gap_bytes gap ++ codes "ISZ") (codes "[") (bytes_of (type_pieces none element)))
    ∙ append_assoc (gap_bytes gap ++ codes "ISZ") (codes "[" ++ bytes_of (type_pieces none element)) (codes "]")
    ∙ ap (λ l. (gap_bytes gap ++ codes "ISZ") ++ (91 ∷ l)) (sym (bytes-append (type_pieces none element) (mark none kind.RightBracket right ∷ [])))

-- ---- types of the code

pub type_said : (old new word : List ℕ) (gap : Gap) (ty tree : TypeTree) → new ≡ old ++ gap_bytes gap ++ word → ty ≡ tree →
    gap_bytes gap ++ word ≡ bytes_of (type_pieces gap (type_account tree)) → new ≡ old ++ bytes_of (type_pieces gap (type_account ty))
type_said old new word gap ty tree h same line =
    h ∙ append_assoc old (gap_bytes gap) word ∙ ap (λ l. old ++ l) line ∙ ap (λ t. old ++ bytes_of (type_pieces gap (type_account t))) (sym same)

pub sequence_said : (old first second new : List ℕ) (gap : Gap) (place : Place) (ty element : TypeTree) → first ≡ old ++ gap_bytes gap ++ codes "ISZ[" →
    second ≡ first ++ bytes_of (type_pieces none (type_account element)) → new ≡ second ++ codes "]" → ty ≡ sequence_name place element →
    new ≡ old ++ bytes_of (type_pieces gap (type_account ty))
sequence_said old first second new gap place ty element h k l same =
    let front = gap_bytes gap ++ codes "ISZ[" in
    let inner = bytes_of (type_pieces none (type_account element)) in
    then_bytes old second new (front ++ inner) (codes "]")
    (then_bytes old first second front inner (h ∙ append_assoc old (gap_bytes gap) (codes "ISZ[")) k) l
    ∙ ap (λ bytes. old ++ bytes) (type_line-Seq gap nowhere nowhere (type_account element) nowhere)
    ∙ ap (λ t. old ++ bytes_of (type_pieces gap (type_account t))) (sym same)
