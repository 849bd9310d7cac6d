-- Parameters, fields and paths, from the members that were added one after the other.
use Rattle.std.proofs.Common.{◌≡◌, ℕ, suc, ◌+◌, ◌<◌, Option, Some, None, List, [], ◌∷◌, ◌++◌, map, codes, take, length, get_or, append_assoc, append-nil, refl, sym, ap, ◌∙◌, subst}
use Rattle.std.proofs.lemmas.List.{take_more}
use Rattle.slang_lexer.specs.declared.token.TokenKind.TheVariants as kind
use Rattle.slang_lexer.specs.Spelling.{signs, words}
use Rattle.slang_tree.specs.declared.expression.Name.{Name}
use Rattle.slang_tree.specs.DeclTree.{TypedName}
use Rattle.slang_tree.specs.TypeTree.{TypeTree}
use Rattle.slang_grammar.specs.Parts.{name_token}
use Rattle.slang_grammar.specs.Declarations.{ParamText, FieldText}
use Rattle.print_expressions.specs.Bare.{nowhere, bare_name}
use Rattle.print_expressions.specs.Accounts.{type_account}
use Rattle.print_statements.specs.Accounts.{listed_of}
use Rattle.print_declarations.specs.Accounts.{param_account, field_account, path_account}
use Rattle.print_layout.specs.Pieces.{Gap, none, blank, Piece, piece, mark, gap_bytes, listed_pieces, gap_before, bytes_of}
use Rattle.print_layout.specs.Expressions.{type_pieces}
use Rattle.print_layout.specs.Declarations.{param_pieces, field_pieces, path_pieces}
use Rattle.expression_printing.specs.Printed.{Adds}
use Rattle.expression_printing.proofs.Adds.{adds_none, adds_then, adds_text, adds_name}
use Rattle.expression_printing.proofs.Forms.{adds_same}
use Rattle.declaration_printing.specs.Printed.{named_pieces, params_behind, params_listed, path_behind}

pub named_added : {a b c d : List ℕ} (gap : Gap) (name : Name) (ty : TypeTree) → b ≡ a ++ gap_bytes gap ++ name.text → c ≡ b ++ codes ":" →
    d ≡ c ++ bytes_of (type_pieces blank (type_account ty)) → Adds a d (named_pieces gap name ty)
unfolding signs words
named_added {a} {b} {c} {d} gap name ty named colon typed =
    let last : Adds c d (type_pieces blank (type_account ty)) = record { is = typed } in
    adds_then (adds_name gap name named) (adds_then (adds_text kind.Colon nowhere (codes ":") refl colon) last)

params_from : (before : Option ParamText) (param : TypedName) (params : List TypedName) →
    listed_pieces kind.Comma (λ b p. param_pieces (gap_before none blank b) p) before
    (listed_of (map param_account (param ∷ params))).front (listed_of (map param_account (param ∷ params))).last
    ≡ param_pieces (gap_before none blank before) (param_account param) ++ params_behind params
params_from before param [] = sym (append-nil (param_pieces (gap_before none blank before) (param_account param)))
params_from before param (other ∷ params) =
    ap (λ l. param_pieces (gap_before none blank before) (param_account param) ++ (mark none kind.Comma nowhere ∷ l)) (params_from (Some
    (param_account param)) other params)

pub params_are : (params : List TypedName) →
    listed_pieces kind.Comma (λ b p. param_pieces (gap_before none blank b) p) None (listed_of (map param_account params)).front (listed_of
    (map param_account params)).last
    ≡ params_listed params
params_are [] = refl
params_are (param ∷ params) = params_from None param params

fields_from : (before : Option FieldText) (field : TypedName) (fields : List TypedName) →
    listed_pieces kind.Comma (λ b f. field_pieces (gap_before none blank b) f) before
    (listed_of (map field_account (field ∷ fields))).front (listed_of (map field_account (field ∷ fields))).last
    ≡ param_pieces (gap_before none blank before) (param_account field) ++ params_behind fields
fields_from before field [] = sym (append-nil (param_pieces (gap_before none blank before) (param_account field)))
fields_from before field (other ∷ fields) =
    ap (λ l. param_pieces (gap_before none blank before) (param_account field) ++ (mark none kind.Comma nowhere ∷ l)) (fields_from (Some
    (field_account field)) other fields)

pub fields_are : (fields : List TypedName) →
    listed_pieces kind.Comma (λ b f. field_pieces (gap_before none blank b) f) None (listed_of (map field_account fields)).front (listed_of
    (map field_account fields)).last
    ≡ params_listed fields
fields_are [] = refl
fields_are (field ∷ fields) = fields_from None field fields

abbrev last_param : TypedName → List Piece
last_param param = mark none kind.Comma nowhere ∷ param_pieces blank (param_account param)

behind_more : {X : Type 0} (f : X → TypedName) (xs : List X) (x : X) → params_behind (map f (xs ++ x ∷ [])) ≡ params_behind (map f xs) ++ last_param (f x)
behind_more f [] x = append-nil (last_param (f x))
behind_more f (y ∷ ys) x =
    ap (λ l. last_param (f y) ++ l) (behind_more f ys x) ∙ sym (append_assoc (last_param (f y)) (params_behind (map f ys)) (last_param (f x)))

-- one parameter or field more behind a comma
pub one_param_behind : {X : Type 0} {a b c d : List ℕ} (f : X → TypedName) (xs : List X) (at : ℕ) (x : X) → at < length xs → x ≡ get_or xs at x →
    Adds a b (params_behind (map f (take at xs))) → c ≡ b ++ codes "," → Adds c d (param_pieces blank (param_account (f x))) →
    Adds a d (params_behind (map f (take (at + 1) xs)))
unfolding signs words
one_param_behind f xs at x within is before comma added =
    adds_same _ _
    (sym (behind_more f (take at xs) x) ∙ ap (λ l. params_behind (map f l)) (ap (λ y. take at xs ++ y ∷ []) is ∙ sym (take_more xs at x within)))
    (adds_then before (adds_then (adds_text kind.Comma nowhere (codes ",") refl comma) added))

pub params_listed_added : {X : Type 0} {a b c : List ℕ} (f : X → TypedName) (own : List X) (x : X) (xs : List X) → own ≡ x ∷ xs →
    Adds a b (param_pieces none (param_account (f x))) → Adds b c (params_behind (map f xs)) → Adds a c (params_listed (map f own))
params_listed_added {X} {a} {b} {c} f own x xs is h k = subst (λ o. Adds a c (params_listed (map f o))) (sym is) (adds_then h k)

-- of the same members
pub params_shown : {X : Type 0} {a b : List ℕ} (f : X → TypedName) (xs shown : List X) → shown ≡ xs → Adds a b (params_listed (map f shown)) →
    Adds a b (params_listed (map f xs))
params_shown {X} {a} {b} f xs shown is h = subst (λ l. Adds a b (params_listed (map f l))) is h

pub no_params_added : {X : Type 0} {a : List ℕ} (f : X → TypedName) (own : List X) → own ≡ [] → Adds a a (params_listed (map f own))
no_params_added {X} {a} f own is = subst (λ o. Adds a a (params_listed (map f o))) (sym is) adds_none

path_more : (names : List Name) (name : Name) →
    path_behind (names ++ name ∷ []) ≡ path_behind names ++ mark none kind.Dot nowhere ∷ piece none (name_token (bare_name name)) ∷ []
path_more [] name = refl
path_more (other ∷ names) name = ap (λ l. mark none kind.Dot nowhere ∷ piece none (name_token (bare_name other)) ∷ l) (path_more names name)

-- one name more behind a dot
pub one_behind_dot : {a b c d : List ℕ} (names : List Name) (at : ℕ) (name : Name) → at < length names → name ≡ get_or names at name →
    Adds a b (path_behind (take at names)) → c ≡ b ++ codes "." → d ≡ c ++ gap_bytes none ++ name.text → Adds a d (path_behind (take (at + 1) names))
unfolding signs words
one_behind_dot names at name within is before dot named =
    adds_same _ _
    (sym (path_more (take at names) name) ∙ ap path_behind (ap (λ y. take at names ++ y ∷ []) is ∙ sym (take_more names at name within)))
    (adds_then before (adds_then (adds_text kind.Dot nowhere (codes ".") refl dot) (adds_name none name named)))
