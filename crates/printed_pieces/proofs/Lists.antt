-- Lists in brackets are laid out so that their tokens may stand beside each other.
use Rattle.std.proofs.Common.{◌≡◌, ℕ, ◌<◌, ◌^◌, Bool, true, List, [], ◌∷◌, map, Option, Some, None, refl, arith}
use Rattle.std.specs.List.{AllByRecursion}
use Rattle.std.specs.Option.{option_map}
use Rattle.slang_lexer.specs.declared.token.TokenKind.{TokenKind}
use Rattle.slang_lexer.specs.declared.token.TokenKind.TheVariants as kind
use Rattle.slang_tree.specs.declared.expression.Name.{Name}
use Rattle.slang_tree.specs.declared.statement.Label.{Label}
use Rattle.slang_tree.specs.TypeTree.{TypeTree}
use Rattle.slang_grammar.specs.Parts.{label_token, LabelText}
use Rattle.print_expressions.specs.Bare.{bare_name}
use Rattle.print_expressions.proofs.Numerals.{numerals_read_back}
use Rattle.print_statements.specs.Accounts.{listed_of, names_account, typed_account, label_account}
use Rattle.print_layout.specs.Pieces.{Gap, none, blank, Piece, piece, listed_pieces, gap_before}
use Rattle.print_layout.specs.Expressions.{name_pieces, names_pieces, typed_pieces, optional_typed}
use Rattle.sound_trees.specs.Sound.{IsNamed, SoundType, IfSound, SoundLabel}
use Rattle.laid_tokens.specs.Kinds.{fits}
use Rattle.laid_tokens.specs.Laid.{IsSpelled, inside, Laid, done, plain, opening, closing}
use Rattle.laid_tokens.specs.Laid as laid
use Rattle.printed_pieces.proofs.Ends.{laid_append, Ended, fits_paren, fits_comma}
use Rattle.printed_pieces.proofs.Expressions.{types_blank, type_laid, Arguments}

-- what is laid out of a list of members
abbrev pub list_pieces : {A : Type 0} → TokenKind → (Option A → A → List Piece) → Option A → List A → List Piece
list_pieces separator pieces_of before xs = listed_pieces separator pieces_of before (listed_of xs).front (listed_of xs).last

module _ {A : Type 0} (P : A → Type 0) (pieces_of : Option A → A → List Piece) (around : List Bool)
    (next : (before x : A) → P x → Ended (true ∷ around) kind.Comma (pieces_of (Some before) x)) where
  pub commas : (before : Option A) (last : TokenKind) (x : A) (xs : List A) → Ended (true ∷ around) last (pieces_of before x) → AllByRecursion P xs
      → Ended (true ∷ around) last (list_pieces kind.Comma pieces_of before (x ∷ xs))
  commas before last x [] m h = m
  commas before last x (y ∷ ys) m h =
      let r = commas (Some x) kind.Comma y ys (next x y h.0) h.1 in
      record { end = r.end; ends = r.ends; laid = laid_append m.laid (plain refl (laid.sign refl refl) (fits_comma true m.end m.ends) r.laid) }

  -- right behind a `(`
  pub in_parens : ((x : A) → P x → Ended (true ∷ around) kind.LeftParen (pieces_of None x)) → (xs : List A) → AllByRecursion P xs
      → Arguments around (list_pieces kind.Comma pieces_of None xs)
  in_parens first [] h = record { end = kind.LeftParen; closes = refl; laid = done }
  in_parens first (x ∷ xs) h =
      let m = commas None kind.LeftParen x xs (first x h.0) h.1 in
      record { end = m.end; closes = fits_paren true m.end m.ends; laid = m.laid }

pub all_mapped : {A B : Type 0} (P : A → Type 0) (Q : B → Type 0) (f : A → B) → ((x : A) → P x → Q (f x)) → (xs : List A) → AllByRecursion P xs
    → AllByRecursion Q (map f xs)
all_mapped P Q f more [] h = tt
all_mapped P Q f more (x ∷ xs) h = (more x h.0, all_mapped P Q f more xs h.1)

-- ---- names

one_name : (around : List Bool) (last : TokenKind) (gap : Gap) (n : Name) → IsNamed n → fits true last gap kind.Name ≡ true
    → Ended (true ∷ around) last (name_pieces gap n)
one_name around last gap n h f = record { end = kind.Name; ends = refl; laid = plain refl (laid.name refl h) f done }

pub names_laid : (names : List Name) → AllByRecursion IsNamed names → (around : List Bool) (last : TokenKind) → fits
    (inside around) last none kind.LeftParen ≡ true
    → Laid around last (names_pieces none (names_account names)) around kind.RightParen
names_laid names h around last f =
    let a = in_parens IsNamed (λ before name. name_pieces (gap_before none blank before) name) around
    (λ before x p. one_name around kind.Comma blank x p refl) (λ x p. one_name around kind.LeftParen none x p refl) (map bare_name names)
    (all_mapped IsNamed IsNamed bare_name (λ n p. p) names h) in
    opening refl (laid.sign refl refl) f (laid_append a.laid (closing refl (laid.sign refl refl) a.closes done))

-- ---- types behind names

pub typed_laid : (ty : TypeTree) → SoundType ty → (around : List Bool) (last : TokenKind) → fits (inside around) last none kind.Colon ≡ true
    → Ended around last (typed_pieces (typed_account ty))
typed_laid ty h around last f =
    let t = type_laid ty h around kind.Colon blank (types_blank (inside around)) in
    record { end = t.end; ends = t.ends; laid = plain refl (laid.sign refl refl) f t.laid }

pub optional_laid : (ty : Option TypeTree) → IfSound ty → (around : List Bool) → Ended around kind.Name (optional_typed (option_map typed_account ty))
optional_laid None h around = record { end = kind.Name; ends = refl; laid = done }
optional_laid (Some ty) h around = typed_laid ty h around kind.Name refl

-- ---- labels

below : (n : ℕ) → n < 2 ^ 32 → n < 2 ^ 127
below n h = omega arith

pub label_spelled : (label : Label) → SoundLabel label → IsSpelled (label_token (label_account label))
label_spelled label h = laid.number refl (numerals_read_back label.number (below label.number h)).0

one_label : (around : List Bool) (last : TokenKind) (gap : Gap) (l : LabelText) → IsSpelled (label_token l) → fits true last gap kind.Number ≡ true
    → Ended (true ∷ around) last (piece gap (label_token l) ∷ [])
one_label around last gap l h f = record { end = kind.Number; ends = refl; laid = plain refl h f done }

pub labels_laid : (labels : List Label) → AllByRecursion SoundLabel labels → (around : List Bool)
    → Arguments around (list_pieces kind.Comma (λ before l. piece (gap_before none blank before) (label_token l) ∷ []) None (map label_account labels))
labels_laid labels h around =
    in_parens (λ l. IsSpelled (label_token l)) (λ before l. piece (gap_before none blank before) (label_token l) ∷ []) around
    (λ before x p. one_label around kind.Comma blank x p refl) (λ x p. one_label around kind.LeftParen none x p refl) (map label_account labels)
    (all_mapped SoundLabel (λ l. IsSpelled (label_token l)) label_account label_spelled labels h)
