-- Which newlines end a statement, told by what stands before and behind them. A newline, or a `;`, stands where the
-- innermost open bracket is neither round nor square, the token before it can end a statement, and the token behind it can
-- begin one. But behind `@datatype` none stands, and none between the `)` of a test and a `{`. Several in a row are one. At
-- the end of the tokens a newline stands too. Tokens before a place are listed from the nearest on.
use Rattle.std.specs.Prelude.{◌-◌, Bool, true, false, not, ◌&&◌, if◌then◌else◌, List, [], ◌∷◌, ◌++◌, length, take, slice_get, codes, Option, Some, None, option_to_list}
use Rattle.std.specs.Option.{option_map}
use Rattle.std.specs.Str.{bytes_eq}
use Rattle.slang_tree.specs.declared.place.Place.{Place}
use Rattle.slang_lexer.specs.declared.token.TokenKind.{TokenKind}
use Rattle.slang_lexer.specs.declared.token.TokenKind.TheVariants as kind
use Rattle.slang_lexer.specs.Statement.{ends_statement, begins_statement}
use Rattle.slang_tokens.specs.declared.lines.Level.{Level}
use Rattle.slang_tokens.specs.declared.lines.Level.TheVariants.{Grouped, Test, Block}
use Rattle.slang_tokens.specs.Tok.{Tok, same_kind, sign}
use Rattle.slang_tokens.specs.Kinds.{is_line_end, opens, closes, heads_test}

-- the kind of the nearest token, that of the end where there is none
abbrev pub last_kind : List Tok → TokenKind
last_kind [] = kind.End
last_kind (token ∷ before) = token.kind

-- what such a bracket opens behind such a token
abbrev pub opened : TokenKind → TokenKind → Level
opened k last =
    if same_kind k kind.LeftBrace then Block
    else (if same_kind k kind.LeftParen && heads_test last then Test else Grouped)

-- the levels that are open with one more token
abbrev pub levels_with : List Level → TokenKind → TokenKind → List Level
levels_with levels k last =
    if opens k then levels ++ opened k last ∷ []
    else (if closes k then take (length levels - 1) levels else levels)

-- the levels that are open behind these tokens, the innermost last
abbrev pub levels : List Tok → List Level
levels [] = []
levels (token ∷ before) = levels_with (levels before) token.kind (last_kind before)

abbrev pub innermost : List Level → Option Level
innermost levels = slice_get levels (length levels - 1)

-- inside round or square brackets
abbrev pub is_grouped : Option Level → Bool
is_grouped None = false
is_grouped (Some Grouped) = true
is_grouped (Some Test) = true
is_grouped (Some Block) = false

abbrev pub is_test : Option Level → Bool
is_test None = false
is_test (Some Grouped) = false
is_test (Some Test) = true
is_test (Some Block) = false

-- the token is the `)` of a test
abbrev pub ends_test_with : List Level → TokenKind → Bool
ends_test_with levels k = same_kind k kind.RightParen && is_test (innermost levels)

-- right behind the `)` of a test
abbrev pub ends_test : List Tok → Bool
ends_test [] = false
ends_test (token ∷ before) = ends_test_with (levels before) token.kind

-- the token is the `datatype` of `@datatype`
abbrev pub ends_annotation_with : TokenKind → Tok → Bool
ends_annotation_with last token = same_kind token.kind kind.Name && bytes_eq token.text (codes "datatype") && same_kind last kind.At

-- right behind `@datatype`
abbrev pub ends_annotation : List Tok → Bool
ends_annotation [] = false
ends_annotation (token ∷ before) = ends_annotation_with (last_kind before) token

-- by what stands before it, a newline may stand: the last token, whether it ends an annotation, and the open levels
abbrev pub lets_newline : TokenKind → Bool → List Level → Bool
lets_newline last annotated levels = ends_statement last && not annotated && not (is_grouped (innermost levels))

abbrev pub may_end : List Tok → Bool
may_end before = lets_newline (last_kind before) (ends_annotation before) (levels before)

-- such a token takes a newline before it, where the token before may be the `)` of a test
abbrev pub takes_newline : TokenKind → Bool → Bool
takes_newline k tested = begins_statement k && not (same_kind k kind.LeftBrace && tested)

-- what comes next takes a newline before it
abbrev pub may_begin : List Tok → List Tok → Bool
may_begin before [] = true
may_begin before (token ∷ rest) = not (is_line_end token.kind) && takes_newline token.kind (ends_test before)

-- the tokens that end no line
abbrev pub solid : List Tok → List Tok
solid [] = []
solid (token ∷ before) = if is_line_end token.kind then solid before else token ∷ solid before

-- the place of several line ends in a row, of which this is the last: that of the last `;`, or of the first newline where
-- there is none
abbrev pub run_place : Tok → List Tok → Place
run_place token [] = token.place
run_place token (one ∷ before) =
    if same_kind token.kind kind.Semicolon then token.place
    else (if is_line_end one.kind then run_place one before else token.place)

-- the place of the newline that the line ends right before a place are, by what stands before them
abbrev pub newline_place : List Tok → Option Place
newline_place [] = None
newline_place (token ∷ before) = if is_line_end token.kind && may_end (solid before) then Some (run_place token before) else None

abbrev pub newline_of : Option Place → List Tok
newline_of place = option_to_list (option_map (sign kind.Newline) place)

-- the newline that stands between these tokens and those
abbrev pub newline_at : List Tok → List Tok → List Tok
newline_at before rest = if may_begin (solid before) rest then newline_of (newline_place before) else []

-- the tokens that stand, from a place on
abbrev pub standing : List Tok → List Tok → List Tok
standing before [] = []
standing before (token ∷ rest) = (if is_line_end token.kind then newline_at (token ∷ before) rest else token ∷ []) ++ standing (token ∷ before) rest
