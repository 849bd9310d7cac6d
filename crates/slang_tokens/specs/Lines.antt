-- The same as the code keeps it, token by token.
use Rattle.std.specs.Prelude.{Bool, false, if◌then◌else◌, List, [], ◌∷◌, ◌++◌, Option, Some, None, unwrap_or}
use Rattle.slang_tree.specs.declared.place.Place.{Place}
use Rattle.slang_lexer.specs.declared.token.TokenKind.{TokenKind}
use Rattle.slang_lexer.specs.declared.token.TokenKind.TheVariants as kind
use Rattle.slang_tokens.specs.declared.lines.Level.{Level}
use Rattle.slang_tokens.specs.Tok.{Tok, same_kind}
use Rattle.slang_tokens.specs.Kinds.{is_line_end}
use Rattle.slang_tokens.specs.Newlines.{levels_with, ends_test_with, ends_annotation_with, lets_newline, takes_newline, newline_of}

-- what the tokens so far say of the next newline
pub record Front : Type 0 where
  -- the levels that are open, the innermost last
  pub levels : List Level
  -- the kind of the last token, that of the end before the first
  pub last : TokenKind
  -- the last token is the `datatype` of `@datatype`
  pub annotated : Bool
  -- the last token is the `)` of a test
  pub tested : Bool
  -- the place of a newline that stands if the next token takes it
  pub waiting : Option Place

-- before the first token
abbrev pub beginning : Front
beginning = record { levels = []; last = kind.End; annotated = false; tested = false; waiting = None }

-- the place of the line ends that wait, with one more
abbrev pub joined : Option Place → Tok → Place
joined waiting token = if same_kind token.kind kind.Semicolon then token.place else unwrap_or waiting token.place

-- after a newline or a `;`
abbrev pub noted : Front → Tok → Front
noted front token =
    if lets_newline front.last front.annotated front.levels then record front { waiting = Some (joined front.waiting token) } else front

-- after any other token
abbrev pub passed : Front → Tok → Front
passed front token = record {
  levels = levels_with front.levels token.kind front.last;
  last = token.kind;
  annotated = ends_annotation_with front.last token;
  tested = ends_test_with front.levels token.kind;
  waiting = None;
}

abbrev pub after : Front → Tok → Front
after front token = if is_line_end token.kind then noted front token else passed front token

-- the newline that waits
abbrev pub newline : Front → List Tok
newline front = newline_of front.waiting

-- the tokens that stand from this one on up to the next
abbrev pub standing_with : Front → Tok → List Tok
standing_with front token =
    if is_line_end token.kind then [] else (if takes_newline token.kind front.tested then newline front else []) ++ token ∷ []

-- the tokens that stand
abbrev pub lines : Front → List Tok → List Tok
lines front [] = newline front
lines front (token ∷ tokens) = standing_with front token ++ lines (after front token) tokens
