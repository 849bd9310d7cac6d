-- What holds of the trees of texts, as one statement.
use Rattle.std.specs.Prelude.{◌≡◌, List, Some}
use Rattle.std.specs.List.{AllByRecursion}
use Rattle.slang_lexer.specs.declared.token.TokenKind.TheVariants as kind
use Rattle.slang_lexer.specs.Spelling.{kind_of}
use Rattle.slang_tokens.specs.Tok.{Tok}
use Rattle.slang_grammar.specs.Texts.{FileText, file_tokens, IsFile, file_tree}
use Rattle.sound_trees.specs.Sound.{SoundDecl}

-- the text of a token that is a name is read as one
abbrev pub IsRead : Tok → Type 0
IsRead token = token.kind ≡ kind.Name → kind_of token.text ≡ Some kind.Name

abbrev pub AreRead : List Tok → Type 0
AreRead tokens = AllByRecursion IsRead tokens

abbrev pub ReadTreesAreSound : Type 0
ReadTreesAreSound = (file : FileText) → IsFile file → AreRead (file_tokens file) → AllByRecursion SoundDecl (file_tree file)
