-- How each token is spelled, and which token a piece of text is.
use Rattle.std.specs.Prelude.{◌≡◌, ℕ, Bool, false, ◌&&◌, ◌||◌, ◌==◌, nat_lt, if◌then◌else◌, List, [], ◌∷◌, length, codes, Option, Some, None, IsTrue}
use Rattle.std.specs.Char.{is_ascii_alphabetic, is_ascii_alphanumeric}
use Rattle.std.specs.List.{list_all}
use Rattle.std.specs.Option.{option_or}
use Rattle.std.specs.Str.{bytes_eq, is_utf8, chars, all_ascii_digits}
use Rattle.unicode_ident.specs.Ident.{is_xid_start, is_xid_continue}
use Rattle.slang_lexer.specs.declared.token.TokenKind.{TokenKind}
use Rattle.slang_lexer.specs.declared.token.TokenKind.TheVariants as kind

-- spellings, each with its kind
abbrev pub Table : Type 0
Table = List (List ℕ × TokenKind)

-- the signs, with the newline first and `∀` and `∃` last. One that begins another stands after it.
unfoldable pub signs : Table
signs =
    (10 ∷ [], kind.Newline) ∷ (codes "(", kind.LeftParen) ∷ (codes ")", kind.RightParen) ∷
    (codes ",", kind.Comma) ∷ (codes ".", kind.Dot) ∷ (codes "{", kind.LeftBrace) ∷
    (codes "}", kind.RightBrace) ∷ (codes "[", kind.LeftBracket) ∷ (codes "]", kind.RightBracket) ∷
    (codes ";", kind.Semicolon) ∷ (codes ":+", kind.ColonPlus) ∷ (codes ":", kind.Colon) ∷
    (codes "==", kind.DoubleEquals) ∷ (codes "=>", kind.FatArrow) ∷ (codes "=", kind.Equals) ∷
    (codes "<=", kind.LessOrEqual) ∷ (codes "<", kind.Less) ∷ (codes ">=", kind.GreaterOrEqual) ∷
    (codes ">", kind.Greater) ∷ (codes "!=", kind.NotEquals) ∷ (codes "!", kind.Bang) ∷
    (codes "&&", kind.DoubleAmpersand) ∷ (codes "&", kind.Ampersand) ∷ (codes "||", kind.DoubleBar) ∷
    (codes "|-", kind.Turnstile) ∷ (codes "|", kind.Bar) ∷ (codes "+", kind.Plus) ∷
    (codes "->:", kind.DashArrow) ∷ (codes "-->:", kind.LongDashArrow) ∷ (codes "-", kind.Minus) ∷
    (codes "*", kind.Star) ∷ (codes "/", kind.Slash) ∷ (codes "%", kind.Percent) ∷ (codes "@", kind.At) ∷
    (codes "~>", kind.TildeArrow) ∷ (codes "__>:", kind.LowArrow) ∷ (codes "___>:", kind.LongLowArrow) ∷
    (codes "Subst_<", kind.SubstLess) ∷ (codes "Subst_>", kind.SubstGreater) ∷
    (226 ∷ 136 ∷ 128 ∷ [], kind.ForAllSign) ∷ (226 ∷ 136 ∷ 131 ∷ [], kind.ExistsSign) ∷ []

-- the words, first those of the language and then those that it leaves out
unfoldable pub words : Table
words =
    (codes "val", kind.Val) ∷ (codes "var", kind.Var) ∷ (codes "def", kind.Def) ∷ (codes "class", kind.Class) ∷
    (codes "import", kind.Import) ∷ (codes "if", kind.If) ∷ (codes "else", kind.Else) ∷
    (codes "while", kind.While) ∷ (codes "return", kind.Return) ∷ (codes "assert", kind.Assert) ∷
    (codes "Deduce", kind.Deduce) ∷ (codes "Contract", kind.Contract) ∷ (codes "Requires", kind.Requires) ∷
    (codes "Modifies", kind.Modifies) ∷ (codes "Ensures", kind.Ensures) ∷ (codes "Invariant", kind.Invariant) ∷
    (codes "by", kind.By) ∷ (codes "SubProof", kind.SubProof) ∷ (codes "Assume", kind.Assume) ∷
    (codes "Let", kind.Let) ∷ (codes "Proof", kind.Proof) ∷ (codes "All", kind.All) ∷
    (codes "Exists", kind.Exists) ∷ (codes "Res", kind.Res) ∷ (codes "In", kind.In) ∷ (codes "Old", kind.Old) ∷
    (codes "T", kind.True) ∷ (codes "F", kind.False) ∷ (codes "Z", kind.TypeZ) ∷ (codes "B", kind.TypeB) ∷
    (codes "Unit", kind.TypeUnit) ∷ (codes "ISZ", kind.TypeIsz) ∷ (codes "until", kind.Until) ∷
    (codes "match", kind.LeftOutMatch) ∷ (codes "for", kind.LeftOutFor) ∷ (codes "object", kind.LeftOutObject) ∷
    (codes "trait", kind.LeftOutTrait) ∷ (codes "abstract", kind.LeftOutAbstract) ∷
    (codes "sealed", kind.LeftOutSealed) ∷ (codes "case", kind.LeftOutCase) ∷ (codes "type", kind.LeftOutType) ∷
    (codes "lazy", kind.LeftOutLazy) ∷ (codes "do", kind.LeftOutDo) ∷ (codes "try", kind.LeftOutTry) ∷
    (codes "throw", kind.LeftOutThrow) ∷ (codes "new", kind.LeftOutNew) ∷ (codes "this", kind.LeftOutThis) ∷
    (codes "super", kind.LeftOutSuper) ∷ (codes "assume", kind.LeftOutAssume) ∷
    (codes "halt", kind.LeftOutHalt) ∷ (codes "yield", kind.LeftOutYield) ∷
    (codes "override", kind.LeftOutOverride) ∷ (codes "extends", kind.LeftOutExtends) ∷
    (codes "package", kind.LeftOutPackage) ∷ (codes "enum", kind.LeftOutEnum) ∷ []

-- the kind that a table gives to a spelling
abbrev pub kind_in : Table → List ℕ → Option TokenKind
kind_in [] bytes = None
kind_in (entry ∷ table) bytes = if bytes_eq entry.0 bytes then Some entry.1 else kind_in table bytes

-- a name may begin with the character: `_` or XID_Start
abbrev pub begins_name : ℕ → Bool
begins_name c = if nat_lt c 128 then (is_ascii_alphabetic c || c == 95) else is_xid_start c

-- a name may go on with the character: XID_Continue
abbrev pub continues_name : ℕ → Bool
continues_name c = if nat_lt c 128 then (is_ascii_alphanumeric c || c == 95) else is_xid_continue c

-- the characters make a name
abbrev pub make_name : List ℕ → Bool
make_name [] = false
make_name (c ∷ cs) = begins_name c && list_all continues_name cs

-- the bytes are a name in UTF-8
unfoldable pub is_name : List ℕ → Bool
is_name bytes = is_utf8 bytes && make_name (chars bytes)

abbrev pub IsName : List ℕ → Type 0
IsName bytes = IsTrue (is_name bytes)

-- the bytes are decimal digits, one at least
unfoldable pub is_number : List ℕ → Bool
is_number bytes = nat_lt 0 (length bytes) && all_ascii_digits bytes

abbrev pub IsNumber : List ℕ → Type 0
IsNumber bytes = IsTrue (is_number bytes)

-- which one token the bytes are, if they are one: a name that is a word has the word's kind
unfoldable pub kind_of : List ℕ → Option TokenKind
kind_of bytes =
    option_or (kind_in signs bytes) (option_or (kind_in words bytes)
    (if is_name bytes then Some kind.Name else (if is_number bytes then Some kind.Number else None)))

-- a token of the kind may be spelled so
abbrev pub Spells : TokenKind → List ℕ → Type 0
Spells k bytes = kind_of bytes ≡ Some k
