-- How deep a text nests. At each level, the whole text or the inside of one open bracket, the operators, `.`, `else` and
-- the brackets opened there count, and the count begins again at a comma and at a statement's end of that level. The
-- weight of a token is the sum over the levels that are open there, the token itself included.
use Rattle.std.specs.Prelude.{ℕ, zero, suc, ◌+◌, ◌≤◌, Bool, true, not, ◌&&◌, if◌then◌else◌, List, [], ◌∷◌, ◌++◌}
use Rattle.slang_tokens.specs.Tok.{Tok}
use Rattle.slang_tokens.specs.Kinds.{opens, closes, counts, begins_count}

-- What counts at a level still counts behind these tokens: they do not close the level, and its count does not begin again.
-- The number is how many brackets are open inside the level before these tokens.
abbrev pub lasts : ℕ → List Tok → Bool
lasts depth [] = true
lasts zero (token ∷ more) = if opens token.kind then lasts 1 more else (not (closes token.kind) && (not (begins_count token.kind) && lasts 0 more))
lasts (suc depth) (token ∷ more) =
    if opens token.kind then lasts (suc (suc depth)) more else (if closes token.kind then lasts depth more else lasts (suc depth) more)

-- the weight of the last of these tokens: how many of them count at a level that is open there, and still count
abbrev pub weight : List Tok → ℕ
weight [] = 0
weight (token ∷ more) = (if counts token.kind && lasts (if opens token.kind then 1 else 0) more then 1 else 0) + weight more

-- none of these tokens, which stand behind those, weighs more than the limit
abbrev pub AreLight : ℕ → List Tok → List Tok → Type 0
AreLight limit before [] = Unit {0}
AreLight limit before (token ∷ more) = (weight (before ++ token ∷ []) ≤ limit) × AreLight limit (before ++ token ∷ []) more
