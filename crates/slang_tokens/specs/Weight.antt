-- The same as the code keeps it, token by token.
use Rattle.std.specs.Prelude.{ℕ, suc, ◌+◌, ◌-◌, if◌then◌else◌, nat_le, List, [], ◌∷◌, ◌++◌, length, take, slice_get, unwrap_or, sum}
use Rattle.slang_lexer.specs.declared.token.TokenKind.{TokenKind}
use Rattle.slang_tokens.specs.Tok.{Tok}
use Rattle.slang_tokens.specs.Kinds.{opens, closes, is_counted, begins_count}

-- the counts of the levels outside the innermost, the outermost first, and that of the innermost
pub record Counts : Type 0 where
  pub outer : List ℕ
  pub here : ℕ

-- of the whole text, before its first token
abbrev pub no_counts : Counts
no_counts = record { outer = []; here = 0 }

-- inside one more bracket, which counts at the level around it
abbrev pub opened : Counts → Counts
opened at = record { outer = at.outer ++ (at.here + 1) ∷ []; here = 0 }

-- behind a closing bracket, at the level around it
abbrev pub closed : Counts → Counts
closed at = record { outer = take (length at.outer - 1) at.outer; here = unwrap_or (slice_get at.outer (length at.outer - 1)) 0 }

-- with one more token that opens no bracket
abbrev pub counted_here : Counts → TokenKind → Counts
counted_here at k =
    if closes k then closed at
    else (if begins_count k then record at { here = 0 }
    else (if is_counted k then record at { here = at.here + 1 } else at))

-- with one more token
abbrev pub counted : Counts → TokenKind → Counts
counted at k = if opens k then opened at else counted_here at k

-- the weight of the last token
abbrev pub weighed : Counts → ℕ
weighed at = sum at.outer + at.here

-- how many tokens stand before the first that weighs more than the limit
abbrev pub light_len : ℕ → Counts → List Tok → ℕ
light_len limit at [] = 0
light_len limit at (token ∷ tokens) =
    if nat_le (weighed (counted at token.kind)) limit then suc (light_len limit (counted at token.kind) tokens) else 0
