-- The tokens of pieces follow one another in their bytes.
use Rattle.std.proofs.Common.{◌≡◌, ◌≢◌, ℕ, zero, suc, ◌+◌, ◌-◌, ◌*◌, ◌<◌, ◌≤◌, ◌^◌, Bool, true, false, not, ◌&&◌, ◌||◌, List, [], ◌∷◌, ◌++◌, map, length, take, drop, get_or, slice_range, refl, sym, ◌∙◌, ap, ap₂, subst, Some, ◌⊎◌, inl, inr, ⊎_elim, cond, ◌==◌, arith, true≢false, length-append, length-drop, append_assoc, ltb-true, nat_lt}
use Rattle.std.specs.Prelude.{nat_eq, replicate, codes}
use Rattle.std.specs.List.{list_all}
use Rattle.std.specs.Str.{IsUtf8, is_utf8, chars}
use Rattle.std.proofs.Math.Seq.{take-append_seam, drop-append_seam, drop-cons}
use Rattle.std.proofs.lemmas.Bool.{and_parts, or_cases, eq-eqb, not-true, cond-true, cond-false}
use Rattle.std.proofs.lemmas.List.{get_or-drop, get_or_past, get_or_append_left, length-replicate}
use Rattle.std.proofs.lemmas.Str.{IsUtf8-nil, IsUtf8-append, IsUtf8-from_is_utf8}
use Rattle.std.proofs.lemmas.List.{drop-drop}
use Rattle.slang_lexer.specs.declared.token.Token.{Token}
use Rattle.slang_lexer.specs.declared.token.TokenKind.{TokenKind}
use Rattle.slang_lexer.specs.declared.token.TokenKind.TheVariants as kind
use Rattle.slang_lexer.specs.Spelling.{signs, words, kind_of, is_name, is_number}
use Rattle.slang_lexer.specs.Comment.{is_blank, Skips, begins_skip}
use Rattle.slang_lexer.specs.Comment as comment
use Rattle.slang_lexer.specs.Next.{value_of, IsWithinLimit, IsNext}
use Rattle.slang_lexer.proofs.Places.{no_pair_past}
use Rattle.slang_lexer.proofs.Fronts.{IsUtf8-kind, not_end as f_not_end}
use Rattle.slang_lexer.specs.Scan.{IsLongestFront}
use Rattle.slang_lexer.specs.Statement.{ends_statement}
use Rattle.std.specs.Char.{encode_utf8}
use Rattle.slang_lexer.proofs.Tokens.{IsLongest-from_front}
use Rattle.slang_tokens.specs.declared.read.TokensEnd.TheVariants.{End}
use Rattle.slang_tokens.specs.Tok.{Tok, same_kind, sign}
use Rattle.slang_tokens.specs.Places.{place_at}
use Rattle.slang_tokens.specs.Tokens.{over, Follow, placed}
use Rattle.slang_grammar.specs.Declarations.{datatype_token}
use Rattle.print_expressions.specs.Bare.{nowhere}
use Rattle.print_layout.specs.Pieces.{Gap, none, blank, indent, line, Piece, piece, mark, tokens_of, gap_bytes, spelling}
use Rattle.print_layout.specs.Pieces as pieces
use Rattle.moved_texts.specs.Moved.{Alike}
use Rattle.moved_texts.specs.Moved as moved
use Rattle.laid_tokens.specs.Kinds.{has, closed_kinds, prefix_kinds, is_textual, stop_kinds, starter_kinds, may_touch, may_break, may_begin_line, fits, is_word}
use Rattle.laid_tokens.specs.Laid.{IsSpelled, inside, Laid, done, plain, opening, closing, newline, annotation}
use Rattle.laid_tokens.specs.Laid as laid
use Rattle.laid_tokens.proofs.Tables.{same_kinds, of_has, spelled, spelling_fixed, sign_text, word_text, is_letter, is_stop_byte}
use Rattle.laid_tokens.proofs.Fronts.{Behind, nothing, closed, stop, prefix, some_spelled, spelled_kind, name_text, number_text, spelled_fixed, front, no_skip}
use Rattle.laid_tokens.proofs.Fronts as f

-- ---- the newline of a line as a piece of its own

abbrev pub expand : Gap → Tok → List Piece
expand none token = piece none token ∷ []
expand blank token = piece blank token ∷ []
expand (indent depth) token = piece (indent depth) token ∷ []
expand (line depth) token = mark none kind.Newline nowhere ∷ piece (indent depth) token ∷ []

abbrev pub expanded : List Piece → List Piece
expanded [] = []
expanded (p ∷ ps) = expand p.gap p.token ++ expanded ps

newline_spelled : spelled kind.Newline ≡ 10 ∷ []
unfolding signs words
newline_spelled = refl

expand_bytes : (gap : Gap) (token : Tok) (ps : List Piece) → pieces.bytes_of (expand gap token ++ ps) ≡ (gap_bytes gap ++ spelling token) ++ pieces.bytes_of ps
expand_bytes none token ps = refl
expand_bytes blank token ps = refl
expand_bytes (indent depth) token ps = refl
expand_bytes (line depth) token ps = ap (λ s. s ++ ((gap_bytes (indent depth) ++ spelling token) ++ pieces.bytes_of ps)) newline_spelled

pub expanded_bytes : (ps : List Piece) → pieces.bytes_of (expanded ps) ≡ pieces.bytes_of ps
expanded_bytes [] = refl
expanded_bytes (p ∷ ps) =
    expand_bytes p.gap p.token (expanded ps) ∙ ap (λ bytes. (gap_bytes p.gap ++ spelling p.token) ++ bytes) (expanded_bytes ps)

-- ---- what stands behind each piece

-- blanks stand in the gap, and nothing else
abbrev Spaces : Gap → Type 0
Spaces gap = (n : ℕ) × (gap_bytes gap ≡ replicate n 32)

pub data Chain : List Piece → Type 0 where
  end : Chain []
  link : {p : Piece} {ps : List Piece} → IsSpelled p.token → Behind p.token.kind (pieces.bytes_of ps) → Spaces p.gap → Chain ps → Chain (p ∷ ps)

first_byte : (s rest : List ℕ) → 0 < length s → s ++ rest ≡ get_or s 0 0 ∷ (drop 1 s ++ rest)
first_byte s rest l = ap (λ x. x ++ rest) (drop-cons s 0 0 l)

stops_begin : list_all (λ k. is_stop_byte (get_or (spelled k) 0 0)) stop_kinds ≡ true
unfolding signs words
stops_begin = refl

stops_fixed : list_all (λ k. not (same_kind k kind.Name || same_kind k kind.Number)) stop_kinds ≡ true
stops_fixed = refl

starters_begin : list_all (λ k. not (nat_eq (get_or (spelled k) 0 0) 61) && (not (nat_eq (get_or (spelled k) 0 0) 62)
    && (not (nat_eq (get_or (spelled k) 0 0) 45) || same_kind k kind.Minus))) starter_kinds ≡ true
unfolding signs words
starters_begin = refl

minus_spelled : spelled kind.Minus ≡ 45 ∷ []
unfolding signs words
minus_spelled = refl

-- behind a minus no `>` begins
behind_minus : (rest : List ℕ) → Behind kind.Minus rest → get_or rest 0 0 ≢ 62
unfolding words
behind_minus rest (nothing e) = λ is. let z : get_or rest 0 0 ≡ 0 = ap (λ r. get_or r 0 0) e in omega (arith, z, is)
behind_minus rest (f.blank more e) = λ is. let z : get_or rest 0 0 ≡ 32 = ap (λ r. get_or r 0 0) e in omega (arith, z, is)
behind_minus rest (closed c) = absurd (true≢false (sym c))
behind_minus rest (stop c more textual is e) = absurd (true≢false (sym textual))
behind_minus rest (prefix p equals above twice) = above

letter_apart : (b c : ℕ) → is_letter b ≡ true → is_letter c ≡ false → b ≢ c
letter_apart b c h k = λ is. true≢false (sym h ∙ ap is_letter is ∙ k)

behind_prefix : (last : TokenKind) (token : Tok) (rest : List ℕ) → has prefix_kinds last ≡ true → has starter_kinds token.kind ≡ true → IsSpelled token
    → Behind token.kind rest → Behind last (spelling token ++ rest)
behind_prefix last token rest p start is behind = by (spelled_fixed token is)
  where
    s : List ℕ
    s = spelling token

    head : get_or (s ++ rest) 0 0 ≡ get_or s 0 0
    head = get_or_append_left s rest 0 0 (some_spelled s token.kind (spelled_kind token is))

    fixed : s ≡ spelled token.kind → Behind last (s ++ rest)
    fixed e =
        let first = get_or (spelled token.kind) 0 0 in
        let facts = of_has (λ k. not (nat_eq (get_or (spelled k) 0 0) 61) && (not (nat_eq (get_or (spelled k) 0 0) 62)
        && (not (nat_eq (get_or (spelled k) 0 0) 45) || same_kind k kind.Minus))) starter_kinds token.kind starters_begin start in
        let one = and_parts (not (nat_eq first 61)) (not (nat_eq first 62) && (not (nat_eq first 45) || same_kind token.kind kind.Minus)) facts in
        let two = and_parts (not (nat_eq first 62)) (not (nat_eq first 45) || same_kind token.kind kind.Minus) one.1 in
        let same : get_or (s ++ rest) 0 0 ≡ first = head ∙ ap (λ x. get_or x 0 0) e in
        prefix p (λ is. true≢false (sym (eq-eqb first 61 (sym same ∙ is)) ∙ not-true (nat_eq first 61) one.0))
        (λ is. true≢false (sym (eq-eqb first 62 (sym same ∙ is)) ∙ not-true (nat_eq first 62) two.0))
        (λ is. ⊎_elim (λ (n : not (nat_eq first 45) ≡ true). absurd (true≢false (sym (eq-eqb first 45 (sym same ∙ is)) ∙ not-true (nat_eq first 45) n)))
        (λ (k : same_kind token.kind kind.Minus ≡ true).
        let minus = same_kinds token.kind kind.Minus k in
        let second : get_or (s ++ rest) 1 0 ≡ get_or rest 0 0 = ap (λ x. get_or (x ++ rest) 1 0) (e ∙ ap spelled minus ∙ minus_spelled) in
        λ more. behind_minus rest (subst (λ j. Behind j rest) minus behind) (sym second ∙ more))
        (or_cases (not (nat_eq first 45)) (same_kind token.kind kind.Minus) two.1))

    textual : is_letter (get_or s 0 0) ≡ true → Behind last (s ++ rest)
    textual letter =
        prefix p (λ is. letter_apart (get_or s 0 0) 61 letter refl (sym head ∙ is)) (λ is. letter_apart (get_or s 0 0) 62 letter refl (sym head ∙ is))
        (λ is. absurd (letter_apart (get_or s 0 0) 45 letter refl (sym head ∙ is)))

    by : (is_letter (get_or s 0 0) ≡ true) ⊎ (s ≡ spelled token.kind) → Behind last (s ++ rest)
    by (inl letter) = textual letter
    by (inr e) = fixed e

behind_touching : (last : TokenKind) (token : Tok) (rest : List ℕ) → same_kind last kind.End ≡ false → may_touch last token.kind ≡ true → IsSpelled token
    → Behind token.kind rest → Behind last (spelling token ++ rest)
behind_touching last token rest e h is behind =
    ⊎_elim (λ (b : same_kind last kind.End ≡ true). absurd (true≢false (sym b ∙ e)))
    (λ more. ⊎_elim (λ (c : has closed_kinds last ≡ true). closed c)
    (λ around. ⊎_elim (λ both. at_stop (and_parts (is_textual last) (has stop_kinds token.kind) both))
    (λ both. let p = and_parts (has prefix_kinds last) (has starter_kinds token.kind) both in behind_prefix last token rest p.0 p.1 is behind)
    (or_cases (is_textual last && has stop_kinds token.kind) (has prefix_kinds last && has starter_kinds token.kind) around))
    (or_cases (has closed_kinds last) ((is_textual last && has stop_kinds token.kind) || (has prefix_kinds last && has starter_kinds token.kind)) more))
    (or_cases (same_kind last kind.End) (has closed_kinds last || ((is_textual last && has stop_kinds token.kind) ||
    (has prefix_kinds last && has starter_kinds token.kind))) h)
  where
    at_stop : (is_textual last ≡ true) × (has stop_kinds token.kind ≡ true) → Behind last (spelling token ++ rest)
    at_stop p =
        let fixed = spelling_fixed token (not-true (same_kind token.kind kind.Name || same_kind token.kind kind.Number)
        (of_has (λ k. not (same_kind k kind.Name || same_kind k kind.Number)) stop_kinds token.kind stops_fixed p.1)) in
        stop (get_or (spelling token) 0 0) (drop 1 (spelling token) ++ rest) p.0
        (ap (λ x. is_stop_byte (get_or x 0 0)) fixed ∙ of_has (λ k. is_stop_byte (get_or (spelled k) 0 0)) stop_kinds token.kind stops_begin p.1)
        (first_byte (spelling token) rest (some_spelled (spelling token) token.kind (spelled_kind token is)))

behind_line : (last : TokenKind) (more : List ℕ) → may_break last ≡ true → Behind last (10 ∷ more)
behind_line last more h =
    ⊎_elim (λ (c : has closed_kinds last ≡ true). closed c) (λ t. stop 10 more t refl refl) (or_cases (has closed_kinds last) (is_textual last) h)

newline_closed : (last : TokenKind) → same_kind last kind.Newline ≡ true → has closed_kinds last ≡ true
newline_closed last h = subst (λ k. has closed_kinds k ≡ true) (sym (same_kinds last kind.Newline h)) refl

behind_piece : (group : Bool) (last : TokenKind) (gap : Gap) (token : Tok) (ps : List Piece) → same_kind last kind.End ≡ false
    → fits group last gap token.kind ≡ true
    → IsSpelled token → Behind token.kind (pieces.bytes_of ps) → Behind last (pieces.bytes_of (expand gap token ++ ps))
behind_piece group last none token ps e h is behind =
    behind_touching last token (pieces.bytes_of ps) e (and_parts (may_touch last token.kind)
    (not (same_kind last kind.Newline) || may_begin_line token.kind) h).0 is behind
behind_piece group last blank token ps e h is behind = f.blank (spelling token ++ pieces.bytes_of ps) refl
behind_piece group last (indent depth) token ps e h is behind =
    closed (newline_closed last (and_parts (same_kind last kind.Newline) (may_begin_line token.kind) h).0)
behind_piece group last (line depth) token ps e h is behind =
    subst (Behind last) (sym (ap (λ s. s ++ pieces.bytes_of (piece (indent depth) token ∷ ps)) newline_spelled))
    (behind_line last (pieces.bytes_of (piece (indent depth) token ∷ ps)) (and_parts (may_break last) _ h).0)

chain_piece : (gap : Gap) (token : Tok) (ps : List Piece) → IsSpelled token → Behind token.kind (pieces.bytes_of ps) → Chain ps → Chain (expand gap token ++ ps)
chain_piece none token ps is behind more = link is behind (0, refl) more
chain_piece blank token ps is behind more = link is behind (1, refl) more
chain_piece (indent depth) token ps is behind more = link is behind (2 * depth, refl) more
chain_piece (line depth) token ps is behind more = link (laid.sign refl refl) (closed refl) (0, refl) (link is behind (2 * depth, refl) more)

datatype_kind : kind_of (codes "datatype") ≡ Some kind.Name
unfolding kind_of signs words is_name is_number is_utf8 chars encode_utf8
datatype_kind = refl

class_word : is_word kind.Class ≡ true
unfolding words
class_word = refl

end_is_no_number : kind.End ≡ kind.Number → ⊥
end_is_no_number e = cc

name_is_no_number : kind.Name ≡ kind.Number → ⊥
name_is_no_number e = cc

-- no token of a piece is of the kind of the end
not_end : (token : Tok) → IsSpelled token → same_kind token.kind kind.End ≡ false
not_end token is = by (same_kind token.kind kind.End) refl
  where
    by : (b : Bool) → same_kind token.kind kind.End ≡ b → same_kind token.kind kind.End ≡ false
    by false e = e
    by true e = absurd (f_not_end (spelling token) (spelled_kind token is ∙ ap Some (same_kinds token.kind kind.End e)))

pub behind_all : {around around' : List Bool} {last last' : TokenKind} {ps : List Piece} → Laid around last ps around' last' → same_kind last kind.End ≡ false
    → Behind last (pieces.bytes_of (expanded ps))
behind_all done e = nothing refl
behind_all (plain {around = around} {last = last} {p = p} {pieces = ps} k is h more) e =
    behind_piece (inside around) last p.gap p.token (expanded ps) e h is (behind_all more (not_end p.token is))
behind_all (opening {around = around} {last = last} {p = p} {pieces = ps} k is h more) e =
    behind_piece (inside around) last p.gap p.token (expanded ps) e h is (behind_all more (not_end p.token is))
behind_all (closing {group = group} {last = last} {p = p} {pieces = ps} k is h more) e =
    behind_piece group last p.gap p.token (expanded ps) e h is (behind_all more (not_end p.token is))
behind_all (newline {last = last} {pieces = ps} inner h more) e =
    subst (Behind last) (sym (ap (λ s. s ++ pieces.bytes_of (expanded ps)) newline_spelled))
    (behind_line last (pieces.bytes_of (expanded ps)) (and_parts (may_break last) (ends_statement last) h).0)
behind_all (annotation {around = around} {last = last} {gap = gap} {at = at} {datatype = datatype} {class = class} {pieces = ps} h more) e =
    behind_piece (inside around) last gap (sign kind.At at) (piece none (datatype_token datatype) ∷ mark blank kind.Class class ∷ expanded ps) e h
    (laid.sign refl refl) (closed refl)

pub chain : {around around' : List Bool} {last last' : TokenKind} {ps : List Piece} → Laid around last ps around' last' → Chain (expanded ps)
chain done = end
chain (plain {p = p} {pieces = ps} k is h more) = chain_piece p.gap p.token (expanded ps) is (behind_all more (not_end p.token is)) (chain more)
chain (opening {p = p} {pieces = ps} k is h more) = chain_piece p.gap p.token (expanded ps) is (behind_all more (not_end p.token is)) (chain more)
chain (closing {p = p} {pieces = ps} k is h more) = chain_piece p.gap p.token (expanded ps) is (behind_all more (not_end p.token is)) (chain more)
chain (newline {pieces = ps} inner h more) = link (laid.sign refl refl) (closed refl) (0, refl) (chain more)
chain (annotation {gap = gap} {at = at} {datatype = datatype} {class = class} {pieces = ps} h more) =
    chain_piece gap (sign kind.At at) (piece none (datatype_token datatype) ∷ mark blank kind.Class class ∷ expanded ps) (laid.sign refl refl) (closed refl)
    (link (laid.name refl datatype_kind) (f.blank (spelling (sign kind.Class class) ++ pieces.bytes_of (expanded ps)) refl) (0, refl)
    (link (laid.word class_word refl) (behind_all more refl) (1, refl) (chain more)))

-- ---- the tokens of the bytes

-- a token that begins behind the gap
abbrev token_at : ℕ → Piece → Token
token_at at p = record {
  kind = p.token.kind;
  start = at + length (gap_bytes p.gap);
  end = (at + length (gap_bytes p.gap)) + length (spelling p.token);
}

abbrev pub read_from : ℕ → List Piece → List Token
read_from at [] = []
read_from at (p ∷ ps) = token_at at p ∷ read_from ((at + length (gap_bytes p.gap)) + length (spelling p.token)) ps

drop_past : (text xs ys : List ℕ) (at : ℕ) → drop at text ≡ xs ++ ys → drop (at + length xs) text ≡ ys
drop_past text xs ys at e = sym (drop-drop (length xs) at text) ∙ ap (drop (length xs)) e ∙ drop-append_seam xs ys

fits_past : (text xs ys : List ℕ) (at : ℕ) → at ≤ length text → drop at text ≡ xs ++ ys → at + length xs ≤ length text
fits_past text xs ys at l e =
    let a = length-drop at text in
    let b = ap length e in
    let c = length-append xs ys in
    omega (arith, a, b, c, l)

byte_at : (text bytes : List ℕ) (at b : ℕ) → drop at text ≡ b ∷ bytes → get_or text at 0 ≡ b
byte_at text bytes at b e =
    ap (λ n. get_or text n 0) (let z : at ≡ at + 0 = omega arith in z) ∙ sym (get_or-drop at text 0 0) ∙ ap (λ bs. get_or bs 0 0) e

skip_blanks : (text rest : List ℕ) (n at : ℕ) → drop at text ≡ replicate n 32 ++ rest → Skips text at (at + n)
skip_blanks text rest zero at e = subst (λ to. Skips text at to) (let z : at ≡ at + 0 = omega arith in z) comment.nothing
skip_blanks text rest (suc n) at e =
    comment.blank (ap is_blank (byte_at text (replicate n 32 ++ rest) at 32 e))
    (subst (λ to. Skips text (at + 1) to) (let z : (at + 1) + n ≡ at + suc n = omega arith in z)
    (skip_blanks text rest n (at + 1) (drop_past text (32 ∷ []) (replicate n 32 ++ rest) at e)))

abbrev skips_of : ℕ → ℕ → Bool
skips_of a b = is_blank a || (a == 47 && b == 47) || (a == 47 && b == 42)

stops_there : (text : List ℕ) (at : ℕ) → begins_skip (drop at text) 0 ≡ false → begins_skip text at ≡ false
stops_there text at h =
    let first : get_or (drop at text) 0 0 ≡ get_or text at 0 = get_or-drop at text 0 0 ∙ ap (λ n. get_or text n 0) (let z : at + 0 ≡ at = omega arith in z) in
    let second : get_or (drop at text) 1 0 ≡ get_or text (at + 1) 0 = get_or-drop at text 1 0 in
    sym (ap₂ skips_of first second) ∙ h

past_stops : (text : List ℕ) → begins_skip text (length text) ≡ false
past_stops text =
    ap₂ (λ a b. a || b)
    (ap₂ (λ a b. a || b) (ap is_blank (get_or_past text (length text) 0 (omega arith))) (no_pair_past text (length text) 47 47 (omega arith) (omega arith)))
    (no_pair_past text (length text) 47 42 (omega arith) (omega arith))

module _ (text : List ℕ) where
  ended : (at : ℕ) → at ≤ length text → drop at text ≡ [] → Follow text at [] (End (place_at text (length text)))
  ended at l e =
      let a = length-drop at text in
      let b = ap length e in
      let same : at ≡ length text = omega (arith, a, b, l) in
      over (record { kind = kind.End; start = length text; end = length text }) (record {
        reached = record { skips = subst (λ to. Skips text at to) same comment.nothing; stops = past_stops text };
        read = inl (record { kind = refl; start = refl; end = refl });
        small = λ k. absurd (end_is_no_number k);
      }) refl refl

  bytes_there : (p : Piece) (rest : List ℕ) (at : ℕ) → drop at text ≡ (gap_bytes p.gap ++ spelling p.token) ++ rest
      → drop (at + length (gap_bytes p.gap)) text ≡ spelling p.token ++ rest
  bytes_there p rest at e = drop_past text (gap_bytes p.gap) (spelling p.token ++ rest) at (e ∙ append_assoc (gap_bytes p.gap) (spelling p.token) rest)

  slice_there : (s rest : List ℕ) (start : ℕ) → drop start text ≡ s ++ rest → slice_range text start (start + length s) ≡ s
  slice_there s rest start e =
      ap (λ n. take n (drop start text)) (let z : (start + length s) - start ≡ length s = omega arith in z) ∙ ap (take (length s)) e ∙ take-append_seam s rest

  within : (token : Tok) → IsSpelled token → token.kind ≡ kind.Number → IsWithinLimit (spelling token)
  within token (laid.name e h) k = absurd (name_is_no_number (sym e ∙ k))
  within token (laid.number e h) k =
      subst IsWithinLimit (sym (number_text token e))
      (ltb-true (value_of token.text) (2 ^ 127) (and_parts (is_number token.text) (nat_lt (value_of token.text) (2 ^ 127)) h).1)
  within token (laid.word w empty) k =
      absurd (true≢false (sym (ap (λ j. same_kind j kind.Name || same_kind j kind.Number) k) ∙ word_text token.kind w))
  within token (laid.sign w empty) k =
      absurd (true≢false (sym (ap (λ j. same_kind j kind.Name || same_kind j kind.Number) k) ∙ sign_text token.kind w))

  next : (p : Piece) (rest : List ℕ) (at : ℕ) → at ≤ length text → drop at text ≡ (gap_bytes p.gap ++ spelling p.token) ++ rest → IsSpelled p.token
      → Behind p.token.kind rest → Spaces p.gap → IsNext text at (token_at at p)
  next p rest at l e is behind spaces =
      let start = at + length (gap_bytes p.gap) in
      let there = bytes_there p rest at e in
      let width : length (gap_bytes p.gap) ≡ spaces.0 = ap length spaces.1 ∙ length-replicate spaces.0 32 in
      record {
        reached = record {
          skips = subst (λ n. Skips text at (at + n)) (sym width)
              (skip_blanks text (spelling p.token ++ rest) spaces.0 at
              (e ∙ append_assoc (gap_bytes p.gap) (spelling p.token) rest ∙ ap (λ g. g ++ (spelling p.token ++ rest)) spaces.1));
          stops = stops_there text start (subst (λ bs. begins_skip bs 0 ≡ false) (sym there) (no_skip p.token rest is behind));
        };
        read = inr (IsLongest-from_front text start p.token.kind (length (spelling p.token))
            (subst (λ bs. IsLongestFront bs p.token.kind (length (spelling p.token))) (sym there) (front p.token rest is behind)));
        small = λ k. subst IsWithinLimit (sym (slice_there (spelling p.token) rest start there)) (within p.token is k);
      }

  pub follow : (ps : List Piece) → Chain ps → (at : ℕ) → at ≤ length text → drop at text ≡ pieces.bytes_of ps
      → Follow text at (read_from at ps) (End (place_at text (length text)))
  follow [] end at l e = ended at l e
  follow (p ∷ ps) (link is behind spaces more) at l e =
      let rest = pieces.bytes_of ps in
      let start = at + length (gap_bytes p.gap) in
      let there = bytes_there p (pieces.bytes_of ps) at e in
      let start_fits = fits_past text (gap_bytes p.gap) (spelling p.token ++ pieces.bytes_of ps) at l
      (e ∙ append_assoc (gap_bytes p.gap) (spelling p.token) (pieces.bytes_of ps)) in (
        next p (pieces.bytes_of ps) at l e is behind spaces,
        λ k. true≢false (sym (ap (λ j. same_kind j kind.End) k) ∙ not_end p.token is),
        follow ps more (start + length (spelling p.token)) (fits_past text (spelling p.token) (pieces.bytes_of ps) start start_fits there)
            (drop_past text (spelling p.token) (pieces.bytes_of ps) start there),
      )

  same_text : (token : Tok) (start : ℕ) → IsSpelled token → slice_range text start (start + length (spelling token)) ≡ spelling token
      → (placed text (record { kind = token.kind; start = start; end = start + length (spelling token) })).text ≡ token.text
  same_text token start is e = by is
    where
      bytes : List ℕ
      bytes = slice_range text start (start + length (spelling token))

      none_kept : (same_kind token.kind kind.Name || same_kind token.kind kind.Number) ≡ false → token.text ≡ []
          → cond (same_kind token.kind kind.Name || same_kind token.kind kind.Number) bytes [] ≡ token.text
      none_kept h empty = cond-false (same_kind token.kind kind.Name || same_kind token.kind kind.Number) bytes [] h ∙ sym empty

      kept : (same_kind token.kind kind.Name || same_kind token.kind kind.Number) ≡ true → spelling token ≡ token.text
          → cond (same_kind token.kind kind.Name || same_kind token.kind kind.Number) bytes [] ≡ token.text
      kept h same = cond-true (same_kind token.kind kind.Name || same_kind token.kind kind.Number) bytes [] h ∙ e ∙ same

      by : IsSpelled token → cond (same_kind token.kind kind.Name || same_kind token.kind kind.Number) bytes [] ≡ token.text
      by (laid.name k h) = kept (ap (λ j. same_kind j kind.Name || same_kind j kind.Number) k) (name_text token k)
      by (laid.number k h) = kept (ap (λ j. same_kind j kind.Name || same_kind j kind.Number) k) (number_text token k)
      by (laid.word w empty) = none_kept (word_text token.kind w) empty
      by (laid.sign w empty) = none_kept (sign_text token.kind w) empty

  pub placed_alike : (ps : List Piece) → Chain ps → (at : ℕ) → drop at text ≡ pieces.bytes_of ps → Alike (tokens_of ps) (map (placed text) (read_from at ps))
  placed_alike [] end at e = moved.none
  placed_alike (p ∷ ps) (link is behind spaces more) at e =
      let start = at + length (gap_bytes p.gap) in
      let there = bytes_there p (pieces.bytes_of ps) at e in
      moved.both refl (same_text p.token start is (slice_there (spelling p.token) (pieces.bytes_of ps) start there))
      (placed_alike ps more (start + length (spelling p.token)) (drop_past text (spelling p.token) (pieces.bytes_of ps) start there))

-- ---- the bytes are text

blank_utf8 : IsUtf8 (32 ∷ [])
unfolding is_utf8 chars encode_utf8
blank_utf8 = IsUtf8-from_is_utf8 (32 ∷ []) refl

blanks_utf8 : (n : ℕ) → IsUtf8 (replicate n 32)
blanks_utf8 zero = IsUtf8-nil
blanks_utf8 (suc n) = IsUtf8-append (32 ∷ []) (replicate n 32) blank_utf8 (blanks_utf8 n)

pub chain_utf8 : (ps : List Piece) → Chain ps → IsUtf8 (pieces.bytes_of ps)
chain_utf8 [] end = IsUtf8-nil
chain_utf8 (p ∷ ps) (link is behind spaces more) =
    IsUtf8-append (gap_bytes p.gap ++ spelling p.token) (pieces.bytes_of ps)
    (IsUtf8-append (gap_bytes p.gap) (spelling p.token) (subst IsUtf8 (sym spaces.1) (blanks_utf8 spaces.0))
    (IsUtf8-kind (spelling p.token) p.token.kind (spelled_kind p.token is))) (chain_utf8 ps more)
