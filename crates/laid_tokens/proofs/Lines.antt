-- Of the newlines of laid out pieces those stand that are tokens.
use Rattle.std.proofs.Common.{◌≡◌, ◌+◌, ◌-◌, Bool, true, false, not, ◌&&◌, ◌||◌, cond, List, [], ◌∷◌, ◌++◌, Some, None, refl, sym, ◌∙◌, ap, ap₂, subst, ◌⊎◌, ⊎_elim, true≢false}
use Rattle.std.specs.Prelude.{codes}
use Rattle.std.specs.Str.{bytes_eq}
use Rattle.std.proofs.lemmas.Bool.{and_parts, or_cases, not-true, cond-true, cond-false}
use Rattle.slang_tree.specs.declared.place.Place.{Place}
use Rattle.slang_lexer.specs.declared.token.TokenKind.{TokenKind}
use Rattle.slang_lexer.specs.declared.token.TokenKind.TheVariants as kind
use Rattle.slang_lexer.specs.Statement.{ends_statement, begins_statement}
use Rattle.slang_tokens.specs.Tok.{Tok, same_kind, sign}
use Rattle.slang_tokens.specs.Kinds.{is_line_end, groups, opens, closes}
use Rattle.slang_tokens.specs.Newlines.{levels_with, innermost, is_grouped, ends_annotation_with, lets_newline, takes_newline, newline_of}
use Rattle.slang_tokens.specs.Lines.{Front, beginning, joined, noted, passed, newline, lines}
use Rattle.slang_grammar.specs.Declarations.{datatype_token}
use Rattle.print_layout.specs.Pieces.{Gap, none, blank, indent, line, Piece, piece, mark, tokens_of}
use Rattle.moved_texts.specs.Moved.{Alike}
use Rattle.moved_texts.specs.Moved as moved
use Rattle.laid_tokens.specs.Kinds.{may_touch, may_break, may_begin_line, fits, is_plain}
use Rattle.laid_tokens.specs.Laid.{inside, Laid, done, plain, opening, closing, annotation}
use Rattle.laid_tokens.specs.Laid as laid
use Rattle.laid_tokens.proofs.Tables.{same_kinds}
use Rattle.laid_tokens.proofs.Levels.{Matches, none_open, inside_is, matches_open, matches_close, matches_plain}
use Rattle.laid_tokens.proofs.Follow.{expand, expanded}
use Rattle.print_expressions.specs.Bare.{nowhere}

-- ---- fronts

-- a front behind a token of this kind, inside these brackets, where no newline waits
record Calm (around : List Bool) (last : TokenKind) (front : Front) : Type 0 where
  levels : Matches around front.levels
  last_is : front.last ≡ last
  annotated : front.annotated ≡ false
  waiting : front.waiting ≡ None
  not_at : same_kind last kind.At ≡ false
  not_newline : same_kind last kind.Newline ≡ false

-- a front where a newline waits, which is a token
record Waits (around : List Bool) (place : Place) (front : Front) : Type 0 where
  levels : Matches around front.levels
  waiting : front.waiting ≡ Some place
  not_at : same_kind front.last kind.At ≡ false

-- with the tokens that wait
data At (around : List Bool) (last : TokenKind) (front : Front) : List Tok → Type 0 where
  calm : Calm around last front → At around last front []
  waits : (place : Place) → last ≡ kind.Newline → Waits around place front → At around last front (sign kind.Newline place ∷ [])

-- a token that is no newline
pass_calm : (front : Front) (t : Tok) (ts : List Tok) → is_line_end t.kind ≡ false → front.waiting ≡ None → lines front (t ∷ ts) ≡ t ∷ lines (passed front t) ts
pass_calm front t ts e w =
    ap₂ (λ a f. a ++ lines f ts) (cond-false (is_line_end t.kind) [] (cond (takes_newline t.kind front.tested) (newline front) [] ++ t ∷ []) e)
    (cond-false (is_line_end t.kind) (noted front t) (passed front t) e)
    ∙ ap (λ a. (a ++ t ∷ []) ++ lines (passed front t) ts) (ap (λ p. cond (takes_newline t.kind front.tested) (newline_of p) []) w ∙ either
    (takes_newline t.kind front.tested))
  where
    either : (b : Bool) → cond b (newline_of None) [] ≡ []
    either true = refl
    either false = refl

pass_dropped : (front : Front) (t : Tok) (ts : List Tok) → is_line_end t.kind ≡ false → takes_newline t.kind front.tested ≡ false
    → lines front (t ∷ ts) ≡ t ∷ lines (passed front t) ts
pass_dropped front t ts e w =
    ap₂ (λ a f. a ++ lines f ts) (cond-false (is_line_end t.kind) [] (cond (takes_newline t.kind front.tested) (newline front) [] ++ t ∷ []) e)
    (cond-false (is_line_end t.kind) (noted front t) (passed front t) e)
    ∙ ap (λ a. (a ++ t ∷ []) ++ lines (passed front t) ts) (cond-false (takes_newline t.kind front.tested) (newline front) [] w)

pass_due : (front : Front) (place : Place) (t : Tok) (ts : List Tok) → is_line_end t.kind ≡ false → front.waiting ≡ Some place
    → takes_newline t.kind front.tested ≡ true → lines front (t ∷ ts) ≡ sign kind.Newline place ∷ t ∷ lines (passed front t) ts
pass_due front place t ts e w takes =
    ap₂ (λ a f. a ++ lines f ts) (cond-false (is_line_end t.kind) [] (cond (takes_newline t.kind front.tested) (newline front) [] ++ t ∷ []) e)
    (cond-false (is_line_end t.kind) (noted front t) (passed front t) e)
    ∙ ap (λ a. (a ++ t ∷ []) ++ lines (passed front t) ts) (cond-true (takes_newline t.kind front.tested) (newline front) [] takes ∙ ap newline_of w)

-- a newline
wait_line : (front : Front) (t : Tok) (ts : List Tok) → is_line_end t.kind ≡ true → lines front (t ∷ ts) ≡ lines (noted front t) ts
wait_line front t ts e =
    ap₂ (λ a f. a ++ lines f ts) (cond-true (is_line_end t.kind) [] (cond (takes_newline t.kind front.tested) (newline front) [] ++ t ∷ []) e)
    (cond-true (is_line_end t.kind) (noted front t) (passed front t) e)

-- what a newline leaves as it is
record Noted (front after : Front) : Type 0 where
  levels : after.levels ≡ front.levels
  last_is : after.last ≡ front.last
  tested : after.tested ≡ front.tested

noted_keeps : (front : Front) (t : Tok) → Noted front (noted front t)
noted_keeps front t = by (lets_newline front.last front.annotated front.levels)
  where
    by : (b : Bool) → Noted front (cond b (record front { waiting = Some (joined front.waiting t) }) front)
    by true = record { levels = refl; last_is = refl; tested = refl }
    by false = record { levels = refl; last_is = refl; tested = refl }

noted_waits : (front : Front) (place : Place) (t : Tok) → front.waiting ≡ Some place → (p : Place) × ((noted front t).waiting ≡ Some p)
noted_waits front place t w = by (lets_newline front.last front.annotated front.levels)
  where
    by : (b : Bool) → (p : Place) × ((cond b (record front { waiting = Some (joined front.waiting t) }) front).waiting ≡ Some p)
    by true = (joined front.waiting t, refl)
    by false = (place, w)

and_false : (b : Bool) → (b && false) ≡ false
and_false true = refl
and_false false = refl

-- behind a token other than `@` nothing ends an annotation
not_annotated : (last : TokenKind) (t : Tok) → same_kind last kind.At ≡ false → ends_annotation_with last t ≡ false
not_annotated last t h =
    ap (λ b. same_kind t.kind kind.Name && bytes_eq t.text (codes "datatype") && b) h ∙ and_false
    (same_kind t.kind kind.Name && bytes_eq t.text (codes "datatype"))

takes_begins : (k : TokenKind) (tested : Bool) → may_begin_line k ≡ true → takes_newline k tested ≡ true
takes_begins k tested h =
    let both = and_parts (begins_statement k) (not (same_kind k kind.LeftBrace)) h in
    ap (λ b. b && not (same_kind k kind.LeftBrace && tested)) both.0
    ∙ ap (λ b. not (b && tested)) (not-true (same_kind k kind.LeftBrace) both.1)

-- ---- a token that is no newline, behind its gap

not_let : (front : Front) (inner ends : Bool) → is_grouped (innermost front.levels) ≡ inner → ends_statement front.last ≡ ends
    → (inner || not ends) ≡ true → lets_newline front.last front.annotated front.levels ≡ false
not_let front inner ends g e h =
    ap₂ (λ a b. a && not front.annotated && not b) e g ∙ by inner ends front.annotated h
  where
    by : (inner ends annotated : Bool) → (inner || not ends) ≡ true → (ends && not annotated && not inner) ≡ false
    by true true true h = refl
    by true true false h = refl
    by true false annotated h = refl
    by false true annotated h = absurd (true≢false (sym h))
    by false false annotated h = refl

-- the tokens that stand up to this one, which is alike to that of the piece
record Taken (due : List Tok) (front : Front) (token : Tok) (more raw : List Tok) : Type 0 where
  given : List Tok
  same : Alike due given
  it : Tok
  kind_is : it.kind ≡ token.kind
  text_is : it.text ≡ token.text
  rest : List Tok
  alike : Alike more rest
  behind : Front
  are : lines front raw ≡ given ++ it ∷ lines (passed behind it) rest
  levels : behind.levels ≡ front.levels
  not_at : same_kind behind.last kind.At ≡ false

calm_not_at : {around : List Bool} {last : TokenKind} {front : Front} → Calm around last front → same_kind front.last kind.At ≡ false
calm_not_at c = ap (λ l. same_kind l kind.At) c.last_is ∙ c.not_at

taken_calm : (around : List Bool) (last : TokenKind) (front : Front) (token : Tok) (more raw : List Tok) → Calm around last front
    → is_line_end token.kind ≡ false
    → Alike (token ∷ more) raw → Taken [] front token more raw
taken_calm around last front token more raw c e (moved.both {y = y} {ys = ys} k t a) = record {
  given = [];
  same = moved.none;
  it = y;
  kind_is = k;
  text_is = t;
  rest = ys;
  alike = a;
  behind = front;
  are = pass_calm front y ys (ap is_line_end k ∙ e) c.waiting;
  levels = refl;
  not_at = calm_not_at c;
}

taken_due : (around : List Bool) (place : Place) (front : Front) (token : Tok) (more raw : List Tok) → Waits around place front → is_line_end token.kind ≡ false
    → may_begin_line token.kind ≡ true → Alike (token ∷ more) raw → Taken (sign kind.Newline place ∷ []) front token more raw
taken_due around place front token more raw w e begins (moved.both {y = y} {ys = ys} k t a) = record {
  given = sign kind.Newline place ∷ [];
  same = moved.both refl refl moved.none;
  it = y;
  kind_is = k;
  text_is = t;
  rest = ys;
  alike = a;
  behind = front;
  are = pass_due front place y ys (ap is_line_end k ∙ e) w.waiting (takes_begins y.kind front.tested (ap may_begin_line k ∙ begins));
  levels = refl;
  not_at = w.not_at;
}

-- behind the newline of a line that is no token
line_calm : (around : List Bool) (last : TokenKind) (front : Front) (token : Tok) (more raw : List Tok) → Calm around last front
    → is_line_end token.kind ≡ false
    → (inside around || (not (ends_statement last) || not (begins_statement token.kind))) ≡ true → Alike (sign kind.Newline nowhere ∷ token ∷ more) raw
    → Taken [] front token more raw
line_calm around last front token more raw c e h (moved.both {y = y} {ys = ys} k t a) = by ys a
  where
    is_line : is_line_end y.kind ≡ true
    is_line = ap is_line_end k

    grouped : is_grouped (innermost front.levels) ≡ inside around
    grouped = inside_is c.levels

    ends : ends_statement front.last ≡ ends_statement last
    ends = ap ends_statement c.last_is

    unnoted : (inside around || not (ends_statement last)) ≡ true → noted front y ≡ front
    unnoted g = cond-false (lets_newline front.last front.annotated front.levels) _ front (not_let front (inside around) (ends_statement last) grouped ends g)

    by : (ys : List Tok) → Alike (token ∷ more) ys → Taken [] front token more (y ∷ ys)
    by ys (moved.both {y = z} {ys = zs} l u b) = record {
      given = [];
      same = moved.none;
      it = z;
      kind_is = l;
      text_is = u;
      rest = zs;
      alike = b;
      behind = noted front y;
      are = wait_line front y (z ∷ zs) is_line
          ∙ ⊎_elim (λ g. pass_calm (noted front y) z zs (ap is_line_end l ∙ e) (ap (λ f. f.waiting) (unnoted g) ∙ c.waiting))
          (λ g. pass_dropped (noted front y) z zs (ap is_line_end l ∙ e)
          (ap (λ b. b && not (same_kind z.kind kind.LeftBrace && (noted front y).tested)) (ap begins_statement l ∙ not-true (begins_statement token.kind) g)))
          (or_cases (inside around || not (ends_statement last)) (not (begins_statement token.kind)) (left (inside around) (not (ends_statement last)) h));
      levels = (noted_keeps front y).levels;
      not_at = ap (λ l. same_kind l kind.At) (noted_keeps front y).last_is ∙ calm_not_at c;
    }
      where
        left : (p q : Bool) → (p || (q || not (begins_statement token.kind))) ≡ true → ((p || q) || not (begins_statement token.kind)) ≡ true
        left true q h = refl
        left false q h = h

line_due : (around : List Bool) (place : Place) (front : Front) (token : Tok) (more raw : List Tok) → Waits around place front → is_line_end token.kind ≡ false
    → may_begin_line token.kind ≡ true → Alike (sign kind.Newline nowhere ∷ token ∷ more) raw → Taken (sign kind.Newline place ∷ []) front token more raw
line_due around place front token more raw w e begins (moved.both {y = y} {ys = ys} k t a) = by ys a
  where
    by : (ys : List Tok) → Alike (token ∷ more) ys → Taken (sign kind.Newline place ∷ []) front token more (y ∷ ys)
    by ys (moved.both {y = z} {ys = zs} l u b) =
        let p = noted_waits front place y w.waiting in
        record {
          given = sign kind.Newline p.0 ∷ [];
          same = moved.both refl refl moved.none;
          it = z;
          kind_is = l;
          text_is = u;
          rest = zs;
          alike = b;
          behind = noted front y;
          are = wait_line front y (z ∷ zs) (ap is_line_end k)
              ∙ pass_due (noted front y) p.0 z zs (ap is_line_end l ∙ e) p.1 (takes_begins z.kind (noted front y).tested (ap may_begin_line l ∙ begins));
          levels = (noted_keeps front y).levels;
          not_at = ap (λ l. same_kind l kind.At) (noted_keeps front y).last_is ∙ w.not_at;
        }

abbrev on_newline : (TokenKind → Bool) → TokenKind → Type 0
on_newline p last = p last ≡ true → last ≡ kind.Newline → p kind.Newline ≡ true

at_newline : (p : TokenKind → Bool) (last : TokenKind) → on_newline p last
at_newline p last h e = sym (ap p e) ∙ h

crossed : (around : List Bool) (last : TokenKind) (front : Front) (due : List Tok) (gap : Gap) (token : Tok) (ps : List Piece) (raw : List Tok)
    → At around last front due
    → fits (inside around) last gap token.kind ≡ true → is_line_end token.kind ≡ false → Alike (tokens_of (expand gap token ++ ps)) raw
    → Taken due front token (tokens_of ps) raw
crossed around last front due none token ps raw (calm c) h e a = taken_calm around last front token (tokens_of ps) raw c e a
crossed around last front due none token ps raw (waits place is w) h e a =
    taken_due around place front token (tokens_of ps) raw w e
    (at_newline (λ l. not (same_kind l kind.Newline) || may_begin_line token.kind) last (and_parts (may_touch last token.kind) _ h).1 is) a
crossed around last front due blank token ps raw (calm c) h e a = taken_calm around last front token (tokens_of ps) raw c e a
crossed around last front due blank token ps raw (waits place is w) h e a =
    absurd (true≢false (sym (at_newline (λ l. not (same_kind l kind.Newline)) last h is)))
crossed around last front due (indent depth) token ps raw (calm c) h e a =
    absurd (true≢false (sym (and_parts (same_kind last kind.Newline) (may_begin_line token.kind) h).0 ∙ c.not_newline))
crossed around last front due (indent depth) token ps raw (waits place is w) h e a =
    taken_due around place front token (tokens_of ps) raw w e (and_parts (same_kind last kind.Newline) (may_begin_line token.kind) h).1 a
crossed around last front due (line depth) token ps raw (calm c) h e a =
    let rest = (and_parts (may_break last) ((same_kind last kind.Newline && may_begin_line token.kind) || (not (same_kind last kind.Newline)
    && (inside around || (not (ends_statement last) || not (begins_statement token.kind))))) h).1 in
    line_calm around last front token (tokens_of ps) raw c e
    (sym (ap (λ n. (n && may_begin_line token.kind) || (not n && (inside around ||
    (not (ends_statement last) || not (begins_statement token.kind))))) c.not_newline)
    ∙ rest) a
crossed around last front due (line depth) token ps raw (waits place is w) h e a =
    let rest = (and_parts (may_break last) ((same_kind last kind.Newline && may_begin_line token.kind) || (not (same_kind last kind.Newline)
    && (inside around || (not (ends_statement last) || not (begins_statement token.kind))))) h).1 in
    line_due around place front token (tokens_of ps) raw w e
    (only (may_begin_line token.kind) (at_newline (λ l. (same_kind l kind.Newline && may_begin_line token.kind) || (not (same_kind l kind.Newline)
    && (inside around || (not (ends_statement l) || not (begins_statement token.kind))))) last rest is)) a
  where
    only : (b : Bool) → (b || false) ≡ true → b ≡ true
    only true h = refl
    only false h = h

-- ---- all tokens

alike_append : {xs ys zs ws : List Tok} → Alike xs ys → Alike zs ws → Alike (xs ++ zs) (ys ++ ws)
alike_append moved.none h = h
alike_append (moved.both k t a) h = moved.both k t (alike_append a h)

-- behind a token
record Passed (k : TokenKind) : Type 0 where
  not_line : is_line_end k ≡ false
  not_at : same_kind k kind.At ≡ false

line_is_newline : (k : TokenKind) → is_line_end k ≡ false → same_kind k kind.Newline ≡ false
line_is_newline k h = by (same_kind k kind.Newline) refl
  where
    by : (b : Bool) → same_kind k kind.Newline ≡ b → same_kind k kind.Newline ≡ false
    by false e = e
    by true e = absurd (true≢false (sym (ap (λ b. b || same_kind k kind.Semicolon) e) ∙ h))

abbrev is_passed : TokenKind → Bool
is_passed k = not (is_line_end k) && not (same_kind k kind.At)

passed_from : (k : TokenKind) → is_passed k ≡ true → Passed k
passed_from k h =
    let both = and_parts (not (is_line_end k)) (not (same_kind k kind.At)) h in
    record { not_line = not-true (is_line_end k) both.0; not_at = not-true (same_kind k kind.At) both.1 }

opens_are : (p : TokenKind → Bool) → p kind.LeftParen ≡ true → p kind.LeftBracket ≡ true → p kind.LeftBrace ≡ true → (k : TokenKind) → opens k ≡ true
    → p k ≡ true
opens_are p a b c k h =
    ⊎_elim (λ round. ⊎_elim (λ e. subst (λ j. p j ≡ true) (sym (same_kinds k kind.LeftParen e)) a)
    (λ e. subst (λ j. p j ≡ true) (sym (same_kinds k kind.LeftBracket e)) b)
    (or_cases (same_kind k kind.LeftParen) (same_kind k kind.LeftBracket) round)) (λ e. subst (λ j. p j ≡ true) (sym (same_kinds k kind.LeftBrace e)) c)
    (or_cases (groups k) (same_kind k kind.LeftBrace) h)

closes_are : (p : TokenKind → Bool) → p kind.RightParen ≡ true → p kind.RightBracket ≡ true → p kind.RightBrace ≡ true → (k : TokenKind) → closes k ≡ true
    → p k ≡ true
closes_are p a b c k h =
    ⊎_elim (λ e. subst (λ j. p j ≡ true) (sym (same_kinds k kind.RightParen e)) a)
    (λ more. ⊎_elim (λ e. subst (λ j. p j ≡ true) (sym (same_kinds k kind.RightBracket e)) b)
    (λ e. subst (λ j. p j ≡ true) (sym (same_kinds k kind.RightBrace e)) c)
    (or_cases (same_kind k kind.RightBracket) (same_kind k kind.RightBrace) more))
    (or_cases (same_kind k kind.RightParen) (same_kind k kind.RightBracket || same_kind k kind.RightBrace) h)

plain_parts : (k : TokenKind) → is_plain k ≡ true → (opens k ≡ false) × (closes k ≡ false) × Passed k
plain_parts k h =
    let a = and_parts (not (opens k)) (not (closes k) && (not (is_line_end k) && not (same_kind k kind.At))) h in
    let b = and_parts (not (closes k)) (not (is_line_end k) && not (same_kind k kind.At)) a.1 in
    (not-true (opens k) a.0, not-true (closes k) b.0, passed_from k b.1)

-- the front behind a token that was taken
passed_calm : (around : List Bool) (k : TokenKind) (behind : Front) (t : Tok) → t.kind ≡ k → Passed k → same_kind behind.last kind.At ≡ false
    → Matches around (levels_with behind.levels t.kind behind.last) → Calm around k (passed behind t)
passed_calm around k behind t is p at m = record {
  levels = m;
  last_is = is;
  annotated = not_annotated behind.last t at;
  waiting = refl;
  not_at = p.not_at;
  not_newline = line_is_newline k p.not_line;
}

matched : {around : List Bool} {last : TokenKind} {front : Front} {due : List Tok} → At around last front due → Matches around front.levels
matched (calm c) = c.levels
matched (waits place is w) = w.levels

-- behind `@`
behind_at : (around : List Bool) (front : Front) (datatype class : Place) (ps : List Piece) (more rest : List Tok) → Matches around front.levels
    → front.waiting ≡ None
    → Alike (datatype_token datatype ∷ sign kind.Class class ∷ more) rest
    → ((f : Front) (ts : List Tok) → Calm around kind.Class f → Alike more ts → Alike (tokens_of ps) (lines f ts))
    → Alike (datatype_token datatype ∷ sign kind.Class class ∷ tokens_of ps) (lines front rest)
behind_at around front datatype class ps more rest m w (moved.both {y = y} {ys = ys} k t a) go = by ys a
  where
    named : Front
    named = passed front y

    levels_named : Matches around named.levels
    levels_named = matches_plain around front.levels y.kind front.last m (ap opens k) (ap closes k)

    by : (ys : List Tok) → Alike (sign kind.Class class ∷ more) ys
        → Alike (datatype_token datatype ∷ sign kind.Class class ∷ tokens_of ps) (lines front (y ∷ ys))
    by ys (moved.both {y = z} {ys = zs} l u b) =
        subst (Alike (datatype_token datatype ∷ sign kind.Class class ∷ tokens_of ps))
        (sym (pass_calm front y (z ∷ zs) (ap is_line_end k) w ∙ ap (λ ts. y ∷ ts) (pass_calm named z zs (ap is_line_end l) refl)))
        (moved.both k t (moved.both l u (go (passed named z) zs (passed_calm around kind.Class named z l (passed_from kind.Class refl)
        (ap (λ j. same_kind j kind.At) k)
        (matches_plain around named.levels z.kind named.last levels_named (ap opens l) (ap closes l))) b)))

-- one token more
with_token : (due : List Tok) (front : Front) (token : Tok) (more raw out : List Tok) (t : Taken due front token more raw)
    → Alike out (lines (passed t.behind t.it) t.rest) → Alike (due ++ token ∷ out) (lines front raw)
with_token due front token more raw out t h =
    subst (Alike (due ++ token ∷ out)) (sym t.are) (alike_append t.same (moved.both t.kind_is t.text_is h))

rehead : {x y : Tok} {xs ys : List Tok} → x.kind ≡ y.kind → x.text ≡ y.text → Alike (x ∷ xs) ys → Alike (y ∷ xs) ys
rehead k t (moved.both l u a) = moved.both (l ∙ k) (u ∙ t) a

newline_ends_nothing : ends_statement kind.Newline ≡ false
unfolding ends_statement
newline_ends_nothing = refl

newline_waits : (around : List Bool) (last : TokenKind) (front : Front) (y : Tok) → Calm around last front → inside around ≡ false → ends_statement last ≡ true
    → Waits around (joined front.waiting y) (noted front y)
newline_waits around last front y c inner h = record {
  levels = subst (Matches around) (sym (noted_keeps front y).levels) c.levels;
  waiting = ap (λ f. f.waiting) (cond-true (lets_newline front.last front.annotated front.levels)
      (record front { waiting = Some (joined front.waiting y) }) front lets);
  not_at = ap (λ l. same_kind l kind.At) (noted_keeps front y).last_is ∙ calm_not_at c;
}
  where
    lets : lets_newline front.last front.annotated front.levels ≡ true
    lets =
        ap₂ (λ a b. a && not b && not (is_grouped (innermost front.levels))) (ap ends_statement c.last_is ∙ h) c.annotated
        ∙ ap not (inside_is c.levels ∙ inner)

lines_at : {around around' : List Bool} {last last' : TokenKind} {ps : List Piece} → Laid around last ps around' last' → (front : Front) (due raw : List Tok)
    → At around last front due → Alike (tokens_of (expanded ps)) raw → Alike (due ++ tokens_of ps) (lines front raw)
lines_at done front due raw (calm c) moved.none = subst (λ w. Alike [] (newline_of w)) (sym c.waiting) moved.none
lines_at done front due raw (waits place is w) moved.none =
    subst (λ p. Alike (sign kind.Newline place ∷ []) (newline_of p)) (sym w.waiting) (moved.both refl refl moved.none)
lines_at (plain {around = around} {last = last} {p = p} {pieces = ps} k is h more) front due raw at a =
    let parts = plain_parts p.token.kind k in
    let t = crossed around last front due p.gap p.token (expanded ps) raw at h parts.2.not_line a in
    let m = matches_plain around t.behind.levels t.it.kind t.behind.last (subst (Matches around) (sym t.levels) (matched at)) (ap opens t.kind_is ∙ parts.0)
    (ap closes t.kind_is ∙ parts.1) in
    with_token due front p.token (tokens_of (expanded ps)) raw (tokens_of ps) t
    (lines_at more (passed t.behind t.it) [] t.rest (calm (passed_calm around p.token.kind t.behind t.it t.kind_is parts.2 t.not_at m)) t.alike)
lines_at (opening {around = around} {last = last} {p = p} {pieces = ps} k is h more) front due raw at a =
    let passes = passed_from p.token.kind (opens_are is_passed refl refl refl p.token.kind k) in
    let t = crossed around last front due p.gap p.token (expanded ps) raw at h passes.not_line a in
    let m = matches_open around t.behind.levels t.it.kind t.behind.last (subst (Matches around) (sym t.levels) (matched at)) (ap opens t.kind_is ∙ k) in
    with_token due front p.token (tokens_of (expanded ps)) raw (tokens_of ps) t
    (lines_at more (passed t.behind t.it) [] t.rest
    (calm (passed_calm (groups p.token.kind ∷ around) p.token.kind t.behind t.it t.kind_is passes t.not_at
    (subst (λ g. Matches (g ∷ around) (levels_with t.behind.levels t.it.kind t.behind.last)) (ap groups t.kind_is) m))) t.alike)
lines_at (closing {group = group} {around = around} {last = last} {p = p} {pieces = ps} k is h more) front due raw at a =
    let passes = passed_from p.token.kind (closes_are is_passed refl refl refl p.token.kind k) in
    let not_open = not-true (opens p.token.kind) (closes_are (λ j. not (opens j)) refl refl refl p.token.kind k) in
    let t = crossed (group ∷ around) last front due p.gap p.token (expanded ps) raw at h passes.not_line a in
    let m = matches_close group around t.behind.levels t.it.kind t.behind.last (subst (Matches (group ∷ around)) (sym t.levels) (matched at))
    (ap opens t.kind_is ∙ not_open)
    (ap closes t.kind_is ∙ k) in
    with_token due front p.token (tokens_of (expanded ps)) raw (tokens_of ps) t
    (lines_at more (passed t.behind t.it) [] t.rest (calm (passed_calm around p.token.kind t.behind t.it t.kind_is passes t.not_at m)) t.alike)
lines_at (laid.newline {around = around} {last = last} {place = place} {pieces = ps} inner h more) front due raw (calm c) (moved.both {y = y} {ys = ys} k t a) =
    let ends = (and_parts (may_break last) (ends_statement last) h).1 in
    subst (Alike (sign kind.Newline place ∷ tokens_of ps)) (sym (wait_line front y ys (ap is_line_end k)))
    (rehead refl refl (lines_at more (noted front y) (sign kind.Newline (joined front.waiting y) ∷ []) ys
    (waits (joined front.waiting y) refl (newline_waits around last front y c inner ends)) a))
lines_at (laid.newline {last = last} inner h more) front due raw (waits place is w) a =
    absurd (true≢false (sym (and_parts (may_break last) (ends_statement last) h).1 ∙ ap ends_statement is ∙ newline_ends_nothing))
lines_at (annotation {around = around} {last = last} {gap = gap} {at = place} {datatype = datatype} {class = class} {pieces = ps} h more) front due raw at a =
    let t = crossed around last front due gap (sign kind.At place) (piece none
    (datatype_token datatype) ∷ mark blank kind.Class class ∷ expanded ps) raw at h refl a in
    let m = matches_plain around t.behind.levels t.it.kind t.behind.last (subst (Matches around) (sym t.levels) (matched at)) (ap opens t.kind_is)
    (ap closes t.kind_is) in
    with_token due front (sign kind.At place) (datatype_token datatype ∷ sign kind.Class class ∷ tokens_of (expanded ps)) raw
    (datatype_token datatype ∷ sign kind.Class class ∷ tokens_of ps) t
    (behind_at around (passed t.behind t.it) datatype class ps (tokens_of (expanded ps)) t.rest m refl t.alike
    (λ f rest c b. lines_at more f [] rest (calm c) b))

pub tokens_stand : {around : List Bool} {last : TokenKind} {ps : List Piece} → Laid [] kind.End ps around last → (raw : List Tok) → Alike
    (tokens_of (expanded ps)) raw
    → Alike (tokens_of ps) (lines beginning raw)
tokens_stand h raw a =
    lines_at h beginning [] raw
    (calm (record { levels = none_open; last_is = refl; annotated = refl; waiting = refl; not_at = refl; not_newline = refl })) a
