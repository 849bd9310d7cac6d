-- The newlines of the code are those of the rule.
use Rattle.std.proofs.Common.{◌≡◌, ◌&&◌, Bool, true, false, not, cond, List, [], ◌∷◌, ◌++◌, Option, Some, None, unwrap_or, refl, sym, ap, ◌∙◌, append_assoc, append-nil}
use Rattle.slang_tree.specs.declared.place.Place.{Place}
use Rattle.slang_lexer.specs.declared.token.TokenKind.TheVariants as kind
use Rattle.slang_tokens.specs.Tok.{Tok, same_kind}
use Rattle.slang_tokens.specs.Kinds.{is_line_end}
use Rattle.slang_tokens.specs.Newlines.{levels, last_kind, ends_test, ends_annotation, may_end, may_begin, takes_newline, solid, run_place, newline_place, newline_of, newline_at, standing}
use Rattle.slang_tokens.specs.Lines.{Front, beginning, joined, noted, passed, lines}

-- the front behind these tokens
abbrev pub front_at : List Tok → Front
front_at before = record {
  levels = levels (solid before);
  last = last_kind (solid before);
  annotated = ends_annotation (solid before);
  tested = ends_test (solid before);
  waiting = newline_place before;
}

pub front_beginning : beginning ≡ front_at []
front_beginning = refl

-- the place of the line ends with one more
joined_place : (before : List Tok) (token : Tok) → may_end (solid before) ≡ true → joined (newline_place before) token ≡ run_place token before
joined_place [] token h = by (same_kind token.kind kind.Semicolon) where
  by : (b : Bool) → cond b token.place token.place ≡ token.place
  by true = refl
  by false = refl
joined_place (one ∷ before) token h = by (is_line_end one.kind) h where
  by : (b : Bool) → may_end (cond b (solid before) (one ∷ solid before)) ≡ true
      → cond (same_kind token.kind kind.Semicolon) token.place (unwrap_or (cond (b && may_end (solid before)) (Some (run_place one before)) None) token.place)
      ≡ cond (same_kind token.kind kind.Semicolon) token.place (cond b (run_place one before) token.place)
  by true k = ap (λ c. cond (same_kind token.kind kind.Semicolon) token.place (unwrap_or (cond c (Some (run_place one before)) None) token.place)) k
  by false k = refl

-- where no newline may stand none waits
no_place : (before : List Tok) → may_end (solid before) ≡ false → newline_place before ≡ None
no_place [] h = refl
no_place (one ∷ before) h = by (is_line_end one.kind) h where
  by : (b : Bool) → may_end (cond b (solid before) (one ∷ solid before)) ≡ false → cond (b && may_end (solid before)) (Some (run_place one before)) None ≡ None
  by true k = ap (λ c. cond c (Some (run_place one before)) None) k
  by false k = refl

-- a line end
noted_at : (before : List Tok) (token : Tok) → is_line_end token.kind ≡ true → noted (front_at before) token ≡ front_at (token ∷ before)
noted_at before token h = by (may_end (solid before)) refl ∙ ap whole (sym h) where
  whole : Bool → Front
  whole c = record {
    levels = levels (cond c (solid before) (token ∷ solid before));
    last = last_kind (cond c (solid before) (token ∷ solid before));
    annotated = ends_annotation (cond c (solid before) (token ∷ solid before));
    tested = ends_test (cond c (solid before) (token ∷ solid before));
    waiting = cond (c && may_end (solid before)) (Some (run_place token before)) None;
  }

  with_place : Option Place → Front
  with_place place = record {
    levels = levels (solid before);
    last = last_kind (solid before);
    annotated = ends_annotation (solid before);
    tested = ends_test (solid before);
    waiting = place;
  }

  by : (b : Bool) → may_end (solid before) ≡ b
      → cond (may_end (solid before)) (with_place (Some (joined (newline_place before) token))) (with_place (newline_place before)) ≡ with_place (cond (may_end (solid before)) (Some (run_place token before)) None)
  by true k =
      ap (λ c. cond c (with_place (Some (joined (newline_place before) token))) (with_place (newline_place before))) k
      ∙ ap (λ p. with_place (Some p)) (joined_place before token k)
      ∙ ap (λ c. with_place (cond c (Some (run_place token before)) None)) (sym k)
  by false k =
      ap (λ c. cond c (with_place (Some (joined (newline_place before) token))) (with_place (newline_place before))) k
      ∙ ap with_place (no_place before k)
      ∙ ap (λ c. with_place (cond c (Some (run_place token before)) None)) (sym k)

-- any other token
passed_at : (before : List Tok) (token : Tok) → is_line_end token.kind ≡ false → passed (front_at before) token ≡ front_at (token ∷ before)
passed_at before token h = ap whole (sym h) where
  whole : Bool → Front
  whole c = record {
    levels = levels (cond c (solid before) (token ∷ solid before));
    last = last_kind (cond c (solid before) (token ∷ solid before));
    annotated = ends_annotation (cond c (solid before) (token ∷ solid before));
    tested = ends_test (cond c (solid before) (token ∷ solid before));
    waiting = cond (c && may_end (solid before)) (Some (run_place token before)) None;
  }

cond_same : {A : Type 0} (b : Bool) (a : A) → cond b a a ≡ a
cond_same true a = refl
cond_same false a = refl

-- the tokens that the code lets stand from a place on, before which the newline is still due
pub lines_standing : (before rest : List Tok) → lines (front_at before) rest ≡ newline_at before rest ++ standing before rest
lines_standing before [] = sym (append-nil (newline_of (newline_place before)))
lines_standing before (token ∷ rest) = by (lines_standing (token ∷ before) rest) (is_line_end token.kind) refl where
  F : Front
  F = front_at before

  line : Bool → List Tok
  line b = cond (not b && takes_newline token.kind (ends_test (solid before))) (newline_of (newline_place before)) []

  none : is_line_end token.kind ≡ false → newline_at (token ∷ before) rest ≡ []
  none h =
      ap (λ c. cond (may_begin (solid (token ∷ before)) rest) (newline_of (cond (c && may_end (solid before)) (Some (run_place token before)) None)) []) h
      ∙ cond_same (may_begin (solid (token ∷ before)) rest) []

  by : lines (front_at (token ∷ before)) rest ≡ newline_at (token ∷ before) rest ++ standing (token ∷ before) rest → (b : Bool) → is_line_end token.kind ≡ b
      → cond (is_line_end token.kind) [] (cond (takes_newline token.kind (ends_test (solid before))) (newline_of (newline_place before)) [] ++ token ∷ []) ++ lines (cond (is_line_end token.kind) (noted F token) (passed F token)) rest
      ≡ line (is_line_end token.kind) ++ (cond (is_line_end token.kind) (newline_at (token ∷ before) rest) (token ∷ []) ++ standing (token ∷ before) rest)
  by hyp true h =
      ap (λ c. cond c [] (cond (takes_newline token.kind (ends_test (solid before))) (newline_of (newline_place before)) [] ++ token ∷ []) ++ lines (cond c (noted F token) (passed F token)) rest) h
      ∙ ap (λ f. lines f rest) (noted_at before token h)
      ∙ hyp
      ∙ ap (λ c. line c ++ (cond c (newline_at (token ∷ before) rest) (token ∷ []) ++ standing (token ∷ before) rest)) (sym h)
  by hyp false h =
      ap (λ c. cond c [] (cond (takes_newline token.kind (ends_test (solid before))) (newline_of (newline_place before)) [] ++ token ∷ []) ++ lines (cond c (noted F token) (passed F token)) rest) h
      ∙ ap (λ f. (line false ++ token ∷ []) ++ lines f rest) (passed_at before token h)
      ∙ ap (λ tokens. (line false ++ token ∷ []) ++ tokens) hyp
      ∙ ap (λ tokens. (line false ++ token ∷ []) ++ (tokens ++ standing (token ∷ before) rest)) (none h)
      ∙ append_assoc (line false) (token ∷ []) (standing (token ∷ before) rest)
      ∙ ap (λ c. line c ++ (cond c (newline_at (token ∷ before) rest) (token ∷ []) ++ standing (token ∷ before) rest)) (sym h)

-- the newlines of the code are those of the rule
pub lines_stand : (tokens : List Tok) → lines beginning tokens ≡ standing [] tokens
lines_stand tokens = lines_standing [] tokens ∙ nothing tokens where
  nothing : (tokens : List Tok) → newline_at [] tokens ++ standing [] tokens ≡ standing [] tokens
  nothing [] = refl
  nothing (token ∷ rest) = ap (λ xs. xs ++ standing [] (token ∷ rest)) (cond_same (may_begin [] (token ∷ rest)) [])
