-- Where a walk ends behind a constant, the tokens are one.
use Rattle.std.proofs.Common.{◌≡◌, ◌==◌, ℕ, zero, suc, Bool, true, false, List, [], ◌∷◌, ◌++◌, append_assoc, append-nil, Option, Some, None, refl}
use Rattle.std.proofs.Common.{sym, ap, ◌∙◌, arith}
use Rattle.std.specs.Prelude.{if◌then◌else◌}
use Rattle.std.proofs.lemmas.Bool.Decides.{nat_tests}
use Rattle.slang_lexer.specs.declared.token.TokenKind.TheVariants as kind
use Rattle.slang_tree.specs.declared.place.Place.{Place}
use Rattle.slang_tree.specs.declared.expression.Name.{Name}
use Rattle.slang_tokens.specs.Tok.{Tok, sign}
use Rattle.slang_grammar.specs.Parts.{TypeText, ElementText, type_tokens, element_tokens, optional, IsType, name_token, number_token}
use Rattle.slang_grammar.specs.Parts as written
use Rattle.slang_grammar.specs.Declarations.{ConstText, const_number, const_minus, const_truth, const_falsity, const_sequence, const_record}
use Rattle.slang_grammar.specs.Declarations.{ConstsText, no_consts, last_const, const_then, const_tokens, consts_tokens, HasConst, HasElements}
use Rattle.argument_rules.specs.Arguments.{is_below_zero, IsConst, AreConsts}
use Rattle.argument_forms.specs.Constants.{AreConstant}
use Rattle.argument_forms.specs.declared.states.Due.TheVariants as due
use Rattle.argument_forms.specs.declared.states.State.{State}
use Rattle.argument_forms.specs.Machine.{is_sign, is_name, is_digits, is_digits_below_zero, at, in_type, on, below, close, next_member, close_type}
use Rattle.argument_forms.specs.Machine.{begin, begin_type, walk, begins, is_whole}
use Rattle.argument_forms.proofs.Walks.{walk_none}
use Rattle.argument_forms.proofs.TokenLaws.{sign_is, name_is, digits_is, below_is}

-- the walk from there ends behind a constant
pub record Ends (state : Option State) (tokens : List Tok) : Type 0 where
  pub whole : is_whole (walk state tokens) ≡ true

no_end : {R : Type 0} (tokens : List Tok) → Ends None tokens → R
no_end tokens h = absurd (never (sym (ap is_whole (walk_none tokens)) ∙ h.whole))
  where
    never : false ≡ true → ⊥
    never e = cc

-- what follows from either answer of a test
either : {R : Type 0} (test : Bool) (x y : Option State) (tokens : List Tok) → Ends (if test then x else y) tokens → (test ≡ true → Ends x tokens → R)
    → (test ≡ false → Ends y tokens → R) → R
either true x y tokens h f g = f refl h
either false x y tokens h f g = g refl h

-- what follows from a test
only : {R : Type 0} (test : Bool) (state : State) (tokens : List Tok) → Ends (on test state) tokens → (test ≡ true → Ends (Some state) tokens → R) → R
only true state tokens h f = f refl h
only false state tokens h f = no_end tokens h

-- Behind any constant these tokens go on its list up to its end, and then come these.
Closes : List Tok → List Tok → Type 0
Closes tokens rest =
    (c : ConstText) → IsConst c → (cs : ConstsText) × HasConst cs × AreConsts cs × (const_tokens c ++ tokens ≡ consts_tokens cs ++ rest)

-- what stands behind a constant within so many lists
Tail : ℕ → List Tok → Type 0
Tail zero tokens = tokens ≡ []
Tail (suc n) tokens = (right : Place) × (after : List Tok) × Closes tokens (sign kind.RightParen right ∷ after) × Tail n after

record ConstThen (lists : ℕ) (tokens : List Tok) : Type 0 where
  const : ConstText
  rest : List Tok
  formed : IsConst const
  spelled : tokens ≡ const_tokens const ++ rest
  tail : Tail lists rest

record DigitsThen (lists : ℕ) (tokens : List Tok) : Type 0 where
  digits : List ℕ
  place : Place
  rest : List Tok
  formed : is_below_zero digits ≡ true
  spelled : tokens ≡ number_token digits place ∷ rest
  tail : Tail lists rest

-- members of a list, and its end
record MembersThen (lists : ℕ) (tokens : List Tok) : Type 0 where
  consts : ConstsText
  right : Place
  after : List Tok
  formed : AreConsts consts
  spelled : tokens ≡ consts_tokens consts ++ sign kind.RightParen right ∷ after
  tail : Tail lists after

record SomeThen (lists : ℕ) (tokens : List Tok) : Type 0 where
  members : MembersThen lists tokens
  some : HasConst members.consts

record FieldsThen (lists : ℕ) (tokens : List Tok) : Type 0 where
  left : Place
  rest : List Tok
  spelled : tokens ≡ sign kind.LeftParen left ∷ rest
  fields : SomeThen lists rest

record ListedThen (lists : ℕ) (tokens : List Tok) : Type 0 where
  left : Place
  rest : List Tok
  spelled : tokens ≡ sign kind.LeftParen left ∷ rest
  members : MembersThen lists rest

record ElementsThen (lists : ℕ) (tokens : List Tok) : Type 0 where
  ty : Option ElementText
  left : Place
  consts : ConstsText
  right : Place
  after : List Tok
  has : HasElements ty consts
  formed : AreConsts consts
  spelled : tokens ≡ optional element_tokens ty ++ (sign kind.LeftParen left ∷ (consts_tokens consts ++ sign kind.RightParen right ∷ after))
  tail : Tail lists after

-- what stands behind a type within so many square brackets
TypeTail : ℕ → ℕ → List Tok → Type 0
TypeTail zero lists tokens = (right : Place) × (rest : List Tok) × (tokens ≡ sign kind.RightBracket right ∷ rest) × ListedThen lists rest
TypeTail (suc n) lists tokens = (right : Place) × (rest : List Tok) × (tokens ≡ sign kind.RightBracket right ∷ rest) × TypeTail n lists rest

record TypeThen (squares lists : ℕ) (tokens : List Tok) : Type 0 where
  ty : TypeText
  rest : List Tok
  formed : IsType ty
  spelled : tokens ≡ type_tokens ty ++ rest
  tail : TypeTail squares lists rest

record SquareThen (squares lists : ℕ) (tokens : List Tok) : Type 0 where
  left : Place
  rest : List Tok
  spelled : tokens ≡ sign kind.LeftBracket left ∷ rest
  inner : TypeThen (suc squares) lists rest

-- what the tokens are by what is due
record Sound (tokens : List Tok) : Type 0 where
  constant : (lists : ℕ) → Ends (Some (at due.Constant lists)) tokens → ConstThen lists tokens
  member : (lists : ℕ) → Ends (Some (at due.Member (suc lists))) tokens → MembersThen lists tokens
  digits : (lists : ℕ) → Ends (Some (at due.Digits lists)) tokens → DigitsThen lists tokens
  fields : (lists : ℕ) → Ends (Some (at due.Fields lists)) tokens → FieldsThen lists tokens
  elements : (lists : ℕ) → Ends (Some (at due.Elements lists)) tokens → ElementsThen lists tokens
  type_due : (lists squares : ℕ) → Ends (Some (in_type due.Written lists squares)) tokens → TypeThen squares lists tokens
  square : (lists squares : ℕ) → Ends (Some (in_type due.Square lists squares)) tokens → SquareThen squares lists tokens
  behind_type : (lists squares : ℕ) → Ends (Some (in_type due.BehindType lists squares)) tokens → TypeTail squares lists tokens
  listed : (lists : ℕ) → Ends (Some (at due.Listed lists)) tokens → ListedThen lists tokens
  behind : (lists : ℕ) → Ends (Some (at due.Behind lists)) tokens → Tail lists tokens

-- a constant in a list begins its members
some_from : (lists : ℕ) (tokens : List Tok) → ConstThen (suc lists) tokens → SomeThen lists tokens
unfolding Tail Closes
some_from lists tokens h =
    let closed = h.tail.2 h.const h.formed in
    record {
      members = record { consts = closed.0; right = h.tail.0; after = h.tail.1; formed = closed.2; spelled = h.spelled ∙ closed.3; tail = h.tail.3 };
      some = closed.1;
    }

none_left : (lists : ℕ) → Ends (Some (at due.Behind lists)) [] → Tail lists []
unfolding Tail
none_left zero h = refl
none_left (suc n) h = absurd (never n h.whole)
  where
    never : (m : ℕ) → (suc m == 0) ≡ true → ⊥
    never m e = grind (arith, nat_tests, e)

false_is : {R : Type 0} → false ≡ true → R
false_is e = absurd (never e)
  where
    never : false ≡ true → ⊥
    never x = cc

sound_end : Sound []
sound_end = record {
  constant = λ lists h. false_is h.whole;
  member = λ lists h. false_is h.whole;
  digits = λ lists h. false_is h.whole;
  fields = λ lists h. false_is h.whole;
  elements = λ lists h. false_is h.whole;
  type_due = λ lists squares h. false_is h.whole;
  square = λ lists squares h. false_is h.whole;
  behind_type = λ lists squares h. false_is h.whole;
  listed = λ lists h. false_is h.whole;
  behind = none_left;
}

module _ (token : Tok) (tokens : List Tok) (known : Sound tokens) where
  -- one token is the constant
  alone : (lists : ℕ) (c : ConstText) → IsConst c → token ∷ tokens ≡ const_tokens c ++ tokens → Ends (Some (at due.Behind lists)) tokens
      → ConstThen lists (token ∷ tokens)
  alone lists c formed spelled h = record { const = c; rest = tokens; formed = formed; spelled = spelled; tail = known.behind lists h }

  minus_begins : (lists : ℕ) → token ≡ sign kind.Minus token.place → Ends (Some (at due.Digits lists)) tokens → ConstThen lists (token ∷ tokens)
  minus_begins lists is h =
      let d = known.digits lists h in
      record {
        const = const_minus token.place d.digits d.place;
        rest = d.rest;
        formed = d.formed;
        spelled = ap (λ (t : Tok). t ∷ tokens) is ∙ ap (λ (ts : List Tok). sign kind.Minus token.place ∷ ts) d.spelled;
        tail = d.tail;
      }

  sequence_begins : (lists : ℕ) → token ≡ sign kind.TypeIsz token.place → Ends (Some (at due.Elements lists)) tokens → ConstThen lists (token ∷ tokens)
  sequence_begins lists is h =
      let d = known.elements lists h in
      record {
        const = const_sequence token.place d.ty d.left d.consts d.right;
        rest = d.after;
        formed = (d.has, d.formed);
        spelled = ap (λ (t : Tok). t ∷ tokens) is
            ∙ ap (λ (ts : List Tok). sign kind.TypeIsz token.place ∷ ts)
            (d.spelled
            ∙ sym (append_assoc (optional element_tokens d.ty) (sign kind.LeftParen d.left ∷ consts_tokens d.consts) (sign kind.RightParen d.right ∷ d.after))
            ∙ sym (append_assoc (optional element_tokens d.ty ++ (sign kind.LeftParen d.left ∷ consts_tokens d.consts)) (sign kind.RightParen d.right ∷ [])
            d.after));
        tail = d.tail;
      }

  record_begins : (lists : ℕ) → is_name token ≡ true → Ends (Some (at due.Fields lists)) tokens → ConstThen lists (token ∷ tokens)
  record_begins lists is h =
      let d = known.fields lists h in
      let m = d.fields.members in
      let name : Name = record { text = token.text; place = token.place } in
      record {
        const = const_record name d.left m.consts m.right;
        rest = m.after;
        formed = ((name_is token is).1, d.fields.some, m.formed);
        spelled = ap (λ (t : Tok). t ∷ tokens) (name_is token is).0
            ∙ ap (λ (ts : List Tok). name_token name ∷ ts)
            (d.spelled
            ∙ ap (λ (ts : List Tok). sign kind.LeftParen d.left ∷ ts)
            (m.spelled ∙ sym (append_assoc (consts_tokens m.consts) (sign kind.RightParen m.right ∷ []) m.after)));
        tail = m.tail;
      }

  const_begins : (lists : ℕ) → Ends (begin lists token) tokens → ConstThen lists (token ∷ tokens)
  const_begins lists h =
      either (is_digits token) _ _ tokens h
      (λ is e. alone lists (const_number token.text token.place) (digits_is token is).1 (ap (λ (t : Tok). t ∷ tokens) (digits_is token is).0) e)
      (λ _ h1. either (is_sign kind.Minus token) _ _ tokens h1 (λ is e. minus_begins lists (sign_is kind.Minus token is) e)
      (λ _ h2. either (is_sign kind.True token) _ _ tokens h2
      (λ is e. alone lists (const_truth token.place) tt (ap (λ (t : Tok). t ∷ tokens) (sign_is kind.True token is)) e)
      (λ _ h3. either (is_sign kind.False token) _ _ tokens h3
      (λ is e. alone lists (const_falsity token.place) tt (ap (λ (t : Tok). t ∷ tokens) (sign_is kind.False token is)) e)
      (λ _ h4. either (is_sign kind.TypeIsz token) _ _ tokens h4 (λ is e. sequence_begins lists (sign_is kind.TypeIsz token is) e)
      (λ _ h5. only (is_name token) (at due.Fields lists) tokens h5 (λ is e. record_begins lists is e))))))

  member_begins : (lists : ℕ) → Ends (Some (at due.Member (suc lists))) (token ∷ tokens) → MembersThen lists (token ∷ tokens)
  member_begins lists h =
      either (is_sign kind.RightParen token) (close (below (suc lists))) (begin (suc lists) token) tokens (record { whole = h.whole })
      (λ is e. record {
        consts = no_consts;
        right = token.place;
        after = tokens;
        formed = tt;
        spelled = ap (λ (t : Tok). t ∷ tokens) (sign_is kind.RightParen token is);
        tail = known.behind lists e;
      })
      (λ _ e. (some_from lists (token ∷ tokens) (const_begins (suc lists) e)).members)

  digits_begin : (lists : ℕ) → Ends (Some (at due.Digits lists)) (token ∷ tokens) → DigitsThen lists (token ∷ tokens)
  digits_begin lists h =
      only (is_digits_below_zero token) (at due.Behind lists) tokens (record { whole = h.whole })
      (λ is e. record {
        digits = token.text;
        place = token.place;
        rest = tokens;
        formed = (below_is token is).1;
        spelled = ap (λ (t : Tok). t ∷ tokens) (below_is token is).0;
        tail = known.behind lists e;
      })

  fields_begin : (lists : ℕ) → Ends (Some (at due.Fields lists)) (token ∷ tokens) → FieldsThen lists (token ∷ tokens)
  fields_begin lists h =
      only (is_sign kind.LeftParen token) (at due.Constant (suc lists)) tokens (record { whole = h.whole })
      (λ is e. record {
        left = token.place;
        rest = tokens;
        spelled = ap (λ (t : Tok). t ∷ tokens) (sign_is kind.LeftParen token is);
        fields = some_from lists tokens (known.constant (suc lists) e);
      })

  listed_begins : (lists : ℕ) → Ends (Some (at due.Listed lists)) (token ∷ tokens) → ListedThen lists (token ∷ tokens)
  listed_begins lists h =
      only (is_sign kind.LeftParen token) (at due.Member (suc lists)) tokens (record { whole = h.whole })
      (λ is e. record {
        left = token.place;
        rest = tokens;
        spelled = ap (λ (t : Tok). t ∷ tokens) (sign_is kind.LeftParen token is);
        members = known.member lists e;
      })

  bare_elements : (lists : ℕ) → token ≡ sign kind.LeftParen token.place → SomeThen lists tokens → ElementsThen lists (token ∷ tokens)
  bare_elements lists is h =
      let m = h.members in
      record {
        ty = None;
        left = token.place;
        consts = m.consts;
        right = m.right;
        after = m.after;
        has = h.some;
        formed = m.formed;
        spelled = ap (λ (t : Tok). t ∷ tokens) is ∙ ap (λ (ts : List Tok). sign kind.LeftParen token.place ∷ ts) m.spelled;
        tail = m.tail;
      }

  written_elements : (lists : ℕ) → token ≡ sign kind.LeftBracket token.place → TypeThen 0 lists tokens → ElementsThen lists (token ∷ tokens)
  unfolding TypeTail
  written_elements lists is h =
      let right = h.tail.0 in
      let list = h.tail.3 in
      let m = list.members in
      let element : ElementText = record { left = token.place; ty = h.ty; right = right } in
      let open_list = sign kind.LeftParen list.left ∷ (consts_tokens m.consts ++ sign kind.RightParen m.right ∷ m.after) in
      record {
        ty = Some element;
        left = list.left;
        consts = m.consts;
        right = m.right;
        after = m.after;
        has = h.formed;
        formed = m.formed;
        spelled = ap (λ (t : Tok). t ∷ tokens) is
            ∙ ap (λ (ts : List Tok). sign kind.LeftBracket token.place ∷ ts)
            (h.spelled
            ∙ ap (λ (ts : List Tok). type_tokens h.ty ++ ts)
            (h.tail.2
            ∙ ap (λ (ts : List Tok). sign kind.RightBracket right ∷ ts)
            (list.spelled ∙ ap (λ (ts : List Tok). sign kind.LeftParen list.left ∷ ts) m.spelled))
            ∙ sym (append_assoc (type_tokens h.ty) (sign kind.RightBracket right ∷ []) open_list));
        tail = m.tail;
      }

  elements_begin : (lists : ℕ) → Ends (Some (at due.Elements lists)) (token ∷ tokens) → ElementsThen lists (token ∷ tokens)
  elements_begin lists h =
      either (is_sign kind.LeftParen token) (Some (at due.Constant (suc lists))) (on (is_sign kind.LeftBracket token) (at due.Written lists)) tokens
      (record { whole = h.whole })
      (λ is e. bare_elements lists (sign_is kind.LeftParen token is) (some_from lists tokens (known.constant (suc lists) e)))
      (λ _ h1. only (is_sign kind.LeftBracket token) (at due.Written lists) tokens h1
      (λ is e. written_elements lists (sign_is kind.LeftBracket token is) (known.type_due lists 0 e)))

  -- one token is the type
  type_alone : (lists squares : ℕ) (ty : TypeText) → IsType ty → token ∷ tokens ≡ type_tokens ty ++ tokens
      → Ends (Some (in_type due.BehindType lists squares)) tokens → TypeThen squares lists (token ∷ tokens)
  type_alone lists squares ty formed spelled h =
      record { ty = ty; rest = tokens; formed = formed; spelled = spelled; tail = known.behind_type lists squares h }

  sequence_type_begins : (lists squares : ℕ) → token ≡ sign kind.TypeIsz token.place → SquareThen squares lists tokens
      → TypeThen squares lists (token ∷ tokens)
  unfolding TypeTail
  sequence_type_begins lists squares is h =
      let inner = h.inner in
      let right = inner.tail.0 in
      record {
        ty = written.sequence_type token.place h.left inner.ty right;
        rest = inner.tail.1;
        formed = inner.formed;
        spelled = ap (λ (t : Tok). t ∷ tokens) is
            ∙ ap (λ (ts : List Tok). sign kind.TypeIsz token.place ∷ ts)
            (h.spelled
            ∙ ap (λ (ts : List Tok). sign kind.LeftBracket h.left ∷ ts)
            (inner.spelled ∙ ap (λ (ts : List Tok). type_tokens inner.ty ++ ts) inner.tail.2
            ∙ sym (append_assoc (type_tokens inner.ty) (sign kind.RightBracket right ∷ []) inner.tail.1)));
        tail = inner.tail.3;
      }

  type_begins : (lists squares : ℕ) → Ends (begin_type lists squares token) tokens → TypeThen squares lists (token ∷ tokens)
  type_begins lists squares h =
      either (is_sign kind.TypeZ token) _ _ tokens h
      (λ is e. type_alone lists squares (written.z_type token.place) tt (ap (λ (t : Tok). t ∷ tokens) (sign_is kind.TypeZ token is)) e)
      (λ _ h1. either (is_sign kind.TypeB token) _ _ tokens h1
      (λ is e. type_alone lists squares (written.b_type token.place) tt (ap (λ (t : Tok). t ∷ tokens) (sign_is kind.TypeB token is)) e)
      (λ _ h2. either (is_sign kind.TypeUnit token) _ _ tokens h2
      (λ is e. type_alone lists squares (written.unit_type token.place) tt (ap (λ (t : Tok). t ∷ tokens) (sign_is kind.TypeUnit token is)) e)
      (λ _ h3. either (is_sign kind.TypeIsz token) _ _ tokens h3
      (λ is e. sequence_type_begins lists squares (sign_is kind.TypeIsz token is) (known.square lists squares e))
      (λ _ h4. only (is_name token) (in_type due.BehindType lists squares) tokens h4
      (λ is e. type_alone lists squares (written.record_type (record { text = token.text; place = token.place })) (name_is token is).1
      (ap (λ (t : Tok). t ∷ tokens) (name_is token is).0) e)))))

  square_begins : (lists squares : ℕ) → Ends (Some (in_type due.Square lists squares)) (token ∷ tokens) → SquareThen squares lists (token ∷ tokens)
  square_begins lists squares h =
      only (is_sign kind.LeftBracket token) (in_type due.Written lists (suc squares)) tokens (record { whole = h.whole })
      (λ is e. record {
        left = token.place;
        rest = tokens;
        spelled = ap (λ (t : Tok). t ∷ tokens) (sign_is kind.LeftBracket token is);
        inner = known.type_due lists (suc squares) e;
      })

  behind_type_begins : (lists squares : ℕ) → Ends (Some (in_type due.BehindType lists squares)) (token ∷ tokens) → TypeTail squares lists (token ∷ tokens)
  unfolding TypeTail
  behind_type_begins lists zero h =
      only (is_sign kind.RightBracket token) (close_type (below zero) lists) tokens (record { whole = h.whole })
      (λ is e. (token.place, tokens, ap (λ (t : Tok). t ∷ tokens) (sign_is kind.RightBracket token is), known.listed lists e))
  behind_type_begins lists (suc n) h =
      only (is_sign kind.RightBracket token) (close_type (below (suc n)) lists) tokens (record { whole = h.whole })
      (λ is e. (token.place, tokens, ap (λ (t : Tok). t ∷ tokens) (sign_is kind.RightBracket token is), known.behind_type lists n e))

  goes_on : (lists : ℕ) → token ≡ sign kind.Comma token.place → MembersThen lists tokens → Tail (suc lists) (token ∷ tokens)
  unfolding Tail Closes
  goes_on lists is m = (
    m.right,
    m.after,
    λ c formed. (
      const_then c token.place m.consts,
      tt,
      (formed, m.formed),
      ap (λ (ts : List Tok). const_tokens c ++ ts)
          (ap (λ (t : Tok). t ∷ tokens) is ∙ ap (λ (ts : List Tok). sign kind.Comma token.place ∷ ts) m.spelled)
          ∙ sym (append_assoc (const_tokens c) (sign kind.Comma token.place ∷ consts_tokens m.consts) (sign kind.RightParen m.right ∷ m.after)),
    ),
    m.tail,
  )

  is_closed : (lists : ℕ) → token ≡ sign kind.RightParen token.place → Tail lists tokens → Tail (suc lists) (token ∷ tokens)
  unfolding Tail Closes
  is_closed lists is tail = (
    token.place,
    tokens,
    λ c formed. (last_const c, tt, formed, ap (λ (t : Tok). const_tokens c ++ (t ∷ tokens)) is),
    tail,
  )

  behind_begins : (lists : ℕ) → Ends (Some (at due.Behind lists)) (token ∷ tokens) → Tail lists (token ∷ tokens)
  behind_begins zero h =
      either (is_sign kind.Comma token) None (if is_sign kind.RightParen token then None else None) tokens (record { whole = h.whole })
      (λ _ e. no_end tokens e)
      (λ _ h1. either (is_sign kind.RightParen token) None None tokens h1 (λ _ e. no_end tokens e) (λ _ e. no_end tokens e))
  behind_begins (suc n) h =
      either (is_sign kind.Comma token) (next_member (below (suc n)) (suc n)) (if is_sign kind.RightParen token then close (below (suc n)) else None) tokens
      (record { whole = h.whole })
      (λ is e. goes_on n (sign_is kind.Comma token is) (known.member n e))
      (λ _ h1. either (is_sign kind.RightParen token) (close (below (suc n))) None tokens h1
      (λ is e. is_closed n (sign_is kind.RightParen token is) (known.behind n e)) (λ _ e. no_end tokens e))

  sound_more : Sound (token ∷ tokens)
  sound_more = record {
    constant = λ lists h. const_begins lists (record { whole = h.whole });
    member = member_begins;
    digits = digits_begin;
    fields = fields_begin;
    elements = elements_begin;
    type_due = λ lists squares h. type_begins lists squares (record { whole = h.whole });
    square = square_begins;
    behind_type = behind_type_begins;
    listed = listed_begins;
    behind = behind_begins;
  }

sound : (tokens : List Tok) → Sound tokens
sound [] = sound_end
sound (token ∷ tokens) = sound_more token tokens (sound tokens)

-- tokens over which a walk ends behind a constant are one
pub constant_from : (tokens : List Tok) → is_whole (walk begins tokens) ≡ true → AreConstant tokens
unfolding Tail
constant_from tokens h =
    let found = (sound tokens).constant 0 (record { whole = h }) in
    record {
      const = found.const;
      well_formed = found.formed;
      spelled = sym (append-nil (const_tokens found.const)) ∙ ap (λ (ts : List Tok). const_tokens found.const ++ ts) (sym found.tail) ∙ sym found.spelled;
    }
