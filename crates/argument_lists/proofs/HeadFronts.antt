-- The fronts of sequences, part by part.
use Rattle.std.proofs.Common.{◌≡◌, ℕ, Bool, true, false, List, [], ◌∷◌, ◌++◌, append_assoc, Option, Some, None, refl, sym, ap, ap₂, ◌∙◌, subst}
use Rattle.std.specs.Prelude.{is_some}
use Rattle.slang_lexer.specs.declared.token.TokenKind.{TokenKind}
use Rattle.slang_lexer.specs.declared.token.TokenKind.TheVariants as kind
use Rattle.slang_tree.specs.declared.place.Place.{Place}
use Rattle.slang_values.specs.Value.{ValueType, Records}
use Rattle.slang_grammar.specs.Parts.{ElementText, element_tokens, IfWritten, IsElement, optional, type_tokens}
use Rattle.slang_tokens.specs.Tok.{Tok, sign}
use Rattle.argument_rules.specs.Values.{is_element}
use Rattle.argument_fronts.specs.Cursor.{StandBehindSign}
use Rattle.argument_fronts.specs.Types.{StandBehindType}
use Rattle.argument_fronts.specs.Heads.{MarkedFront}
use Rattle.argument_fronts.proofs.Fronts.{heads_same}
use Rattle.argument_lists.specs.Heads.{IsHeadOf, IsHeadBehind, IsBareHead, IsWrittenHead, IsTypeHead}

brackets_differ : (a b : Place) → sign kind.LeftParen a ≡ sign kind.LeftBracket b → ⊥
brackets_differ a b h = let e = ap (λ (t : Tok). t.kind) h in cc

module _ (names : List (List ℕ)) (records : Records) (element : ValueType) where
  pub word_split : (before : List Tok) (a : MarkedFront) → IsHeadOf names records element before a
      → (b : List Tok) × StandBehindSign kind.TypeIsz before b × IsHeadBehind names records element b a
  word_split before a h = (
    optional element_tokens h.ty ++ (sign kind.LeftParen h.left ∷ a.rest),
    (h.word, h.spelled),
    record { ty = h.ty; left = h.left; is_type = h.is_type; well_formed = h.well_formed; is_written = h.is_written; spelled = refl },
  )

  pub word_join : (before : List Tok) (b : List Tok) (a : MarkedFront) → StandBehindSign kind.TypeIsz before b → IsHeadBehind names records element b a
      → IsHeadOf names records element before a
  word_join before b a h k = record {
    word = h.0;
    ty = k.ty;
    left = k.left;
    is_type = k.is_type;
    well_formed = k.well_formed;
    is_written = k.is_written;
    spelled = h.1 ∙ ap (λ ts. sign kind.TypeIsz h.0 ∷ ts) k.spelled;
  }

  module _ (before : List Tok) where
    -- no type is written
    pub bare_to : (a : MarkedFront) → IsBareHead before a → IsHeadBehind names records element before a
    bare_to a h = record { ty = None; left = h.1.0; is_type = refl; well_formed = tt; is_written = h.0; spelled = h.1.1 }

    pub bare_back : ((x : List Tok) → StandBehindSign kind.LeftBracket before x → ⊥) → (a : MarkedFront) → IsHeadBehind names records element before a
        → IsBareHead before a
    bare_back none a h = at h.ty h.is_written h.spelled
      where
        at : (ty : Option ElementText) → a.mark ≡ is_some ty → before ≡ optional element_tokens ty ++ (sign kind.LeftParen h.left ∷ a.rest)
            → IsBareHead before a
        at None mark spelled = (mark, (h.left, spelled))
        at (Some ty) mark spelled =
            absurd (none ((type_tokens ty.ty ++ sign kind.RightBracket ty.right ∷ []) ++ (sign kind.LeftParen h.left ∷ a.rest)) (ty.left, spelled))

    pub type_split : (middle : List Tok) → StandBehindSign kind.LeftBracket before middle → (a : MarkedFront) → IsHeadBehind names records element before a
        → (b : List Tok) × StandBehindSign kind.LeftBracket before b × IsTypeHead names records element b a
    type_split middle there a h = at h.ty h.is_type h.well_formed h.is_written h.spelled
      where
        at : (ty : Option ElementText) → is_element names records ty element ≡ true → IfWritten IsElement ty → a.mark ≡ is_some ty
            → before ≡ optional element_tokens ty ++ (sign kind.LeftParen h.left ∷ a.rest)
            → (b : List Tok) × StandBehindSign kind.LeftBracket before b × IsTypeHead names records element b a
        at None is formed mark spelled =
            absurd (brackets_differ h.left there.0 (heads_same (sign kind.LeftParen h.left) (sign kind.LeftBracket there.0) a.rest middle (sym spelled
            ∙ there.1)))
        at (Some ty) is formed mark spelled =
            let rest = sign kind.RightBracket ty.right ∷ sign kind.LeftParen h.left ∷ a.rest in (
              type_tokens ty.ty ++ rest,
              (
                ty.left,
                spelled ∙ ap (λ ts. sign kind.LeftBracket ty.left ∷ ts)
                    (append_assoc (type_tokens ty.ty) (sign kind.RightBracket ty.right ∷ []) (sign kind.LeftParen h.left ∷ a.rest)),
              ),
              (rest, (ty.ty, is, formed, refl), record { right = ty.right; left = h.left; is_written = mark; spelled = refl }),
            )

    pub type_join : (b : List Tok) (a : MarkedFront) → StandBehindSign kind.LeftBracket before b → IsTypeHead names records element b a
        → IsHeadBehind names records element before a
    type_join b a h k = record {
      ty = Some (record { left = h.0; ty = k.1.0; right = k.2.right });
      left = k.2.left;
      is_type = k.1.1;
      well_formed = k.1.2;
      is_written = k.2.is_written;
      spelled = h.1 ∙ ap (λ ts. sign kind.LeftBracket h.0 ∷ ts)
          (k.1.3 ∙ ap (λ ts. type_tokens k.1.0 ++ ts) k.2.spelled
          ∙ sym (append_assoc (type_tokens k.1.0) (sign kind.RightBracket k.2.right ∷ []) (sign kind.LeftParen k.2.left ∷ a.rest)));
    }
