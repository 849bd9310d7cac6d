-- Whether a text nests too deep, by where its tokens end.
use Rattle.std.proofs.Common.{◌≡◌, ℕ, Bool, true, false, true≢false, List, sym, ap, ◌∙◌, subst, eqb-true}
use Rattle.std.specs.Str.{IsUtf8}
use Rattle.slang_tokens.specs.declared.read.TokensEnd.{TokensEnd}
use Rattle.slang_tokens.specs.declared.read.TokensEnd.TheVariants.{End, Fault}
use Rattle.slang_tokens.specs.Tok.{Tok}
use Rattle.slang_tokens.specs.Tokens.{AreTokens}
use Rattle.slang_tokens.proofs.Cut.{tokens_one}
use Rattle.print_tokens.specs.Printed.{NestsTooDeep}
use Rattle.slang_print.specs.Printed.{ends_deep, Tells}

deep_there : (text : List ℕ) (tokens : List Tok) (end : TokensEnd) → IsUtf8 text → AreTokens text tokens end → ends_deep end ≡ true → NestsTooDeep text
deep_there text tokens (End place) utf8 are h = absurd (true≢false (sym h))
deep_there text tokens (Fault told) utf8 are h = record {
  utf8 = utf8;
  tokens = tokens;
  place = told.place;
  are_tokens = subst (AreTokens text tokens) (ap (λ code. Fault (record { code = code; place = told.place })) (eqb-true told.code 5 h)) are;
}

pub tells : (text : List ℕ) (tokens : List Tok) (end : TokensEnd) (deep : Bool) → IsUtf8 text → AreTokens text tokens end → deep ≡ ends_deep end
    → Tells deep text
tells text tokens end deep utf8 are is = record {
  is_deep = λ holds. deep_there text tokens end utf8 are (sym is ∙ holds);
  is_shallow = λ fails there.
      let one = tokens_one text tokens there.tokens end _ are there.are_tokens in
      true≢false (sym (ap ends_deep one.1) ∙ sym is ∙ fails);
}

pub tells_no : (bytes : List ℕ) → (IsUtf8 bytes → ⊥) → Tells false bytes
tells_no bytes bad = record {
  is_deep = λ holds. absurd (true≢false (sym holds));
  is_shallow = λ told there. bad there.utf8;
}
