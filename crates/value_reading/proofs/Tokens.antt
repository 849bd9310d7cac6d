-- An argument by its tokens, and its tokens by what stands at their front.
use Rattle.std.proofs.Common.{ℕ, List, [], ◌++◌, append-nil, Some, refl, sym, ap, ◌∙◌, subst}
use Rattle.std.specs.Prelude.{Result, Ok, Err, IfOk}
use Rattle.slang_values.specs.Value.{ValueType, Records, Value}
use Rattle.slang_tokens.specs.Tok.{Tok}
use Rattle.slang_tokens.specs.Tokens.{weight_limit}
use Rattle.slang_tokens.specs.Weights.{AreLight}
use Rattle.slang_grammar.specs.Declarations.{const_tokens}
use Rattle.argument_rules.specs.Words.{word_tokens}
use Rattle.argument_rules.specs.Arguments.{IsArgumentOf}
use Rattle.argument_words.specs.Words.{AreTokensOf}
use Rattle.argument_scalars.specs.Fronts.{ValueFront, IsValueFront}
use Rattle.value_reading.specs.Tokens.{IsConstOf, IsAllOf}
use Rattle.value_reading.proofs.Slashes.{no_slash_in}

pub if_ok_map : {X E : Type 0} (r : Result X E) (P Q : X → Type 0) → ((x : X) → P x → Q x) → IfOk r P → IfOk r Q
if_ok_map (Ok x) P Q f h = f x h
if_ok_map (Err e) P Q f h = tt

module _ (names : List (List ℕ)) (records : Records) (t : ValueType) where
  pub argument_split : (bytes : List ℕ) (v : Value) → IsArgumentOf names records bytes t v
      → (tokens : List Tok) × AreTokensOf bytes tokens × IsConstOf names records t tokens v
  argument_split bytes v h =
      let a = h.is_argument in (
        word_tokens a.words,
        record { words = a.words; are_words = a.are_words; no_slash = no_slash_in h.const a.words a.spelled; are = refl },
        record { const = h.const; well_formed = a.well_formed; spelled = a.spelled; light = a.light; has_value = h.has_value },
      )

  pub argument_join : (bytes : List ℕ) (tokens : List Tok) (v : Value) → AreTokensOf bytes tokens → IsConstOf names records t tokens v
      → IsArgumentOf names records bytes t v
  argument_join bytes tokens v h k = record {
    const = k.const;
    is_argument = record {
      words = h.words;
      are_words = h.are_words;
      well_formed = k.well_formed;
      spelled = k.spelled ∙ h.are;
      light = subst (AreLight weight_limit []) h.are k.light;
    };
    has_value = k.has_value;
  }

  module _ (tokens : List Tok) where
    pub const_split : (v : Value) → IsConstOf names records t tokens v → IsValueFront names records t tokens (record { value = v; rest = [] })
    const_split v h = record {
      const = h.const;
      well_formed = h.well_formed;
      spelled = sym h.spelled ∙ sym (append-nil (const_tokens h.const));
      has_value = h.has_value;
    }

    pub const_join : AreLight weight_limit [] tokens → (front : ValueFront) (v : Value) → IsValueFront names records t tokens front → IsAllOf front v
        → IsConstOf names records t tokens v
    const_join light front v h k = record {
      const = h.const;
      well_formed = h.well_formed;
      spelled = sym (append-nil (const_tokens h.const)) ∙ ap (λ (ts : List Tok). const_tokens h.const ++ ts) (sym k.0) ∙ sym h.spelled;
      light = light;
      has_value = h.has_value ∙ ap Some (sym k.1);
    }
